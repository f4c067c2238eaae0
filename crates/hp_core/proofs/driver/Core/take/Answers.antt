use Rattle.std.proofs.Common.{refl}
use Rattle.hp_core.proofs.Joining.{answer_there, answer_cpu}
use Rattle.hp_core.proofs.Telling.{silent_act}
use Rattle.hp_core.proofs.driver.Core.take.Goals as goal

pub put_take-requires-clause-there : goal.put_take-requires-clause-there
put_take-requires-clause-there c = λ made p first at. answer_there c.args.self.now.world c.requires.sound made p first at

pub put_take-requires-clause-cpu : goal.put_take-requires-clause-cpu
put_take-requires-clause-cpu c = λ made p first at. answer_cpu c.args.self.now.world c.requires.sound made p first at

pub returns : goal.returns
returns c = silent_act _ _ _ (record { reads = λ w p. tt; packs = λ w p. refl }) c.requires.some refl c.put_take.ensures
