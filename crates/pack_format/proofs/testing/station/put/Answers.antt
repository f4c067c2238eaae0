use Rattle.pack_format.proofs.testing.PollLaws.{stored}
use Rattle.pack_format.proofs.testing.station.put.Goals as goal

pub returns-clause-bytes : goal.returns-clause-bytes
returns-clause-bytes c = stored c.args.frame.now c.args.memory.now c.store.new.self c.args.from.now c.requires.frame c.told-from c.store.ensures.held
