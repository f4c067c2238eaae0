use Rattle.std.proofs.Common.{List, ap}
use Rattle.trace_replay.specs.Moments as moment
use Rattle.driver_machine.specs.Lines.{lines_with}
use Rattle.driver_machine.specs.World.{unit_at, adapter_at, held_in, slot_in_hand, adapter_of}
use Rattle.hp_core.specs.Deeds.{answer_by}
use Rattle.hp_core.proofs.Acting.{apart}
use Rattle.hp_core.proofs.Telling.{told_act, quiet_act}
use Rattle.hp_core.proofs.driver.Core.act.Goals as goal

pub returns-in-Some : goal.returns-in-Some
returns-in-Some g c =
    let w = c.args.self.now.world in
    told_act _ _ _ _ _ _ _ _ _ _ _ (apart c.args.line c.args.u c.args.id c.args.deed _ _ _) c.requires.may
    (ap (λ (told : List moment.Deed). lines_with c.args.line c.args.u c.args.id told)
    (c.in-Some.ensures (unit_at w c.args.u) (held_in w (slot_in_hand (unit_at w c.args.u))) (adapter_at w (adapter_of c.args.u)).state))
    c.put.ensures (c.tell.ensures (answer_by c.args.deed (held_in w (slot_in_hand (unit_at w c.args.u)))))

pub returns-in-None : goal.returns-in-None
returns-in-None g c =
    let w = c.args.self.now.world in
    quiet_act _ _ _ _ _ _ _ (apart c.args.line c.args.u c.args.id c.args.deed _ _ _) c.requires.may
    (ap (λ (told : List moment.Deed). lines_with c.args.line c.args.u c.args.id told)
    (c.in-None.ensures (unit_at w c.args.u) (held_in w (slot_in_hand (unit_at w c.args.u))) (adapter_at w (adapter_of c.args.u)).state))
    c.put.ensures
