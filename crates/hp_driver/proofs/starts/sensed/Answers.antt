use Rattle.std.proofs.Common.{sym, ap, ◌∙◌}
use Rattle.std.specs.Prelude.{◌&&◌}
use Rattle.trace_replay.specs.declared.requests.answers.Cause.TheVariants.{Offline, Locked}
use Rattle.hp_core.specs.declared.deed.Deed.{Deed}
use Rattle.hp_core.specs.Deeds.{deed_in}
use Rattle.hp_driver.proofs.One.{none_moved, offline_by, locked_by, go_by, pack_by, valid_by}
use Rattle.hp_driver.proofs.starts.sensed.Goals as goal

pub returns-in-Offline : goal.returns-in-Offline
returns-in-Offline c = λ h a. let v = c.args.unit.now in
    ap (λ (d : Deed). deed_in d v h a) c.failed.ensures
    ∙ sym (offline_by v.drive.online (c.args.writes && v.drive.locked) c.in-Offline.ensures _ _ _ ∙ none_moved Offline v _ c.done.ensures)

pub returns-in-Locked : goal.returns-in-Locked
returns-in-Locked c = λ h a. let v = c.args.unit.now in
    ap (λ (d : Deed). deed_in d v h a) c.failed-in-Locked.ensures
    ∙ sym (locked_by v.drive.online (c.args.writes && v.drive.locked) c.in-Locked.ensures _ _ _ ∙ none_moved Locked v _ c.done-in-Locked.ensures)

pub returns-then-needs_pack : goal.returns-then-needs_pack
returns-then-needs_pack c = λ h a. let v = c.args.unit.now in
    sym (go_by v.drive.online (c.args.writes && v.drive.locked) c.in-Go.ensures _ _ _ ∙ pack_by v.drive.valid _ c.needs_pack.ensures c.if-needs_pack.true _ _)

pub returns-else-needs_pack : goal.returns-else-needs_pack
returns-else-needs_pack c = λ h a. let v = c.args.unit.now in
    sym (go_by v.drive.online (c.args.writes && v.drive.locked) c.in-Go.ensures _ _ _ ∙ valid_by v.drive.valid _ c.needs_pack.ensures c.if-needs_pack.false _ _)
