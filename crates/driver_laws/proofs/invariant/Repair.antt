-- A REPAIR in the buffer leaves a phase and an adapter that hold.
use Rattle.std.proofs.Common.{ℕ, ◌+◌, refl, ap, arith, rules}
use Rattle.hardware_table.specs.declared.Moved.TheVariants as verdict
use Rattle.driver_machine.specs.declared.Task.TheVariants.{Judge}
use Rattle.driver_machine.specs.Acts as deed
use Rattle.driver_machine.specs.Acts.{Scene, effect}
use Rattle.driver_machine.specs.Sound.{IsTask}
use Rattle.driver_machine.specs.Guards.{May}
use Rattle.driver_laws.proofs.invariant.Scene.{SceneOk, due_of}
use Rattle.driver_laws.proofs.invariant.AdapterLeft.{SceneAdapter, AdapterLeft, is_transferring, is_queued, due_left}
use Rattle.driver_machine.proofs.Dues.{IsDue}

-- the block counts as one that moved clean
pub repair_phase : (line u p moved at pattern : ℕ) (s : Scene) → SceneOk u s → IsDue s.unit s.held (deed.Repair moved at pattern)
    → IsTask (effect line u p (deed.Repair moved at pattern) s).unit s.held (Judge (moved + 1) verdict.Clean)
repair_phase line u p moved at pattern s ok due = first_of (search rules, grind arith)

pub repair_left : (line u p moved place pattern : ℕ) (s : Scene) → SceneOk u s → SceneAdapter u s → May u (deed.Repair moved place pattern) s
    → AdapterLeft u s.adapter (effect line u p (deed.Repair moved place pattern) s).unit (effect line u p (deed.Repair moved place pattern) s).adapter
    (effect line u p (deed.Repair moved place pattern) s).held
repair_left line u p moved place pattern s ok at may =
    let due = due_of u (deed.Repair moved place pattern) s may in
    due_left u s ok at (effect line u p (deed.Repair moved place pattern) s).unit (effect line u p (deed.Repair moved place pattern) s).held
    (ap is_transferring due.phase) (ap is_queued due.phase) refl
