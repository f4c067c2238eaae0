-- DCLR: the drive is clear, and phase, drive and adapter hold.
use Rattle.std.proofs.Common.{ℕ, sym, ap, arith, rules}
use Rattle.hardware_table.specs.declared.Moved.{Moved}
use Rattle.driver_machine.specs.declared.Phase.TheVariants.{Due}
use Rattle.driver_machine.specs.declared.Task.TheVariants.{Clear, Judge}
use Rattle.driver_machine.specs.Acts as deed
use Rattle.driver_machine.specs.Acts.{Scene, effect}
use Rattle.driver_machine.specs.Sound.{IsDrive, IsTask}
use Rattle.driver_machine.specs.Guards.{May}
use Rattle.driver_laws.proofs.invariant.Drives.{drive_clear}
use Rattle.driver_laws.proofs.invariant.Scene.{SceneOk, phase_is, due_of}
use Rattle.driver_laws.proofs.invariant.AdapterLeft.{SceneAdapter, AdapterLeft, is_transferring, is_queued, due_left}
use Rattle.driver_machine.proofs.Dues.{IsDue}

-- DCLR: the drive is clear
pub dclr_phase : (line u p moved : ℕ) (last : Moved) (s : Scene) → SceneOk u s → IsDue s.unit s.held (deed.Dclr moved last)
    → IsTask (effect line u p (deed.Dclr moved last) s).unit s.held (Judge moved last)
dclr_phase line u p moved last s ok due = first_of (search rules, grind arith)

pub dclr_drive : (line u p moved : ℕ) (last : Moved) (s : Scene) → SceneOk u s → May u (deed.Dclr moved last) s
    → IsDrive (effect line u p (deed.Dclr moved last) s).unit.drive
dclr_drive line u p moved last s ok may = drive_clear s.unit.drive ok.drive

pub dclr_left : (line u p moved : ℕ) (last : Moved) (s : Scene) → SceneOk u s → SceneAdapter u s → May u (deed.Dclr moved last) s
    → AdapterLeft u s.adapter (effect line u p (deed.Dclr moved last) s).unit (effect line u p (deed.Dclr moved last) s).adapter
    (effect line u p (deed.Dclr moved last) s).held
dclr_left line u p moved last s ok at may =
    let due = due_of u (deed.Dclr moved last) s may in
    let is : IsTask s.unit s.held (Clear moved last) = phase_is u s (Due (Clear moved last)) ok due in
    due_left u s ok at (effect line u p (deed.Dclr moved last) s).unit s.held (ap is_transferring due) (ap is_queued due) (sym is.1.attention)
