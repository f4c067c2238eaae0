-- RTC: no offset is left, and phase, drive and adapter hold.
use Rattle.std.proofs.Common.{◌≡◌, ℕ, refl, ap, arith, rules}
use Rattle.hardware_table.specs.declared.Moved.{Moved}
use Rattle.driver_machine.specs.declared.Phase.TheVariants.{Due}
use Rattle.driver_machine.specs.declared.Task.TheVariants.{Judge}
use Rattle.driver_machine.specs.Acts as deed
use Rattle.driver_machine.specs.Acts.{Scene, effect}
use Rattle.driver_machine.specs.Sound.{IsDrive, IsTask}
use Rattle.driver_machine.specs.Guards.{May}
use Rattle.driver_laws.proofs.invariant.Drives.{drive_centred}
use Rattle.driver_laws.proofs.invariant.Scene.{SceneOk, due_of}
use Rattle.driver_laws.proofs.invariant.AdapterLeft.{SceneAdapter, AdapterLeft, is_transferring, is_queued, due_left}

-- RTC: no offset is left
pub rtc_phase : (line u p moved : ℕ) (last : Moved) (s : Scene) → SceneOk u s → s.unit.phase ≡ Due (Judge moved last)
    → IsTask (effect line u p deed.Rtc s).unit s.held (Judge moved last)
rtc_phase line u p moved last s ok due = first_of (search rules, grind arith)

pub rtc_drive : (line u p : ℕ) (s : Scene) → SceneOk u s → May u deed.Rtc s → IsDrive (effect line u p deed.Rtc s).unit.drive
rtc_drive line u p s ok may = drive_centred s.unit.drive ok.drive

pub rtc_left : (line u p : ℕ) (s : Scene) → SceneOk u s → SceneAdapter u s → May u deed.Rtc s
    → AdapterLeft u s.adapter (effect line u p deed.Rtc s).unit (effect line u p deed.Rtc s).adapter (effect line u p deed.Rtc s).held
rtc_left line u p s ok at may =
    let due = due_of u deed.Rtc s may in
    due_left u s ok at (effect line u p deed.Rtc s).unit s.held (ap is_transferring due.2) (ap is_queued due.2) refl
