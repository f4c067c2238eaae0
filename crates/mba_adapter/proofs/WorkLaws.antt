-- A sector's move leaves the drive's transfer under way.
use Rattle.std.proofs.Common.{◌≡◌, ℕ, Bool, true, refl, ap, ◌∙◌}
use Rattle.pack_geometry.specs.declared.DriveKind.{DriveKind}
use Rattle.pack_geometry.specs.declared.DriveKind.TheVariants.{Rp06}
use Rattle.hardware_table.specs.declared.FaultKind.{FaultKind}
use Rattle.hardware_table.specs.declared.FaultKind.TheVariants.{Seek}
use Rattle.hardware_table.specs.declared.Moved.{Moved}
use Rattle.hardware_table.specs.declared.Moved.TheVariants.{Marked, Faulted}
use Rattle.hardware_table.specs.declared.Work.TheVariants.{Transfer}
use Rattle.hardware_table.specs.Drive.{DriveState, is_transferring}
use Rattle.hardware_table.specs.Moves.{after_move, with_fault_bits, with_mark_bits}

fault_work : (kind : FaultKind) (d : DriveState) → (with_fault_bits kind d).work ≡ d.work
fault_work Seek d = refl
fault_work other d = refl

mark_work : (kind : DriveKind) (d : DriveState) → (with_mark_bits kind d).work ≡ d.work
mark_work Rp06 d = refl
mark_work other d = refl

pub move_work : (v : Moved) (block : ℕ) (d : DriveState) → (after_move v block d).work ≡ d.work
move_work (Faulted kind) block d = fault_work kind _
move_work Marked block d = mark_work d.kind d
move_work other block d = refl

pub still_transferring : (v : Moved) (block : ℕ) (d moved : DriveState) (write : Bool) → moved ≡ after_move v block d → d.work ≡ Transfer write
    → is_transferring moved.work ≡ true
still_transferring v block d moved write by is =
    ap (λ (x : DriveState). is_transferring x.work) by ∙ ap is_transferring (move_work v block d ∙ is)
