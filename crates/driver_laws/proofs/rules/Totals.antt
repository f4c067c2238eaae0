-- How many faults are armed at a drive in all: no line of the trace arms one, and a fault that strikes is one less.
use Rattle.std.proofs.Common.{◌≡◌, ℕ, ◌+◌, ◌≤◌, Bool, true, false, List, Option, sym, subst, arith, rules}
use Rattle.std.specs.Prelude.{if◌then◌else◌}
use Rattle.pack_geometry.specs.declared.Place.{Place}
use Rattle.pack_geometry.specs.Geometry.{place_at}
use Rattle.drive_registers.specs.declared.Function.TheVariants as function
use Rattle.drive_registers.specs.Codes.{offset_code}
use Rattle.hardware_table.specs.declared.Armed.{Armed}
use Rattle.hardware_table.specs.declared.FaultKind.{FaultKind}
use Rattle.hardware_table.specs.declared.Moved.{Moved}
use Rattle.hardware_table.specs.declared.Moved.TheVariants as verdict
use Rattle.hardware_table.specs.declared.Register.TheVariants as register
use Rattle.hardware_table.specs.Drive.{DriveState, with_register}
use Rattle.hardware_table.specs.Adapter.{AdapterState, stepped, next_block}
use Rattle.hardware_table.specs.Events.{transfer_ended}
use Rattle.hardware_table.specs.Moves.{after_move, stop_of, IsVerdictBy}
use Rattle.trace_replay.specs.Moments.{Deed, Search, Seek, Recal, Offset, Centre, Clear, Pack, Transfer, Arrive, Sector}
use Rattle.trace_replay.specs.Drives.{drive_after, addressed, search_place, offset_written}
use Rattle.driver_laws.proofs.rules.Armed.{performed_armed, arrived_armed, transfer_armed}

abbrev pub total : Armed → ℕ
total a = a.seek + a.opi + a.dte + a.hcrc + a.late

-- ---- what leaves the faults

no_more : (new old : Armed) → new ≡ old → total new ≤ total old
no_more new old is = subst (λ (a : Armed). total a ≤ total old) (sym is) (omega arith)

-- a transfer that ends leaves them
ended : (P : Armed → Type 0) (done : Bool) (d : DriveState) → P d.armed → P (if done then transfer_ended d else d).armed
ended P true d is = is
ended P false d is = is

moved_less : (v : Moved) (block : ℕ) (d : DriveState) → total (after_move v block d).armed ≤ total d.armed
moved_less v block d = search rules

-- NO LINE ARMS ANY.
pub line_less : (d : DriveState) (a : AdapterState) (target : Place) (deed : Deed) → total (drive_after d a target deed).armed ≤ total d.armed
line_less d a target (Search c y) = no_more (drive_after d a target (Search c y)).armed d.armed (performed_armed function.Search (addressed (search_place c y target) d))
line_less d a target (Seek c) = no_more (drive_after d a target (Seek c)).armed d.armed (performed_armed function.Seek (with_register register.Dc c d))
line_less d a target Recal = no_more (drive_after d a target Recal).armed d.armed (performed_armed function.Recal d)
line_less d a target (Offset o) = no_more (drive_after d a target (Offset o)).armed d.armed (performed_armed function.Offset (offset_written (offset_code o) d))
line_less d a target Centre = no_more (drive_after d a target Centre).armed d.armed (performed_armed function.Centre d)
line_less d a target Clear = no_more (drive_after d a target Clear).armed d.armed (performed_armed function.Clear d)
line_less d a target Pack = no_more (drive_after d a target Pack).armed d.armed (performed_armed function.Pack d)
line_less d a target (Transfer w b k) = no_more (drive_after d a target (Transfer w b k)).armed d.armed (transfer_armed w (addressed (place_at d.kind b) d))
line_less d a target Arrive = no_more (drive_after d a target Arrive).armed d.armed (arrived_armed d.work d)
line_less d a target (Sector b v) = ended (λ (x : Armed). total x ≤ total d.armed) (stepped v a).completion (after_move v (next_block a) d) (moved_less v (next_block a) d)
line_less d a target other = omega arith

-- A FAULT THAT STRIKES is armed, and then once less.
pub fault_strikes : (d : DriveState) (a : AdapterState) (target : Place) (b : ℕ) (k : FaultKind) (marked write : Bool) (places : Option (List ℕ))
    → IsVerdictBy (stop_of d) marked write places (verdict.Faulted k) → 1 + total (drive_after d a target (Sector b (verdict.Faulted k))).armed ≤ total d.armed
fault_strikes d a target b k marked write places is = search rules
