-- What a line leaves of a good drive.
use Rattle.std.proofs.Common.{◌≡◌, ℕ, Bool, true, false, refl, rules}
use Rattle.std.specs.Prelude.{if◌then◌else◌}
use Rattle.pack_geometry.specs.declared.DriveKind.{DriveKind}
use Rattle.pack_geometry.specs.declared.Place.{Place}
use Rattle.pack_geometry.specs.Geometry.{place_at}
use Rattle.drive_registers.specs.declared.Function.{Function}
use Rattle.drive_registers.specs.declared.Function.TheVariants as function
use Rattle.drive_registers.specs.Codes.{offset_code}
use Rattle.hardware_table.specs.declared.Moved.{Moved}
use Rattle.hardware_table.specs.declared.Register.TheVariants as register
use Rattle.hardware_table.specs.declared.Work.{Work}
use Rattle.hardware_table.specs.declared.Work.TheVariants as work
use Rattle.hardware_table.specs.Drive.{DriveState, with_register}
use Rattle.hardware_table.specs.Adapter.{AdapterState, drive_stepped, stepped, next_block}
use Rattle.hardware_table.specs.Events.{arrived_from, transfer_ended}
use Rattle.hardware_table.specs.Functions.{performed}
use Rattle.hardware_table.specs.Moves.{after_move}
use Rattle.trace_replay.specs.Moments.{Deed, Search, Seek, Recal, Offset, Centre, Clear, Pack, Transfer, Arrive, Sector}
use Rattle.trace_replay.specs.Drives.{drive_after, addressed, search_place, offset_written}
use Rattle.driver_laws.specs.rules.Calm.{IsGood, is_calm_verdict}

pub either_good : (b : Bool) (x y : DriveState) → IsGood x → IsGood y → IsGood (if b then x else y)
either_good true x y one other = one
either_good false x y one other = other

pub performed_good : (f : Function) (d : DriveState) → IsGood d → IsGood (performed f d)
performed_good f d g = search rules

arrived_good : (w : Work) (d : DriveState) → IsGood d → IsGood (arrived_from w d)
arrived_good work.Ready d g = g
arrived_good other d g = g

moved_good : (kind : DriveKind) (v : Moved) (block : ℕ) (d : DriveState) → d.kind ≡ kind → is_calm_verdict v ≡ true → IsGood d → IsGood (after_move v block d)
moved_good kind v block d is calm g = search rules

stepped_good : (v : Moved) (a : AdapterState) (d : DriveState) → is_calm_verdict v ≡ true → IsGood d → IsGood (drive_stepped v a d)
stepped_good v a d calm g =
    either_good (stepped v a).completion (transfer_ended (after_move v (next_block a) d)) (after_move v (next_block a) d)
    (moved_good d.kind v (next_block a) d refl calm g) (moved_good d.kind v (next_block a) d refl calm g)

transfer_good : (write : Bool) (d : DriveState) → IsGood d → IsGood (performed (if write then function.Write else function.Read) d)
transfer_good true d g = performed_good function.Write d g
transfer_good false d g = performed_good function.Read d g

-- a sector that was tried has a calm verdict
abbrev pub IsCalmDeed : Deed → Type 0
IsCalmDeed (Sector block v) = is_calm_verdict v ≡ true
IsCalmDeed deed = Unit {0}

pub after_good : (d : DriveState) (a : AdapterState) (target : Place) (deed : Deed) → IsCalmDeed deed → IsGood d → IsGood (drive_after d a target deed)
after_good d a target (Search c y) calm g = performed_good function.Search (addressed (search_place c y target) d) g
after_good d a target (Seek c) calm g = performed_good function.Seek (with_register register.Dc c d) g
after_good d a target Recal calm g = performed_good function.Recal d g
after_good d a target (Offset o) calm g = performed_good function.Offset (offset_written (offset_code o) d) g
after_good d a target Centre calm g = performed_good function.Centre d g
after_good d a target Clear calm g = performed_good function.Clear d g
after_good d a target Pack calm g = performed_good function.Pack d g
after_good d a target (Transfer w b k) calm g = transfer_good w (addressed (place_at d.kind b) d) g
after_good d a target Arrive calm g = arrived_good d.work d g
after_good d a target (Sector b v) calm g = stepped_good v a d calm g
after_good d a target other calm g = g
