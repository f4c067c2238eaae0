-- THE KIND of a drive never changes, whatever it is made to do.
use Rattle.std.proofs.Common.{◌≡◌, ℕ, Bool}
use Rattle.pack_geometry.specs.declared.Place.{Place}
use Rattle.pack_geometry.specs.Geometry.{place_at}
use Rattle.drive_registers.specs.declared.Function.TheVariants as function
use Rattle.drive_registers.specs.Codes.{offset_code}
use Rattle.hardware_table.specs.declared.Register.TheVariants as register
use Rattle.hardware_table.specs.Drive.{DriveState, with_register}
use Rattle.hardware_table.specs.Events.{arrived}
use Rattle.driver_machine.specs.Passes.{addressed, search_place, offset_written, transfer_function}
use Rattle.driver_machine.specs.declared.RetryStep.{RetryStep}
use Rattle.driver_machine.specs.declared.RetryStep.TheVariants.{Recalibrate, Seek, Offset}
use Rattle.driver_machine.specs.Acts.{stepping, searching, transferring, centred}
use Rattle.trace_replay.proofs.Kept.{performed_kind, arrived_kind as arrived_by}

pub arrived_kind : (d : DriveState) → (arrived d).kind ≡ d.kind
arrived_kind d = arrived_by d.work d

pub stepping_kind : (step : RetryStep) (d : DriveState) → (stepping step d).kind ≡ d.kind
stepping_kind Recalibrate d = performed_kind function.Recal d
stepping_kind (Seek cylinder) d = performed_kind function.Seek (with_register register.Dc cylinder d)
stepping_kind (Offset code) d = performed_kind function.Offset (offset_written (offset_code code) d)

pub searching_kind : (target : Place) (sector : ℕ) (d : DriveState) → (searching target sector d).kind ≡ d.kind
searching_kind target sector d = performed_kind function.Search (addressed (search_place target.cylinder sector target) d)

pub transferring_kind : (write : Bool) (block : ℕ) (d : DriveState) → (transferring write block d).kind ≡ d.kind
transferring_kind write block d = performed_kind (transfer_function write) (addressed (place_at d.kind block) d)

pub centred_kind : (d : DriveState) → (centred d).kind ≡ d.kind
centred_kind d = performed_kind function.Centre d
