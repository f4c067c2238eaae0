-- THE RULE OF DRIVES. Each drive does what the hardware table says. A command meets a drive that is ready and, unless the command
-- is DCLR or RTC, online. A positioning ends only if it was under way, and an attention is taken only if it is up.
use Rattle.std.specs.Prelude.{◌≡◌, ℕ, ◌==◌, ◌&&◌, ◌||◌, Bool, true, not, if◌then◌else◌, bit_or}
use Rattle.pack_geometry.specs.declared.DriveKind.{DriveKind}
use Rattle.pack_geometry.specs.declared.Place.{Place}
use Rattle.pack_geometry.specs.Geometry.{place_at, track_and_sector}
use Rattle.drive_registers.specs.declared.Function.{Function}
use Rattle.drive_registers.specs.declared.Function.TheVariants as function
use Rattle.drive_registers.specs.Bits as bits
use Rattle.drive_registers.specs.Codes.{offset_code}
use Rattle.hardware_table.specs.declared.Register.TheVariants as register
use Rattle.hardware_table.specs.Adapter.{AdapterState, drive_stepped}
use Rattle.hardware_table.specs.Drive.{DriveState, new_drive, with_register, is_ready, is_positioning, is_transferring}
use Rattle.hardware_table.specs.Functions as functions
use Rattle.hardware_table.specs.Functions.{performed, refusals, needs_online}
pub use Rattle.hardware_table.specs.Functions.{unoffset}
use Rattle.hardware_table.specs.Events.{arrived, attention_cleared, turned, online_set, locked_set, fault_armed}
use Rattle.trace_replay.specs.Moments.{Deed, Search, Seek, Recal, Offset, Centre, Clear, Pack, Transfer, Arrive, Sector, Intr, Try, Attn, End}
use Rattle.trace_replay.specs.Script.{Input, Turn, Arm, SetOnline, SetLocked}

-- a new drive of this kind is attached
abbrev pub attached : DriveKind → ℕ → DriveState
attached kind unit = functions.attached (new_drive kind unit)

-- BEFORE A COMMAND its address is written. That of a SEARCH has the track of the target.
abbrev pub addressed : Place → DriveState → DriveState
addressed place d = with_register register.Da (track_and_sector place) (with_register register.Dc place.cylinder d)

-- the place that a SEARCH addresses: its cylinder and sector, on the track of the target
abbrev pub search_place : ℕ → ℕ → Place → Place
search_place cylinder sector target = record { cylinder = cylinder; track = target.track; sector = sector }

-- before OFFSET the register is written with the format and the code
abbrev pub offset_written : ℕ → DriveState → DriveState
offset_written code d = with_register register.Of (bit_or bits.sixteen_bit_format code) d

-- WCOM or RCOM
abbrev pub transfer_function : Bool → Function
transfer_function write = if write then function.Write else function.Read

-- a function is taken by a drive that is ready and, where the function asks for it, online; and it is not refused
abbrev pub takes : Function → DriveState → Bool
takes function d = is_ready d.work && ((not (needs_online function) || d.online) && refusals function d == 0)

-- what may come to a drive whose request in hand has this target; an interrupt is its adapter's, and a try and an end are words
-- about a request
abbrev pub DriveMay : DriveState → Place → Deed → Type 0
DriveMay d target (Search cylinder sector) = takes function.Search (addressed (search_place cylinder sector target) d) ≡ true
DriveMay d target (Seek cylinder) = takes function.Seek (with_register register.Dc cylinder d) ≡ true
DriveMay d target Recal = takes function.Recal d ≡ true
DriveMay d target (Offset code) = takes function.Offset (offset_written (offset_code code) d) ≡ true
DriveMay d target Centre = takes function.Centre d ≡ true
DriveMay d target Clear = takes function.Clear d ≡ true
DriveMay d target Pack = takes function.Pack d ≡ true
DriveMay d target (Transfer write block count) = takes (transfer_function write) (addressed (place_at d.kind block) d) ≡ true
DriveMay d target Arrive = is_positioning d.work ≡ true
DriveMay d target (Sector block verdict) = is_transferring d.work ≡ true
DriveMay d target Intr = Unit {0}
DriveMay d target (Try block failures) = Unit {0}
DriveMay d target Attn = d.attention ≡ true
DriveMay d target (End answer) = Unit {0}

-- what it leaves of the drive, beside its adapter
abbrev pub drive_after : DriveState → AdapterState → Place → Deed → DriveState
drive_after d a target (Search cylinder sector) = performed function.Search (addressed (search_place cylinder sector target) d)
drive_after d a target (Seek cylinder) = performed function.Seek (with_register register.Dc cylinder d)
drive_after d a target Recal = performed function.Recal d
drive_after d a target (Offset code) = performed function.Offset (offset_written (offset_code code) d)
drive_after d a target Centre = unoffset (performed function.Centre d)
drive_after d a target Clear = performed function.Clear d
drive_after d a target Pack = performed function.Pack d
drive_after d a target (Transfer write block count) = performed (transfer_function write) (addressed (place_at d.kind block) d)
drive_after d a target Arrive = arrived d
drive_after d a target (Sector block verdict) = drive_stepped verdict a d
drive_after d a target Intr = d
drive_after d a target (Try block failures) = d
drive_after d a target Attn = attention_cleared d
drive_after d a target (End answer) = d

-- what a line of the script leaves of the drive of a unit
abbrev pub drive_played : ℕ → DriveState → Input → DriveState
drive_played unit d (Turn u sector) = if unit == u then turned sector d else d
drive_played unit d (Arm u kind times) = if unit == u then fault_armed kind times d else d
drive_played unit d (SetOnline u on) = if unit == u then online_set on d else d
drive_played unit d (SetLocked u on) = if unit == u then locked_set on d else d
drive_played unit d input = d
