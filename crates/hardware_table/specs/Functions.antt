-- What each function does to a drive that is ready.
use Rattle.std.specs.Prelude.{ℕ, ◌==◌, ◌&&◌, nat_lt, Bool, true, false, not, if◌then◌else◌, None, Some, bit_or}
use Rattle.pack_geometry.specs.Geometry.{cylinders_of, tracks_of, sectors_of}
use Rattle.drive_registers.specs.declared.Function.{Function}
use Rattle.drive_registers.specs.declared.Function.TheVariants.{Nop, Seek, Recal, Clear, Offset, Centre, Preset, Pack, Search, Write, WriteHeader, Read}
use Rattle.drive_registers.specs.Codes.{function_code, without_offset}
use Rattle.drive_registers.specs.Bits as bits
use Rattle.hardware_table.specs.Drive.{DriveState, with_register, on, track_in, sector_in}
use Rattle.hardware_table.specs.declared.Register.TheVariants as register
use Rattle.hardware_table.specs.declared.Work.TheVariants.{Positioning, Transfer}

-- Dc and Da name a sector of the drive
abbrev pub is_addressed : DriveState → Bool
is_addressed d =
    nat_lt d.dc (cylinders_of d.kind) && (nat_lt (track_in d.da) (tracks_of d.kind) && nat_lt (sector_in d.da) (sectors_of d.kind))

-- what a function is refused for, as bits of Er1; none where it is done
abbrev pub refusals : Function → DriveState → ℕ
refusals Seek d = on (not (is_addressed d)) bits.invalid_address_error
refusals Search d = on (not (is_addressed d)) bits.invalid_address_error
refusals Read d = on (not (is_addressed d)) bits.invalid_address_error
refusals Write d = bit_or (on (not (is_addressed d)) bits.invalid_address_error) (on d.locked bits.write_lock_error)
refusals WriteHeader d = bits.illegal_function
refusals _ d = 0

-- what a function does that is not refused
abbrev pub effect : Function → DriveState → DriveState
effect Nop d = d
effect Seek d = record d { work = Positioning d.dc None }
effect Search d = record d { work = Positioning d.dc (Some (sector_in d.da)) }
effect Recal d = record d { work = Positioning 0 None }
effect Offset d = record d { work = Positioning d.cc None }
effect Centre d = record d { offset = without_offset d.offset }
effect Clear d = record d { er1 = 0; er2 = 0; ec1 = 0; ec2 = 0; attention = false }
effect Preset d = record d { dc = 0; da = 0; offset = 0 }
effect Pack d = record d { valid = true }
effect Read d = record d { work = Transfer false }
effect Write d = record d { work = Transfer true }
effect WriteHeader d = d

-- a refused function raises its bits and the attention, and nothing is under way
abbrev pub refused : ℕ → DriveState → DriveState
refused errors d = record d { er1 = bit_or d.er1 errors; attention = true }

-- each function sets Cs1
abbrev pub performed : Function → DriveState → DriveState
performed function d =
    if refusals function d == 0 then effect function (record d { cs1 = function_code function })
    else refused (refusals function d) (record d { cs1 = function_code function })

-- all functions but these two are issued to an online drive alone
abbrev pub needs_online : Function → Bool
needs_online Clear = false
needs_online Centre = false
needs_online _ = true

-- the offset register says the format and no offset
abbrev pub unoffset : DriveState → DriveState
unoffset d = with_register register.Of bits.sixteen_bit_format d

-- a drive is attached: PRESET, then PACK, which acknowledges the pack, and no offset
abbrev pub attached : DriveState → DriveState
attached d = unoffset (performed Pack (performed Preset d))
