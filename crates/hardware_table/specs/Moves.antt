-- The move of one sector: its verdict, and the effects of that verdict.
use Rattle.std.specs.Prelude.{◌≡◌, ℕ, ◌+◌, ◌-◌, ◌%◌, nat_lt, Bool, true, false, not, ◌&&◌, if◌then◌else◌, List, [], ◌∷◌, find, Option, None, Some, option_map, bit_or}
use Rattle.pack_geometry.specs.declared.DriveKind.{DriveKind}
use Rattle.pack_geometry.specs.declared.DriveKind.TheVariants.{Rp06, Rm03, Rm05}
use Rattle.pack_geometry.specs.Geometry.{sectors_of, block_count, place_at, track_and_sector}
use Rattle.fire_code.specs.Remainder.{remainder}
use Rattle.fire_code.specs.Word.{IsData}
use Rattle.fire_code.specs.Noise.{IsFlipped}
use Rattle.fire_code.specs.Verdict.{Judges}
use Rattle.fire_code.specs.declared.Verdict.TheVariants as code
use Rattle.drive_registers.specs.Bits as bits
use Rattle.hardware_table.specs.declared.Armed.{Armed}
use Rattle.hardware_table.specs.declared.FaultKind.{FaultKind}
use Rattle.hardware_table.specs.declared.FaultKind.TheVariants.{Seek, Opi, Dte, Hcrc, Late}
use Rattle.hardware_table.specs.declared.Moved.{Moved}
use Rattle.hardware_table.specs.declared.Moved.TheVariants.{Clean, Burst, Hard, Marked, Faulted, Offline}
use Rattle.hardware_table.specs.Drive.{DriveState, is_writing}
use Rattle.hardware_table.specs.Events.{times_armed, with_times, look_ahead}

-- THE VERDICT. The first armed fault, in this order.
abbrev pub fault_order : List FaultKind
fault_order = Seek ∷ Opi ∷ Dte ∷ Hcrc ∷ Late ∷ []

abbrev pub first_armed : Armed → Option FaultKind
first_armed armed = find (λ (kind : FaultKind). nat_lt 0 (times_armed kind armed)) fault_order

-- the verdict of a drive that is offline, or on which a fault is armed, whatever the pack holds
abbrev pub stop_of : DriveState → Option Moved
stop_of d = if d.online then option_map Faulted (first_armed d.armed) else Some Offline

-- the verdict of a read is the code's, on the remainder of the places that noise flips
abbrev pub IsReadVerdict : Option (List ℕ) → Moved → Type 0
IsReadVerdict None verdict = verdict ≡ Clean
IsReadVerdict (Some places) Clean = Judges code.Clean (remainder places)
IsReadVerdict (Some places) (Burst at pattern) = Judges (code.Burst at pattern) (remainder places)
IsReadVerdict (Some places) Hard = Judges code.Uncorrectable (remainder places)
IsReadVerdict (Some places) Marked = ⊥
IsReadVerdict (Some places) (Faulted kind) = ⊥
IsReadVerdict (Some places) Offline = ⊥

-- the rules in their order, where the drive is not stopped: a marked sector, a write, a read
abbrev pub IsVerdictBy : Option Moved → Bool → Bool → Option (List ℕ) → Moved → Type 0
IsVerdictBy (Some stop) marked write places verdict = verdict ≡ stop
IsVerdictBy None true write places verdict = verdict ≡ Marked
IsVerdictBy None false true places verdict = verdict ≡ Clean
IsVerdictBy None false false places verdict = IsReadVerdict places verdict

-- the verdict of a sector that is tried, which is marked or not, and of which a read flips these places
abbrev pub IsVerdict : DriveState → Bool → Option (List ℕ) → Moved → Type 0
IsVerdict d marked places verdict = IsVerdictBy (stop_of d) marked (is_writing d.work) places verdict

-- WHAT IT DOES. Bytes move where the sector was reached.
abbrev pub has_bytes : Moved → Bool
has_bytes Clean = true
has_bytes (Burst at pattern) = true
has_bytes Hard = true
has_bytes Marked = false
has_bytes (Faulted kind) = false
has_bytes Offline = false

-- a sector was read into the window, or written from it
abbrev pub was_read : DriveState → Moved → Bool
was_read d verdict = has_bytes verdict && not (is_writing d.work)

abbrev pub was_written : DriveState → Moved → Bool
was_written d verdict = has_bytes verdict && is_writing d.work

-- a sector's bytes with those of the places flipped that lie in them; the others are flipped in the check
pub record IsStruck (places sector bytes : List ℕ) : Type 0 where
  pub right : IsData sector
  pub read : IsData bytes
  pub check : ℕ
  pub flipped : IsFlipped places sector 0 bytes check

-- what a read gives: the sector's bytes, as noise that strikes them leaves them
abbrev pub IsReadAs : Option (List ℕ) → List ℕ → List ℕ → Type 0
IsReadAs None sector bytes = bytes ≡ sector
IsReadAs (Some places) sector bytes = IsStruck places sector bytes

-- a drive whose heads have passed a block: it stands on its cylinder, and Dc and Da name the next block, if any
abbrev pub passed : ℕ → DriveState → DriveState
passed block d = record d {
  cc = (place_at d.kind block).cylinder;
  dc = if nat_lt (block + 1) (block_count d.kind) then (place_at d.kind (block + 1)).cylinder else d.dc;
  da = if nat_lt (block + 1) (block_count d.kind) then track_and_sector (place_at d.kind (block + 1)) else d.da;
  la = look_ahead (((place_at d.kind block).sector + 1) % sectors_of d.kind);
}

-- a fault is used once
abbrev pub fault_used : FaultKind → DriveState → DriveState
fault_used kind d = record d { armed = with_times kind (times_armed kind d.armed - 1) d.armed }

-- the error bits of a fault; data late is no error of the drive
abbrev pub with_fault_bits : FaultKind → DriveState → DriveState
with_fault_bits Seek d = record d { er2 = bit_or d.er2 bits.seek_incomplete }
with_fault_bits Opi d = record d { er1 = bit_or d.er1 bits.operation_incomplete }
with_fault_bits Dte d = record d { er1 = bit_or d.er1 bits.drive_timing_error }
with_fault_bits Hcrc d = record d { er1 = bit_or d.er1 bits.header_check_error }
with_fault_bits Late d = d

-- the error bits of a marked sector: no sector of the format on an RP06, a bad sector on an RM03 and an RM05
abbrev pub with_mark_bits : DriveKind → DriveState → DriveState
with_mark_bits Rp06 d = record d { er1 = bit_or d.er1 bits.format_error }
with_mark_bits Rm03 d = record d { er2 = bit_or d.er2 bits.bad_sector_error }
with_mark_bits Rm05 d = record d { er2 = bit_or d.er2 bits.bad_sector_error }

-- what the verdict on a block does to the drive; the transfer stays under way
abbrev pub after_move : Moved → ℕ → DriveState → DriveState
after_move Offline block d = record d { er1 = bit_or d.er1 bits.unsafe }
after_move (Faulted kind) block d = with_fault_bits kind (fault_used kind d)
after_move Marked block d = with_mark_bits d.kind d
after_move Clean block d = passed block d
after_move (Burst at pattern) block d =
    record (passed block d) { er1 = bit_or d.er1 bits.data_check; ec1 = at; ec2 = pattern }
after_move Hard block d = record (passed block d) { er1 = bit_or d.er1 (bit_or bits.data_check bits.hard_error) }
