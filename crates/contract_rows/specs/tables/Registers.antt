-- What wrong bodies would say of registers, retries and positions, refused by the words of their contracts.
use Rattle.std.specs.Prelude.{◌≡◌, ℕ, true, false}
use Rattle.pack_geometry.specs.declared.DriveKind.{DriveKind}
use Rattle.pack_geometry.specs.declared.DriveKind.TheVariants.{Rp06}
use Rattle.pack_geometry.specs.declared.Place.{Place}
use Rattle.drive_registers.specs.declared.Function.TheVariants.{Nop, Recal, Seek}
use Rattle.drive_registers.specs.declared.OffsetCode.TheVariants.{Plus400}
use Rattle.drive_registers.specs.Bits.{volume_valid}
use Rattle.drive_registers.specs.Codes.{function_code, function_field}
use Rattle.trace_replay.specs.declared.retry_offsets.Step.TheVariants as step
use Rattle.trace_replay.specs.Schedule.{step_after}
use Rattle.trace_replay.specs.declared.seek_engine.Position.TheVariants as position
use Rattle.trace_replay.specs.Seek.{position_for}

pub record RegistersRefused : Type 0 where
  -- SEEK has the code of RECALIBRATE, and this has that of SEEK
  pub codes_of_two_functions_swapped : ¬ (function_code Seek ≡ 0o06) × ¬ (function_code Recal ≡ 0o04)
  -- a code that no function has is taken for that of no operation
  pub unknown_code_is_nop : ¬ (function_code Nop ≡ function_field 0o02)
  -- volume valid is the bit below its own
  pub status_bit_moved : ¬ (volume_valid ≡ 0o40)
  -- a write is tried off the centre
  pub offset_for_a_write : ¬ (step_after 16 false ≡ step.Offset Plus400)
  -- the first offset of a read comes after failure 17
  pub offset_one_failure_late : ¬ (step_after 16 true ≡ step.Again)
  -- a later try searches for its sector
  pub later_try_waits_for_the_sector : (kind : DriveKind) (here look cylinder sector : ℕ) (target : Place)
      → ¬ (position_for kind here look target false ≡ position.Search cylinder sector)
  -- a search ends four sectors ahead of its target
  pub search_4_ahead : ¬ (position_for Rp06 8 0 (record { cylinder = 7; track = 0; sector = 10 }) true ≡ position.Search 7 6)
