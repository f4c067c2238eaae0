-- What follows the failures at one physical sector.
use Rattle.std.specs.Prelude.{ℕ, ◌-◌, ◌==◌, nat_le, Bool, ◌||◌, ◌&&◌, if◌then◌else◌, List, [], ◌∷◌, Option, None, slice_get}
use Rattle.std.specs.Option.{option_map_or}
use Rattle.drive_registers.specs.declared.OffsetCode.{OffsetCode}
use Rattle.drive_registers.specs.declared.OffsetCode.TheVariants.{Plus400, Minus400, Plus800, Minus800, Plus1200, Minus1200}
use Rattle.trace_replay.specs.declared.retry_offsets.Step.{Step}
use Rattle.trace_replay.specs.declared.retry_offsets.Step.TheVariants.{Again, Offset, Recalibrate, GiveUp}

-- the offsets of failures 16 to 27
abbrev pub offsets : List OffsetCode
offsets =
    Plus400 ∷ Minus400 ∷ Plus400 ∷ Minus400 ∷ Plus800 ∷ Minus800 ∷ Plus800 ∷ Minus800 ∷ Plus1200 ∷ Minus1200 ∷ Plus1200 ∷ Minus1200 ∷ []

-- a read is tried with an offset from failure 16 on; a write never is
abbrev pub offset_after : ℕ → Bool → Option OffsetCode
offset_after failures reads = if reads && nat_le 16 failures then slice_get offsets (failures - 16) else None

abbrev pub recalibrates_after : ℕ → Bool
recalibrates_after failures = failures == 4 || failures == 12 || failures == 20

-- failure 28 is the last
abbrev pub step_after : ℕ → Bool → Step
step_after failures reads =
    if failures == 28
    then GiveUp
    else if recalibrates_after failures
    then Recalibrate (offset_after failures reads)
    else option_map_or Offset (offset_after failures reads) Again
