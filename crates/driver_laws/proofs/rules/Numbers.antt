-- What is left at a place, in numbers.
use Rattle.std.proofs.Common.{◌≡◌, ℕ, ◌+◌, ◌*◌, ◌<◌, ◌≤◌, Bool, true, false, Option, None, Some, arith, rules}
use Rattle.std.proofs.lemmas.Bool.Decides.{nat_tests}
use Rattle.drive_registers.specs.declared.OffsetCode.{OffsetCode}
use Rattle.trace_replay.specs.Schedule.{offset_after, recalibrates_after}
use Rattle.trace_replay.specs.Conversation.{Segment, OwnBlocks, Replacement}
use Rattle.driver_laws.specs.rules.Measure.{tries_left, returns_left, offsets_left, steps_left}

pub some_tries : (segment : Segment) (f : ℕ) → f < 28 → 1 ≤ tries_left segment f
some_tries OwnBlocks f few = omega (arith, few)
some_tries (Replacement block) f few = omega (arith, few)

pub one_try_less : (segment : Segment) (f : ℕ) → f < 28 → tries_left segment (f + 1) + 1 ≡ tries_left segment f
one_try_less OwnBlocks f few = omega (arith, few)
one_try_less (Replacement block) f few = omega (arith, few)

-- an offset, if there is one
abbrev pub offset_number : Option OffsetCode → ℕ
offset_number None = 0
offset_number (Some code) = 1

pub offset_counted : (f : ℕ) (reads : Bool) → f + 1 < 28 → offset_number (offset_after (f + 1) reads) + offsets_left (f + 1) ≤ offsets_left f
offset_counted f reads few = search rules

abbrev pub return_number : Bool → ℕ
return_number true = 1
return_number false = 0

pub return_counted : (f : ℕ) → return_number (recalibrates_after (f + 1)) + returns_left (f + 1) ≤ returns_left f
return_counted f = grind (arith, nat_tests)

pub steps_counted : (segment : Segment) (f : ℕ) (reads : Bool) → f + 1 < 28
    → 2 * return_number (recalibrates_after (f + 1)) + offset_number (offset_after (f + 1) reads) + steps_left segment (f + 1) ≤ steps_left segment f
steps_counted OwnBlocks f reads few = omega (arith, offset_counted f reads few, return_counted f)
steps_counted (Replacement block) f reads few = omega (arith, offset_counted f reads few, return_counted f)
