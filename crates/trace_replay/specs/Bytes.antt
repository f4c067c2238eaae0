-- What reads and repairs give: the bytes of the hardware table and of the Fire code. (Both flip the same bits.)
use Rattle.std.specs.Prelude.{◌≡◌, ℕ, ◌≤◌, List, length, take, Option, Some}
use Rattle.fire_code.specs.Remainder.{remainder}
use Rattle.fire_code.specs.Burst.{IsPlaces, IsShortBurst, IsBurst}
use Rattle.fire_code.specs.Word.{IsData}
use Rattle.hardware_table.specs.Moves.{IsReadAs}
use Rattle.trace_replay.specs.Packs.{read_as, repaired_from}

-- the places of noise, if any
abbrev pub ArePlaces : Option (List ℕ) → Type 0
ArePlaces flips = (places : List ℕ) → flips ≡ Some places → IsPlaces places

-- READ BYTES. A sector of 512 bytes is read as the hardware table has it, with just these places flipped.
abbrev pub ReadsAsTold : Type 0
ReadsAsTold = (flips : Option (List ℕ)) (sector : List ℕ) → ArePlaces flips → IsData sector → IsReadAs flips sector (read_as flips sector)

-- REPAIRED BYTES. Where a short burst was flipped, and its remainder is that of the burst which is named, the repair gives the
-- sector's bytes: of all 512, or of as many as were asked for.
abbrev pub RepairsBursts : Type 0
RepairsBursts = (places sector : List ℕ) (at pattern size : ℕ) → IsShortBurst places → IsBurst at pattern (remainder places) → length sector ≤ 512
    → repaired_from 0 at pattern (take size (read_as (Some places) sector)) ≡ take size sector
