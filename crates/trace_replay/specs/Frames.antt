-- A line of a unit changes no other unit, and no adapter except that unit's own.
use Rattle.std.specs.Prelude.{◌≡◌, ◌≢◌, ℕ}
use Rattle.trace_replay.specs.Moments.{Deed, Told}
use Rattle.trace_replay.specs.Adapters.{adapter_of}
use Rattle.trace_replay.specs.Replay.{Replay, after_moment}

-- of other units all stays
abbrev pub ChangesOneUnit : Type 0
ChangesOneUnit = (s : Replay) (line unit id : ℕ) (deed : Deed) (other : ℕ) → other ≢ unit
    → (after_moment s (Told line unit id deed)).units other ≡ s.units other

-- of other adapters all stays
abbrev pub ChangesOneAdapter : Type 0
ChangesOneAdapter = (s : Replay) (line unit id : ℕ) (deed : Deed) (other : ℕ) → other ≢ adapter_of unit
    → (after_moment s (Told line unit id deed)).adapters other ≡ s.adapters other

-- nor a sector of another unit
abbrev pub ChangesOnePack : Type 0
ChangesOnePack = (s : Replay) (line unit id : ℕ) (deed : Deed) (other block : ℕ) → other ≢ unit
    → (after_moment s (Told line unit id deed)).surface.sector other block ≡ s.surface.sector other block

-- nor a mark of any unit
abbrev pub ChangesNoMark : Type 0
ChangesNoMark = (s : Replay) (line unit id : ℕ) (deed : Deed)
    → (after_moment s (Told line unit id deed)).surface.is_marked ≡ s.surface.is_marked
