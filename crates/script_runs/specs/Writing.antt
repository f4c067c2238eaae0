-- Moments that write nothing: reads may be among them.
use Rattle.std.specs.Prelude.{◌≡◌, Bool, false, List, [], ◌∷◌}
use Rattle.hardware_table.specs.Moves.{was_written}
use Rattle.trace_replay.specs.Moments.{Moment, Told, Sector}
use Rattle.trace_replay.specs.Replay.{Replay, after_moment}

-- a moment tells of a sector that was written
abbrev pub was_written_at : Replay → Moment → Bool
was_written_at s (Told line unit id (Sector block verdict)) = was_written (s.units unit).drive verdict
was_written_at s moment = false

-- NONE OF THEM DOES, each behind those before it.
abbrev pub WriteNothing : Replay → List Moment → Type 0
WriteNothing s [] = Unit {0}
WriteNothing s (m ∷ ms) = (was_written_at s m ≡ false) × WriteNothing (after_moment s m) ms
