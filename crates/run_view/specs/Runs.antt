-- A RUN AS IT IS SEEN: the script as it is played, and the lines of its trace.
use Rattle.std.specs.Prelude.{◌≡◌, ℕ, ◌-◌, nat_le, Bool, if◌then◌else◌, List, [], ◌∷◌, ◌++◌, length, take, Option, Some, None, fold}
use Rattle.drive_pictures.specs.declared.moments.Moment.{Moment}
use Rattle.drive_pictures.specs.declared.moments.Moment.TheVariants as moments
use Rattle.drive_pictures.specs.Events.{line_of}
use Rattle.script_reader.specs.Stored.{Stored}
use Rattle.trace_reader.specs.declared.line.TraceLine.{TraceLine}
use Rattle.trace_reader.specs.declared.line.TraceLine.TheVariants.{Deed, Idle}
use Rattle.trace_reader.specs.Grammar.{Spells}
use Rattle.trace_reader.specs.Lines.{line_number, line_text}
use Rattle.run_view.specs.Saids.{Said}

-- A LINE OF THE TRACE, without its LF
abbrev pub told_moment : TraceLine → Moment
told_moment (Deed line u id told) = moments.Told line u id told
told_moment (Idle line) = moments.Idle line

abbrev pub told_names : TraceLine → Option ℕ
told_names (Deed line u id told) = Some u
told_names (Idle line) = None

abbrev pub without_feed : List ℕ → List ℕ
without_feed text = take (length text - 1) text

abbrev pub told_of : TraceLine → Said
told_of line = record { moment = told_moment line; names = told_names line; text = without_feed (line_text line) }

-- what is played up to a line's number; and what is played behind it
abbrev pub is_up_to : ℕ → Said → Bool
is_up_to number said = nat_le (line_of said.moment) number

abbrev pub up_to : ℕ → List Said → List Said
up_to number [] = []
up_to number (play ∷ plays) = if is_up_to number play then play ∷ up_to number plays else []

abbrev pub beyond : ℕ → List Said → List Said
beyond number [] = []
beyond number (play ∷ plays) = if is_up_to number play then beyond number plays else play ∷ plays

-- THE LINES OF A RUN: what is played stands before the trace's lines of its number
abbrev pub run_of : List Said → List TraceLine → List Said
run_of plays [] = plays
run_of plays (line ∷ lines) = up_to (line_number line) plays ++ told_of line ∷ run_of (beyond (line_number line) plays) lines

-- WHO WATCHED A RUN has seen just its lines, where the trace's bytes spell some.
pub record Watched {W : Type 0} (step : W → Said → W) (old new : W) (script : Stored) (plays : List Said) (bytes : List ℕ) : Type 0 where
  pub lines : List TraceLine
  pub spells : Spells script bytes lines
  pub saw : new ≡ fold step old (run_of plays lines)
