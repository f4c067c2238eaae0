-- A SESSION: inputs that come one after another, from any state of a replay in which one may come. A run of a script is a session from its
-- start in which the numbers of lines ascend; here they need not, so that several requests can come at one line of a script.
use Rattle.std.specs.Prelude.{◌≡◌, ◌&&◌, ℕ, ◌≤◌, nat_lt, true, false, List, [], ◌∷◌, ◌++◌}
use Rattle.trace_replay.specs.requests.Requests.{Request}
use Rattle.trace_replay.specs.Script.{Input, Submit, Drain}
use Rattle.trace_replay.specs.Moments.{Moment, Played, played}
use Rattle.trace_replay.specs.Events.{NoLine}
use Rattle.trace_replay.specs.Replay.{Replay, next_wish, are_at_work, Follows, after_moment, after_moments}

-- an input at a line, and the lines of the trace behind it, up to the next input
pub record Part : Type 0 where
  pub line : ℕ
  pub input : Input
  pub told : List Moment

-- AN INPUT MAY COME where the event before it is over (a drain's where no request is outstanding) and all units are at work. What number
-- its line has is not asked.
pub record MayPlay (s : Replay) : Type 0 where
  pub over : next_wish s ≡ NoLine
  pub finished : s.event.drains && nat_lt 0 s.outstanding ≡ false
  pub at_work : are_at_work s ≡ true

-- the replay behind a part
abbrev pub behind : Replay → Part → Replay
behind s p = after_moments (after_moment s (Played p.line p.input)) p.told

-- a part may come
pub record IsPart (s : Replay) (p : Part) : Type 0 where
  pub number : 1 ≤ p.line
  pub may : MayPlay s
  pub follows : Follows (after_moment s (Played p.line p.input)) p.told
  pub lines_alone : played p.told ≡ []

-- parts one after another
abbrev pub IsSession : Replay → List Part → Type 0
IsSession s [] = Unit {0}
IsSession s (p ∷ parts) = IsPart s p × IsSession (behind s p) parts

abbrev pub behind_all : Replay → List Part → Replay
behind_all s [] = s
behind_all s (p ∷ parts) = behind_all (behind s p) parts

-- what they tell
abbrev pub told_in : List Part → List Moment
told_in [] = []
told_in (p ∷ parts) = p.told ++ told_in parts

-- A REQUEST THAT IS WAITED FOR is submitted at a line and drained at the same line.
abbrev pub waited : ℕ → Request → List Moment → List Moment → List Part
waited line r asked drained =
    record { line = line; input = Submit r; told = asked } ∷ record { line = line; input = Drain; told = drained } ∷ []
