-- How many event lines a drain has. An event line tells an arrival, a sector, an interrupt or an attention.
use Rattle.std.specs.Prelude.{◌≡◌, ℕ, ◌+◌, ◌==◌, true, false, List, [], ◌∷◌}
use Rattle.std.specs.List.{list_any}
use Rattle.trace_replay.specs.Script.{Input, Submit}
use Rattle.trace_replay.specs.Moments.{Deed, Arrive, Sector, Intr, Attn, Moment, Played, Told}
use Rattle.trace_replay.specs.Conversation.{Waiting, not_begun}
use Rattle.trace_replay.specs.Replay.{Replay}

-- a line is an event line
abbrev pub event_by : Deed → ℕ
event_by Arrive = 1
event_by (Sector block verdict) = 1
event_by Intr = 1
event_by Attn = 1
event_by deed = 0

-- how many of some moments are event lines
abbrev pub events_in : List Moment → ℕ
events_in [] = 0
events_in (Told line unit id deed ∷ ms) = event_by deed + events_in ms
events_in (m ∷ ms) = events_in ms

-- an input submits no request but of a unit that is there
abbrev pub IsOf : List ℕ → Input → Type 0
IsOf there (Submit r) = list_any (λ unit. unit == r.unit) there ≡ true
IsOf there input = Unit {0}

-- and so each input that moments play
abbrev pub AreOf : List ℕ → List Moment → Type 0
AreOf there [] = Unit {0}
AreOf there (Played line input ∷ ms) = IsOf there input × AreOf there ms
AreOf there (m ∷ ms) = AreOf there ms

-- AN IDLE REPLAY: no request waits at any unit, none is begun, and no drain is between two of its events. Each bound is counted from one.
pub record IsIdle (s : Replay) : Type 0 where
  pub stages : (unit : ℕ) → (s.units unit).stage ≡ Waiting
  pub queues : (unit : ℕ) → (s.units unit).service.waiting ≡ []
  pub fresh : (unit : ℕ) → (s.units unit).progress ≡ not_begun
  pub between : s.event.between ≡ false
