-- The rules by their names, and rows that are refused: after a legal beginning comes a moment that one rule does not allow.
use Rattle.std.specs.Prelude.{◌≡◌, ◌≢◌, ◌↔◌, ◌++◌, ◌&&◌, ℕ, nat_lt, true, false, List, take}
use Rattle.trace_replay.specs.requests.Requests.{Rejection, rejection_answer}
use Rattle.trace_replay.specs.Moments.{Deed, End, Moment, Played, Told, Idle}
use Rattle.trace_replay.specs.Events.{Wish, NoLine, IdleLine, Refusal, wish_of}
use Rattle.trace_replay.specs.Service.{ServiceMay, in_hand, target_of}
use Rattle.trace_replay.specs.Conversation.{TalkMay}
use Rattle.trace_replay.specs.Drives.{DriveMay}
use Rattle.trace_replay.specs.Adapters.{AdapterMay}
use Rattle.trace_replay.specs.Packs.{VerdictMay}
use Rattle.trace_replay.specs.Replay.{Replay, next_wish, hand_of, at_unit, after_moments, are_at_work, WorkMay, Follows, MayCome, IsOver}

-- the rules, each by itself
pub data RuleName : Type 0 where
  Number : RuleName
  Events : RuleName
  Service : RuleName
  Conversation : RuleName
  Drives : RuleName
  Adapters : RuleName
  Packs : RuleName
  Work : RuleName

-- a line that a unit comes to keeps it
abbrev pub LineKeeps : RuleName → Replay → ℕ → ℕ → ℕ → Deed → Type 0
LineKeeps Number s line unit id deed = line ≡ s.event.line
LineKeeps Events s line unit id deed = next_wish s ≡ wish_of unit deed
LineKeeps Service s line unit id deed = ServiceMay (s.units unit).service id
LineKeeps Conversation s line unit id deed = TalkMay (s.units unit).drive (hand_of (s.units unit)) (s.units unit).stage deed
LineKeeps Drives s line unit id deed = DriveMay (s.units unit).drive (target_of (s.units unit).drive.kind (in_hand (s.units unit).service)) deed
LineKeeps Adapters s line unit id deed = AdapterMay (at_unit s unit).state unit deed
LineKeeps Packs s line unit id deed = VerdictMay s.surface unit (s.units unit).drive deed
LineKeeps Work s line unit id deed = WorkMay s.event.between s

-- the end line of a refusal keeps it: its number, its unit, its id and its answer are each one rule's
abbrev pub RefusalKeeps : RuleName → Replay → ℕ → ℕ → ℕ → Deed → ℕ → ℕ → Rejection → Type 0
RefusalKeeps Number s line unit id deed refused_unit refused_id why = line ≡ s.event.line
RefusalKeeps Events s line unit id deed refused_unit refused_id why = unit ≡ refused_unit
RefusalKeeps Service s line unit id deed refused_unit refused_id why = id ≡ refused_id
RefusalKeeps Conversation s line unit id deed refused_unit refused_id why = deed ≡ End (rejection_answer why)
RefusalKeeps rule s line unit id deed refused_unit refused_id why = Unit {0}

-- a line of the trace: that of a refusal where one is due, else a line that a unit comes to
abbrev pub ToldKeeps : RuleName → Wish → Replay → ℕ → ℕ → ℕ → Deed → Type 0
ToldKeeps rule (Refusal refused_unit refused_id why) s line unit id deed = RefusalKeeps rule s line unit id deed refused_unit refused_id why
ToldKeeps rule wish s line unit id deed = LineKeeps rule s line unit id deed

-- a line of the script: that the event before it is over is the rule of events; that all are at work is one of its own, which
-- holds between two events of a drain too
abbrev pub InputKeeps : RuleName → Replay → ℕ → Type 0
InputKeeps Number s line = nat_lt s.event.line line ≡ true
InputKeeps Events s line = (next_wish s ≡ NoLine) × (s.event.drains && nat_lt 0 s.outstanding ≡ false)
InputKeeps Work s line = are_at_work s ≡ true
InputKeeps rule s line = Unit {0}

-- an idle line
abbrev pub IdleKeeps : RuleName → Replay → ℕ → Type 0
IdleKeeps Number s line = line ≡ s.event.line
IdleKeeps Events s line = next_wish s ≡ IdleLine
IdleKeeps rule s line = Unit {0}

-- a moment keeps the rule of this name
abbrev pub Keeps : RuleName → Replay → Moment → Type 0
Keeps rule s (Told line unit id deed) = ToldKeeps rule (next_wish s) s line unit id deed
Keeps rule s (Played line input) = InputKeeps rule s line
Keeps rule s (Idle line) = IdleKeeps rule s line

-- what may come keeps each rule, and what keeps each may come
abbrev pub KeepsEach : Type 0
KeepsEach = (s : Replay) (m : Moment) → MayCome s m ↔ ((rule : RuleName) → Keeps rule s m)

-- moments that follow, and then more, follow as one list; and a list that follows does so in any two parts
abbrev pub FollowOn : Type 0
FollowOn = (s : Replay) (ms ns : List Moment) → Follows s (ms ++ ns) ↔ (Follows s ms × Follows (after_moments s ms) ns)

-- behind so many moments of a row this one breaks the rule
abbrev pub Breaks : RuleName → Replay → List Moment → ℕ → Moment → Type 0
Breaks rule start row n m = Keeps rule (after_moments start (take n row)) m → ⊥

-- and it breaks no other rule
pub record BreaksAlone (rule : RuleName) (start : Replay) (row : List Moment) (n : ℕ) (m : Moment) : Type 0 where
  pub broken : Breaks rule start row n m
  pub others : (other : RuleName) → other ≢ rule → Keeps other (after_moments start (take n row)) m

-- so many moments of a row are not the whole of it
abbrev pub IsUnfinished : Replay → List Moment → ℕ → Type 0
IsUnfinished start row n = IsOver (after_moments start (take n row)) → ⊥
