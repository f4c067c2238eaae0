-- The answers that wait in the driver, as a trace tells them: each end line makes one, which waits until it is taken.
use Rattle.std.specs.Prelude.{◌≡◌, ℕ, ◌<◌, Bool, true, false, List, [], ◌∷◌, ◌++◌, drop, length, map, Option, None, Some}
use Rattle.trace_replay.specs.requests.Requests.{Request}
use Rattle.trace_replay.specs.Script.{Input}
use Rattle.trace_replay.specs.Moments.{Answered, answers_in}
use Rattle.driver_machine.specs.declared.Made.{Made}
use Rattle.driver_machine.specs.World.{World, Held, held_in}
use Rattle.driver_machine.specs.Acts.{Act, Taken, Tried, after, after_all}
use Rattle.driver_machine.specs.Lines.{answer_told, lines_of_all}
use Rattle.driver_machine.specs.Events.{submit_acts, event_acts}
use Rattle.driver_machine.specs.Sound.{Sound, AtWork}
use Rattle.driver_machine.specs.Runs.{MaySubmit, MayCome}

-- the blocks of the request in a slot; a request that was refused has none
abbrev pub blocks_for : World → Option ℕ → List (List ℕ)
blocks_for w None = []
blocks_for w (Some p) = (held_in w p).blocks

-- AN ANSWER THAT WAITS, as a trace tells it
abbrev pub told_by : World → Made → Answered
told_by w made = record {
  line = made.answer.at;
  id = made.answer.id;
  answer = answer_told made.answer.kind (blocks_for w made.slot);
}

abbrev pub waiting : World → List Answered
waiting w = map (told_by w) w.answers

-- acts among which no answer is taken
abbrev pub is_taking : Act → Bool
is_taking Taken = true
is_taking act = false

abbrev pub AreNoTakings : List Act → Type 0
AreNoTakings [] = Unit {0}
AreNoTakings (act ∷ acts) = (is_taking act ≡ false) × AreNoTakings acts

-- THE TAKING takes the first one, and the others wait as they did.
abbrev pub TakingDrops : Type 0
TakingDrops = (w : World) → Sound w → 0 < length w.answers → waiting (after w Taken) ≡ drop 1 (waiting w)

abbrev pub TakingLeaves : Type 0
TakingLeaves = (w : World) → (after w Taken).answers ≡ drop 1 w.answers

-- EACH ANSWER THAT WAITS is taken, the oldest first; then none waits.
abbrev pub takings : List Made → List Act
takings [] = []
takings (made ∷ rest) = Taken ∷ takings rest

abbrev pub all_taken : World → World
all_taken w = after_all w (takings w.answers)

abbrev pub NoneWaits : Type 0
NoneWaits = (w : World) → (all_taken w).answers ≡ []

-- No event and no submission takes an answer,
abbrev pub EventsTakeNone : Type 0
EventsTakeNone = (w : World) (line : ℕ) (input : Input) (tried : Tried) → AreNoTakings (event_acts line input tried w)

abbrev pub SubmissionsTakeNone : Type 0
SubmissionsTakeNone = (w : World) (line p : ℕ) (r : Request) (h : Held) → AreNoTakings (submit_acts r line p h w)

-- so behind an event those that wait are those that waited and those of its lines,
abbrev pub EventsAnswer : Type 0
EventsAnswer = (w : World) (line : ℕ) (input : Input) (tried : Tried) → Sound w → AtWork w → MayCome w input tried
    → waiting (after_all w (event_acts line input tried w)) ≡ waiting w ++ answers_in (lines_of_all w (event_acts line input tried w))

-- and where none waited, as at each submission, they are just those of the lines.
abbrev pub EventsAlone : Type 0
EventsAlone = (w : World) (line : ℕ) (input : Input) (tried : Tried) → Sound w → AtWork w → MayCome w input tried → w.answers ≡ []
    → waiting (after_all w (event_acts line input tried w)) ≡ answers_in (lines_of_all w (event_acts line input tried w))

abbrev pub SubmissionsAlone : Type 0
SubmissionsAlone = (w : World) (line p : ℕ) (r : Request) (h : Held) → Sound w → AtWork w → MaySubmit w r p h
    → waiting (after_all w (submit_acts r line p h w)) ≡ answers_in (lines_of_all w (submit_acts r line p h w))
