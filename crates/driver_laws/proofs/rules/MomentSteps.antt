use Rattle.std.specs.Prelude.{◌≡◌, ℕ, List, [], ◌∷◌, ◌++◌, Option, None}
use Rattle.pack_geometry.specs.declared.DriveKind.{DriveKind}
use Rattle.hardware_table.specs.Noise.{LiveNoise}
use Rattle.trace_replay.specs.requests.Requests.{Request, first_block}
use Rattle.trace_replay.specs.Script.{Submit, IsInput}
use Rattle.trace_replay.specs.Moments.{Moment, Played, Told, End, Answered}
use Rattle.trace_replay.specs.Replay.{Replay, after_moment}
use Rattle.driver_laws.specs.rules.Machine.{Machine, request_of, kind_of, after_input, answers_of_input, Steps}
use Rattle.driver_laws.specs.rules.Stands.{Setup, IsSure, owed, armed_by, StandsFor, is_sure_among, home_in}

-- What a moment of a trace is to the machine of blocks.

-- MOMENTS. What a line of the script speaks of is there.
abbrev pub IsGiven : (ℕ → Option DriveKind) → Moment → Type 0
IsGiven drives (Played line input) = IsInput drives input
IsGiven drives moment = Unit {0}

-- the same of moments
abbrev pub AreGiven : (ℕ → Option DriveKind) → List Moment → Type 0
AreGiven drives [] = Unit {0}
AreGiven drives (m ∷ ms) = IsGiven drives m × AreGiven drives ms

-- no id is asked for that is outstanding
abbrev pub IsNew : Machine → Moment → Type 0
IsNew m (Played line (Submit r)) = request_of r.id m.outstanding ≡ None
IsNew m moment = Unit {0}

-- the answer that a moment tells
abbrev pub told_by : Moment → List Answered
told_by (Told line unit id (End answer)) = record { line = line; id = id; answer = answer } ∷ []
told_by moment = []

-- the machine after what a moment submits
abbrev pub machine_at : (ℕ → Option DriveKind) → Machine → Moment → Machine
machine_at drives m (Played line input) = after_input drives m input
machine_at drives m moment = m

-- and what is answered at once
abbrev pub answers_of_moment : (ℕ → Option DriveKind) → Machine → Moment → List Answered
answers_of_moment drives m (Played line input) = answers_of_input drives m line input
answers_of_moment drives m moment = []

-- after a moment
abbrev pub armed_after : List LiveNoise → Moment → List LiveNoise
armed_after armed (Played line input) = armed_by armed input
armed_after armed moment = armed

-- the bytes of a sure read are claimed
abbrev pub sure_claims : Setup → List LiveNoise → (line : ℕ) → Request → Type 0
sure_claims setup armed line r = IsSure (is_sure_among armed r.unit) (home_in setup r.unit) (first_block (kind_of setup.drives r.unit) r) r

-- ONE MOMENT. What it tells, with what is then owed, is what was owed, what its submission is answered at once, and then a step of
-- an outstanding request, or none.
pub record MomentStep (setup : Setup) (armed : List LiveNoise) (s : Replay) (m : Machine) (moment : Moment) : Type 0 where
  pub later : List Answered
  pub new : Machine
  pub order : told_by moment ++ owed (after_moment s moment) ≡ owed s ++ (answers_of_moment setup.drives m moment ++ later)
  pub steps : Steps setup.drives (sure_claims setup armed) (after_moment s moment).event.line (machine_at setup.drives m moment) later new
  pub stands : StandsFor setup (armed_after armed moment) (after_moment s moment) new
