-- WHAT IS KNOWN OF A CAUSE, by the script and the packs alone.
use Rattle.std.specs.Prelude.{◌≡◌, ◌⊎◌, ℕ, true, false, List, [], ◌∷◌, ◌++◌}
use Rattle.fire_code.specs.Noise.{Classes}
use Rattle.fire_code.specs.declared.NoiseClass.TheVariants.{Shown}
use Rattle.trace_replay.specs.requests.Requests.{Request}
use Rattle.trace_replay.specs.Script.{Input, Submit, Noise, Arm}
use Rattle.trace_replay.specs.Moments.{Moment, Played}
use Rattle.trace_replay.specs.Conditions.{online_behind}

-- a line of the script was played of which this holds
abbrev pub WasPlayed : (Input → Type 0) → List Moment → Type 0
WasPlayed P [] = ⊥
WasPlayed P (Played line input ∷ ms) = P input ⊎ WasPlayed P ms
WasPlayed P (m ∷ ms) = WasPlayed P ms

-- it submits this request
abbrev pub Submits : Request → Input → Type 0
Submits r input = input ≡ Submit r

-- it arms a fault at a unit
abbrev pub ArmsFault : ℕ → Input → Type 0
ArmsFault unit (Arm u kind times) = u ≡ unit
ArmsFault unit input = ⊥

-- it arms noise of a unit that its remainder shows
abbrev pub ArmsShownNoise : ℕ → Input → Type 0
ArmsShownNoise unit (Noise noise) = (noise.unit ≡ unit) × Classes Shown noise.places
ArmsShownNoise unit input = ⊥

-- THE REQUEST that a line of the trace speaks of, which a line before it submitted
pub record IsAskedAt (r : Request) (unit id : ℕ) (ms : List Moment) : Type 0 where
  pub unit_is : r.unit ≡ unit
  pub id_is : r.id ≡ id
  pub submitted : WasPlayed (Submits r) ms

-- At some moment behind a request's submission its unit was offline, by what the script had said until then.
pub record WasOffline (r : Request) (ms : List Moment) : Type 0 where
  pub before : List Moment
  pub after : List Moment
  pub parts : ms ≡ before ++ after
  pub submitted : WasPlayed (Submits r) before
  pub offline : online_behind r.unit true before ≡ false
