-- HOW OFTEN TRIES OF A UNIT CAN FAIL, by the lines of the script.
use Rattle.std.specs.Prelude.{◌≡◌, ℕ, ◌<◌, ◌+◌, ◌==◌, ◌&&◌, if◌then◌else◌, Bool, true, List, [], ◌∷◌, ◌++◌, Option}
use Rattle.fire_code.specs.Noise.{Classes}
use Rattle.fire_code.specs.declared.NoiseClass.TheVariants.{Shown}
use Rattle.hardware_table.specs.declared.NoiseSpan.{NoiseSpan}
use Rattle.hardware_table.specs.declared.NoiseSpan.TheVariants.{Times, Until}
use Rattle.pack_geometry.specs.Pack.{Pack}
use Rattle.pack_geometry.specs.TableSpelling.{Table}
use Rattle.trace_replay.specs.Script.{Script, Input, Noise, Arm, Numbered, inputs_of}
use Rattle.trace_replay.specs.Moments.{Moment, Deed, Sector}
use Rattle.trace_replay.specs.History.{fails, lines_of}
use Rattle.trace_replay.specs.Runs.{IsLegalRun}

-- how often noise strikes: in so many reads as it lives for. Noise without an end counts as the 28 tries after which a request fails.
abbrev pub strikes_while : NoiseSpan → ℕ
strikes_while (Times n) = n
strikes_while (Until code) = 28

-- how often an input makes tries of a unit fail, where `shows` tells which places show when they are flipped
abbrev pub strikes_by : (List ℕ → Bool) → ℕ → Input → ℕ
strikes_by shows unit (Arm u kind times) = if unit == u then times else 0
strikes_by shows unit (Noise noise) = if (unit == noise.unit) && shows noise.places then strikes_while noise.span else 0
strikes_by shows unit input = 0

abbrev pub strikes_in : (List ℕ → Bool) → ℕ → List Numbered → ℕ
strikes_in shows unit [] = 0
strikes_in shows unit (next ∷ later) = strikes_by shows unit next.input + strikes_in shows unit later

-- FEW STRIKES: the faults and the noise that shows strike at the unit fewer than 28 times in the whole script.
pub record AreFewStrikes (script : Script) (unit : ℕ) : Type 0 where
  pub shows : List ℕ → Bool
  pub tells : (places : List ℕ) → Classes Shown places → shows places ≡ true
  pub few : strikes_in shows unit (inputs_of script) < 28

-- how many of some lines tell a sector whose try failed
abbrev pub failed_by : Deed → ℕ
failed_by (Sector block verdict) = if fails verdict then 1 else 0
failed_by deed = 0

abbrev pub failures_in : List Deed → ℕ
failures_in [] = 0
failures_in (deed ∷ lines) = failed_by deed + failures_in lines

-- So few tries of a request fail in a legal run.
abbrev pub FailuresAreFew : Type 0
FailuresAreFew = (script : Script) (tables : ℕ → Option Table) (old new : ℕ → Pack) (ms ns : List Moment) (unit : ℕ)
    → IsLegalRun script tables old new (ms ++ ns) → AreFewStrikes script unit → failures_in (lines_of unit ms) < 28
