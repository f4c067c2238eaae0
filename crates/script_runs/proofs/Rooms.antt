-- There is room behind a line for what the next one brings.
use Rattle.std.proofs.Common.{◌≡◌, ℕ, ◌^◌, ◌<◌, ◌≤◌, List, refl, arith, ◌∙◌}
use Rattle.trace_replay.specs.Script as script
use Rattle.trace_replay.specs.Script.{Script, Input, IsInput, drives_of}
use Rattle.trace_replay.specs.Causes.{AsksSome}
use Rattle.driver_laws.specs.rules.Drains.{IsOf}
use Rattle.driver_machine.specs.World.{World}
use Rattle.driver_machine.specs.Acts.{Act, after_all}
use Rattle.driver_laws.proofs.invariant.Sizes.{sizes_all}
use Rattle.driver_machine.specs.Runs.{CanCome}
use Rattle.driver_laws.specs.answers.Counts.{IsWithin, noises_of, faults_of}
use Rattle.driver_laws.proofs.answers.Acts.{takings_add, capacity_stays}
use Rattle.driver_laws.specs.answers.Ids.{AreOf}
use Rattle.driver_laws.proofs.answers.Ids.{taking_adds_none}
use Rattle.driver_laws.specs.shown.Runs.{IsOfUnits}
use Rattle.driver_laws.specs.answers.Waiting.{takings, all_taken}
use Rattle.script_runs.specs.Steps.{HasRoom}
use Rattle.driver_laws.proofs.answers.Taking.{taken_by, none_waits}
use Rattle.script_runs.proofs.Fitting.{units_stay, set_up, may_turn, may_strike, may_arm}
use Rattle.script_runs.proofs.Tries.{IsAllowed}

-- WHAT IS LEFT behind acts and the taking of their answers
pub room_behind : (s : Script) (total done more : ℕ) (used ids : List ℕ) (w : World) (acts : List Act) → HasRoom s total done used w
    → IsWithin more more more (after_all w acts) → AreOf ids (after_all w acts) → HasRoom s total more ids (all_taken (after_all w acts))
room_behind s total done more used ids w acts room within are =
    let mid : World = after_all w acts in record {
      units = units_stay s mid (takings mid.answers) (units_stay s w acts room.units);
      within = taken_by (IsWithin more more more) (λ x some holds. takings_add more more more x holds) mid.answers mid refl within;
      ids = taken_by (AreOf ids) (λ x some holds. taking_adds_none ids x holds) mid.answers mid refl are;
      capacity = capacity_stays mid (takings mid.answers) ∙ capacity_stays w acts ∙ room.capacity;
      slots = (sizes_all mid (takings mid.answers)).slots ∙ (sizes_all w acts).slots ∙ room.slots;
      none_waits = none_waits mid;
    }

-- AN INPUT brings one noise and one line of faults at most,
pub few_noises : (input : Input) → noises_of input ≤ 1
few_noises (script.Submit r) = omega arith
few_noises other = omega arith

pub few_faults : (input : Input) → faults_of input ≤ 1
few_faults (script.Submit r) = omega arith
few_faults other = omega arith

-- and one of a drain nothing, and is allowed.
pub nothing_armed : (w : World) (input : Input) → CanCome w input → (noises_of input ≡ 0) × (faults_of input ≡ 0) × IsAllowed w input
nothing_armed w (script.ArriveAt u) can = (refl, refl, tt)
nothing_armed w (script.MoveAt a) can = (refl, refl, tt)
nothing_armed w (script.AttendTo a) can = (refl, refl, tt)
nothing_armed w other can = absurd can

pub asks_nothing : (w : World) (there : List ℕ) (input : Input) → IsAllowed w input → AsksSome input × IsOf there input
asks_nothing w there (script.Submit r) is = absurd is
asks_nothing w there script.Drain is = absurd is
asks_nothing w there other is = (tt, tt)

module _ (s : Script) (total done : ℕ) (used : List ℕ) (w : World) (room : HasRoom s total done used w) (less : done < total) (small : total < 2 ^ 32) where
  armed_fits : w.book.armed < w.book.capacity
  armed_fits = fewer w.book.armed w.book.capacity room.within.noises room.capacity
    where
      fewer : (a c : ℕ) → a ≤ done → c ≡ total → a < c
      fewer a c le is = omega (arith, le, is, less)

  -- A LINE that is no request and no drain may be played, and speaks of what is there.
  pub may_play : (input : Input) → (input ≡ script.Drain → ⊥) → ((r : _) → input ≡ script.Submit r → ⊥) → IsInput (drives_of s) input → IsAllowed w input × IsOfUnits w input
  may_play (script.Submit r) no_drain no_request there = absurd (no_request r refl)
  may_play (script.ArriveAt u) no_drain no_request there = (tt, set_up s w room.units u there)
  may_play script.Drain no_drain no_request there = absurd (no_drain refl)
  may_play (script.Turn u sector) no_drain no_request there = (may_turn s w room.units u sector there, tt)
  may_play (script.Noise noise) no_drain no_request there = (may_strike s w room.units noise armed_fits there, tt)
  may_play (script.Arm u kind times) no_drain no_request there = (may_arm s w room.units u kind times done total (room.within.faults u kind) (omega (arith, less)) small there, tt)
  may_play (script.SetOnline u on) no_drain no_request there = (set_up s w room.units u there, tt)
  may_play (script.SetLocked u on) no_drain no_request there = (set_up s w room.units u there, tt)
  may_play other no_drain no_request there = (tt, there)
