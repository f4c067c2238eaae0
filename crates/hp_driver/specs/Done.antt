-- What a call that does acts one after another comes to.
use Rattle.std.specs.Prelude.{◌≡◌, ℕ, Bool, IsTrue, List, Result, IfErr}
use Rattle.pack_geometry.specs.Pack.{Pack}
use Rattle.outside_traits.specs.Causes.{HasCause}
use Rattle.driver_machine.specs.Acts.{Act}
use Rattle.hp_core.specs.Passes.{Outcome, stop_in, Stop, Sink}
use Rattle.hp_core.specs.State.{State, site}

-- ACTS AND THEIR LINES, whatever the packs hold: the call comes to what the acts come to. A failure has its cause, and is the
-- trace's.
pub record DoesActs {O A : Type 0} (tells : O → Bool) (taken : O → List ℕ) (faults : O → ℕ) (trace trace' : O) (old new : State) (result : Result A Stop) (acts : List Act) : Type 0 where
  pub outcome : (told : Bool) (packs : ℕ → Pack)
      → Outcome (record { packs = told; trace = tells trace' }) acts (site old packs (taken trace)) (site new packs (taken trace')) (stop_in result)
  pub stop : IfErr result (λ stop. stop ≡ Sink)
  pub never_again : IsTrue (tells trace') → IsTrue (tells trace)
  pub cause : HasCause (faults trace) (faults trace') result
