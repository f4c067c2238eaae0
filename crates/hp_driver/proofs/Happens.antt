-- Each kind of event, from what its call did.
use Rattle.std.proofs.Common.{◌≡◌, ℕ, Bool, false, List, [], ◌∷◌, sym, subst}
use Rattle.std.specs.Prelude.{Result, Ok}
use Rattle.pack_geometry.specs.Pack.{Pack}
use Rattle.hardware_table.specs.declared.Moved.TheVariants.{Clean}
use Rattle.trace_replay.specs.Script as script
use Rattle.trace_replay.specs.Script.{Input}
use Rattle.driver_machine.specs.Acts.{Act, Change, Tried}
use Rattle.driver_machine.specs.Events.{event_acts, arrive_acts, attend_acts}
use Rattle.driver_machine.specs.Runs.{MayCome}
use Rattle.driver_laws.specs.declared.answers.outcome.Stop.{Stop}
use Rattle.driver_laws.specs.shown.QuietPasses.{IsReadOf}
use Rattle.hp_driver.specs.Passes.{State, DoesSilently}
use Rattle.hp_driver.specs.Done.{DoesActs}
use Rattle.hp_core.specs.Done.{DoesMove}
use Rattle.hp_driver.specs.declared.drain.Event.{Event}
use Rattle.hp_driver.specs.declared.drain.Event.TheVariants.{Arrive, Move, Attend}
use Rattle.hp_driver.specs.Inputs.{input_of}
use Rattle.hp_driver.specs.Calls.{Stands, Happens}
use Rattle.hp_driver.proofs.Calls.{event_does, silent_does}
use Rattle.hp_driver.proofs.Moved.{moved}

-- no sector is tried
pub no_try : Tried
no_try = record { marked = false; verdict = Clean; bytes = [] }

module _ {O Q : Type 0} (holds : Q → Bool) (held : Q → ℕ → Pack) (packs_faults : Q → ℕ) (tells : O → Bool) (taken : O → List ℕ) (faults : O → ℕ) (packs : Q)
    (old : State) (line : ℕ) (event : Event) (stands : Stands old) where
  pub arrives : (trace trace' : O) (new : State) (result : Result (Unit {0}) Stop) (u : ℕ) → event ≡ Arrive u
      → DoesActs tells taken faults trace trace' old new result (arrive_acts line u old.world)
      → Happens holds held packs_faults tells taken faults packs packs trace trace' old new result line (input_of event)
  arrives trace trace' new result u is does =
      subst (λ (e : Event). Happens holds held packs_faults tells taken faults packs packs trace trace' old new result line (input_of e)) (sym is)
      (event_does holds held packs_faults tells taken faults packs trace trace' old new result line (script.ArriveAt u) no_try stands tt tt does)

  pub attends : (trace trace' : O) (new : State) (result : Result (Unit {0}) Stop) (a : ℕ) → event ≡ Attend a
      → DoesActs tells taken faults trace trace' old new result (attend_acts line a old.world)
      → Happens holds held packs_faults tells taken faults packs packs trace trace' old new result line (input_of event)
  attends trace trace' new result a is does =
      subst (λ (e : Event). Happens holds held packs_faults tells taken faults packs packs trace trace' old new result line (input_of e)) (sym is)
      (event_does holds held packs_faults tells taken faults packs trace trace' old new result line (script.AttendTo a) no_try stands tt tt does)

  pub moves : (packs' : Q) (trace trace' : O) (new : State) (result : Result (Unit {0}) Stop) (a : ℕ) → event ≡ Move a
      → DoesMove holds held packs_faults tells taken faults packs packs' trace trace' old new result line a
      → Happens holds held packs_faults tells taken faults packs packs' trace trace' old new result line (input_of event)
  moves packs' trace trace' new result a is does =
      subst (λ (e : Event). Happens holds held packs_faults tells taken faults packs packs' trace trace' old new result line (input_of e)) (sym is)
      (moved holds held packs_faults tells taken faults packs packs' trace trace' old new line a stands result does)

  -- a condition changes, and no line is told
  pub changes : (trace : O) (new : State) (x : Unit {0}) (input : Input) (its : Event) → event ≡ its → input_of its ≡ input
      → event_acts line input no_try old.world ≡ Change input ∷ [] → MayCome old.world input no_try → IsReadOf old.world (held packs) input no_try
      → DoesSilently old new (Change input)
      → Happens holds held packs_faults tells taken faults packs packs trace trace old new (Ok x) line (input_of event)
  changes trace new x input its is named acts may reads does =
      subst (λ (e : Event). Happens holds held packs_faults tells taken faults packs packs trace trace old new (Ok x) line (input_of e)) (sym is)
      (subst (λ (i : Input). Happens holds held packs_faults tells taken faults packs packs trace trace old new (Ok x) line i) (sym named)
      (event_does holds held packs_faults tells taken faults packs trace trace old new (Ok x) line input no_try stands may reads
      (subst (λ (l : List Act). DoesActs tells taken faults trace trace old new (Ok x) l) (sym acts)
      (silent_does tells taken faults trace old new (Change input) x does))))
