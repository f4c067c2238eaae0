-- Parts of a call: acts with their lines, and conditions.
use Rattle.std.proofs.Common.{◌≡◌, ℕ, Bool, true, false, List, [], ◌∷◌, ◌++◌, refl, sym, ap, ◌∙◌, subst, arith}
use Rattle.std.specs.Prelude.{Result, Ok, Err, IfErr, OnOk}
use Rattle.std.proofs.lemmas.List.{append-nil}
use Rattle.pack_geometry.specs.Pack.{Pack, empty_pack}
use Rattle.outside_traits.specs.Causes.{HasCause}
use Rattle.trace_replay.specs.Script.{Input}
use Rattle.driver_machine.specs.Acts.{Act, Tried, after_all}
use Rattle.driver_machine.specs.Lines.{lines_of}
use Rattle.driver_machine.specs.Events.{event_acts}
use Rattle.driver_machine.specs.Sound.{AtWork}
use Rattle.driver_machine.specs.Runs.{Works, MayCome}
use Rattle.driver_laws.proofs.invariant.Calls.{event_works}
use Rattle.hp_driver.proofs.Passes.{sound_after}
use Rattle.driver_laws.specs.shown.QuietPasses.{stop_in, IsReadOf}
use Rattle.driver_laws.specs.declared.answers.outcome.Stop.{Stop}
use Rattle.driver_laws.specs.declared.answers.outcome.Stop.TheVariants.{Store, Sink}
use Rattle.hp_core.proofs.Tries.{no_store}
use Rattle.hp_driver.specs.Passes.{State, site, DoesSilently, HasCauses}
use Rattle.hp_driver.specs.Done.{DoesActs}
use Rattle.hp_driver.specs.Subsystem.{Comes}
use Rattle.hp_driver.specs.Calls.{Stands, Leaves, Happens}
use Rattle.hp_driver.proofs.Bytes.{event_keeps}
use Rattle.hp_driver.proofs.Behind.{Ran, ran_by, ran_sound, ran_noise, ran_slots}

-- AN ACT WITHOUT A LINE keeps no text.
pub silent_kept : (old new : State) (act : Act) → lines_of old.world act ≡ [] → DoesSilently old new act → new.kept ≡ old.kept
silent_kept old new act none is =
    (is.does false true (λ u. empty_pack) []).text refl
    ∙ ap (λ ms. old.kept ++ Rattle.trace_replay.specs.Text.trace_text (ms ++ [])) none ∙ append-nil old.kept

pub silent_does : {O : Type 0} (tells : O → Bool) (taken : O → List ℕ) (faults : O → ℕ) (trace : O) (old new : State) (act : Act) (x : Unit {0})
    → DoesSilently old new act → DoesActs tells taken faults trace trace old new (Ok x) (act ∷ [])
silent_does tells taken faults trace old new act x is = record {
  outcome = λ packs held. is.does packs (tells trace) held (taken trace);
  stop = tt;
  never_again = λ t. t;
  cause = record { later = omega arith; failed = tt };
}

-- WHAT IS LEFT
pub left_by : (old new : State) (result : Result (Unit {0}) Stop) → Stands old → Ran old.world new.world → OnOk result (AtWork new.world) → Leaves old new result
left_by old new result stands ran work = record {
  sound = ran_sound old.world new.world ran stands.sound;
  noise = ran_noise old.world new.world ran stands.noise;
  slots = ran_slots old.world new.world ran;
  work = work;
}

module _ {O : Type 0} (tells : O → Bool) (taken : O → List ℕ) (faults : O → ℕ) (trace trace' : O) (old new : State) where
  pub ran_does : (result : Result (Unit {0}) Stop) (acts : List Act) → DoesActs tells taken faults trace trace' old new result acts → Ran old.world new.world
  ran_does result acts is =
      ran_by (record { packs = false; trace = tells trace' }) acts (site old (λ u. empty_pack) (taken trace)) (site new (λ u. empty_pack) (taken trace')) (stop_in result)
      (is.outcome false (λ u. empty_pack))

  -- behind acts that leave the driver at work
  pub works_does : (result : Result (Unit {0}) Stop) (acts : List Act) → AtWork (after_all old.world acts) → DoesActs tells taken faults trace trace' old new result acts
      → OnOk result (AtWork new.world)
  works_does (Ok x) acts work is = subst AtWork (sym (is.outcome false (λ u. empty_pack)).does.world) work
  works_does (Err stop) acts work is = tt

-- THE CAUSES of an event that has nothing to do with the packs
trace_causes : (packs trace trace' : ℕ) (result : Result (Unit {0}) Stop) → HasCause trace trace' result → IfErr result (λ stop. stop ≡ Sink)
    → HasCauses packs packs trace trace' (stop_in result)
trace_causes packs trace trace' (Ok x) cause stop = record { later_packs = omega arith; later = cause.later; store = λ e. absurd (cc); sink = λ e. absurd (cc) }
trace_causes packs trace trace' (Err Sink) cause stop = record { later_packs = omega arith; later = cause.later; store = λ e. absurd (cc); sink = λ e. cause.failed }
trace_causes packs trace trace' (Err Store) cause stop = absurd (cc)

pub event_does : {O Q : Type 0} (holds : Q → Bool) (held : Q → ℕ → Pack) (packs_faults : Q → ℕ) (tells : O → Bool) (taken : O → List ℕ) (faults : O → ℕ) (packs : Q) (trace trace' : O) (old new : State)
    (result : Result (Unit {0}) Stop) (line : ℕ) (input : Input) (tried : Tried) → Stands old → MayCome old.world input tried → IsReadOf old.world (held packs) input tried
    → DoesActs tells taken faults trace trace' old new result (event_acts line input tried old.world)
    → Happens holds held packs_faults tells taken faults packs packs trace trace' old new result line input
event_does holds held packs_faults tells taken faults packs trace trace' old new result line input tried stands may reads is =
    let works : Works old.world (event_acts line input tried old.world) = event_works sound_after line input tried old.world stands.sound stands.work may in
    let comes : Comes holds held tells taken packs packs trace trace' line input old.world new.world old.kept new.kept (stop_in result) = record {
      tried = tried;
      may = λ e. may;
      reads = λ e t. reads;
      outcome = is.outcome (holds packs) (held packs);
      moves = λ e. absurd (no_store result is.stop e);
      before = λ e. absurd (no_store result is.stop e);
      unsent = λ e. absurd (no_store result is.stop e);
      leaves = λ e t. refl;
    } in
    record {
      comes = comes;
      bytes = event_keeps holds held tells taken packs packs trace trace' line input old.world new.world old.kept new.kept stands.sound (stop_in result) comes;
      leaves = left_by old new result stands (ran_does tells taken faults trace trace' old new result (event_acts line input tried old.world) is)
          (works_does tells taken faults trace trace' old new result (event_acts line input tried old.world) works.work is);
      still = λ e. refl;
      never_again_packs = λ t. t;
      never_again = is.never_again;
      causes = trace_causes (packs_faults packs) (faults trace) (faults trace') result is.cause is.stop;
    }
