-- A move.
use Rattle.std.proofs.Common.{ℕ, Bool, List, refl, sym, subst}
use Rattle.std.specs.Prelude.{Result, Ok, Err, OnOk}
use Rattle.pack_geometry.specs.Pack.{Pack}
use Rattle.trace_replay.specs.Script.{MoveAt}
use Rattle.driver_machine.specs.Events.{move_acts}
use Rattle.driver_machine.specs.Sound.{AtWork}
use Rattle.driver_machine.specs.Runs.{MayCome}
use Rattle.driver_laws.proofs.invariant.Calls.{event_works}
use Rattle.hp_driver.proofs.Passes.{sound_after}
use Rattle.driver_laws.specs.shown.QuietPasses.{stop_in}
use Rattle.driver_laws.specs.declared.answers.outcome.Stop.{Stop}
use Rattle.hp_driver.specs.Passes.{State}
use Rattle.hp_core.specs.Done.{DoesMove}
use Rattle.hp_driver.specs.Subsystem.{Comes}
use Rattle.hp_driver.specs.Calls.{Stands, Happens}
use Rattle.hp_driver.proofs.Bytes.{event_keeps}
use Rattle.hp_driver.proofs.Behind.{ran_by}
use Rattle.hp_driver.proofs.Moves.{tried_by_rules, read_from}
use Rattle.hp_driver.proofs.Calls.{left_by}

module _ {O Q : Type 0} (holds : Q → Bool) (held : Q → ℕ → Pack) (packs_faults : Q → ℕ) (tells : O → Bool) (taken : O → List ℕ) (faults : O → ℕ) (packs packs' : Q)
    (trace trace' : O) (old new : State) (line a : ℕ) (stands : Stands old) where
  comes_by : (result : Result (Unit {0}) Stop) → DoesMove holds held packs_faults tells taken faults packs packs' trace trace' old new result line a
      → Comes holds held tells taken packs packs' trace trace' line (MoveAt a) old.world new.world old.kept new.kept (stop_in result)
  comes_by (Ok x) is = record {
    tried = is.tried;
    may = λ e can. tried_by_rules old.world line a is.tried stands.sound can is.outcome.does.run;
    reads = λ e t can. read_from old.world line a is.tried stands.sound can (held packs) stands.noise (is.outcome.does.reads t);
    outcome = is.outcome;
    moves = λ e. refl;
    before = is.before;
    unsent = is.kept;
    leaves = is.leaves;
  }
  comes_by (Err stop) is = record {
    tried = is.tried;
    may = λ e. absurd (cc);
    reads = λ e. absurd (cc);
    outcome = is.outcome;
    moves = λ e. refl;
    before = is.before;
    unsent = is.kept;
    leaves = is.leaves;
  }

  -- the driver is at work where all went well
  at_work : (result : Result (Unit {0}) Stop) → DoesMove holds held packs_faults tells taken faults packs packs' trace trace' old new result line a → OnOk result (AtWork new.world)
  at_work (Ok x) is =
      let may : MayCome old.world (MoveAt a) is.tried = λ can. tried_by_rules old.world line a is.tried stands.sound can is.outcome.does.run in
      subst AtWork (sym is.outcome.does.world) (event_works sound_after line (MoveAt a) is.tried old.world stands.sound stands.work may).work
  at_work (Err stop) is = tt

  pub moved : (result : Result (Unit {0}) Stop) → DoesMove holds held packs_faults tells taken faults packs packs' trace trace' old new result line a
      → Happens holds held packs_faults tells taken faults packs packs' trace trace' old new result line (MoveAt a)
  moved result is = record {
    comes = comes_by result is;
    bytes = event_keeps holds held tells taken packs packs' trace trace' line (MoveAt a) old.world new.world old.kept new.kept stands.sound (stop_in result) (comes_by result is);
    leaves = left_by old new result stands (ran_by _ (move_acts line a is.tried old.world) _ _ (stop_in result) is.outcome) (at_work result is);
    still = λ e. absurd (cc);
    never_again_packs = is.never_again_packs;
    never_again = is.never_again;
    causes = is.causes;
  }
