-- What each call keeps where it stands.
use Rattle.std.proofs.Common.{◌≡◌, ℕ, ◌≤◌, IsTrue, List, Option, None, Some, refl, sym, subst, arith, ◌∙◌}
use Rattle.std.specs.Prelude.{Result, Ok, Err, IsErrAnd}
use Rattle.std.proofs.lemmas.Option.{none-some}
use Rattle.trace_replay.specs.requests.Requests.{Request}
use Rattle.driver_laws.specs.answers.Outcome.{stop_in}
use Rattle.driver_laws.specs.declared.answers.outcome.Stop.{Stop}
use Rattle.driver_laws.specs.declared.answers.outcome.Stop.TheVariants.{Store, Sink}
use Rattle.driver_laws.specs.rules.Rest.{HasTables}
use Rattle.blocking_io.specs.FrontsPasses.{IsReady, Reached, Stage, StillTell, setup_at}
use Rattle.blocking_io.specs.Sites.{MayTransfer}
use Rattle.blocking_io.specs.Spots.{Keeps, Spot, TurnsOut, Waits, seen}
use Rattle.blocking_io.proofs.Sites.{causes_join}

-- a request
pub waits_keeps : {line : ℕ} {r : Request} {into into' : List ℕ} (result : Result Reached Stop) {old new : Spot} → Waits line r into into' result old new → Keeps old new (stop_in result)
waits_keeps (Ok reached) w = record {
  ready = λ e. w.ready;
  units = λ e. w.answers.units;
  outstanding = w.outstanding;
  never_again = w.never_again;
  never_again_trace = w.never_again_trace;
  causes = w.causes;
}
waits_keeps (Err stop) w = record {
  ready = λ e. absurd (none-some stop (sym e));
  units = λ e. absurd (none-some stop (sym e));
  outstanding = w.outstanding;
  never_again = w.never_again;
  never_again_trace = w.never_again_trace;
  causes = w.causes;
}

-- nothing was called
pub keeps_none : (s : Spot) → IsReady s.driver → Keeps s s None
keeps_none s ready = record {
  ready = λ e. ready;
  units = λ e u is. is;
  outstanding = refl;
  never_again = λ t. t;
  never_again_trace = λ t. t;
  causes = record {
    later_packs = omega arith;
    later = omega arith;
    store = λ e. absurd (none-some Store e);
    sink = λ e. absurd (none-some Sink e);
  };
}

-- one call behind the other
pub keeps_join : {old mid new : Spot} {stop : Option Stop} → Keeps old mid None → Keeps mid new stop → Keeps old new stop
keeps_join {old} {mid} {new} {stop} first next = record {
  ready = next.ready;
  units = λ e u is. next.units e u (first.units refl u is);
  outstanding = next.outstanding ∙ first.outstanding;
  never_again = λ t. first.never_again (next.never_again t);
  never_again_trace = λ t. first.never_again_trace (next.never_again_trace t);
  causes = causes_join old.packs_faults mid.packs_faults new.packs_faults old.trace_faults mid.trace_faults new.trace_faults stop first.causes next.causes;
}

pub may_again : {unit : ℕ} {old new : Spot} → MayTransfer old.driver unit → Keeps old new None → MayTransfer new.driver unit
may_again {unit} may keeps = record {
  ready = keeps.ready refl;
  room = subst (λ n. 1 ≤ n) (sym keeps.outstanding) may.room;
  unit_is = keeps.units refl unit may.unit_is;
}

pub still : {old new : Spot} {stop : Option Stop} → Keeps old new stop → StillTell (seen old) (seen new)
still keeps = record { packs = keeps.never_again; trace = keeps.never_again_trace }

-- ---- an error that is handed on
module _ {A : Type 0} {does : A → Stage → Stage → Type 0} {leaves : Stage → Stage → Type 0} {stops : Stop → Stage → Stage → Type 0} {old new : Spot} where
  pub stopped : (result : Result A Stop) (stop : Stop) → IsErrAnd result (λ x. x ≡ stop) → (IsTrue new.packs_tell → HasTables (setup_at (seen old)) → leaves (seen old) (seen new))
      → stops stop (seen old) (seen new) → Keeps old new (Some stop) → TurnsOut does leaves stops result old new
  stopped (Ok value) stop is left there keeps = absurd is
  stopped (Err other) stop is left there keeps = record {
    done = tt;
    left = left;
    stopped = subst (λ z. stops z (seen old) (seen new)) (sym is) there;
    keeps = subst (λ z. Keeps old new (Some z)) (sym is) keeps;
  }

-- ---- what was lent comes back as it is left
pub turned_at : {A : Type 0} {does : A → Stage → Stage → Type 0} {leaves : Stage → Stage → Type 0} {stops : Stop → Stage → Stage → Type 0} {result : Result A Stop} {old new back : Spot}
    → TurnsOut does leaves stops result old new → new ≡ back → TurnsOut does leaves stops result old back
turned_at {does = does} {leaves = leaves} {stops = stops} {result = result} {old = old} turns same = subst (TurnsOut does leaves stops result old) same turns
