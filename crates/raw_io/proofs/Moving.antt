-- A transfer that was done, or stopped: what the callers of a call that did either are owed.
use Rattle.std.proofs.Common.{◌≡◌, ℕ, ◌<◌, Bool, IsTrue, List, None, Some, sym, ◌∙◌, subst}
use Rattle.std.specs.Prelude.{Result, Ok, Err, IsErrAnd}
use Rattle.std.proofs.lemmas.Option.{none-some, same_Some}
use Rattle.partitions.specs.declared.Part.{Part}
use Rattle.driver_laws.specs.declared.answers.outcome.Stop.{Stop}
use Rattle.driver_laws.specs.rules.Rest.{HasTables}
use Rattle.blocking_io.specs.FrontsPasses.{IsReady, Stage, setup_at}
use Rattle.blocking_io.specs.Sessions.{StopsJoin}
use Rattle.blocking_io.specs.Spots.{Keeps, Spot, TurnsOut, seen}
use Rattle.blocking_io.proofs.Spots.{keeps_join, keeps_none, still, stopped}
use Rattle.raw_io.specs.declared.fault.RawFault.{RawFault}
use Rattle.raw_io.specs.declared.fault.RawFault.TheVariants.{Outside, Unusable}
use Rattle.raw_io.specs.Calls.{fault_of}
use Rattle.raw_io.specs.Moves.{Comes, StopsFrom}
use Rattle.raw_io.specs.Pieces.{PutsRange}
use Rattle.raw_io.specs.Transfers.{Breaks, Transfers}
use Rattle.raw_io.proofs.Answered.{never_done, never_unusable, no_fault, not_unusable, same_unusable, stop_is}
use Rattle.raw_io.proofs.Breaks.{at_fault, breaks_join}

-- ---- behind what was done before
pub stopped_behind : {A : Type 0} {reads : Bool} {unit : ℕ} {part : Part} {does : A → Stage → Stage → Type 0} {leaves : Stage → Stage → Type 0} {old mid new : Spot} → StopsJoin → (result : Result A Stop) (stop : Stop)
    → IsErrAnd result (λ x. x ≡ stop) → Transfers reads unit part (seen old) (seen mid) → Keeps old mid None → (IsTrue new.packs_tell → HasTables (setup_at (seen old)) → leaves (seen old) (seen new))
    → Breaks reads unit part stop (seen mid) (seen new) → Keeps mid new (Some stop) → TurnsOut does leaves (Breaks reads unit part) result old new
stopped_behind {reads = reads} {unit = unit} {part = part} {old = old} {mid = mid} {new = new} law result stop is first kept left breaks keeps =
    stopped result stop is left (breaks_join law reads unit part stop (seen old) (seen mid) (seen new) first breaks (still keeps)) (keeps_join kept keeps)

-- a write of a range, from where it is said to begin
pub turned_from : {unit at from : ℕ} {part : Part} {bytes : List ℕ} {stops : Stop → Stage → Stage → Type 0} {result : Result ℕ Stop} {old new : Spot}
    → TurnsOut (λ n. PutsRange unit part at n bytes) (StopsFrom unit part at bytes) stops result old new → at ≡ from → TurnsOut (λ n. PutsRange unit part from n bytes) (StopsFrom unit part from bytes) stops result old new
turned_from {unit = unit} {part = part} {bytes = bytes} {stops = stops} {result = result} {old = old} {new = new} turns same =
    subst (λ z. TurnsOut (λ n. PutsRange unit part z n bytes) (StopsFrom unit part z bytes) stops result old new) same turns

-- ---- what is answered
module _ {A : Type 0} {reads : Bool} {unit : ℕ} {part : Part} {size : ℕ} {does : ℕ → Stage → Stage → Type 0} {leaves : Stage → Stage → Type 0} where
  pub comes_outside : (s : Spot) → IsReady s.driver → Comes {A = A} reads unit part size does leaves (Err Outside) s s
  comes_outside s ready = record {
    done = λ n e. absurd (none-some n e);
    unusable = λ n e. absurd (not_unusable n e);
    left = λ stop e. absurd (none-some stop e);
    breaks = λ stop e. absurd (none-some stop e);
    keeps = keeps_none s ready;
  }

  module _ {old new : Spot} where
    pub comes_stopped : (result : Result A RawFault) (stop : Stop) → IsErrAnd result (λ x. x ≡ fault_of stop) → TurnsOut {A = ℕ} does leaves (Breaks reads unit part) (Err stop) old new
        → Comes reads unit part size does leaves result old new
    comes_stopped result stop is m = record {
      done = λ n e. never_done size result stop is n e;
      unusable = λ n e. never_unusable result stop is n e;
      left = λ other e. m.left;
      breaks = at_fault result stop (λ z. Breaks reads unit part z (seen old) (seen new)) is m.stopped;
      keeps = subst (Keeps old new) (sym (stop_is result stop is)) m.keeps;
    }

    pub comes_unusable : (n : ℕ) → n < size → TurnsOut {A = ℕ} does leaves (Breaks reads unit part) (Ok n) old new → Comes {A = A} reads unit part size does leaves (Err (Unusable n)) old new
    comes_unusable n few m = record {
      done = λ k e. subst (λ z. does z (seen old) (seen new)) (same_Some n k e) m.done;
      unusable = λ k e. subst (λ z. z < size) (same_unusable n k e) few;
      left = λ stop e. absurd (none-some stop e);
      breaks = λ stop e. absurd (none-some stop e);
      keeps = m.keeps;
    }

    pub comes_whole : (value : A) (n : ℕ) → n ≡ size → TurnsOut {A = ℕ} does leaves (Breaks reads unit part) (Ok n) old new → Comes reads unit part size does leaves (Ok value) old new
    comes_whole value n all m = record {
      done = λ k e. subst (λ z. does z (seen old) (seen new)) (all ∙ same_Some size k e) m.done;
      unusable = λ k e. absurd (no_fault value (Unusable k) e);
      left = λ stop e. absurd (none-some stop e);
      breaks = λ stop e. absurd (none-some stop e);
      keeps = m.keeps;
    }
