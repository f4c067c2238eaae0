-- Why playing stopped.
use Rattle.std.proofs.Common.{◌≡◌, inl, inr, ℕ, ◌≤◌, refl, sym, subst, Some}
use Rattle.std.specs.Prelude.{Result, Ok, Err, Bool, IfErr, OnOk, OnErr}
use Rattle.std.specs.Result.{IsErrAnd}
use Rattle.outside_traits.specs.Causes.{Rose}
use Rattle.outside_traits.proofs.GatherLaws.{rose_more}
use Rattle.pack_geometry.specs.Pack.{Pack}
use Rattle.trace_replay.specs.Script.{Script}
use Rattle.driver_laws.specs.declared.answers.outcome.Stop.{Stop}
use Rattle.driver_laws.specs.declared.answers.outcome.Stop.TheVariants as stop
use Rattle.buffer_cache.specs.Passes.{HasCauses}
use Rattle.outside_traits.specs.declared.traits.PackCall.{PackCall}
use Rattle.script_runs.specs.declared.fault.PlayFault.{PlayFault}
use Rattle.script_runs.specs.declared.fault.PlayFault.TheVariants as fault
use Rattle.script_runs.specs.Stops.{Took}
use Rattle.script_runs.specs.Faults.{from_stop, IsBefore, IsLongFor}
use Rattle.cached_run.specs.Faults.{IsCaused}
use Rattle.cached_run.specs.Theorem.{CachedStops, CachedLeaves}
use Rattle.cached_run.proofs.Numbers.{itself, through}

-- what holds of an error holds of the result that is it
pub as_err : {T : Type 0} (P : Result T PlayFault → Type 0) (result : Result T PlayFault) (why : PlayFault) → IsErrAnd result (λ x. x ≡ why) → P (Err why) → P result
as_err P (Ok v) why is p = absurd is
as_err P (Err x) why is p = subst (λ z. P (Err z)) (sym is) p

module _ {T : Type 0} {p p' o o' t t' : ℕ} where
  pub caused_ok : (value : T) → p ≤ p' → o ≤ o' → t ≤ t' → IsCaused p p' o o' t t' (Ok value)
  caused_ok value first next last = record {
    rise = record { later = first; later_out = next; later_trace = last; store = λ e. absurd (never e); sink = λ e. absurd (never e) };
    memory = λ e. never e;
    too_long = λ unit length_is e. never e;
  }
    where
      never : {x : PlayFault} → ◌≡◌ {A = Result T PlayFault} (Ok value) (Err x) → ⊥
      never e = cc

  pub caused_stop : (why : Stop) → HasCauses p p' t t' (Some why) → o ≤ o' → IsCaused {T = T} p p' o o' t t' (Err (from_stop why))
  caused_stop stop.Store h next = record {
    rise = record { later = h.later_packs; later_out = next; later_trace = h.later; store = λ e. h.store refl; sink = λ e. absurd (never e) };
    memory = λ e. no_memory e;
    too_long = λ unit length_is e. not_long e;
  }
    where
      never : ◌≡◌ {A = Result T PlayFault} (Err fault.Store) (Err fault.Sink) → ⊥
      never e = cc

      no_memory : ◌≡◌ {A = Result T PlayFault} (Err fault.Store) (Err fault.Memory) → ⊥
      no_memory e = cc

      not_long : {u n : ℕ} → ◌≡◌ {A = Result T PlayFault} (Err fault.Store) (Err (fault.TooLong u n)) → ⊥
      not_long e = cc
  caused_stop stop.Sink h next = record {
    rise = record { later = h.later_packs; later_out = next; later_trace = h.later; store = λ e. absurd (never e); sink = λ e. inr (h.sink refl) };
    memory = λ e. no_memory e;
    too_long = λ unit length_is e. not_long e;
  }
    where
      never : ◌≡◌ {A = Result T PlayFault} (Err fault.Sink) (Err fault.Store) → ⊥
      never e = cc

      no_memory : ◌≡◌ {A = Result T PlayFault} (Err fault.Sink) (Err fault.Memory) → ⊥
      no_memory e = cc

      not_long : {u n : ℕ} → ◌≡◌ {A = Result T PlayFault} (Err fault.Sink) (Err (fault.TooLong u n)) → ⊥
      not_long e = cc

  pub caused_out : p ≤ p' → t ≤ t' → o ≤ o' → Rose o o' → IsCaused {T = T} p p' o o' t t' (Err fault.Sink)
  caused_out first last next rose = record {
    rise = record { later = first; later_out = next; later_trace = last; store = λ e. absurd (never e); sink = λ e. inl rose };
    memory = λ e. no_memory e;
    too_long = λ unit length_is e. not_long e;
  }
    where
      never : ◌≡◌ {A = Result T PlayFault} (Err fault.Sink) (Err fault.Store) → ⊥
      never e = cc

      no_memory : ◌≡◌ {A = Result T PlayFault} (Err fault.Sink) (Err fault.Memory) → ⊥
      no_memory e = cc

      not_long : {u n : ℕ} → ◌≡◌ {A = Result T PlayFault} (Err fault.Sink) (Err (fault.TooLong u n)) → ⊥
      not_long e = cc

-- counts that rose before do so from an earlier one on
pub caused_more : {T : Type 0} {p0 o0 t0 p p' o o' t t' : ℕ} (result : Result T PlayFault) → p0 ≤ p → o0 ≤ o → t0 ≤ t → IsCaused p p' o o' t t' result → IsCaused p0 p' o0 o' t0 t' result
caused_more {T} {p0} {o0} {t0} {p} {p'} {o} {o'} {t} {t'} result first next last c = record {
  rise = record {
    later = through p0 p p' first c.rise.later;
    later_out = through o0 o o' next c.rise.later_out;
    later_trace = through t0 t t' last c.rise.later_trace;
    store = λ e. rose_more p0 p p' first (c.rise.store e);
    sink = λ e. elim (c.rise.sink e) [ inl out ↦ inl (rose_more o0 o o' next out) | inr trace ↦ inr (rose_more t0 t t' last trace) ];
  };
  memory = c.memory;
  too_long = c.too_long;
}

-- what was handed on of a stop of the driver, and of a sink that failed
pub stop_caused : {T : Type 0} (result : Result T PlayFault) (why : Stop) (p p' o t t' : ℕ) → IsErrAnd result (λ x. x ≡ from_stop why) → HasCauses p p' t t' (Some why) → IsCaused p p' o o t t' result
stop_caused result why p p' o t t' is h = as_err (λ z. IsCaused p p' o o t t' z) result (from_stop why) is (caused_stop why h (itself o))

pub sink_caused : {T : Type 0} (result : Result T PlayFault) (p p' o o' t t' : ℕ) → IsErrAnd result (λ x. x ≡ fault.Sink) → p ≤ p' → t ≤ t' → o ≤ o' → Rose o o' → IsCaused p p' o o' t t' result
sink_caused result p p' o o' t t' is first last next rose = as_err (λ z. IsCaused p p' o o' t t' z) result fault.Sink is (caused_out first last next rose)

-- what holds where a call came to its end, or where it stopped, is handed on
pub on_ok_map : {T E P Q : Type 0} (result : Result T E) → (P → Q) → OnOk result P → OnOk result Q
on_ok_map (Ok v) turn p = turn p
on_ok_map (Err x) turn p = tt

pub on_err_map : {T E P Q : Type 0} (result : Result T E) → (P → Q) → OnErr result P → OnErr result Q
on_err_map (Ok v) turn p = tt
on_err_map (Err x) turn p = turn p

-- IN PLAYING nothing else stops it
pub never_before : {T : Type 0} {p p' o o' t t' : ℕ} (result : Result T PlayFault) → IsCaused p p' o o' t t' result → IsBefore result → ⊥
never_before (Ok value) c before = before
never_before (Err fault.Memory) c before = c.memory refl
never_before (Err (fault.TooLong unit length_is)) c before = c.too_long unit length_is refl
never_before (Err fault.Store) c before = before
never_before (Err fault.Sink) c before = before

pub never_long : {T : Type 0} {p p' o o' t t' : ℕ} (result : Result T PlayFault) → IsCaused p p' o o' t t' result → (script : Script) (tells : Bool) (packs : ℕ → Pack) → IfErr result (IsLongFor script tells packs)
never_long (Ok value) c script tells packs = tt
never_long (Err fault.Memory) c script tells packs = tt
never_long (Err (fault.TooLong unit length_is)) c script tells packs = absurd (c.too_long unit length_is refl)
never_long (Err fault.Store) c script tells packs = tt
never_long (Err fault.Sink) c script tells packs = tt

pub leaves_as : {T : Type 0} (Q : Type 0) (result : Result T PlayFault) (capacity : ℕ) (script : Script) (first left : ℕ → Pack) (call : PackCall) (out trace : Took) → OnErr result (Q → CachedStops capacity script first left out trace)
    → IfErr result (λ why. Q → CachedLeaves capacity why script first left call out trace)
leaves_as Q (Ok value) capacity script first left call out trace stops = tt
leaves_as Q (Err fault.Memory) capacity script first left call out trace stops = λ q. tt
leaves_as Q (Err (fault.TooLong unit length_is)) capacity script first left call out trace stops = λ q. tt
leaves_as Q (Err fault.Store) capacity script first left call out trace stops = λ q. inr (stops q)
leaves_as Q (Err fault.Sink) capacity script first left call out trace stops = stops
