-- A driver that is quiet has a free slot, and what may be asked of it may be submitted; and what an exit leaves.
use Rattle.std.proofs.Common.{◌≡◌, ℕ, ◌+◌, ◌-◌, ◌^◌, ◌≤◌, ◌<◌, suc, List, [], ◌∷◌, Option, None, Some, refl, sym, ap, subst, arith, ◌∙◌}
use Rattle.std.specs.Prelude.{slice_index_or, Result, Ok, Err, IfOk, IfErr, OnOk, IsErrAnd}
use Rattle.std.proofs.lemmas.Bool.{false≢true}
use Rattle.outside_traits.specs.Causes.{Rose}
use Rattle.driver_machine.specs.World.{World, Held, slot_at}
use Rattle.driver_machine.specs.Sound.{Sound}
use Rattle.driver_machine.specs.Runs.{NoneOutstanding}
use Rattle.driver_laws.specs.declared.answers.outcome.Stop.{Stop}
use Rattle.driver_laws.specs.declared.answers.outcome.Stop.TheVariants.{Store, Sink}
use Rattle.driver_laws.specs.answers.Outcome.{stop_in}
use Rattle.driver_laws.specs.answers.Counts.{in_use}
use Rattle.driver_laws.proofs.answers.Slots.{none_ended}
use Rattle.hp_driver.specs.Passes.{HasCauses}
use Rattle.trace_replay.specs.declared.requests.request.Request.{Request}
use Rattle.hp_driver.specs.Subsystem.{State, IsAsked}
use Rattle.blocking_io.specs.Asking.{MayAsk}

no_slot : (w : World) → Sound w → NoneOutstanding w → w.answers ≡ [] → (p : ℕ) (h : Held) → slot_at w p ≡ Some h → ⊥
no_slot w sound none taken p h is = false≢true (sym (none_ended w sound taken p h is) ∙ none p h is)

none_in_use : (slots : List (Option Held)) → ((p : ℕ) (h : Held) → slice_index_or slots p None ≡ Some h → ⊥) → in_use slots ≡ 0
none_in_use [] none = refl
none_in_use (None ∷ slots) none = none_in_use slots (λ p h is. none (suc p) h is)
none_in_use (Some h ∷ slots) none = absurd (none 0 h refl)

pub may_submit : (s : State) (r : Request) (bytes : List ℕ) → Sound s.world → MayAsk s r bytes → IsAsked s r bytes
may_submit s r bytes sound may = record {
  unit = may.unit;
  request = may.request;
  none = may.none;
  fresh = λ q g is still same. no_slot s.world sound may.ready.quiet.none may.ready.quiet.taken q g is;
  room = least (in_use s.world.slots) s.outstanding (none_in_use s.world.slots (no_slot s.world sound may.ready.quiet.none may.ready.quiet.taken)) may.room;
}
  where
    least : (n m : ℕ) → n ≡ 0 → 1 ≤ m → n < m
    least n m is some = omega (arith, is, some)

-- an error that is handed on
pub err_is : {T : Type 0} (Q : Stop → Type 0) (result : Result T Stop) (stop : Stop) → IsErrAnd result (λ x. x ≡ stop) → Q stop → IfErr result Q
err_is Q (Ok value) stop is holds = tt
err_is Q (Err other) stop is holds = subst Q (sym is) holds

-- so nothing is asked of what an Ok leaves
pub err_if : {T : Type 0} (Q : T → Type 0) (result : Result T Stop) (stop : Stop) → IsErrAnd result (λ x. x ≡ stop) → IfOk result Q
err_if Q (Ok value) stop is = absurd is
err_if Q (Err other) stop is = tt

pub err_on : {T : Type 0} (Q : Type 0) (result : Result T Stop) (stop : Stop) → IsErrAnd result (λ x. x ≡ stop) → OnOk result Q
err_on Q (Ok value) stop is = absurd is
err_on Q (Err other) stop is = tt

pub no_less : (n : ℕ) → n ≤ n
no_less n = omega arith

pub through : (a b c : ℕ) → a ≤ b → b ≤ c → a ≤ c
through a b c one two = omega (arith, one, two)

rose : (a b c : ℕ) → a ≤ b → Rose b c → Rose a c
rose a b c one two = omega (arith, one, two)

-- THE CAUSES of what stopped behind other calls,
pub later_causes : {T : Type 0} (result : Result T Stop) (stop : Stop) (packs packs' packs'' trace trace' trace'' : ℕ) → IsErrAnd result (λ x. x ≡ stop) → packs ≤ packs' → trace ≤ trace'
    → HasCauses packs' packs'' trace' trace'' (Some stop) → HasCauses packs packs'' trace trace'' (stop_in result)
later_causes (Ok value) stop packs packs' packs'' trace trace' trace'' is later told last = absurd is
later_causes (Err other) stop packs packs' packs'' trace trace' trace'' is later told last =
    subst (λ (s : Stop). HasCauses packs packs'' trace trace'' (Some s)) (sym is)
    (record {
      later_packs = through packs packs' packs'' later last.later_packs;
      later = through trace trace' trace'' told last.later;
      store = λ e. rose packs packs' packs'' later (last.store e);
      sink = λ e. rose trace trace' trace'' told (last.sink e);
    })

-- of what only the trace stops,
pub told_causes : {T : Type 0} (result : Result T Stop) (stop : Stop) (packs packs' trace trace' trace'' : ℕ) → IsErrAnd result (λ x. x ≡ stop) → stop ≡ Sink → packs ≤ packs' → trace ≤ trace' → trace' ≤ trace'' → Rose trace' trace''
    → HasCauses packs packs' trace trace'' (stop_in result)
told_causes result stop packs packs' trace trace' trace'' is by later told last risen =
    later_causes result stop packs packs' packs' trace trace' trace'' is later told
    (record { later_packs = no_less packs'; later = last; store = λ e. absurd (differ stop e by); sink = λ e. risen })
  where
    differ : (x : Stop) → ◌≡◌ {A = Option Stop} (Some x) (Some Store) → x ≡ Sink → ⊥
    differ x e f = cc

-- of a submission,
pub submit_causes : {T : Type 0} (result : Result T Stop) (stop : Stop) (packs trace trace' : ℕ) → IsErrAnd result (λ x. x ≡ stop) → stop ≡ Sink → trace ≤ trace' → Rose trace trace'
    → HasCauses packs packs trace trace' (stop_in result)
submit_causes result stop packs trace trace' is by later risen = told_causes result stop packs packs trace trace trace' is by (no_less packs) (no_less trace) later risen

-- and where nothing stopped
pub no_causes : (packs packs' trace trace' : ℕ) → packs ≤ packs' → trace ≤ trace' → HasCauses packs packs' trace trace' None
no_causes packs packs' trace trace' later told = record { later_packs = later; later = told; store = λ e. absurd (none e); sink = λ e. absurd (none e) }
  where
    none : {s : Stop} → ◌≡◌ {A = Option Stop} None (Some s) → ⊥
    none e = absurd (cc)

-- behind a failure of the packs what is kept is sent
pub rest_causes : (halt stop : Stop) (packs packs' trace trace' trace'' last : ℕ) → halt ≡ Store → trace ≤ trace' → HasCauses packs packs' trace' trace'' (Some halt) → trace'' ≤ last → (stop ≡ Sink → Rose trace'' last)
    → HasCauses packs packs' trace last (Some stop)
rest_causes halt stop packs packs' trace trace' trace'' last is told failed later risen =
    let before : trace ≤ trace'' = through trace trace' trace'' told failed.later in
    record {
      later_packs = failed.later_packs;
      later = through trace trace'' last before later;
      store = λ e. failed.store (ap (λ (s : Stop). Some s) is);
      sink = λ e. rose trace trace'' last before (risen (it_is stop e));
    }
  where
    it_is : (x : Stop) → ◌≡◌ {A = Option Stop} (Some x) (Some Sink) → x ≡ Sink
    it_is x e = cc

-- so many turns are never taken
pub never : (turn left : ℕ) → 2 ^ 64 - 1 ≤ turn → turn + left ≤ 812800 → ⊥
never turn left far few = omega (arith, far, few)
