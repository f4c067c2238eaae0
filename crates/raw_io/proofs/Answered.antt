-- What an answer tells of its fault.
use Rattle.std.proofs.Common.{◌≡◌, ℕ, None, Some, refl, sym, ap, ◌∙◌}
use Rattle.std.specs.Prelude.{Result, Ok, Err, IsErrAnd}
use Rattle.std.proofs.lemmas.Option.{none-some, same_Some}
use Rattle.driver_laws.specs.declared.answers.outcome.Stop.{Stop}
use Rattle.driver_laws.specs.declared.answers.outcome.Stop.TheVariants as stopped
use Rattle.raw_io.specs.declared.fault.RawFault.{RawFault}
use Rattle.raw_io.specs.declared.fault.RawFault.TheVariants.{Outside, Unusable}
use Rattle.raw_io.specs.Calls.{stop_of, done_by, fault_of}

pub not_outside : {A : Type 0} (done : ℕ) → ◌≡◌ {A = Result A RawFault} (Err (Unusable done)) (Err Outside) → ⊥
not_outside done e = none-some done (sym (ap (done_by 0) e))

pub not_unusable : {A : Type 0} (done : ℕ) → ◌≡◌ {A = Result A RawFault} (Err Outside) (Err (Unusable done)) → ⊥
not_unusable done e = none-some done (ap (done_by 0) e)

pub same_unusable : {A : Type 0} (one other : ℕ) → ◌≡◌ {A = Result A RawFault} (Err (Unusable one)) (Err (Unusable other)) → one ≡ other
same_unusable one other e = same_Some one other (ap (done_by 0) e)

pub no_fault : {A : Type 0} (value : A) (fault : RawFault) → ◌≡◌ {A = Result A RawFault} (Ok value) (Err fault) → ⊥
no_fault value fault e = cc

-- ---- one that stopped
stops_as : (A : Type 0) (stop : Stop) → stop_of {A = A} (Err (fault_of stop)) ≡ Some stop
stops_as A stopped.Store = refl
stops_as A stopped.Sink = refl

pub stop_is : {A : Type 0} (result : Result A RawFault) (stop : Stop) → IsErrAnd result (λ x. x ≡ fault_of stop) → stop_of result ≡ Some stop
stop_is (Ok value) stop is = absurd is
stop_is {A} (Err fault) stop is = ap (λ (x : RawFault). stop_of {A = A} (Err x)) is ∙ stops_as A stop

none_of : (A : Type 0) (size : ℕ) (stop : Stop) → done_by {A = A} size (Err (fault_of stop)) ≡ None
none_of A size stopped.Store = refl
none_of A size stopped.Sink = refl

pub none_done : {A : Type 0} (size : ℕ) (result : Result A RawFault) (stop : Stop) → IsErrAnd result (λ x. x ≡ fault_of stop) → done_by size result ≡ None
none_done size (Ok value) stop is = absurd is
none_done {A} size (Err fault) stop is = ap (λ (x : RawFault). done_by {A = A} size (Err x)) is ∙ none_of A size stop

pub never_done : {A B : Type 0} (size : ℕ) (result : Result A RawFault) (stop : Stop) → IsErrAnd result (λ x. x ≡ fault_of stop) → (done : ℕ) → done_by size result ≡ Some done → B
never_done size result stop is done e = absurd (none-some done (sym (none_done size result stop is) ∙ e))

pub never_unusable : {A B : Type 0} (result : Result A RawFault) (stop : Stop) → IsErrAnd result (λ x. x ≡ fault_of stop) → (done : ℕ) → result ≡ Err (Unusable done) → B
never_unusable result stop is done e = never_done 0 result stop is done (ap (done_by 0) e)

pub never_outside : {A B : Type 0} (result : Result A RawFault) (stop : Stop) → IsErrAnd result (λ x. x ≡ fault_of stop) → result ≡ Err Outside → B
never_outside result stop is e = absurd (none-some stop (sym (ap stop_of e) ∙ stop_is result stop is))
