-- One step behind another, and how a step ends.
use Rattle.std.proofs.Common.{◌≡◌, ◌≤◌, ℕ, Result, Ok, Err, IsErr, false, true, sym, ◌∙◌, subst, arith}
use Rattle.std.specs.Prelude.{IfErr, IfOk, IsErrAnd, MatchResult, OnErr, OnOk}
use Rattle.outside_traits.specs.Causes.{Rose}
use Rattle.pack_format.specs.Faults.{IsCaused}
use Rattle.pack_format.specs.Steps.{Goes, Seen, Step, Tries}
use Rattle.pack_format.specs.declared.fault.FormatFault.{FormatFault}
use Rattle.pack_format.specs.declared.fault.FormatFault.TheVariants.{Store}

no_error : false ≡ true → ⊥
no_error f = cc

-- what is said of a value says nothing of an error, and the other way round
pub no_value : {T E : Type 0} (result : Result T E) (P : T → Type 0) → IsErr result → IfOk result P
no_value (Ok v) P is = absurd (no_error is)
no_value (Err e) P is = tt

pub not_done : {T E : Type 0} (result : Result T E) (P : Type 0) → IsErr result → OnOk result P
not_done (Ok v) P is = absurd (no_error is)
not_done (Err e) P is = tt

pub on_err : {T E : Type 0} {P : Type 0} (result : Result T E) → IsErr result → P → OnErr result P
on_err (Ok v) is p = tt
on_err (Err e) is p = p

pub at_error : {T E : Type 0} (result : Result T E) {e : E} (P : E → Type 0) → IsErrAnd result (λ x. x ≡ e) → P e → IfErr result P
at_error (Ok v) P is p = tt
at_error (Err x) P is p = subst P (sym is) p

pub on_ok_any : {T E : Type 0} {P : Type 0} (result : Result T E) → P → OnOk result P
on_ok_any (Ok v) p = p
on_ok_any (Err e) p = tt

pub on_err_any : {T E : Type 0} {P : Type 0} (result : Result T E) → P → OnErr result P
on_err_any (Ok v) p = tt
on_err_any (Err e) p = p

pub on_ok_then : {T E : Type 0} {P Q : Type 0} (result : Result T E) → OnOk result P → (P → Q) → OnOk result Q
on_ok_then (Ok v) p f = f p
on_ok_then (Err e) p f = tt

pub on_err_then : {T E : Type 0} {P Q : Type 0} (result : Result T E) → OnErr result P → (P → Q) → OnErr result Q
on_err_then (Ok v) p f = tt
on_err_then (Err e) p f = f p

pub broken : {T E : Type 0} (P Q : Type 0) (result : Result T E) → IsErr result → Q → MatchResult result (λ _. P) (λ _. Q)
broken P Q (Ok v) is q = absurd (no_error is)
broken P Q (Err e) is q = q

-- ---- packs that go on

pub goes_same : {x : Seen} → Goes x x
goes_same {x} = record { never_again = λ t. t; later = omega arith }

pub goes_then : {a b c : Seen} → Goes a b → Goes b c → Goes a c
goes_then one two = record { never_again = λ t. one.never_again (two.never_again t); later = omega (arith, one.later, two.later) }

risen : (a b c : ℕ) → a ≤ b → Rose b c → Rose a c
risen a b c later rose = omega (arith, later, rose)

pub tries_on : {T U E F : Type 0} {old new : Seen} {e : F} (result : Result T E) → IsErr result → Tries {T = U} old new (Err e) → Tries old new result
tries_on (Ok v) is tries = absurd (no_error is)
tries_on (Err x) is tries = record { goes = tries.goes; failed = tries.failed }

-- ---- steps

pub step_ok : {T : Type 0} {Well : Type 0} {Why : FormatFault → Type 0} {old new : Seen} (v : T) → Goes old new → Well → Step Well Why old new (Ok v)
step_ok v goes well = record { goes = goes; well = well; why = tt; store = tt }

-- a fault that is no failure of the packs,
pub step_err : {T : Type 0} {Well : Type 0} {Why : FormatFault → Type 0} {old new : Seen} {e : FormatFault} (result : Result T FormatFault) → IsErrAnd result (λ x. x ≡ e)
    → Goes old new → (e ≡ Store → ⊥) → Why e → Step Well Why old new result
step_err (Ok v) is goes other why = absurd is
step_err {Why = Why} (Err x) is goes other why = record { goes = goes; well = tt; why = subst Why (sym is) why; store = λ s. absurd (other (sym is ∙ s)) }

-- one that is,
pub step_store : {T : Type 0} {Well : Type 0} {Why : FormatFault → Type 0} {old new : Seen} (result : Result T FormatFault) → IsErrAnd result (λ x. x ≡ Store)
    → Goes old new → Rose old.faults new.faults → Why Store → Step Well Why old new result
step_store (Ok v) is goes rose why = absurd is
step_store {Why = Why} (Err x) is goes rose why = record { goes = goes; well = tt; why = subst Why (sym is) why; store = λ _. rose }

pub step_failed : {T U E : Type 0} {Well : Type 0} {Why : FormatFault → Type 0} {old new : Seen} {e : E} (result : Result T FormatFault) → IsErrAnd result (λ x. x ≡ Store)
    → Tries {T = U} old new (Err e) → Why Store → Step Well Why old new result
step_failed result is tries why = step_store result is tries.goes tries.failed why

-- and one that is handed on
pub step_on : {T U : Type 0} {Well Then : Type 0} {Why Ends : FormatFault → Type 0} {old mid new : Seen} {e : FormatFault} (result : Result T FormatFault)
    → IsErrAnd result (λ x. x ≡ e) → Goes old mid → Step {T = U} Then Why mid new (Err e) → (Why e → Ends e) → Step Well Ends old new result
step_on (Ok v) is goes step ends = absurd is
step_on {Ends = Ends} {old = old} {mid = mid} {new = new} (Err x) is goes step ends = record {
  goes = goes_then {a = old} {b = mid} {c = new} goes step.goes;
  well = tt;
  why = subst Ends (sym is) (ends step.why);
  store = λ s. risen old.faults mid.faults new.faults goes.later (step.store (sym is ∙ s));
}

-- a step behind others
pub step_then : {T : Type 0} {Well : Type 0} {Why Ends : FormatFault → Type 0} {old mid new : Seen} (result : Result T FormatFault) → Goes old mid → Step Well Why mid new result
    → ((f : FormatFault) → Why f → Ends f) → Step Well Ends old new result
step_then {old = old} {mid = mid} {new = new} (Ok v) goes step ends = record { goes = goes_then {a = old} {b = mid} {c = new} goes step.goes; well = step.well; why = tt; store = tt }
step_then {old = old} {mid = mid} {new = new} (Err f) goes step ends = record {
  goes = goes_then {a = old} {b = mid} {c = new} goes step.goes;
  well = tt;
  why = ends f step.why;
  store = λ s. risen old.faults mid.faults new.faults goes.later (step.store s);
}

-- the cause, as callers are told it
pub caused : {T : Type 0} {before now : ℕ} (result : Result T FormatFault) → before ≤ now → IfErr result (λ f. f ≡ Store → Rose before now) → IsCaused before now result
caused {T} (Ok v) later store = record { later = later; store = λ is. absurd (other is) }
  where
    other : ◌≡◌ {A = Result T FormatFault} (Ok v) (Err Store) → ⊥
    other is = cc
caused {T} (Err f) later store = record { later = later; store = λ is. store (same is) }
  where
    same : ◌≡◌ {A = Result T FormatFault} (Err f) (Err Store) → f ≡ Store
    same is = cc
