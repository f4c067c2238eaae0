-- Laws of a call on the packs that comes after another one.
use Rattle.std.proofs.Common.{◌≡◌, ℕ, ◌≤◌, true, arith}
use Rattle.std.specs.Prelude.{Result, Ok, Err, OnOk, IfOk, is_ok}
use Rattle.outside_traits.specs.Causes.{HasCause}

-- what an Ok says may be said otherwise
pub on_ok_by : {T E P Q : Type 0} (result : Result T E) → (P → Q) → OnOk result P → OnOk result Q
on_ok_by (Ok x) f p = f p
on_ok_by (Err e) f p = tt

pub if_ok_by : {T E : Type 0} {P Q : T → Type 0} (result : Result T E) → ((x : T) → P x → Q x) → IfOk result P → IfOk result Q
if_ok_by (Ok x) f p = f x p
if_ok_by (Err e) f p = tt

-- what holds at an Ok holds of a result that is one
pub told_ok : {T E P : Type 0} (result : Result T E) → true ≡ is_ok result → OnOk result P → P
told_ok (Ok x) is p = p
told_ok (Err e) is p = absurd (cc is)

-- a call whose failure has its cause, after one in which the count did not fall
pub cause_after : {T E : Type 0} (before middle now : ℕ) (result : Result T E) → before ≤ middle → HasCause middle now result → HasCause before now result
cause_after before middle now (Ok x) h cause = record { later = omega (arith, h, cause.later); failed = tt }
cause_after before middle now (Err e) h cause = record { later = omega (arith, h, cause.later); failed = omega (arith, h, cause.failed) }
