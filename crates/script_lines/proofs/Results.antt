-- Results of readings.
use Rattle.std.proofs.Common.{◌≡◌, refl, Result, Ok, Err}
use Rattle.script_lines.specs.Fields.{and_then}

pub same_Ok : {A E : Type 0} (x y : A) → ◌≡◌ {A = Result A E} (Ok x) (Ok y) → x ≡ y
same_Ok x y e = cc

pub same_Err : {A E : Type 0} (x y : E) → ◌≡◌ {A = Result A E} (Err x) (Err y) → x ≡ y
same_Err x y e = cc

pub err-ok : {A E : Type 0} (x : E) (y : A) → ◌≡◌ {A = Result A E} (Err x) (Ok y) → ⊥
err-ok x y e = cc

-- what comes next gave a value
pub then_ok : {A B E : Type 0} (res : Result A E) (f : A → Result B E) (b : B) → and_then res f ≡ Ok b → (a : A) × (res ≡ Ok a) × (f a ≡ Ok b)
then_ok (Ok a) f b e = (a, refl, e)
then_ok (Err x) f b e = absurd (err-ok x b e)
