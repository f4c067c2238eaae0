-- A list of which one element was put.
use Rattle.std.proofs.Common.{ℕ, zero, suc, List, [], ◌∷◌, set, get_or}

-- what relates the element that was there to the one that was put relates each element to the one now
pub set_related : {A : Type 0} (R : A → A → Type 0) → ((x : A) → R x x) → (xs : List A) (i j : ℕ) (v d : A) → R (get_or xs i d) v
    → R (get_or xs j d) (get_or (set xs i v) j d)
set_related R same [] i j v d is = same d
set_related R same (x ∷ xs) zero zero v d is = is
set_related R same (x ∷ xs) zero (suc j) v d is = same (get_or xs j d)
set_related R same (x ∷ xs) (suc i) zero v d is = same x
set_related R same (x ∷ xs) (suc i) (suc j) v d is = set_related R same xs i j v d is
