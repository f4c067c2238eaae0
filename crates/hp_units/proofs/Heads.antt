-- What a read of a list says of what is left of it.
use Rattle.std.proofs.Common.{◌≡◌, refl, sym, ℕ, zero, suc, ◌+◌, List, [], ◌∷◌, drop, Option, Some, None, IfSome, slice_get, arith}

-- the element that is read stands in front of those behind it
pub drop-at-get : {A : Type 0} (xs : List A) (n : ℕ) (x : A) → slice_get xs n ≡ Some x → drop n xs ≡ x ∷ drop (suc n) xs
drop-at-get [] n x found = grind arith
drop-at-get (y ∷ ys) zero x found = grind arith
drop-at-get (y ∷ ys) (suc n) x found = drop-at-get ys n x found

some-read : {A : Type 0} (r : Option A) (xs : List A) (n m : ℕ) → m ≡ suc n → r ≡ slice_get xs n → IfSome r (λ x. drop n xs ≡ x ∷ drop m xs)
some-read (Some x) xs n m next same = rw next (drop-at-get xs n x (sym same))
some-read None xs n m next same = tt

-- and where one is read it is that one
pub read-in-front : {A : Type 0} (r : Option A) (xs : List A) (n : ℕ) → r ≡ slice_get xs n → IfSome r (λ x. drop n xs ≡ x ∷ drop (n + 1) xs)
read-in-front r xs n same = let next : n + 1 ≡ suc n = omega arith in some-read r xs n (n + 1) next same

-- a list without a first element is empty
pub empty-without-head : {A : Type 0} (xs : List A) → slice_get xs 0 ≡ None → xs ≡ []
empty-without-head [] none = refl
empty-without-head (x ∷ xs) none = grind arith
