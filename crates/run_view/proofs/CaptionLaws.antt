-- A text whose last byte is a blank, and one whose last byte is none.
use Rattle.std.proofs.Common.{◌≡◌, ◌≢◌, ℕ, zero, suc, ◌-◌, ◌==◌, Bool, true, false, List, [], ◌∷◌, length, take, get_or, sym, ap, cond, arith}
use Rattle.std.proofs.lemmas.Bool.Decides.{nat_tests}
use Rattle.run_view.specs.Captions.{unless_blank, without_back}

is_blank : (b : ℕ) → b ≡ 32 → (b == 32) ≡ true
is_blank b e = grind (arith, nat_tests, e)

is_none : (b : ℕ) → b ≢ 32 → (b == 32) ≡ false
is_none b e = grind (arith, nat_tests, e)

pub last_blank : (n : ℕ) (l : List ℕ) → length l ≡ suc n → get_or l n 0 ≡ 32 → without_back (take n l) ≡ without_back l
last_blank n [] many e = absurd (omega (arith, many))
last_blank zero (b ∷ []) many e = ap (λ (t : Bool). cond t [] (b ∷ [])) (sym (is_blank b e))
last_blank zero (b ∷ c ∷ cs) many e = absurd (omega (arith, many))
last_blank (suc n) (b ∷ []) many e = absurd (omega (arith, many))
last_blank (suc n) (b ∷ c ∷ cs) many e = ap (unless_blank b) (last_blank n (c ∷ cs) (omega (arith, many)) e)

pub last_none : (n : ℕ) (l : List ℕ) → length l ≡ suc n → get_or l n 0 ≢ 32 → without_back l ≡ l
last_none n [] many e = absurd (omega (arith, many))
last_none zero (b ∷ []) many e = ap (λ (t : Bool). cond t [] (b ∷ [])) (is_none b e)
last_none zero (b ∷ c ∷ cs) many e = absurd (omega (arith, many))
last_none (suc n) (b ∷ []) many e = absurd (omega (arith, many))
last_none (suc n) (b ∷ c ∷ cs) many e = ap (unless_blank b) (last_none n (c ∷ cs) (omega (arith, many)) e)

pub some_last : (n : ℕ) (b : Bool) → b ≡ (n == 0) → b ≡ false → n ≡ suc (n - 1)
some_last n b e is = grind (arith, nat_tests, e, is)
