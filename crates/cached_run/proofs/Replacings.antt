-- Replacements, one behind the other.
use Rattle.std.proofs.Common.{◌≡◌, ℕ, zero, suc, ◌+◌, ◌≤◌, List, [], ◌∷◌, ◌++◌, length, take, refl, ap, arith}
use Rattle.std.proofs.Math.Seq.{take-append-add}
use Rattle.driver_laws.specs.rules.Machine.{Blocks}
use Rattle.cached_run.specs.Answers.{Replacement, with_replacement, after}

pub after_more : (xs ys : List Replacement) (map : ℕ → Blocks) → after (xs ++ ys) map ≡ after ys (after xs map)
after_more [] ys map = refl
after_more (x ∷ xs) ys map = after_more xs ys (with_replacement x map)

-- maps that agree everywhere are one
pub same_map : (map other : ℕ → Blocks) → ((u b : ℕ) → map u b ≡ other u b) → map ≡ other
same_map map other same = λ i. λ u. λ b. same u b i

-- a front of the first list, and a front of the second behind all of the first
pub take_first : (n : ℕ) (xs ys : List Replacement) → n ≤ length xs → take n (xs ++ ys) ≡ take n xs
take_first zero xs ys le = refl
take_first (suc n) [] ys le = absurd (omega (arith, le))
take_first (suc n) (x ∷ xs) ys le = ap (λ zs. x ∷ zs) (take_first n xs ys (omega (arith, le)))

pub take_second : (xs ys : List Replacement) (n : ℕ) → take (length xs + n) (xs ++ ys) ≡ xs ++ take n ys
take_second xs ys n = take-append-add xs ys n
