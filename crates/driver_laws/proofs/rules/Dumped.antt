-- Memory filled up with zeros, piece by piece.
use Rattle.std.proofs.Common.{◌≡◌, ℕ, zero, suc, ◌+◌, ◌-◌, ◌≤◌, List, [], ◌∷◌, ◌++◌, length, take, drop, replicate, refl, sym, ap, ◌∙◌, arith, rules}

abbrev pub nulls : ℕ → List ℕ
nulls n = replicate n 0

zeros : (n d m : ℕ) → d + n ≤ m → take n (drop d (nulls m)) ≡ nulls n
zeros zero d m le = refl
zeros (suc n) zero zero le = absurd (omega (arith, le))
zeros (suc n) zero (suc m) le = ap (λ zs. 0 ∷ zs) (zeros n zero m (omega (arith, le)))
zeros (suc n) (suc d) zero le = absurd (omega (arith, le))
zeros (suc n) (suc d) (suc m) le = zeros (suc n) d m (omega (arith, le))

less : (n k : ℕ) → n - k ≡ suc n - suc k
less n k = omega arith

-- of no memory nothing is left
none_left : (n d : ℕ) (none : List ℕ) → none ≡ [] → take n (drop d none) ++ nulls (n - length (take n (drop d none))) ≡ nulls n
none_left n d none is = search rules

-- a piece is what is left of the memory there, and zeros
pub padded : (m n d : ℕ) (memory : List ℕ) → d + n ≤ length memory + m
    → take n (drop d (memory ++ nulls m)) ≡ take n (drop d memory) ++ nulls (n - length (take n (drop d memory)))
padded m n d [] le = zeros n d m (omega (arith, le)) ∙ sym (none_left n d [] refl)
padded m zero zero (x ∷ xs) le = refl
padded m (suc n) zero (x ∷ xs) le = ap (λ zs. x ∷ zs) (padded m n zero xs (omega (arith, le)) ∙ ap (λ k. take n xs ++ nulls k) (less n (length (take n xs))))
padded m n (suc d) (x ∷ xs) le = padded m n d xs (omega (arith, le))
