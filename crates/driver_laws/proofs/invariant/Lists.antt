-- Numbers among a list, and the bits of attentions.
use Rattle.std.proofs.Common.{◌≡◌, ◌≢◌, ◌⊎◌, inl, inr, ℕ, ◌-◌, ◌*◌, ◌^◌, ◌%◌, ◌<◌, Bool, true, false, List, [], ◌∷◌, ◌++◌, refl, sym, subst, arith, bit_and, bit_or, w8, rules}
use Rattle.std.specs.Prelude.{◌==◌}
use Rattle.std.specs.Int.{bit_at}
use Rattle.std.proofs.lemmas.Nat.{or_lt, one_shl, and_le_l}
use Rattle.std.proofs.lemmas.Nat.Bits.{bit_at_set_same, bit_at_set_other, bit_at_clear_same, bit_at_clear_other}
use Rattle.std.proofs.Math.Pow.{pow-lt}
use Rattle.driver_machine.specs.Acts.{kept_by, without}
use Rattle.driver_machine.specs.Sound.{Among, Once}

-- ONE MORE behind all others
pub among_push : (x : ℕ) (xs : List ℕ) (u : ℕ) → Among x (xs ++ u ∷ []) → Among x xs ⊎ (x ≡ u)
among_push x [] u (inl e) = inr e
among_push x [] u (inr m) = absurd m
among_push x (y ∷ ys) u (inl e) = inl (inl e)
among_push x (y ∷ ys) u (inr m) = elim (among_push x ys u m) [ inl old ↦ inl (inr old) | inr e ↦ inr e ]

pub among_more : (x u : ℕ) (queue : List ℕ) → Among x queue → Among x (queue ++ u ∷ [])
among_more x u [] is = absurd is
among_more x u (y ∷ ys) (inl here) = inl here
among_more x u (y ∷ ys) (inr later) = inr (among_more x u ys later)

pub once_push : (xs : List ℕ) (u : ℕ) → Once xs → (Among u xs → ⊥) → Once (xs ++ u ∷ [])
once_push [] u once new = ((λ m. m), tt)
once_push (x ∷ xs) u once new =
    ((λ m. elim (among_push x xs u m) [ inl old ↦ once.0 old | inr e ↦ new (inl (sym e)) ]), once_push xs u once.1 (λ m. new (inr m)))

-- ONE FEWER
among_kept : (x y : ℕ) (same : Bool) (rest : List ℕ) → Among x rest → Among x (kept_by same y rest)
among_kept x y true rest is = is
among_kept x y false rest is = inr is

among_here : (x y u : ℕ) (same : Bool) (rest : List ℕ) → same ≡ (y == u) → x ≡ y → x ≢ u → Among x (kept_by same y rest)
among_here x y u true rest is here other = absurd (other (grind (arith, is, here)))
among_here x y u false rest is here other = inl here

pub among_rest : (x u : ℕ) (queue : List ℕ) → x ≢ u → Among x queue → Among x (without u queue)
among_rest x u [] other among = absurd among
among_rest x u (y ∷ ys) other (inl here) = among_here x y u (y == u) (without u ys) refl here other
among_rest x u (y ∷ ys) other (inr later) = among_kept x y (y == u) (without u ys) (among_rest x u ys other later)

-- one that is left was there, and is another
left_by : (x y u : ℕ) (same : Bool) (ys rest : List ℕ) → same ≡ (y == u) → (Among x rest → Among x ys × (x ≢ u)) → Among x (kept_by same y rest)
    → Among x (y ∷ ys) × (x ≢ u)
left_by x y u same ys rest h0 h1 h2 = first_of (search rules, grind arith)

pub among_left : (x u : ℕ) (queue : List ℕ) → Among x (without u queue) → Among x queue × (x ≢ u)
among_left x u [] m = absurd m
among_left x u (y ∷ ys) m = left_by x y u (y == u) ys (without u ys) refl (λ later. among_left x u ys later) m

once_kept : (same : Bool) (y : ℕ) (rest : List ℕ) → Once rest → (Among y rest → ⊥) → Once (kept_by same y rest)
once_kept true y rest once new = once
once_kept false y rest once new = (new, once)

pub once_left : (u : ℕ) (queue : List ℕ) → Once queue → Once (without u queue)
once_left u [] once = tt
once_left u (y ∷ ys) once = once_kept (y == u) y (without u ys) (once_left u ys once.1) (λ m. once.0 (among_left y u ys m).0)

-- ATTENTION BITS of an adapter.
one_bit : (k : ℕ) → k < 8 → 1 * 2 ^ k % 256 ≡ 2 ^ k
one_bit k lt = one_shl k 8 lt

pub raised_same : (n k : ℕ) → k < 8 → bit_at (bit_or n (2 ^ k)) k ≡ 1
raised_same n k lt = subst (λ m. bit_at (bit_or n m) k ≡ 1) (one_bit k lt) (bit_at_set_same w8 n k lt)

pub raised_other : (n k j : ℕ) → k < 8 → j ≢ k → bit_at (bit_or n (2 ^ k)) j ≡ bit_at n j
raised_other n k j lt ne = subst (λ m. bit_at (bit_or n m) j ≡ bit_at n j) (one_bit k lt) (bit_at_set_other w8 n k lt j ne)

pub raised_small : (n k : ℕ) → k < 8 → n < 256 → bit_or n (2 ^ k) < 256
raised_small n k lt small = or_lt 8 n (2 ^ k) small (pow-lt lt)

pub lowered_same : (n k : ℕ) → k < 8 → bit_at (bit_and n (255 - 2 ^ k)) k ≡ 0
lowered_same n k lt = subst (λ m. bit_at (bit_and n (255 - m)) k ≡ 0) (one_bit k lt) (bit_at_clear_same w8 n k lt)

pub lowered_other : (n k j : ℕ) → k < 8 → j < 8 → j ≢ k → bit_at (bit_and n (255 - 2 ^ k)) j ≡ bit_at n j
lowered_other n k j lt small ne = subst (λ m. bit_at (bit_and n (255 - m)) j ≡ bit_at n j) (one_bit k lt) (bit_at_clear_other w8 n k lt j small ne)

pub lowered_small : (n k : ℕ) → n < 256 → bit_and n (255 - 2 ^ k) < 256
lowered_small n k small = let le = and_le_l n (255 - 2 ^ k) in omega arith
