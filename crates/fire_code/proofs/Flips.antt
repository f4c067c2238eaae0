-- Bits that are flipped, and the remainder after it.
use Rattle.std.proofs.Common.{◌≡◌, ℕ, zero, suc, ◌+◌, ◌-◌, ◌*◌, ◌<◌, ◌≤◌, List, [], ◌∷◌, length, get_or, drop, refl, sym, ap, ap₂, ◌∙◌, subst, arith, ◌⊎◌, inl, inr, cond, eqb, Bool, true, false, one-mul, zero-mul, All}
use Rattle.std.proofs.lemmas.Bool.{cases_eq, eq-eqb, ne_eqb, cond-true, cond-false}
use Rattle.std.proofs.lemmas.List.Elements.{All-head, All-tail}
use Rattle.std.proofs.lemmas.List.{drop_more, drop_all}
use lib.Bits.{bit_xor, xor_assoc, xor_comm, xor_zero_r, xor_self}
use Rattle.fire_code.specs.Remainder.{power, remainder}
use Rattle.fire_code.specs.Word.{bit_of_word, ones_below, word_remainder}
use Rattle.std.specs.List.{list_any}
use Rattle.fire_code.specs.Noise.{flipped}
use Rattle.fire_code.proofs.Rising.{Rising}
use Rattle.fire_code.proofs.Words.{AreBits, bit_of_word-bits, same_ones, remainder_more, remainder-cons, remainder-nil}

-- place p flipped
abbrev pub flip_at : ℕ → (ℕ → ℕ) → ℕ → ℕ
flip_at p bit k = cond (eqb p k) (1 - bit k) (bit k)

flip_same : (p : ℕ) (bit : ℕ → ℕ) → flip_at p bit p ≡ 1 - bit p
flip_same p bit = cond-true (eqb p p) (1 - bit p) (bit p) (eq-eqb p p refl)

flip_other : (p k : ℕ) (bit : ℕ → ℕ) → (p ≡ k → ⊥) → flip_at p bit k ≡ bit k
flip_other p k bit ne = cond-false (eqb p k) (1 - bit k) (bit k) (ne_eqb p k ne)

pub flip_bits : (p : ℕ) (bit : ℕ → ℕ) → AreBits bit → AreBits (flip_at p bit)
flip_bits p bit bits k = at (eqb p k) (bits k)
  where
    at : (b : Bool) → (bit k ≡ 0) ⊎ (bit k ≡ 1) → (cond b (1 - bit k) (bit k) ≡ 0) ⊎ (cond b (1 - bit k) (bit k) ≡ 1)
    at true (inl e) = inr (ap (λ z. 1 - z) e)
    at true (inr e) = inl (ap (λ z. 1 - z) e)
    at false h = h

-- one bit flipped adds the power of its place
flip_one : (x w : ℕ) → (x ≡ 0) ⊎ (x ≡ 1) → (1 - x) * w ≡ bit_xor w (x * w)
flip_one x w (inl e) = rw e (one-mul w ∙ sym (ap (bit_xor w) (zero-mul w) ∙ xor_zero_r w))
flip_one x w (inr e) = rw e (zero-mul w ∙ sym (ap (bit_xor w) (one-mul w) ∙ xor_self w))

pub flip-sum : (p : ℕ) (bit : ℕ → ℕ) → AreBits bit → (n : ℕ) → p < n → remainder (ones_below (flip_at p bit) n) ≡ bit_xor (power (4127 - p)) (remainder (ones_below bit n))
flip-sum p bit bits zero h = absurd (omega arith)
flip-sum p bit bits (suc n) h = at (cases_eq p n) (λ ne. flip-sum p bit bits n (omega arith))
  where
    w : ℕ
    w = power (4127 - n)

    rest : ℕ
    rest = remainder (ones_below bit n)

    swapped : (a b c : ℕ) → bit_xor a (bit_xor b c) ≡ bit_xor b (bit_xor a c)
    swapped a b c = sym (xor_assoc a b c) ∙ ap (λ z. bit_xor z c) (xor_comm a b) ∙ xor_assoc b a c

    at : (p ≡ n) ⊎ (p ≡ n → ⊥) → ((p ≡ n → ⊥) → remainder (ones_below (flip_at p bit) n) ≡ bit_xor (power (4127 - p)) (remainder (ones_below bit n)))
        → remainder (ones_below (flip_at p bit) (suc n)) ≡ bit_xor (power (4127 - p)) (remainder (ones_below bit (suc n)))
    at (inl e) ih =
        remainder_more (flip_at p bit) n (flip_bits p bit bits n)
        ∙ ap₂ bit_xor
        (ap (λ z. z * power (4127 - n)) (subst (λ z. flip_at p bit z ≡ 1 - bit z) e (flip_same p bit)) ∙ flip_one (bit n) (power (4127 - n)) (bits n))
        (ap remainder (same_ones (flip_at p bit) bit n (λ k l. flip_other p k bit (λ q. omega arith))))
        ∙ xor_assoc (power (4127 - n)) (bit n * power (4127 - n)) (remainder (ones_below bit n))
        ∙ ap₂ (λ x y. bit_xor (power (4127 - x)) y) (sym e) (sym (remainder_more bit n (bits n)))
    at (inr ne) ih =
        remainder_more (flip_at p bit) n (flip_bits p bit bits n)
        ∙ ap₂ bit_xor (ap (λ z. z * power (4127 - n)) (flip_other p n bit ne)) (ih ne)
        ∙ swapped (bit n * power (4127 - n)) (power (4127 - p)) (remainder (ones_below bit n))
        ∙ ap (bit_xor (power (4127 - p))) (sym (remainder_more bit n (bits n)))

-- each place of a list flipped
pub flip_all : List ℕ → (ℕ → ℕ) → ℕ → ℕ
flip_all [] bit k = bit k
flip_all (p ∷ ps) bit k = flip_all ps (flip_at p bit) k

pub flip_all-sum : (ps : List ℕ) (bit : ℕ → ℕ) → AreBits bit → (n : ℕ) → All (λ p. p < n) ps → remainder (ones_below (flip_all ps bit) n) ≡ bit_xor (remainder ps) (remainder (ones_below bit n))
unfolding flip_all
flip_all-sum [] bit bits n all = sym (ap (λ z. bit_xor z (remainder (ones_below bit n))) remainder-nil)
flip_all-sum (p ∷ ps) bit bits n all =
    flip_all-sum ps (flip_at p bit) (flip_bits p bit bits) n (All-tail (λ q. q < n) p ps all)
    ∙ ap (bit_xor (remainder ps)) (flip-sum p bit bits n (All-head (λ q. q < n) p ps all))
    ∙ sym (xor_assoc (remainder ps) (power (4127 - p)) (remainder (ones_below bit n)))
    ∙ ap (λ z. bit_xor z (remainder (ones_below bit n))) (xor_comm (remainder ps) (power (4127 - p)) ∙ sym (remainder-cons p ps))

pub flip_all-same : (ps : List ℕ) (f g : ℕ → ℕ) (k : ℕ) → f k ≡ g k → flip_all ps f k ≡ flip_all ps g k
unfolding flip_all
flip_all-same [] f g k e = e
flip_all-same (p ∷ ps) f g k e = flip_all-same ps (flip_at p f) (flip_at p g) k (ap (λ z. cond (eqb p k) (1 - z) z) e)

-- a place below a rising list is not flipped
flip_all-before : (lo hi : ℕ) (ps : List ℕ) (bit : ℕ → ℕ) (k : ℕ) → Rising lo hi ps → k < lo → flip_all ps bit k ≡ bit k
unfolding flip_all
flip_all-before lo hi [] bit k r h = refl
flip_all-before lo hi (p ∷ ps) bit k (a, b, c) h = flip_all-before (suc p) hi ps (flip_at p bit) k c (omega arith) ∙ flip_other p k bit (λ e. omega arith)

pub none_before : (lo hi : ℕ) (ps : List ℕ) (k : ℕ) → Rising lo hi ps → k < lo → list_any (λ p. eqb p k) ps ≡ false
none_before lo hi [] k r h = refl
none_before lo hi (p ∷ ps) k (a, b, c) h = rw (ne_eqb p k (λ e. omega arith)) (none_before (suc p) hi ps k c (omega arith))

pub flip_all-flipped : (lo hi : ℕ) (ps : List ℕ) (bit : ℕ → ℕ) (k : ℕ) → Rising lo hi ps → flip_all ps bit k ≡ flipped ps k (bit k)
unfolding flip_all
flip_all-flipped lo hi [] bit k r = refl
flip_all-flipped lo hi (p ∷ ps) bit k (a, b, c) = at (cases_eq p k) (flip_all-flipped (suc p) hi ps (flip_at p bit) k c)
  where
    at : (p ≡ k) ⊎ (p ≡ k → ⊥) → flip_all ps (flip_at p bit) k ≡ flipped ps k (flip_at p bit k) → flip_all ps (flip_at p bit) k ≡ flipped (p ∷ ps) k (bit k)
    at (inl e) ih =
        flip_all-before (suc p) hi ps (flip_at p bit) k c (omega arith) ∙ rw (eq-eqb p k e) refl
    at (inr ne) ih = ih ∙ rw (ne_eqb p k ne) refl

-- one place of what is left
pub flip_all-more : (ks : List ℕ) (i : ℕ) (old new : ℕ → ℕ) (k : ℕ) → i < length ks → new k ≡ flip_at (get_or ks i 0) old k → flip_all (drop (i + 1) ks) new k ≡ flip_all (drop i ks) old k
unfolding flip_all
flip_all-more ks i old new k h e =
    flip_all-same (drop (i + 1) ks) new (flip_at (get_or ks i 0) old) k e
    ∙ ap (λ z. flip_all z old k) (sym (drop_more ks i 0 h))

pub flip_all-none : (ks : List ℕ) (i : ℕ) (bit : ℕ → ℕ) (k : ℕ) → length ks ≤ i → flip_all (drop i ks) bit k ≡ bit k
unfolding flip_all
flip_all-none ks i bit k h = ap (λ z. flip_all z bit k) (drop_all i ks h)

pub flip_all-remainder : (ks : List ℕ) (old : List ℕ) (c : ℕ) (new : List ℕ) (d : ℕ) → All (λ k. k < 4128) ks → ((k : ℕ) → k < 4128 → bit_of_word new d k ≡ flip_all ks (bit_of_word old c) k)
    → word_remainder new d ≡ bit_xor (remainder ks) (word_remainder old c)
unfolding word_remainder
flip_all-remainder ks old c new d all same =
    ap remainder (same_ones (bit_of_word new d) (flip_all ks (bit_of_word old c)) 4128 same)
    ∙ flip_all-sum ks (bit_of_word old c) (bit_of_word-bits old c) 4128 all
