-- One bit of a row of words.
use Rattle.std.proofs.Common.{◌≡◌, ◌≢◌, ℕ, ◌+◌, ◌*◌, ◌/◌, ◌%◌, ◌<◌, ◌≤◌, nat_lt, Bool, true, false, List, length, set, get_or, refl, sym, ◌∙◌, ap, arith, get_or-set_same, get_or-set_other}
use Rattle.std.specs.Prelude.{◌==◌, if◌then◌else◌}
use Rattle.std.specs.Int.{bit_at}
use Rattle.std.proofs.lemmas.Bool.Decides.{nat_tests}
use Rattle.std.proofs.lemmas.Nat.Bits.{bit_at-zero}
use Rattle.disksort.specs.Buckets.{has_bit, with_bit}

-- one word written anew, of which one bit alone may have changed
pub row-with_bit : (words : List ℕ) (c new : ℕ) (on : Bool) → c / 64 < length words → (bit_at new (c % 64) == 1) ≡ on
    → ((i : ℕ) → i < 64 → i ≢ c % 64 → bit_at new i ≡ bit_at (get_or words (c / 64) 0) i)
    → has_bit (set words (c / 64) new) ≡ with_bit (has_bit words) c on
row-with_bit words c new on lt own others = λ i. λ k. at k (k == c) refl i
  where
    to_same : (k : ℕ) → (k == c) ≡ true → k ≡ c
    to_same k e = grind (arith, nat_tests)

    to_other : (k : ℕ) → (k == c) ≡ false → k ≢ c
    to_other k e = grind (arith, nat_tests)

    in_word : (k : ℕ) → k ≢ c → (b : Bool) → (k / 64 == c / 64) ≡ b → has_bit (set words (c / 64) new) k ≡ has_bit words k
    in_word k ne true e =
        let same : k / 64 ≡ c / 64 = grind (arith, nat_tests) in
        let other : k % 64 ≢ c % 64 = λ h. ne (omega arith) in
        ap (λ w. bit_at (get_or (set words (c / 64) new) w 0) (k % 64) == 1) same ∙ ap (λ n. bit_at n (k % 64) == 1) (get_or-set_same words (c / 64) new 0 lt)
        ∙ ap (λ b. b == 1) (others (k % 64) (omega arith) other) ∙ ap (λ w. bit_at (get_or words w 0) (k % 64) == 1) (sym same)
    in_word k ne false e =
        let other : k / 64 ≢ c / 64 = grind (arith, nat_tests) in
        ap (λ n. bit_at n (k % 64) == 1) (get_or-set_other words (c / 64) (k / 64) new 0 other)

    at : (k : ℕ) (b : Bool) → (k == c) ≡ b → has_bit (set words (c / 64) new) k ≡ (if b then on else has_bit words k)
    at k true e =
        ap (has_bit (set words (c / 64) new)) (to_same k e) ∙ ap (λ n. bit_at n (c % 64) == 1) (get_or-set_same words (c / 64) new 0 lt) ∙ own
    at k false e = in_word k (to_other k e) (k / 64 == c / 64) refl

pub row-on : (words : List ℕ) (i word place : ℕ) → word ≡ get_or words i 0 → place < 64 → bit_at word place ≡ 1 → has_bit words (64 * i + place) ≡ true
row-on words i word place e lt on =
    let at : (64 * i + place) / 64 ≡ i = omega arith in
    let in_it : (64 * i + place) % 64 ≡ place = omega arith in
    ap (λ w. bit_at (get_or words w 0) ((64 * i + place) % 64) == 1) at ∙ ap (λ p. bit_at (get_or words i 0) p == 1) in_it
    ∙ ap (λ n. bit_at n place == 1) (sym e) ∙ ap (λ b. b == 1) on

row-zero : (words : List ℕ) (k : ℕ) → get_or words (k / 64) 0 ≡ 0 → has_bit words k ≡ false
row-zero words k e = ap (λ n. bit_at n (k % 64) == 1) e ∙ ap (λ b. b == 1) (bit_at-zero (k % 64))

pub row-below : (words : List ℕ) (i word place : ℕ) → word ≡ get_or words i 0 → ((j : ℕ) → j < i → get_or words j 0 ≡ 0)
    → ((p : ℕ) → p < place → bit_at word p ≡ 0) → (k : ℕ) → k < 64 * i + place → place < 64 → has_bit words k ≡ false
row-below words i word place e zeros below k lt small = at (nat_lt (k / 64) i) refl
  where
    at : (b : Bool) → nat_lt (k / 64) i ≡ b → has_bit words k ≡ false
    at true t = let l : k / 64 < i = grind (arith, nat_tests) in row-zero words k (zeros (k / 64) l)
    at false f =
        let le : i ≤ k / 64 = grind (arith, nat_tests) in
        let same : k / 64 ≡ i = omega arith in
        let l : k % 64 < place = omega arith in
        ap (λ w. bit_at (get_or words w 0) (k % 64) == 1) same ∙ ap (λ n. bit_at n (k % 64) == 1) (sym e) ∙ ap (λ b. b == 1) (below (k % 64) l)
