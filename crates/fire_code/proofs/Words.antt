-- The remainder of a word, and the register that its bits are fed to.
use Rattle.std.proofs.Common.{◌≡◌, ℕ, zero, suc, ◌+◌, ◌-◌, ◌*◌, ◌/◌, ◌%◌, ◌^◌, ◌<◌, ◌≤◌, List, [], ◌∷◌, get_or, refl, sym, ap, ap₂, ◌∙◌, subst, arith, ◌⊎◌, inl, inr, cond, eqb, ltb, Bool, true, false, zero-mul, one-mul, lt-ltb, le-ltb, div-add-mod', pow-suc, add-mul}
use Rattle.std.specs.Int.{bit_at}
use Rattle.std.proofs.lemmas.Bool.{cond-true, cond-false, eq-eqb, ne_eqb}
use Rattle.std.proofs.lemmas.Nat.{mod_below, pow_pos, shr-shr}
use Rattle.std.proofs.lemmas.Nat.Bits.{shr_and_one}
use lib.Bits.{bit_and, bit_xor, xor_self, xor_comm, xor_assoc, xor_shifted, xor_zero_r}
use Rattle.fire_code.specs.Remainder.{times_x, power, remainder, repeat}
use Rattle.fire_code.specs.Word.{bit_of_word, ones_below, word_remainder}
use Rattle.fire_code.proofs.Linear.{linear_at_zero, bit_cases}
use Rattle.fire_code.proofs.Register.{repeat_add, bit_is}
use Rattle.fire_code.proofs.Powers.{repeat_bit, repeat_times_x-linear, power_low}

-- each value is a bit
abbrev pub AreBits : (ℕ → ℕ) → Type 0
AreBits bit = (k : ℕ) → (bit k ≡ 0) ⊎ (bit k ≡ 1)

bit_of_word-cond : (b : Bool) (v w i j : ℕ) → (cond b (bit_at v i) (bit_at w j) ≡ 0) ⊎ (cond b (bit_at v i) (bit_at w j) ≡ 1)
bit_of_word-cond true v w i j = bit_is v i
bit_of_word-cond false v w i j = bit_is w j

pub bit_of_word-bits : (bytes : List ℕ) (check : ℕ) → AreBits (bit_of_word bytes check)
bit_of_word-bits bytes check k = bit_of_word-cond (ltb k 4096) (get_or bytes (k / 8) 0) check (k % 8) (4127 - k)

-- one place more
pub ones_below-one : (bit : ℕ → ℕ) (n : ℕ) → bit n ≡ 1 → ones_below bit (suc n) ≡ n ∷ ones_below bit n
unfolding ones_below
ones_below-one bit n e = cond-true (eqb (bit n) 1) (n ∷ ones_below bit n) (ones_below bit n) (eq-eqb (bit n) 1 e)

pub ones_below-zero : (bit : ℕ → ℕ) (n : ℕ) → bit n ≡ 0 → ones_below bit (suc n) ≡ ones_below bit n
unfolding ones_below
ones_below-zero bit n e = cond-false (eqb (bit n) 1) (n ∷ ones_below bit n) (ones_below bit n) (ne_eqb (bit n) 1 (λ o. omega arith))

pub remainder-cons : (k : ℕ) (ks : List ℕ) → remainder (k ∷ ks) ≡ bit_xor (power (4127 - k)) (remainder ks)
unfolding remainder
remainder-cons k ks = refl

-- what the places below n sum to, one place more
pub remainder_more : (bit : ℕ → ℕ) (n : ℕ) → (bit n ≡ 0) ⊎ (bit n ≡ 1) → remainder (ones_below bit (suc n)) ≡ bit_xor (bit n * power (4127 - n)) (remainder (ones_below bit n))
remainder_more bit n (inl e) =
    ap remainder (ones_below-zero bit n e)
    ∙ sym (ap (λ z. bit_xor z (remainder (ones_below bit n))) (ap (λ z. z * power (4127 - n)) e ∙ zero-mul (power (4127 - n))))
remainder_more bit n (inr e) =
    ap remainder (ones_below-one bit n e) ∙ remainder-cons n (ones_below bit n)
    ∙ sym (ap (λ z. bit_xor z (remainder (ones_below bit n))) (ap (λ z. z * power (4127 - n)) e ∙ one-mul (power (4127 - n))))

-- ---- the register
unfoldable pub fed : (ℕ → ℕ) → ℕ → ℕ
fed bit zero = 0
fed bit (suc k) = times_x (bit_xor (fed bit k) (bit k * 2 ^ 31))

repeat_bit_times : (d b : ℕ) → (b ≡ 0) ⊎ (b ≡ 1) → repeat times_x d (b * 2 ^ 31) ≡ b * power (d + 31)
repeat_bit_times d b (inl e) = rw e (linear_at_zero (repeat times_x d) (repeat_times_x-linear d) ∙ sym (zero-mul (power (d + 31))))
repeat_bit_times d b (inr e) = rw e (repeat_bit d 31 (omega arith) ∙ sym (one-mul (power (d + 31))))

pub ones_below-none : (bit : ℕ → ℕ) → ones_below bit zero ≡ []
unfolding ones_below
ones_below-none bit = refl

pub remainder-nil : remainder [] ≡ 0
unfolding remainder
remainder-nil = refl

pub fed-is : (bit : ℕ → ℕ) → AreBits bit → (k : ℕ) → k ≤ 4096 → repeat times_x (4096 - k) (fed bit k) ≡ remainder (ones_below bit k)
unfolding fed repeat
fed-is bit bits zero h = linear_at_zero (repeat times_x 4096) (repeat_times_x-linear 4096) ∙ sym (ap remainder (ones_below-none bit) ∙ remainder-nil)
fed-is bit bits (suc k) h =
    sym (ap (λ z. repeat times_x z (bit_xor (fed bit k) (bit k * 2 ^ 31))) (less k h) ∙ repeat_add times_x (4096 - suc k) 1 (bit_xor (fed bit k) (bit k * 2 ^ 31)))
    ∙ repeat_times_x-linear (4096 - k) (fed bit k) (bit k * 2 ^ 31)
    ∙ ap₂ bit_xor (fed-is bit bits k (omega arith)) (repeat_bit_times (4096 - k) (bit k) (bits k) ∙ ap (λ z. bit k * power z) (moved k h))
    ∙ xor_comm (remainder (ones_below bit k)) (bit k * power (4127 - k))
    ∙ sym (remainder_more bit k (bits k))
  where
    less : (k : ℕ) → suc k ≤ 4096 → 4096 - k ≡ 4096 - suc k + 1
    less k h = omega arith

    moved : (k : ℕ) → suc k ≤ 4096 → 4096 - k + 31 ≡ 4127 - k
    moved k h = omega arith

-- ---- the places of the check
pub same_ones : (f g : ℕ → ℕ) (n : ℕ) → ((k : ℕ) → k < n → f k ≡ g k) → ones_below f n ≡ ones_below g n
unfolding ones_below
same_ones f g zero same = refl
same_ones f g (suc n) same = ap₂ (λ x xs. cond (eqb x 1) (n ∷ xs) xs) (same n (omega arith)) (same_ones f g n (λ k h. same k (omega arith)))

-- the data's part of the remainder
pub data_part : List ℕ → ℕ
data_part bytes = remainder (ones_below (bit_of_word bytes 0) 4096)

data_same : (bytes : List ℕ) (check : ℕ) → remainder (ones_below (bit_of_word bytes check) 4096) ≡ data_part bytes
unfolding data_part
data_same bytes check = ap remainder (same_ones (bit_of_word bytes check) (bit_of_word bytes 0) 4096 (λ k h. apart k h))
  where
    apart : (k : ℕ) → k < 4096 → bit_of_word bytes check k ≡ bit_of_word bytes 0 k
    apart k h =
        cond-true (ltb k 4096) (bit_at (get_or bytes (k / 8) 0) (k % 8)) (bit_at check (4127 - k)) (lt-ltb k 4096 h)
        ∙ sym (cond-true (ltb k 4096) (bit_at (get_or bytes (k / 8) 0) (k % 8)) (bit_at 0 (4127 - k)) (lt-ltb k 4096 h))

-- the number's high bits, one more of them
top_more : (c m : ℕ) → bit_xor (bit_at c m * 2 ^ m) (c / 2 ^ suc m * 2 ^ suc m) ≡ c / 2 ^ m * 2 ^ m
top_more c m =
    xor_comm (bit_at c m * 2 ^ m) (c / 2 ^ suc m * 2 ^ suc m)
    ∙ xor_shifted (c / 2 ^ suc m) (suc m) (bit_at c m * 2 ^ m) (below (bit_at c m) (bit_is c m))
    ∙ ap (λ z. z * 2 ^ suc m + bit_at c m * 2 ^ m) (sym (shr-shr c m 1 ∙ ap (λ z. c / 2 ^ z) (next m)))
    ∙ parts (c / 2 ^ m) (2 ^ m) (2 ^ suc m) (pow-suc 2 m)
  where
    next : (m : ℕ) → m + 1 ≡ suc m
    next m = omega arith

    below : (x : ℕ) → (x ≡ 0) ⊎ (x ≡ 1) → x * 2 ^ m < 2 ^ suc m
    below x (inl e) = rw e (omega (arith, pow_pos (suc m)))
    below x (inr e) = rw e (omega (arith, pow-suc 2 m, pow_pos m))

    parts : (d p q : ℕ) → q ≡ p * 2 → d / 2 * q + d % 2 * p ≡ d * p
    parts d p q e = rw e (ap (λ z. z + d % 2 * p) (sides (d / 2) p) ∙ sym (add-mul (d / 2 * 2) (d % 2) p) ∙ ap (λ z. z * p) (div-add-mod' d 2))
      where
        sides : (h p : ℕ) → h * (p * 2) ≡ h * 2 * p
        sides h p = omega arith

check_bit : (bytes : List ℕ) (check j : ℕ) → j < 32 → bit_of_word bytes check (4096 + j) ≡ bit_at check (31 - j)
check_bit bytes check j h =
    cond-false (ltb (4096 + j) 4096) (bit_at (get_or bytes ((4096 + j) / 8) 0) ((4096 + j) % 8)) (bit_at check (4127 - (4096 + j))) (le-ltb (4096 + j) 4096 (omega arith))
    ∙ ap (bit_at check) (moved j h)
  where
    moved : (j : ℕ) → j < 32 → 4127 - (4096 + j) ≡ 31 - j
    moved j h = omega arith

-- j places into the check
check_part : (bytes : List ℕ) (check : ℕ) → check < 2 ^ 32 → (j : ℕ) → j ≤ 32 → remainder (ones_below (bit_of_word bytes check) (4096 + j)) ≡ bit_xor (check / 2 ^ (32 - j) * 2 ^ (32 - j)) (data_part bytes)
check_part bytes check small zero h = data_same bytes check ∙ ap (λ z. bit_xor z (data_part bytes)) (sym (none check small))
  where
    none : (c : ℕ) → c < 2 ^ 32 → c / 2 ^ 32 * 2 ^ 32 ≡ 0
    none c h = omega arith
check_part bytes check small (suc j) h =
    ap (λ z. remainder (ones_below (bit_of_word bytes check) z)) (next j)
    ∙ remainder_more (bit_of_word bytes check) (4096 + j) (bit_of_word-bits bytes check (4096 + j))
    ∙ ap₂ bit_xor
    (ap₂ (λ x y. x * y) (check_bit bytes check j (omega arith)) (ap power (moved j) ∙ power_low (31 - j) (omega arith)))
    (check_part bytes check small j (omega arith))
    ∙ sym (xor_assoc (bit_at check (31 - j) * 2 ^ (31 - j)) (check / 2 ^ (32 - j) * 2 ^ (32 - j)) (data_part bytes))
    ∙ ap (λ z. bit_xor z (data_part bytes)) (ap (λ z. bit_xor (bit_at check (31 - j) * 2 ^ (31 - j)) (check / 2 ^ z * 2 ^ z)) (more j (omega arith)) ∙ top_more check (31 - j) ∙ ap (λ z. check / 2 ^ z * 2 ^ z) (same j))
  where
    next : (j : ℕ) → 4096 + suc j ≡ suc (4096 + j)
    next j = omega arith

    moved : (j : ℕ) → 4127 - (4096 + j) ≡ 31 - j
    moved j = omega arith

    more : (j : ℕ) → j < 32 → 32 - j ≡ suc (31 - j)
    more j h = omega arith

    same : (j : ℕ) → 31 - j ≡ 32 - suc j
    same j = omega arith

pub word_remainder-is : (bytes : List ℕ) (check : ℕ) → check < 2 ^ 32 → word_remainder bytes check ≡ bit_xor check (data_part bytes)
unfolding word_remainder
word_remainder-is bytes check small = check_part bytes check small 32 (omega arith) ∙ ap (λ z. bit_xor z (data_part bytes)) (whole check)
  where
    whole : (c : ℕ) → c / 2 ^ (32 - 32) * 2 ^ (32 - 32) ≡ c
    whole c = omega arith

pub data_remainder-is : (bytes : List ℕ) → word_remainder bytes 0 ≡ data_part bytes
data_remainder-is bytes = word_remainder-is bytes 0 (omega arith)

-- the word's remainder by that of its data
pub word_remainder-split : (bytes : List ℕ) (check : ℕ) → check < 2 ^ 32 → word_remainder bytes check ≡ bit_xor (word_remainder bytes 0) check
word_remainder-split bytes check small =
    word_remainder-is bytes check small ∙ xor_comm check (data_part bytes) ∙ ap (λ z. bit_xor z check) (sym (data_remainder-is bytes))

-- the check that is the data's remainder makes the word right
pub encoded : (bytes : List ℕ) (check : ℕ) → check < 2 ^ 32 → check ≡ word_remainder bytes 0 → word_remainder bytes check ≡ 0
encoded bytes check small e = word_remainder-split bytes check small ∙ ap (λ z. bit_xor z check) (sym e) ∙ xor_self check

-- and it is the only one
pub encoded_only : (bytes : List ℕ) (check other : ℕ) → check ≡ word_remainder bytes 0 → other < 2 ^ 32 → word_remainder bytes other ≡ 0 → other ≡ check
encoded_only bytes check other e small right =
    sym (ap (λ z. bit_xor z other) (sym (word_remainder-split bytes other small) ∙ right) ∙ xor_comm 0 other ∙ xor_zero_r other)
    ∙ xor_assoc (word_remainder bytes 0) other other ∙ ap (bit_xor (word_remainder bytes 0)) (xor_self other) ∙ xor_zero_r (word_remainder bytes 0)
    ∙ sym e

-- the register at the end of the data
pub fed_all : (bytes : List ℕ) → fed (bit_of_word bytes 0) 4096 ≡ word_remainder bytes 0
unfolding repeat data_part
fed_all bytes = fed-is (bit_of_word bytes 0) (bit_of_word-bits bytes 0) 4096 (omega arith) ∙ sym (data_remainder-is bytes)

pub data_bit : (bytes : List ℕ) (i b : ℕ) → i < 512 → b < 8 → bit_of_word bytes 0 (8 * i + b) ≡ bit_at (get_or bytes i 0) b
data_bit bytes i b hi hb =
    cond-true (ltb (8 * i + b) 4096) (bit_at (get_or bytes ((8 * i + b) / 8) 0) ((8 * i + b) % 8)) (bit_at 0 (4127 - (8 * i + b))) (lt-ltb (8 * i + b) 4096 (omega arith))
    ∙ ap₂ (λ x y. bit_at (get_or bytes x 0) y) (row i b hb) (column i b hb)
  where
    row : (i b : ℕ) → b < 8 → (8 * i + b) / 8 ≡ i
    row i b h = omega arith

    column : (i b : ℕ) → b < 8 → (8 * i + b) % 8 ≡ b
    column i b h = omega arith

-- one bit more
pub fed_more : (bytes : List ℕ) (i b state one : ℕ) → i < 512 → b < 8 → state ≡ fed (bit_of_word bytes 0) (8 * i + b) → one ≡ bit_and (get_or bytes i 0 / 2 ^ b) 1
    → times_x (bit_xor state (one * 2 ^ 31 % 2 ^ 32)) ≡ fed (bit_of_word bytes 0) (8 * i + (b + 1))
unfolding fed
fed_more bytes i b state one hi hb s o =
    ap times_x (ap₂ bit_xor s (shift one (bit_cases one (below one (o ∙ shr_and_one (get_or bytes i 0) b))) ∙ ap (λ z. z * 2 ^ 31) (o ∙ shr_and_one (get_or bytes i 0) b ∙ sym (data_bit bytes i b hi hb))))
    ∙ ap (fed (bit_of_word bytes 0)) (next i b)
  where
    next : (i b : ℕ) → suc (8 * i + b) ≡ 8 * i + (b + 1)
    next i b = omega arith

    below : (x : ℕ) → x ≡ bit_at (get_or bytes i 0) b → x < 2
    below x e = subst (λ z. z < 2) (sym e) (mod_below (get_or bytes i 0 / 2 ^ b) 2 (omega arith))

    shift : (x : ℕ) → (x ≡ 0) ⊎ (x ≡ 1) → x * 2 ^ 31 % 2 ^ 32 ≡ x * 2 ^ 31
    shift x (inl e) = rw e refl
    shift x (inr e) = rw e refl
