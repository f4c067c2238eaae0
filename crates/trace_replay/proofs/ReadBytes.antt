-- Read and repaired bytes.
use Rattle.std.proofs.Common.{◌≡◌, ℕ, zero, suc, ◌+◌, ◌-◌, ◌*◌, ◌/◌, ◌%◌, ◌^◌, ◌<◌, ◌≤◌, List, [], ◌∷◌, length, get_or, take, replicate, None, Some, refl, sym, ap, ap₂, ◌∙◌, subst, arith, ◌⊎◌, inl, inr, cond, eqb, ltb, lt-ltb, le-ltb, Bool, true, false, All}
use Rattle.std.proofs.lemmas.List.Elements.{All-head, All-tail, All-cons, All-nil}
use Rattle.std.specs.Int.{bit_at}
use Rattle.std.specs.List.{list_any}
use Rattle.std.proofs.lemmas.Bool.{cases_eq, cases_lt, eq-eqb, ne_eqb, cond-true, cond-false}
use Rattle.std.proofs.lemmas.Nat.{mod_below, pow_pos}
use Rattle.std.proofs.lemmas.Nat.Bits.{bit_at_xor, bit_at-pow_same, bit_at-pow_other, bit_at-zero}
use Rattle.std.proofs.lemmas.List.{get_or-replicate}
use lib.Bits.{bit_xor, xor_assoc, xor_comm, xor_zero_r, xor_self, xor_lt}
use Rattle.fire_code.specs.Remainder.{remainder}
use Rattle.fire_code.specs.Burst.{IsShortBurst, IsBurst, places_of}
use Rattle.fire_code.specs.Noise.{IsFlipped, flipped}
use Rattle.fire_code.specs.Word.{bit_of_word}
use Rattle.fire_code.specs.Repair.{burst_byte}
use Rattle.fire_code.specs.declared.Verdict.TheVariants.{Burst}
use Rattle.fire_code.proofs.Rising.{Rising}
use Rattle.fire_code.proofs.Flips.{none_before}
use Rattle.fire_code.proofs.Register.{bit_is}
use Rattle.fire_code.proofs.Toggle.{bit_of_data, bit_of_check}
use Rattle.fire_code.proofs.Noises.{rising_from_places}
use Rattle.fire_code.proofs.Laws.{burst_named}
use Rattle.fire_code.proofs.Repairs.{byte_repaired}
use Rattle.trace_replay.specs.Packs.{flipped_in, flipped_from, repaired_from}
use Rattle.trace_replay.specs.Bytes.{ReadsAsTold, RepairsBursts}

-- whether place k is one of these
abbrev has : List ℕ → ℕ → Bool
has ks k = list_any (λ p. eqb p k) ks

-- ---- the bits of what is flipped
first_mask : (p i j : ℕ) → j < 8 → p ≡ 8 * i + j → bit_at (cond (eqb (p / 8) i) (2 ^ (p % 8)) 0) j ≡ 1
first_mask p i j h e =
    ap (λ z. bit_at z j) (cond-true (eqb (p / 8) i) (2 ^ (p % 8)) 0 (eq-eqb (p / 8) i (omega arith)))
    ∙ ap (λ z. bit_at (2 ^ z) j) (column p i j h e) ∙ bit_at-pow_same j
  where
    column : (p i j : ℕ) → j < 8 → p ≡ 8 * i + j → p % 8 ≡ j
    column p i j h e = omega arith

other_mask : (p i j : ℕ) → j < 8 → (p ≡ 8 * i + j → ⊥) → bit_at (cond (eqb (p / 8) i) (2 ^ (p % 8)) 0) j ≡ 0
other_mask p i j h ne = at (cases_eq (p / 8) i)
  where
    at : (p / 8 ≡ i) ⊎ (p / 8 ≡ i → ⊥) → bit_at (cond (eqb (p / 8) i) (2 ^ (p % 8)) 0) j ≡ 0
    at (inl e) =
        ap (λ z. bit_at z j) (cond-true (eqb (p / 8) i) (2 ^ (p % 8)) 0 (eq-eqb (p / 8) i e))
        ∙ bit_at-pow_other (p % 8) j (λ q. ne (omega arith))
    at (inr o) = ap (λ z. bit_at z j) (cond-false (eqb (p / 8) i) (2 ^ (p % 8)) 0 (ne_eqb (p / 8) i o)) ∙ bit_at-zero j

sum_of : (b : Bool) → (0 + cond b 1 0) % 2 ≡ cond b 1 0
sum_of true = refl
sum_of false = refl

flips_bit : (lo : ℕ) (ps : List ℕ) (i j : ℕ) → Rising lo 4128 ps → j < 8 → bit_at (flipped_in i ps) j ≡ cond (has ps (8 * i + j)) 1 0
flips_bit lo [] i j r h = bit_at-zero j
flips_bit lo (p ∷ ps) i j (a, b, c) h = at (cases_eq p (8 * i + j)) (flips_bit (suc p) ps i j c h)
  where
    mask : ℕ
    mask = cond (eqb (p / 8) i) (2 ^ (p % 8)) 0

    at : (p ≡ 8 * i + j) ⊎ (p ≡ 8 * i + j → ⊥) → bit_at (flipped_in i ps) j ≡ cond (has ps (8 * i + j)) 1 0
        → bit_at (flipped_in i (p ∷ ps)) j ≡ cond (has (p ∷ ps) (8 * i + j)) 1 0
    at (inl e) ih =
        bit_at_xor (cond (eqb (p / 8) i) (2 ^ (p % 8)) 0) (flipped_in i ps) j
        ∙ ap₂ (λ x y. (x + y) % 2) (first_mask p i j h e) (ih ∙ ap (λ z. cond z 1 0) (none_before (suc p) 4128 ps (8 * i + j) c (omega arith)))
        ∙ sym (rw (eq-eqb p (8 * i + j) e) refl)
    at (inr ne) ih =
        bit_at_xor (cond (eqb (p / 8) i) (2 ^ (p % 8)) 0) (flipped_in i ps) j
        ∙ ap₂ (λ x y. (x + y) % 2) (other_mask p i j h ne) ih
        ∙ sum_of (has ps (8 * i + j))
        ∙ sym (rw (ne_eqb p (8 * i + j) ne) refl)

-- the check with the places flipped that lie in it
check_flips : List ℕ → ℕ
check_flips [] = 0
check_flips (p ∷ ps) = bit_xor (cond (ltb p 4096) 0 (2 ^ (4127 - p))) (check_flips ps)

check_bit : (lo : ℕ) (ps : List ℕ) (k : ℕ) → Rising lo 4128 ps → 4096 ≤ k → k < 4128 → bit_at (check_flips ps) (4127 - k) ≡ cond (has ps k) 1 0
unfolding check_flips
check_bit lo [] k r from below = bit_at-zero (4127 - k)
check_bit lo (p ∷ ps) k (a, b, c) from below = at (cases_eq p k) (cases_lt p 4096) (check_bit (suc p) ps k c from below)
  where
    at : (p ≡ k) ⊎ (p ≡ k → ⊥) → (p < 4096) ⊎ (4096 ≤ p) → bit_at (check_flips ps) (4127 - k) ≡ cond (has ps k) 1 0
        → bit_at (bit_xor (cond (ltb p 4096) 0 (2 ^ (4127 - p))) (check_flips ps)) (4127 - k) ≡ cond (has (p ∷ ps) k) 1 0
    at (inl e) (inl low) ih = absurd (omega (arith, e, low, from))
    at (inl e) (inr high) ih =
        bit_at_xor (cond (ltb p 4096) 0 (2 ^ (4127 - p))) (check_flips ps) (4127 - k)
        ∙ ap₂ (λ x y. (x + y) % 2)
        (ap (λ z. bit_at z (4127 - k)) (cond-false (ltb p 4096) 0 (2 ^ (4127 - p)) (le-ltb p 4096 high))
        ∙ ap (λ z. bit_at (2 ^ (4127 - z)) (4127 - k)) e ∙ bit_at-pow_same (4127 - k))
        (ih ∙ ap (λ z. cond z 1 0) (none_before (suc p) 4128 ps k c (omega arith)))
        ∙ sym (rw (eq-eqb p k e) refl)
    at (inr ne) (inl low) ih =
        bit_at_xor (cond (ltb p 4096) 0 (2 ^ (4127 - p))) (check_flips ps) (4127 - k)
        ∙ ap₂ (λ x y. (x + y) % 2)
        (ap (λ z. bit_at z (4127 - k)) (cond-true (ltb p 4096) 0 (2 ^ (4127 - p)) (lt-ltb p 4096 low)) ∙ bit_at-zero (4127 - k)) ih
        ∙ sum_of (has ps k) ∙ sym (rw (ne_eqb p k ne) refl)
    at (inr ne) (inr high) ih =
        bit_at_xor (cond (ltb p 4096) 0 (2 ^ (4127 - p))) (check_flips ps) (4127 - k)
        ∙ ap₂ (λ x y. (x + y) % 2)
        (ap (λ z. bit_at z (4127 - k)) (cond-false (ltb p 4096) 0 (2 ^ (4127 - p)) (le-ltb p 4096 high))
        ∙ bit_at-pow_other (4127 - p) (4127 - k) (λ e. ne (apart p k b below e))) ih
        ∙ sum_of (has ps k) ∙ sym (rw (ne_eqb p k ne) refl)
      where
        apart : (p k : ℕ) → p < 4128 → k < 4128 → 4127 - k ≡ 4127 - p → p ≡ k
        apart p k q r e = omega arith

-- ---- the bytes
byte_flipped : (i : ℕ) (ps bytes : List ℕ) (n : ℕ) → n < length bytes → get_or (flipped_from i ps bytes) n 0 ≡ bit_xor (get_or bytes n 0) (flipped_in (i + n) ps)
byte_flipped i ps [] n h = absurd (omega arith)
byte_flipped i ps (b ∷ bytes) zero h = ap (λ z. bit_xor b (flipped_in z ps)) (none i)
  where
    none : (i : ℕ) → i ≡ i + 0
    none i = omega arith
byte_flipped i ps (b ∷ bytes) (suc n) h = byte_flipped (i + 1) ps bytes n (omega arith) ∙ ap (λ z. bit_xor (get_or bytes n 0) (flipped_in z ps)) (next i n)
  where
    next : (i n : ℕ) → i + 1 + n ≡ i + suc n
    next i n = omega arith

toggled : (b : Bool) (v : ℕ) → (v ≡ 0) ⊎ (v ≡ 1) → (v + cond b 1 0) % 2 ≡ cond b (1 - v) v
toggled true v (inl e) = rw e refl
toggled true v (inr e) = rw e refl
toggled false v (inl e) = rw e refl
toggled false v (inr e) = rw e refl

flipped_word : (ps sector : List ℕ) → Rising 0 4128 ps → length sector ≡ 512 → IsFlipped ps sector 0 (flipped_from 0 ps sector) (check_flips ps)
flipped_word ps sector r long = record { bits = λ k below. at k below (cases_lt k 4096) }
  where
    in_data : (k : ℕ) → k < 4096 → bit_of_word (flipped_from 0 ps sector) (check_flips ps) k ≡ flipped ps k (bit_of_word sector 0 k)
    in_data k low =
        bit_of_data (flipped_from 0 ps sector) (check_flips ps) k low
        ∙ ap (λ z. bit_at z (k % 8)) (byte_flipped 0 ps sector (k / 8) (omega arith) ∙ ap (λ z. bit_xor (get_or sector (k / 8) 0) (flipped_in z ps)) (from_zero (k / 8)))
        ∙ bit_at_xor (get_or sector (k / 8) 0) (flipped_in (k / 8) ps) (k % 8)
        ∙ ap (λ z. (bit_at (get_or sector (k / 8) 0) (k % 8) + z) % 2) (flips_bit 0 ps (k / 8) (k % 8) r (mod_below k 8 (omega arith)) ∙ ap (λ z. cond (has ps z) 1 0) (whole k))
        ∙ toggled (has ps k) (bit_at (get_or sector (k / 8) 0) (k % 8)) (bit_is (get_or sector (k / 8) 0) (k % 8))
        ∙ ap (λ z. flipped ps k z) (sym (bit_of_data sector 0 k low))
      where
        from_zero : (n : ℕ) → 0 + n ≡ n
        from_zero n = omega arith

        whole : (k : ℕ) → 8 * (k / 8) + k % 8 ≡ k
        whole k = omega arith

    in_check : (k : ℕ) → k < 4128 → 4096 ≤ k → bit_of_word (flipped_from 0 ps sector) (check_flips ps) k ≡ flipped ps k (bit_of_word sector 0 k)
    in_check k below high =
        bit_of_check (flipped_from 0 ps sector) (check_flips ps) k high
        ∙ check_bit 0 ps k r high below
        ∙ same (has ps k)
        ∙ ap (λ z. flipped ps k z) (sym (bit_of_check sector 0 k high ∙ bit_at-zero (4127 - k)))
      where
        same : (b : Bool) → cond b 1 0 ≡ cond b (1 - 0) 0
        same true = refl
        same false = refl

    at : (k : ℕ) → k < 4128 → (k < 4096) ⊎ (4096 ≤ k) → bit_of_word (flipped_from 0 ps sector) (check_flips ps) k ≡ flipped ps k (bit_of_word sector 0 k)
    at k below (inl low) = in_data k low
    at k below (inr high) = in_check k below high

mask_small : (i : ℕ) (ps : List ℕ) → flipped_in i ps < 2 ^ 8
mask_small i [] = pow_pos 8
mask_small i (p ∷ ps) = xor_lt 8 (cond (eqb (p / 8) i) (2 ^ (p % 8)) 0) (flipped_in i ps) (one (eqb (p / 8) i)) (mask_small i ps)
  where
    low : (j : ℕ) → j < 8 → 2 ^ j < 2 ^ 8
    low j h = pow_lt j h
      where
        pow_lt : (j : ℕ) → j < 8 → 2 ^ j < 2 ^ 8
        pow_lt zero h = omega arith
        pow_lt (suc zero) h = omega arith
        pow_lt (suc (suc zero)) h = omega arith
        pow_lt (suc (suc (suc zero))) h = omega arith
        pow_lt (suc (suc (suc (suc zero)))) h = omega arith
        pow_lt (suc (suc (suc (suc (suc zero))))) h = omega arith
        pow_lt (suc (suc (suc (suc (suc (suc zero)))))) h = omega arith
        pow_lt (suc (suc (suc (suc (suc (suc (suc zero))))))) h = omega arith
        pow_lt (suc (suc (suc (suc (suc (suc (suc (suc j)))))))) h = absurd (omega arith)

    one : (b : Bool) → cond b (2 ^ (p % 8)) 0 < 2 ^ 8
    one true = low (p % 8) (mod_below p 8 (omega arith))
    one false = pow_pos 8

pub length_flipped : (i : ℕ) (ps bytes : List ℕ) → length (flipped_from i ps bytes) ≡ length bytes
length_flipped i ps [] = refl
length_flipped i ps (b ∷ bytes) = let e : length (flipped_from (i + 1) ps bytes) ≡ length bytes = length_flipped (i + 1) ps bytes in omega (arith, e)

small_flipped : (i : ℕ) (ps bytes : List ℕ) → All (λ byte. byte < 2 ^ 8) bytes → All (λ byte. byte < 2 ^ 8) (flipped_from i ps bytes)
small_flipped i ps [] all = All-nil (λ byte. byte < 2 ^ 8)
small_flipped i ps (b ∷ bytes) all =
    All-cons (λ byte. byte < 2 ^ 8) (bit_xor b (flipped_in i ps)) (flipped_from (i + 1) ps bytes)
    (xor_lt 8 b (flipped_in i ps) (All-head (λ byte. byte < 2 ^ 8) b bytes all) (mask_small i ps))
    (small_flipped (i + 1) ps bytes (All-tail (λ byte. byte < 2 ^ 8) b bytes all))

pub reads_as_told : ReadsAsTold
reads_as_told None sector places data_of = refl
reads_as_told (Some ps) sector places data_of = record {
  right = data_of;
  read = record { size = length_flipped 0 ps sector ∙ data_of.size; small = small_flipped 0 ps sector data_of.small };
  check = check_flips ps;
  flipped = flipped_word ps sector (rising_from_places ps (places ps refl)) data_of.size;
}

-- ---- repaired bytes
xor_zero_l : (a : ℕ) → bit_xor 0 a ≡ a
xor_zero_l a = xor_comm 0 a ∙ xor_zero_r a

same_of_xor : (a b : ℕ) → bit_xor a b ≡ 0 → a ≡ b
same_of_xor a b e = sym (xor_zero_r a) ∙ ap (bit_xor a) (sym (xor_self b)) ∙ sym (xor_assoc a b b) ∙ ap (λ z. bit_xor z b) e ∙ xor_zero_l b

abbrev blank : List ℕ
blank = replicate 512 0

mask_is : (ps : List ℕ) (at q i : ℕ) → IsShortBurst ps → IsBurst at q (remainder ps) → i < 512 → flipped_in i ps ≡ burst_byte at q i
mask_is ps at q i short burst h =
    same_of_xor (flipped_in i ps) (burst_byte at q i)
    (ap (λ z. bit_xor z (burst_byte at q i)) (sym (byte_there i h))
    ∙ byte_repaired at q i blank (flipped_from 0 ps blank) 0 (check_flips ps) burst.small word h small_old (subst (λ z. z < 2 ^ 8) (sym (byte_there i h)) (mask_small i ps))
    ∙ get_or-replicate 512 i 0 0 h)
  where
    long : length blank ≡ 512
    long = refl

    byte_there : (i : ℕ) → i < 512 → get_or (flipped_from 0 ps blank) i 0 ≡ flipped_in i ps
    byte_there i h =
        byte_flipped 0 ps (replicate 512 0) i h
        ∙ ap (λ z. bit_xor z (flipped_in (0 + i) ps)) (get_or-replicate 512 i 0 0 h)
        ∙ xor_zero_l (flipped_in (0 + i) ps) ∙ ap (λ z. flipped_in z ps) (from_zero i)
      where
        from_zero : (n : ℕ) → 0 + n ≡ n
        from_zero n = omega arith

    small_old : get_or blank i 0 < 2 ^ 8
    small_old = subst (λ z. z < 2 ^ 8) (sym (get_or-replicate 512 i 0 0 h)) (pow_pos 8)

    word : IsFlipped (places_of 11 (at - 1) q) blank 0 (flipped_from 0 ps blank) (check_flips ps)
    word = subst (λ z. IsFlipped z blank 0 (flipped_from 0 ps blank) (check_flips ps)) (sym (burst_named (Burst at q) ps short burst)) (flipped_word ps blank (rising_from_places ps short.set) long)

repaired_back : (ps : List ℕ) (at q i size : ℕ) (bytes : List ℕ) → ((k : ℕ) → k < 512 → flipped_in k ps ≡ burst_byte at q k) → i + length bytes ≤ 512
    → repaired_from i at q (take size (flipped_from i ps bytes)) ≡ take size bytes
repaired_back ps at q i zero bytes same room = refl
repaired_back ps at q i (suc size) [] same room = refl
repaired_back ps at q i (suc size) (b ∷ bytes) same room =
    ap₂ (λ x y. x ∷ y)
    (ap (bit_xor (bit_xor b (flipped_in i ps))) (sym (same i (omega arith))) ∙ xor_assoc b (flipped_in i ps) (flipped_in i ps) ∙ ap (bit_xor b) (xor_self (flipped_in i ps)) ∙ xor_zero_r b)
    (repaired_back ps at q (i + 1) size bytes same (omega arith))

pub repairs_bursts : RepairsBursts
repairs_bursts ps sector at q size short burst long = repaired_back ps at q 0 size sector (λ k h. mask_is ps at q k short burst h) (omega (arith, long))
