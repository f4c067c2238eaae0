-- A byte that is repaired by a burst's pattern.
use Rattle.std.proofs.Common.{◌≡◌, ℕ, zero, suc, ◌+◌, ◌-◌, ◌*◌, ◌/◌, ◌%◌, ◌^◌, ◌<◌, ◌≤◌, List, ◌∷◌, get_or, refl, sym, ap, ap₂, ◌∙◌, subst, arith, ◌⊎◌, inl, inr, cond, eqb, Bool, true, false, mul_assoc, pow-suc}
use Rattle.std.specs.Int.{bit_at}
use Rattle.std.specs.List.{list_any}
use Rattle.std.proofs.lemmas.Bool.{cases_lt, eq-eqb, ne_eqb}
use Rattle.std.proofs.lemmas.Nat.{mod_below, pow_pos, shl-shr, shr-shr, pow-add}
use Rattle.std.proofs.lemmas.Nat.Bits.{bit_at_xor, same_from_bits_below}
use lib.Bits.{bit_xor, xor_lt}
use Rattle.fire_code.specs.Burst.{places_of}
use Rattle.fire_code.specs.Word.{bit_of_word}
use Rattle.fire_code.specs.Noise.{IsFlipped}
use Rattle.fire_code.specs.Repair.{burst_byte}
use Rattle.fire_code.proofs.Register.{bit_is}
use Rattle.fire_code.proofs.Rising.{parity, places_of-zero, places_of-odd, places_of-even, places_of-Rising}
use Rattle.fire_code.proofs.Flips.{none_before}
use Rattle.fire_code.proofs.Toggle.{bit_of_data}

-- whether place k is one of these
abbrev has : List ℕ → ℕ → Bool
has ks k = list_any (λ p. eqb p k) ks

has_first : (ks : List ℕ) (p k : ℕ) → p ≡ k → has (p ∷ ks) k ≡ true
has_first ks p k e = rw (eq-eqb p k e) refl

has_later : (ks : List ℕ) (p k : ℕ) → (p ≡ k → ⊥) → has (p ∷ ks) k ≡ has ks k
has_later ks p k ne = rw (ne_eqb p k ne) refl

-- no place of a pattern comes before its first
has_before : (n first q k : ℕ) → q < 2 ^ n → k < first → has (places_of n first q) k ≡ false
has_before n first q k h lt = none_before first (first + n) (places_of n first q) k (places_of-Rising n n first (first + n) q h (omega arith)) lt

-- the bits of a pattern are its places
has_bit : (n first q d : ℕ) → q < 2 ^ n → has (places_of n first q) (first + d) ≡ eqb (q / 2 ^ d % 2) 1
has_bit zero first q d h = rw (places_of-zero first q) (sym (none q d (omega arith)))
  where
    none : (q d : ℕ) → q ≡ 0 → eqb (q / 2 ^ d % 2) 1 ≡ false
    none q d e = ne_eqb (q / 2 ^ d % 2) 1 (λ o. zero_bit d (subst (λ z. z / 2 ^ d % 2 ≡ 1) e o))
      where
        zero_bit : (d : ℕ) → 0 / 2 ^ d % 2 ≡ 1 → ⊥
        zero_bit d o = let z : 0 / 2 ^ d ≡ 0 = ap (λ y. y / 2 ^ d) (sym (zero_of (2 ^ d))) ∙ shl-shr 0 d in omega arith
          where
            zero_of : (p : ℕ) → 0 * p ≡ 0
            zero_of p = omega arith
has_bit (suc n) first q d h = at d (parity q) (λ e. has_bit n (first + 1) (q / 2) e half)
  where
    half : q / 2 < 2 ^ n
    half = omega (arith, h, pow-suc 2 n)

    shifted : (first d : ℕ) → first + suc d ≡ first + 1 + d
    shifted first d = omega arith

    none : (first : ℕ) → first + 0 ≡ first
    none first = omega arith

    halved : (q d : ℕ) → q / 2 / 2 ^ d ≡ q / 2 ^ suc d
    halved q d = shr-shr q 1 d ∙ ap (λ z. q / 2 ^ z) (one_more d)
      where
        one_more : (d : ℕ) → 1 + d ≡ suc d
        one_more d = omega arith

    whole : (q : ℕ) → q ≡ q / 2 ^ 0
    whole q = omega arith

    later : (d : ℕ) → ((e : ℕ) → has (places_of n (first + 1) (q / 2)) (first + 1 + e) ≡ eqb (q / 2 / 2 ^ e % 2) 1) → has (places_of n (first + 1) (q / 2)) (first + suc d) ≡ eqb (q / 2 ^ suc d % 2) 1
    later d ih = ap (has (places_of n (first + 1) (q / 2))) (shifted first d) ∙ ih d ∙ ap (λ z. eqb (z % 2) 1) (halved q d)

    at : (d : ℕ) → (q % 2 ≡ 1) ⊎ (q % 2 ≡ 0) → ((e : ℕ) → has (places_of n (first + 1) (q / 2)) (first + 1 + e) ≡ eqb (q / 2 / 2 ^ e % 2) 1) → has (places_of (suc n) first q) (first + d) ≡ eqb (q / 2 ^ d % 2) 1
    at zero (inl o) ih =
        ap (λ z. has z (first + 0)) (places_of-odd n first q o) ∙ has_first (places_of n (first + 1) (q / 2)) first (first + 0) (sym (none first))
        ∙ sym (ap (λ z. eqb (z % 2) 1) (sym (whole q)) ∙ eq-eqb (q % 2) 1 o)
    at zero (inr o) ih =
        ap (λ z. has z (first + 0)) (places_of-even n first q o) ∙ has_before n (first + 1) (q / 2) (first + 0) half (omega arith)
        ∙ sym (ap (λ z. eqb (z % 2) 1) (sym (whole q)) ∙ ne_eqb (q % 2) 1 (λ e. omega arith))
    at (suc d) (inl o) ih =
        ap (λ z. has z (first + suc d)) (places_of-odd n first q o) ∙ has_later (places_of n (first + 1) (q / 2)) first (first + suc d) (λ e. omega arith) ∙ later d ih
    at (suc d) (inr o) ih = ap (λ z. has z (first + suc d)) (places_of-even n first q o) ∙ later d ih

-- ---- the bits of a moved pattern
moved_low : (q f k : ℕ) → k < f → bit_at (q * 2 ^ f) k ≡ 0
moved_low q f k lt =
    ap (λ z. z / 2 ^ k % 2) (ap (λ z. q * 2 ^ z) (sym (parts f k lt)) ∙ ap (λ z. q * z) (pow-add 2 (suc (f - suc k)) k) ∙ sym (mul_assoc q (2 ^ suc (f - suc k)) (2 ^ k)))
    ∙ ap (λ z. z % 2) (shl-shr (q * 2 ^ suc (f - suc k)) k)
    ∙ ap (λ z. z % 2) (ap (λ z. q * z) (pow-suc 2 (f - suc k)) ∙ sym (mul_assoc q (2 ^ (f - suc k)) 2))
    ∙ even (q * 2 ^ (f - suc k))
  where
    parts : (f k : ℕ) → k < f → suc (f - suc k) + k ≡ f
    parts f k lt = omega arith

    even : (a : ℕ) → a * 2 % 2 ≡ 0
    even a = omega arith

moved_high : (q f d : ℕ) → bit_at (q * 2 ^ f) (f + d) ≡ q / 2 ^ d % 2
moved_high q f d = ap (λ z. z % 2) (sym (shr-shr (q * 2 ^ f) f d) ∙ ap (λ z. z / 2 ^ d) (shl-shr q f))

-- place k of a pattern from f on, as a bit of the moved pattern
moved_bit : (q f k : ℕ) → q < 2 ^ 11 → has (places_of 11 f q) k ≡ eqb (bit_at (q * 2 ^ f) k) 1
moved_bit q f k h = at (cases_lt k f)
  where
    at : (k < f) ⊎ (f ≤ k) → has (places_of 11 f q) k ≡ eqb (bit_at (q * 2 ^ f) k) 1
    at (inl lt) = has_before 11 f q k h lt ∙ sym (ne_eqb (bit_at (q * 2 ^ f) k) 1 (λ e. let z : bit_at (q * 2 ^ f) k ≡ 0 = moved_low q f k lt in omega arith))
    at (inr le) =
        ap (has (places_of 11 f q)) (sym (parts f k le)) ∙ has_bit 11 f q (k - f) h
        ∙ ap (λ z. eqb z 1) (sym (moved_high q f (k - f)) ∙ ap (bit_at (q * 2 ^ f)) (parts f k le))
      where
        parts : (f k : ℕ) → f ≤ k → f + (k - f) ≡ k
        parts f k le = omega arith

-- a byte of a number
pub byte_bit : (x i b : ℕ) → b < 8 → bit_at (x / 2 ^ (8 * i) % 2 ^ 8) b ≡ bit_at x (8 * i + b)
byte_bit x i b hb = low (x / 2 ^ (8 * i)) b hb ∙ ap (λ z. z % 2) (shr-shr x (8 * i) b)
  where
    low : (y b : ℕ) → b < 8 → bit_at (y % 2 ^ 8) b ≡ bit_at y b
    low y zero h = omega arith
    low y (suc zero) h = omega arith
    low y (suc (suc zero)) h = omega arith
    low y (suc (suc (suc zero))) h = omega arith
    low y (suc (suc (suc (suc zero)))) h = omega arith
    low y (suc (suc (suc (suc (suc zero))))) h = omega arith
    low y (suc (suc (suc (suc (suc (suc zero)))))) h = omega arith
    low y (suc (suc (suc (suc (suc (suc (suc zero))))))) h = omega arith
    low y (suc (suc (suc (suc (suc (suc (suc (suc b)))))))) h = absurd (omega arith)

-- one bit flipped back by an exclusive or
toggle_back : (v m o : ℕ) → (o ≡ 0) ⊎ (o ≡ 1) → (m ≡ 0) ⊎ (m ≡ 1) → v ≡ cond (eqb m 1) (1 - o) o → (v + m) % 2 ≡ o
toggle_back v m o (inl p) (inl q) e = rw (e, p, q) refl
toggle_back v m o (inl p) (inr q) e = rw (e, p, q) refl
toggle_back v m o (inr p) (inl q) e = rw (e, p, q) refl
toggle_back v m o (inr p) (inr q) e = rw (e, p, q) refl

pub byte_repaired : (at q i : ℕ) (old new : List ℕ) (c d : ℕ) → q < 2 ^ 11 → IsFlipped (places_of 11 (at - 1) q) old c new d → i < 512 → get_or old i 0 < 2 ^ 8 → get_or new i 0 < 2 ^ 8
    → bit_xor (get_or new i 0) (burst_byte at q i) ≡ get_or old i 0
unfolding burst_byte
byte_repaired at q i old new c d hq f hi ho hn =
    same_from_bits_below 8 (bit_xor (get_or new i 0) (burst_byte at q i)) (get_or old i 0)
    (xor_lt 8 (get_or new i 0) (burst_byte at q i) hn (mod_below (q * 2 ^ (at - 1) / 2 ^ (8 * i)) (2 ^ 8) (pow_pos 8))) ho each
  where
    moved : ℕ
    moved = q * 2 ^ (at - 1)

    bit_here : (bytes : List ℕ) (check b : ℕ) → b < 8 → bit_of_word bytes check (8 * i + b) ≡ bit_at (get_or bytes i 0) b
    bit_here bytes check b hb = bit_of_data bytes check (8 * i + b) (omega arith) ∙ ap₂ (λ x y. bit_at (get_or bytes x 0) y) (row i b hb) (column i b hb)
      where
        row : (i b : ℕ) → b < 8 → (8 * i + b) / 8 ≡ i
        row i b h = omega arith

        column : (i b : ℕ) → b < 8 → (8 * i + b) % 8 ≡ b
        column i b h = omega arith

    each : (b : ℕ) → b < 8 → bit_at (bit_xor (get_or new i 0) (q * 2 ^ (at - 1) / 2 ^ (8 * i) % 2 ^ 8)) b ≡ bit_at (get_or old i 0) b
    each b hb =
        bit_at_xor (get_or new i 0) (q * 2 ^ (at - 1) / 2 ^ (8 * i) % 2 ^ 8) b
        ∙ ap (λ z. (bit_at (get_or new i 0) b + z) % 2) (byte_bit (q * 2 ^ (at - 1)) i b hb)
        ∙ toggle_back (bit_at (get_or new i 0) b) (bit_at (q * 2 ^ (at - 1)) (8 * i + b)) (bit_at (get_or old i 0) b) (bit_is (get_or old i 0) b) (bit_is (q * 2 ^ (at - 1)) (8 * i + b))
        (sym (bit_here new d b hb) ∙ f.bits (8 * i + b) (omega arith) ∙ ap₂ (λ x y. cond x (1 - y) y) (moved_bit q (at - 1) (8 * i + b) hq) (bit_here old c b hb))
