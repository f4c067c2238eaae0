-- The laws of the repair.
use Rattle.std.proofs.Common.{◌≡◌, ℕ, ◌+◌, ◌-◌, ◌*◌, ◌/◌, ◌%◌, ◌^◌, ◌<◌, List, get_or, length, refl, sym, ap, ◌∙◌, subst, arith, ◌⊎◌, inl, inr, nat_lt, Bool, true, false}
use Rattle.std.proofs.lemmas.Nat.{shr-shr, pow_pos}
use Rattle.std.proofs.lemmas.Nat.Bits.{bit_at_xor, bit_at-zero, bit_at_cat_low, bit_at_cat_high}
use Rattle.std.proofs.lemmas.Bool.{ltb-true, ltb-false}
use Rattle.std.proofs.lemmas.List.Elements.{All-get_or}
use Rattle.std.proofs.lemmas.Grind.{same_number_lists}
use Rattle.std.specs.Int.{bit_at}
use lib.Bits.{bit_xor, xor_zero_r}
use Rattle.fire_code.specs.Remainder.{remainder}
use Rattle.fire_code.specs.Burst.{IsShortBurst, IsBurst, places_of}
use Rattle.fire_code.specs.Noise.{IsFlipped}
use Rattle.fire_code.specs.Repair.{burst_byte}
use Rattle.fire_code.specs.Word.{IsData, word_remainder}
use Rattle.fire_code.specs.declared.Verdict.TheVariants.{Burst}
use Rattle.fire_code.proofs.Laws.{burst_named, repaired as word_named}
use Rattle.fire_code.proofs.Repairs.{byte_repaired, byte_bit}
use Rattle.driver_machine.specs.Repaired.{repaired, data_bit, pattern_bit}
use Rattle.driver_machine.proofs.ecc_repair.Bytes.{length-repaired, byte-repaired, burst-before, burst-after}

-- a byte of repaired data
byte_here : (at q j : ℕ) (bytes : List ℕ) → j < length bytes → get_or (repaired at q bytes) j 0 ≡ bit_xor (get_or bytes j 0) (burst_byte at q j)
byte_here at q j bytes h = byte-repaired 0 at q j bytes h ∙ ap (λ n. bit_xor (get_or bytes j 0) (burst_byte at q n)) (none j)
  where
    none : (j : ℕ) → 0 + j ≡ j
    none j = omega arith

-- ---- at most three bytes change
pub others_stay : (at q i : ℕ) (bytes : List ℕ) → q < 2048 → i < length bytes → (i < (at - 1) / 8) ⊎ ((at - 1) / 8 + 2 < i) → get_or (repaired at q bytes) i 0 ≡ get_or bytes i 0
others_stay at q i bytes hq h far = byte_here at q i bytes h ∙ ap (bit_xor (get_or bytes i 0)) (zero_byte far) ∙ xor_zero_r (get_or bytes i 0)
  where
    zero_byte : (i < (at - 1) / 8) ⊎ ((at - 1) / 8 + 2 < i) → burst_byte at q i ≡ 0
    zero_byte (inl before) = burst-before at q i before
    zero_byte (inr behind) = burst-after at q i hq behind

-- a bit of the pattern that is moved to its first place
moved_bit : (at q k : ℕ) → bit_at (q * 2 ^ (at - 1)) k ≡ pattern_bit at q k
moved_bit at q k = by_test (nat_lt k (at - 1)) refl
  where
    none : (n : ℕ) → n ≡ n + 0
    none n = omega arith

    by_test : (t : Bool) → nat_lt k (at - 1) ≡ t → bit_at (q * 2 ^ (at - 1)) k ≡ pattern_bit at q k
    by_test true e = rw e (ap (λ n. bit_at n k) (none (q * 2 ^ (at - 1))) ∙ bit_at_cat_low q (at - 1) 0 k (ltb-true k (at - 1) e) ∙ bit_at-zero k)
    by_test false e = rw e (ap (λ n. bit_at n k) (none (q * 2 ^ (at - 1))) ∙ bit_at_cat_high q (at - 1) 0 k (pow_pos (at - 1)) (ltb-false k (at - 1) e))

pub places_flipped : (at q place : ℕ) (bytes : List ℕ) → place < 8 * length bytes → data_bit (repaired at q bytes) place ≡ (data_bit bytes place + pattern_bit at q place) % 2
unfolding burst_byte
places_flipped at q place bytes h =
    ap (λ n. bit_at n (place % 8)) (byte_here at q (place / 8) bytes (omega arith))
    ∙ bit_at_xor (get_or bytes (place / 8) 0) (q * 2 ^ (at - 1) / 2 ^ (8 * (place / 8)) % 2 ^ 8) (place % 8)
    ∙ ap (λ n. (bit_at (get_or bytes (place / 8) 0) (place % 8) + n) % 2)
    (byte_bit (q * 2 ^ (at - 1)) (place / 8) (place % 8) (omega arith) ∙ ap (bit_at (q * 2 ^ (at - 1))) parts ∙ moved_bit at q place)
  where
    parts : 8 * (place / 8) + place % 8 ≡ place
    parts = omega arith

-- ---- a sector that is read with a short burst
-- the burst that was named is the one that struck
restored_by : (at q : ℕ) (places sector read : List ℕ) (check other : ℕ) → IsData sector → IsData read → q < 2 ^ 11 → places_of 11 (at - 1) q ≡ places → IsFlipped places sector check read other → repaired at q read ≡ sector
restored_by at q places sector read check other s r hq named flips =
    same_number_lists (repaired at q read) sector (length-repaired 0 at q read ∙ r.size ∙ sym s.size) (λ i h. each i (omega (arith, length-repaired 0 at q read, r.size)))
  where
    small : (bytes : List ℕ) → IsData bytes → (i : ℕ) → i < 512 → get_or bytes i 0 < 2 ^ 8
    small bytes d i h = All-get_or (λ byte. byte < 2 ^ 8) bytes i 0 (omega (arith, d.size)) d.small

    each : (i : ℕ) → i < 512 → get_or (repaired at q read) i 0 ≡ get_or sector i 0
    each i h =
        byte_here at q i read (omega (arith, r.size))
        ∙ byte_repaired at q i sector read check other hq (subst (λ ks. IsFlipped ks sector check read other) (sym named) flips) h (small sector s i h) (small read r i h)

pub restored_places : (at q : ℕ) (places sector read : List ℕ) (check other : ℕ) → IsData sector → IsData read → IsShortBurst places → IsFlipped places sector check read other → IsBurst at q (remainder places) → repaired at q read ≡ sector
restored_places at q places sector read check other s r short flips burst =
    restored_by at q places sector read check other s r burst.small (burst_named (Burst at q) places short burst) flips

pub restored_word : (at q : ℕ) (places sector read : List ℕ) (check other : ℕ) → IsData sector → IsData read → IsShortBurst places → IsFlipped places sector check read other → word_remainder sector check ≡ 0 → IsBurst at q (word_remainder read other) → repaired at q read ≡ sector
restored_word at q places sector read check other s r short flips right burst =
    restored_by at q places sector read check other s r burst.small (word_named (Burst at q) places sector check read other burst right short flips) flips
