-- The bytes of a burst that are flipped one after another.
use Rattle.std.proofs.Common.{◌≡◌, ℕ, ◌+◌, ◌-◌, ◌*◌, ◌/◌, ◌%◌, ◌^◌, ◌<◌, ◌≤◌, List, get_or, length, refl, sym, ap, ap₂, ◌∙◌, arith, ◌⊎◌, inl, inr, min, pow_mono, get_or-set_other}
use Rattle.std.proofs.Math.ListN.{set, length-set}
use Rattle.std.proofs.lemmas.Bool.{cases_lt}
use Rattle.std.proofs.lemmas.Nat.{shr-shr, shl_below}
use Rattle.std.proofs.lemmas.Grind.{same_number_lists, get_or-set_at}
use lib.Bits.{bit_xor, xor_zero_r}
use Rattle.fire_code.specs.Repair.{burst_byte}
use Rattle.driver_machine.specs.Repaired.{repaired}
use Rattle.driver_machine.proofs.ecc_repair.Bytes.{length-repaired, byte-repaired, burst-behind, burst-before, burst-after}

-- the bytes below i are flipped, from the first on, and what is left of the burst comes next
pub record IsFlippedBelow (at q : ℕ) (old now : List ℕ) (i burst : ℕ) : Type 0 where
  pub size : length now ≡ length old
  pub rest : burst ≡ q * 2 ^ ((at - 1) % 8) / 2 ^ (8 * (i - (at - 1) / 8))
  pub below : (j : ℕ) → j < i → j < length old → get_or now j 0 ≡ bit_xor (get_or old j 0) (burst_byte at q j)
  pub above : (j : ℕ) → i ≤ j → get_or now j 0 ≡ get_or old j 0

-- before the first byte nothing is flipped
pub flipped_first : (at q first wide : ℕ) (old : List ℕ) → q < 2 ^ 11 → wide ≡ q → first ≡ (at - 1) / 8 → IsFlippedBelow at q old old first (wide * 2 ^ ((at - 1) % 8) % 2 ^ 32)
flipped_first at q first wide old hq same begin = record {
  size = refl;
  rest = ap (λ n. n * 2 ^ s % 2 ^ 32) same ∙ narrow (q * 2 ^ s) (omega (arith, shl_below q 11 s hq, low)) ∙ sym (ap (λ n. q * 2 ^ s / 2 ^ n) none ∙ whole (q * 2 ^ s));
  below = λ j lt h. sym (ap (bit_xor (get_or old j 0)) (burst-before at q j (omega arith)) ∙ xor_zero_r (get_or old j 0));
  above = λ j le. refl;
}
  where
    s : ℕ
    s = (at - 1) % 8

    low : 2 ^ (11 + s) ≤ 2 ^ 18
    low = pow_mono {i = 11 + s} {j = 18} (omega arith)

    none : 8 * (first - (at - 1) / 8) ≡ 0
    none = omega arith

    whole : (a : ℕ) → a / 2 ^ 0 ≡ a
    whole a = omega arith

    narrow : (a : ℕ) → a < 2 ^ 18 → a % 2 ^ 32 ≡ a
    narrow a h = omega arith

-- one more byte
pub flipped_next : (at q : ℕ) (old now : List ℕ) (i burst : ℕ) → IsFlippedBelow at q old now i burst → (at - 1) / 8 ≤ i → i < length old
    → IsFlippedBelow at q old (set now i (bit_xor (get_or now i 0) (burst % 256))) (i + 1) (burst / 256)
flipped_next at q old now i burst f from h = record {
  size = length-set now i (bit_xor (get_or now i 0) (burst % 256)) ∙ f.size;
  rest = ap (λ n. n / 256) f.rest ∙ shr-shr (q * 2 ^ ((at - 1) % 8)) (8 * (i - first)) 8 ∙ ap (λ n. q * 2 ^ ((at - 1) % 8) / 2 ^ n) more;
  below = λ j lt small. by_place j small (cases_lt j i) lt;
  above = λ j le. get_or-set_other now i j (bit_xor (get_or now i 0) (burst % 256)) 0 (λ e. omega arith) ∙ f.above j (omega arith);
}
  where
    first : ℕ
    first = (at - 1) / 8

    more : 8 * (i - first) + 8 ≡ 8 * (i + 1 - first)
    more = omega arith

    by_place : (j : ℕ) → j < length old → (j < i) ⊎ (i ≤ j) → j < i + 1 → get_or (set now i (bit_xor (get_or now i 0) (burst % 256))) j 0 ≡ bit_xor (get_or old j 0) (burst_byte at q j)
    by_place j small (inl lt) lt' = get_or-set_other now i j (bit_xor (get_or now i 0) (burst % 256)) 0 (λ e. omega arith) ∙ f.below j lt small
    by_place j small (inr le) lt' =
        get_or-set_at now i j (bit_xor (get_or now i 0) (burst % 256)) 0 same (omega (arith, f.size))
        ∙ ap₂ bit_xor (f.above i (omega arith) ∙ ap (λ n. get_or old n 0) (sym same)) (ap (λ n. n % 2 ^ 8) f.rest ∙ sym (burst-behind at q first ((at - 1) % 8) (i - first) (omega arith)) ∙ ap (burst_byte at q) parts)
      where
        same : j ≡ i
        same = omega arith

        parts : first + (i - first) ≡ j
        parts = omega arith

-- at the end all are as they should be
pub flipped_all : (at q : ℕ) (old now : List ℕ) (i burst : ℕ) → IsFlippedBelow at q old now i burst → q < 2 ^ 11 → min ((at - 1) / 8 + 3) (length old) ≤ i → now ≡ repaired at q old
flipped_all at q old now i burst f hq end = same_number_lists now (repaired at q old) (f.size ∙ sym (length-repaired 0 at q old)) (λ j h. each j (omega (arith, f.size)) (cases_lt j i))
  where
    none : (j : ℕ) → 0 + j ≡ j
    none j = omega arith

    here : (j : ℕ) → j < length old → get_or (repaired at q old) j 0 ≡ bit_xor (get_or old j 0) (burst_byte at q j)
    here j h = byte-repaired 0 at q j old h ∙ ap (λ n. bit_xor (get_or old j 0) (burst_byte at q n)) (none j)

    behind : (j : ℕ) → j < length old → i ≤ j → (at - 1) / 8 + 2 < j
    behind j h le = omega arith

    each : (j : ℕ) → j < length old → (j < i) ⊎ (i ≤ j) → get_or now j 0 ≡ get_or (repaired at q old) j 0
    each j h (inl lt) = f.below j lt h ∙ sym (here j h)
    each j h (inr le) = f.above j le ∙ sym (here j h ∙ ap (bit_xor (get_or old j 0)) (burst-after at q j hq (behind j h le)) ∙ xor_zero_r (get_or old j 0))
