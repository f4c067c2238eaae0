-- The bytes of a burst, and of repaired data.
use Rattle.std.proofs.Common.{◌≡◌, ℕ, zero, suc, ◌+◌, ◌-◌, ◌*◌, ◌/◌, ◌%◌, ◌^◌, ◌<◌, ◌≤◌, List, [], ◌∷◌, get_or, length, refl, sym, ap, ◌∙◌, arith, mul_assoc, pow_mono}
use Rattle.std.proofs.Math.Nat.{div-eq_of_lt}
use Rattle.std.proofs.lemmas.Nat.{shl-shr, shr-shr, pow-add, shl_below}
use lib.Bits.{bit_xor}
use Rattle.fire_code.specs.Repair.{burst_byte}
use Rattle.driver_machine.specs.Repaired.{repaired_from}

-- repaired data has as many bytes
pub length-repaired : (i at q : ℕ) (bytes : List ℕ) → length (repaired_from i at q bytes) ≡ length bytes
unfolding repaired_from
length-repaired i at q [] = refl
length-repaired i at q (b ∷ bytes) = ap suc (length-repaired (suc i) at q bytes)

-- and each of them is flipped by its byte of the burst
pub byte-repaired : (i at q j : ℕ) (bytes : List ℕ) → j < length bytes → get_or (repaired_from i at q bytes) j 0 ≡ bit_xor (get_or bytes j 0) (burst_byte at q (i + j))
unfolding repaired_from
byte-repaired i at q j [] h = absurd (omega arith)
byte-repaired i at q zero (b ∷ bytes) h = ap (λ n. bit_xor b (burst_byte at q n)) none
  where
    none : i ≡ i + 0
    none = omega arith
byte-repaired i at q (suc j) (b ∷ bytes) h = byte-repaired (suc i) at q j bytes (omega arith) ∙ ap (λ n. bit_xor (get_or bytes j 0) (burst_byte at q n)) one_more
  where
    one_more : suc i + j ≡ i + suc j
    one_more = omega arith

-- the burst's byte j behind the first
pub burst-behind : (at q first s j : ℕ) → at - 1 ≡ 8 * first + s → burst_byte at q (first + j) ≡ q * 2 ^ s / 2 ^ (8 * j) % 2 ^ 8
unfolding burst_byte
burst-behind at q first s j e =
    ap (λ n. q * 2 ^ n / 2 ^ (8 * (first + j)) % 2 ^ 8) (e ∙ swapped (8 * first) s)
    ∙ ap (λ n. n / 2 ^ (8 * (first + j)) % 2 ^ 8) (ap (λ n. q * n) (pow-add 2 s (8 * first)) ∙ sym (mul_assoc q (2 ^ s) (2 ^ (8 * first))))
    ∙ ap (λ n. q * 2 ^ s * 2 ^ (8 * first) / 2 ^ n % 2 ^ 8) (apart first j)
    ∙ ap (λ n. n % 2 ^ 8) (sym (shr-shr (q * 2 ^ s * 2 ^ (8 * first)) (8 * first) (8 * j)) ∙ ap (λ n. n / 2 ^ (8 * j)) (shl-shr (q * 2 ^ s) (8 * first)))
  where
    swapped : (a b : ℕ) → a + b ≡ b + a
    swapped a b = omega arith

    apart : (a b : ℕ) → 8 * (a + b) ≡ 8 * a + 8 * b
    apart a b = omega arith

-- no byte before the first is flipped
pub burst-before : (at q i : ℕ) → i < (at - 1) / 8 → burst_byte at q i ≡ 0
unfolding burst_byte
burst-before at q i h =
    ap (λ n. q * 2 ^ n / 2 ^ (8 * i) % 2 ^ 8) parts
    ∙ ap (λ n. n / 2 ^ (8 * i) % 2 ^ 8) (ap (λ n. q * n) (pow-add 2 (rest + 8) (8 * i)) ∙ sym (mul_assoc q (2 ^ (rest + 8)) (2 ^ (8 * i))))
    ∙ ap (λ n. n % 2 ^ 8) (shl-shr (q * 2 ^ (rest + 8)) (8 * i) ∙ ap (λ n. q * n) (pow-add 2 rest 8) ∙ sym (mul_assoc q (2 ^ rest) (2 ^ 8)))
    ∙ whole (q * 2 ^ rest)
  where
    rest : ℕ
    rest = at - 1 - 8 * i - 8

    parts : at - 1 ≡ rest + 8 + 8 * i
    parts = omega arith

    whole : (a : ℕ) → a * 2 ^ 8 % 2 ^ 8 ≡ 0
    whole a = omega arith

-- and none more than two behind it
pub burst-after : (at q i : ℕ) → q < 2 ^ 11 → (at - 1) / 8 + 2 < i → burst_byte at q i ≡ 0
burst-after at q i hq h =
    ap (burst_byte at q) parts ∙ burst-behind at q first s (3 + more) (omega arith)
    ∙ ap (λ n. n % 2 ^ 8) (div-eq_of_lt {n = q * 2 ^ s} {m = 2 ^ (8 * (3 + more))} (omega (arith, shl_below q 11 s hq, low, large)))
  where
    first : ℕ
    first = (at - 1) / 8

    s : ℕ
    s = (at - 1) % 8

    more : ℕ
    more = i - first - 3

    parts : i ≡ first + (3 + more)
    parts = omega arith

    bound : s < 8
    bound = omega arith

    large : 2 ^ 24 ≤ 2 ^ (8 * (3 + more))
    large = pow_mono {i = 24} {j = 8 * (3 + more)} (omega arith)

    low : 2 ^ (11 + s) ≤ 2 ^ 18
    low = pow_mono {i = 11 + s} {j = 18} (omega arith)
