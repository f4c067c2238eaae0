-- Eight steps of the register at once.
use Rattle.std.proofs.Common.{◌≡◌, ℕ, zero, suc, ◌+◌, ◌*◌, ◌/◌, ◌%◌, ◌^◌, ◌<◌, List, get_or, true, eqb, refl, sym, ap, ap₂, ◌∙◌, subst, arith, pow-suc, mul_assoc, div-add-mod', zero-mul, mod-eq_of_lt, lt_of_lt_of_le, pow_mono}
use Rattle.std.specs.Int.{reverse_bits, reverse_bits_onto, w8}
use Rattle.std.proofs.lemmas.Bool.{agree_below, agree_below_at}
use Rattle.std.proofs.lemmas.Nat.{mod_below, pow_pos, shl_below, pow-add, shr-shr}
use lib.Bits.{bit_xor, xor_shifted, xor_assoc, xor_comm, xor_zero_r}
use Rattle.fire_code.specs.Remainder.{times_x, repeat, power}
use Rattle.fire_code.specs.Residue.{clock}
use Rattle.fire_code.specs.Burst.{reversed}
use Rattle.fire_code.specs.Word.{bit_of_word}
use Rattle.fire_code.proofs.Linear.{IsLinear, linear_after, linear_xor, linear_mod, linear_div, linear_shl}
use Rattle.fire_code.proofs.Register.{repeat_comm}
use Rattle.fire_code.proofs.Fold.{times_x-linear, same_by_test}
use Rattle.fire_code.proofs.Window.{clock-small, repeat-small}
use Rattle.fire_code.proofs.Powers.{repeat_times_x-linear, repeat_power, power-lt}
use Rattle.fire_code.proofs.Bursts.{by_test, reversed-lt}
use Rattle.fire_code.proofs.Words.{fed, data_bit}

reverse_bits-is : (v : ℕ) → v < 256 → reverse_bits w8 v ≡ reversed 8 v
unfolding reverse_bits_onto reversed
reverse_bits-is = by_test (λ v. reverse_bits w8 v) (λ v. reversed 8 v) 256 refl

unfed : (bit : ℕ → ℕ) (k : ℕ) → fed bit (suc k) ≡ times_x (bit_xor (fed bit k) (bit k * 2 ^ 31))
unfolding fed
unfed bit k = refl

times_x-small : (v : ℕ) → v < 2 ^ 31 → times_x v ≡ v * 2
unfolding times_x clock
times_x-small v h = clock-small 31 0x00A00805 v h

-- a bit above n others, all moved up by m
moved_up : (b r n m : ℕ) → n + m ≡ 31 → r < 2 ^ n → bit_xor (b * 2 ^ 31) (r * 2 ^ m) ≡ (b * 2 ^ n + r) * 2 ^ m
moved_up b r n m e h =
    ap (λ z. bit_xor z (r * 2 ^ m)) (ap (λ z. b * 2 ^ z) (sym e) ∙ ap (λ z. b * z) (pow-add 2 n m) ∙ sym (mul_assoc b (2 ^ n) (2 ^ m)))
    ∙ sym (linear_shl m (b * 2 ^ n) r)
    ∙ ap (λ z. z * 2 ^ m) (xor_shifted b n r h)

-- the register fed the n low bits of w
pub fed_run : (bit : ℕ → ℕ) (n m k w : ℕ) → n + m ≡ 32 → ((j : ℕ) → j < n → bit (k + j) ≡ w / 2 ^ j % 2) → fed bit (k + n) ≡ repeat times_x n (bit_xor (fed bit k) (reversed n w * 2 ^ m))
unfolding repeat reversed
fed_run bit zero m k w e at = ap (fed bit) (none k) ∙ sym (ap (bit_xor (fed bit k)) (zero-mul (2 ^ m)) ∙ xor_zero_r (fed bit k))
  where
    none : (k : ℕ) → k + 0 ≡ k
    none k = omega arith
fed_run bit (suc n) m k w e at =
    ap (fed bit) (next k n)
    ∙ fed_run bit n (suc m) (k + 1) (w / 2) (omega arith) (λ j h. ap bit (shifted k j) ∙ at (suc j) (omega arith) ∙ ap (λ z. z % 2) (halved w j))
    ∙ ap (repeat times_x n) (ap₂ bit_xor (ap (fed bit) (one k) ∙ unfed bit k) (ap (λ z. reversed n (w / 2) * z) (pow-suc 2 m) ∙ sym (mul_assoc (reversed n (w / 2)) (2 ^ m) 2) ∙ sym (times_x-small (reversed n (w / 2) * 2 ^ m) room))
    ∙ sym (times_x-linear (bit_xor (fed bit k) (bit k * 2 ^ 31)) (reversed n (w / 2) * 2 ^ m))
    ∙ ap times_x (xor_assoc (fed bit k) (bit k * 2 ^ 31) (reversed n (w / 2) * 2 ^ m) ∙ ap (bit_xor (fed bit k)) (moved_up (bit k) (reversed n (w / 2)) n m (omega arith) (reversed-lt n (w / 2)) ∙ ap (λ z. (z * 2 ^ n + reversed n (w / 2)) * 2 ^ m) lowest)))
    ∙ repeat_comm times_x n 1 (bit_xor (fed bit k) ((w % 2 * 2 ^ n + reversed n (w / 2)) * 2 ^ m))
  where
    next : (k n : ℕ) → k + suc n ≡ k + 1 + n
    next k n = omega arith

    shifted : (k j : ℕ) → k + 1 + j ≡ k + suc j
    shifted k j = omega arith

    halved : (w j : ℕ) → w / 2 ^ suc j ≡ w / 2 / 2 ^ j
    halved w j = ap (λ z. w / 2 ^ z) (one_more j) ∙ sym (shr-shr w 1 j)
      where
        one_more : (j : ℕ) → suc j ≡ 1 + j
        one_more j = omega arith

    one : (k : ℕ) → k + 1 ≡ suc k
    one k = omega arith

    room : reversed n (w / 2) * 2 ^ m < 2 ^ 31
    room = let q : n + m ≡ 31 = omega arith in subst (λ z. reversed n (w / 2) * 2 ^ m < 2 ^ z) q (shl_below (reversed n (w / 2)) n m (reversed-lt n (w / 2)))

    lowest : bit k ≡ w % 2
    lowest = ap bit (none k) ∙ at 0 (omega arith) ∙ ap (λ z. z % 2) (whole w)
      where
        none : (k : ℕ) → k ≡ k + 0
        none k = omega arith

        whole : (w : ℕ) → w / 2 ^ 0 ≡ w
        whole w = omega arith

-- eight steps are a shift by eight and those of the bits that fall out
eight_at_once : (state r : ℕ) → state < 2 ^ 32 → r < 2 ^ 8 → repeat times_x 8 (bit_xor state (r * 2 ^ 24)) ≡ bit_xor (state * 256 % 2 ^ 32) (repeat times_x 8 (bit_xor (state / 2 ^ 24) r * 2 ^ 24))
unfolding times_x clock
eight_at_once state r hs hr =
    ap (repeat times_x 8)
    (ap (λ z. bit_xor z (r * 2 ^ 24)) (sym (div-add-mod' state (2 ^ 24)) ∙ sym (xor_shifted (state / 2 ^ 24) 24 (state % 2 ^ 24) low))
    ∙ ap (λ z. bit_xor z (r * 2 ^ 24)) (xor_comm (state / 2 ^ 24 * 2 ^ 24) (state % 2 ^ 24))
    ∙ xor_assoc (state % 2 ^ 24) (state / 2 ^ 24 * 2 ^ 24) (r * 2 ^ 24)
    ∙ ap (bit_xor (state % 2 ^ 24)) (sym (linear_shl 24 (state / 2 ^ 24) r)))
    ∙ repeat_times_x-linear 8 (state % 2 ^ 24) (bit_xor (state / 2 ^ 24) r * 2 ^ 24)
    ∙ ap (λ z. bit_xor z (repeat times_x 8 (bit_xor (state / 2 ^ 24) r * 2 ^ 24))) (repeat-small 31 0x00A00805 (state % 2 ^ 24) 24 low 8 (omega arith) ∙ shifted state)
  where
    low : state % 2 ^ 24 < 2 ^ 24
    low = mod_below state (2 ^ 24) (pow_pos 24)

    shifted : (s : ℕ) → s % 2 ^ 24 * 2 ^ 8 ≡ s * 256 % 2 ^ 32
    shifted s = omega arith

-- one byte more
pub fed_byte : (bytes : List ℕ) (i state r high eight : ℕ) → i < 512 → state < 2 ^ 32 → get_or bytes i 0 < 256 → state ≡ fed (bit_of_word bytes 0) (8 * i) → r ≡ reverse_bits w8 (get_or bytes i 0)
    → high ≡ bit_xor (state / 2 ^ 24) r → eight ≡ repeat times_x 8 (high * 2 ^ 24) → bit_xor (state * 256 % 2 ^ 32) eight ≡ fed (bit_of_word bytes 0) (8 * (i + 1))
fed_byte bytes i state r high eight hi hs hb s e eh ee =
    ap (bit_xor (state * 256 % 2 ^ 32)) (ee ∙ ap (λ z. repeat times_x 8 (z * 2 ^ 24)) eh)
    ∙ sym (eight_at_once state r hs (subst (λ z. z < 2 ^ 8) (sym mirrored) (reversed-lt 8 (get_or bytes i 0))))
    ∙ ap₂ (λ x y. repeat times_x 8 (bit_xor x (y * 2 ^ 24))) s mirrored
    ∙ sym (fed_run (bit_of_word bytes 0) 8 24 (8 * i) (get_or bytes i 0) (omega arith) (λ j h. data_bit bytes i j hi h))
    ∙ ap (fed (bit_of_word bytes 0)) (next i)
  where
    mirrored : r ≡ reversed 8 (get_or bytes i 0)
    mirrored = e ∙ reverse_bits-is (get_or bytes i 0) hb

    next : (i : ℕ) → 8 * i + 8 ≡ 8 * (i + 1)
    next i = omega arith

-- ---- at most seven steps at once
shifted_out : ℕ → ℕ → ℕ
shifted_out b v = bit_xor (v * 2 ^ b % 2 ^ 32) (repeat times_x 8 (v * 2 ^ b / 2 ^ 32 * 2 ^ 24))

shifted_out-linear : (b : ℕ) → IsLinear (shifted_out b)
unfolding shifted_out
shifted_out-linear b =
    linear_xor (λ v. v * 2 ^ b % 2 ^ 32) (λ v. repeat times_x 8 (v * 2 ^ b / 2 ^ 32 * 2 ^ 24))
    (linear_after (λ v. v % 2 ^ 32) (λ v. v * 2 ^ b) (linear_mod 32) (linear_shl b))
    (linear_after (repeat times_x 8) (λ v. v * 2 ^ b / 2 ^ 32 * 2 ^ 24) (repeat_times_x-linear 8)
    (linear_after (λ v. v * 2 ^ 24) (λ v. v * 2 ^ b / 2 ^ 32) (linear_shl 24) (linear_after (λ v. v / 2 ^ 32) (λ v. v * 2 ^ b) (linear_div 32) (linear_shl b))))

each_shift : agree_below (λ b. agree_below (λ j. eqb (repeat times_x b (2 ^ j)) (shifted_out b (2 ^ j))) (λ _. true) 32) (λ _. true) 8 ≡ true
unfolding shifted_out repeat times_x
each_shift = refl

shifted_out-is : (b v : ℕ) → b < 8 → v < 2 ^ 32 → repeat times_x b v ≡ shifted_out b v
shifted_out-is b v hb hv =
    same_by_test (repeat times_x b) (shifted_out b) (repeat_times_x-linear b) (shifted_out-linear b) 32
    (agree_below_at (λ i. agree_below (λ j. eqb (repeat times_x i (2 ^ j)) (shifted_out i (2 ^ j))) (λ _. true) 32) (λ _. true) 8 b each_shift hb) v hv

pub shift_room : (v b : ℕ) → v < 2 ^ 32 → b < 8 → v * 2 ^ b < 2 ^ 39
shift_room v b hv hb = lt_of_lt_of_le (shl_below v 32 b hv) (pow_mono {i = 32 + b} {j = 39} (omega arith))

-- a power from that of a multiple of eight
pub power_from : (e v shifted eight : ℕ) → v ≡ power (8 * (e / 8)) → shifted ≡ v * 2 ^ (e % 8) % 2 ^ 64 → eight ≡ repeat times_x 8 (shifted / 2 ^ 32 * 2 ^ 24) → bit_xor (shifted % 2 ^ 32) eight ≡ power e
unfolding shifted_out
power_from e v shifted eight hv hs he =
    ap (bit_xor (shifted % 2 ^ 32)) he
    ∙ ap (λ z. bit_xor (z % 2 ^ 32) (repeat times_x 8 (z / 2 ^ 32 * 2 ^ 24))) (hs ∙ mod-eq_of_lt (lt_of_lt_of_le (shift_room v (e % 8) small (mod_below e 8 (omega arith))) (pow_mono {i = 39} {j = 64} (omega arith))))
    ∙ sym (shifted_out-is (e % 8) v (mod_below e 8 (omega arith)) small)
    ∙ ap (repeat times_x (e % 8)) hv
    ∙ repeat_power (e % 8) (8 * (e / 8))
    ∙ ap power (whole e)
  where
    small : v < 2 ^ 32
    small = subst (λ z. z < 2 ^ 32) (sym hv) (power-lt (8 * (e / 8)))

    whole : (e : ℕ) → e % 8 + 8 * (e / 8) ≡ e
    whole e = omega arith
