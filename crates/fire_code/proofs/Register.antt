-- A shift register of m + 1 places with feedback, and what repeating its step does.
use Rattle.std.proofs.Common.{◌≡◌, ℕ, zero, suc, ◌+◌, ◌*◌, ◌/◌, ◌%◌, ◌^◌, refl, sym, ap, ◌∙◌, arith, ◌⊎◌, inl, inr}
use Rattle.std.specs.Int.{bit_at}
use Rattle.std.proofs.lemmas.Nat.{mod_below, div-add-mod'}
use lib.Bits.{bit_xor, xor_zero_r, xor_self}
use Rattle.fire_code.proofs.Linear.{IsLinear, linear_after, linear_xor, linear_mod, linear_div, linear_shl, bit_cases}
use Rattle.fire_code.specs.Remainder.{repeat}
use Rattle.fire_code.specs.Residue.{clock}

zero_mul : (m : ℕ) → 0 * m ≡ 0
zero_mul m = omega arith

-- a bit times a number respects exclusive or
times_bit : (back x y : ℕ) → (x ≡ 0) ⊎ (x ≡ 1) → (y ≡ 0) ⊎ (y ≡ 1) → bit_xor x y * back ≡ bit_xor (x * back) (y * back)
times_bit back x y (inl p) q = rw p (sym (ap (λ z. bit_xor z (y * back)) (zero_mul back)))
times_bit back x y (inr p) (inl q) = rw (p, q) (sym (ap (bit_xor (1 * back)) (zero_mul back) ∙ xor_zero_r (1 * back)))
times_bit back x y (inr p) (inr q) = rw (p, q) (zero_mul back ∙ sym (xor_self (1 * back)))

pub bit_is : (v m : ℕ) → (bit_at v m ≡ 0) ⊎ (bit_at v m ≡ 1)
bit_is v m = bit_cases (bit_at v m) (mod_below (v / 2 ^ m) 2 (omega arith))

bit_linear : (m : ℕ) → IsLinear (λ v. bit_at v m)
bit_linear m = linear_after (λ v. v % 2 ^ 1) (λ v. v / 2 ^ m) (linear_mod 1) (linear_div m)

pub bit_times-linear : (m back : ℕ) → IsLinear (λ v. bit_at v m * back)
bit_times-linear m back a b = ap (λ z. z * back) (bit_linear m a b) ∙ times_bit back (bit_at a m) (bit_at b m) (bit_is a m) (bit_is b m)

pub clock-linear : (m back : ℕ) → IsLinear (clock m back)
unfolding clock
clock-linear m back =
    linear_xor (λ v. v * 2 % 2 ^ suc m) (λ v. bit_at v m * back)
    (linear_after (λ v. v % 2 ^ suc m) (λ v. v * 2 ^ 1) (linear_mod (suc m)) (linear_shl 1))
    (bit_times-linear m back)

pub repeat_linear : (f : ℕ → ℕ) → IsLinear f → (e : ℕ) → IsLinear (repeat f e)
unfolding repeat
repeat_linear f lf zero a b = refl
repeat_linear f lf (suc e) a b = ap f (repeat_linear f lf e a b) ∙ lf (repeat f e a) (repeat f e b)

zero_add : (e : ℕ) → 0 + e ≡ e
zero_add e = omega arith

suc_add : (d e : ℕ) → suc d + e ≡ suc (d + e)
suc_add d e = omega arith

pub repeat_add : (f : ℕ → ℕ) (d e v : ℕ) → repeat f (d + e) v ≡ repeat f d (repeat f e v)
unfolding repeat
repeat_add f zero e v = ap (λ z. repeat f z v) (zero_add e)
repeat_add f (suc d) e v = ap (λ z. repeat f z v) (suc_add d e) ∙ ap f (repeat_add f d e v)

-- where n steps change nothing, neither do k * n
pub repeat_fixed : (f : ℕ → ℕ) (n v : ℕ) → repeat f n v ≡ v → (k : ℕ) → repeat f (k * n) v ≡ v
unfolding repeat
repeat_fixed f n v h zero = ap (λ z. repeat f z v) (zero_mul n)
repeat_fixed f n v h (suc k) =
    ap (λ z. repeat f z v) (suc_mul k n) ∙ repeat_add f n (k * n) v ∙ ap (repeat f n) (repeat_fixed f n v h k) ∙ h
  where
    suc_mul : (k n : ℕ) → suc k * n ≡ n + k * n
    suc_mul k n = omega arith

pub repeat_comm : (f : ℕ → ℕ) (d e v : ℕ) → repeat f d (repeat f e v) ≡ repeat f e (repeat f d v)
repeat_comm f d e v = sym (repeat_add f d e v) ∙ ap (λ z. repeat f z v) (swap d e) ∙ repeat_add f e d v
  where
    swap : (d e : ℕ) → d + e ≡ e + d
    swap d e = omega arith

-- where n steps change nothing, e steps do what e % n do
pub repeat_mod : (f : ℕ → ℕ) (n v : ℕ) → repeat f n v ≡ v → (e : ℕ) → repeat f e v ≡ repeat f (e % n) v
repeat_mod f n v h e =
    ap (λ z. repeat f z v) (sym (div-add-mod' e n))
    ∙ repeat_add f (e / n * n) (e % n) v
    ∙ repeat_comm f (e / n * n) (e % n) v
    ∙ ap (repeat f (e % n)) (repeat_fixed f n v h (e / n))

pub repeat_keeps : (D : ℕ → Type 0) (f : ℕ → ℕ) → ((v : ℕ) → D v → D (f v)) → (e v : ℕ) → D v → D (repeat f e v)
unfolding repeat
repeat_keeps D f keeps zero v d = d
repeat_keeps D f keeps (suc e) v d = keeps (repeat f e v) (repeat_keeps D f keeps e v d)

-- a map h that carries each step of f, at a value of D, to a step of g
pub repeat_carried : (D : ℕ → Type 0) (f g h : ℕ → ℕ) → ((v : ℕ) → D v → D (f v)) → ((v : ℕ) → D v → h (f v) ≡ g (h v)) → (e v : ℕ) → D v → h (repeat f e v) ≡ repeat g e (h v)
unfolding repeat
repeat_carried D f g h keeps carries zero v d = refl
repeat_carried D f g h keeps carries (suc e) v d =
    carries (repeat f e v) (repeat_keeps D f keeps e v d) ∙ ap g (repeat_carried D f g h keeps carries e v d)
