-- Units are set up one after another.
use Rattle.std.proofs.Common.{◌≡◌, ◌≢◌, ◌==◌, ℕ, zero, suc, ◌+◌, ◌<◌, ◌≤◌, Bool, true, false, List, [], ◌∷◌, drop, length, get_or, get_or-set_same, refl, sym, ap, ◌∙◌, arith}
use Rattle.std.proofs.lemmas.List.{length-set}
use Rattle.std.proofs.lemmas.Nat.Bits.{bit_at-zero}
use Rattle.std.proofs.lemmas.Bool.Decides.{nat_tests}
use Rattle.std.specs.Prelude.{Contains, slice_set}
use Rattle.driver_machine.specs.World.{UnitView, Setup, no_unit, new_unit, set_up}
use Rattle.driver_machine.specs.Events.{can_arrive}
use Rattle.hp_units.specs.declared.setup.UnitSetup.{UnitSetup}
use Rattle.hp_units.specs.Setups.{setup_of, setups_of}
use Rattle.hp_units.specs.Row.{IsRow, is_on, unit_in}
use Rattle.hp_units.proofs.Rows.{others_kept}

-- the next one is set up
pub one_more : (xs : List UnitSetup) (i : ℕ) (x : UnitSetup) (units : List UnitView) → i < length xs → x ≡ get_or xs i x
    → set_up (setups_of (drop i xs)) units ≡ set_up (setups_of (drop (i + 1) xs)) (slice_set units x.unit (new_unit (setup_of x)))
one_more [] i x units lt is = absurd (omega (arith, lt))
one_more (y ∷ xs) zero x units lt is =
    ap (λ (z : UnitSetup). set_up (setups_of xs) (slice_set units z.unit (new_unit (setup_of z)))) (sym is)
one_more (y ∷ xs) (suc i) x units lt is =
    let e : suc i + 1 ≡ suc (i + 1) = omega arith in
    one_more xs i x units (omega (arith, lt)) is
    ∙ ap (λ (n : ℕ). set_up (setups_of (drop n (y ∷ xs))) (slice_set units x.unit (new_unit (setup_of x)))) (sym e)

contained : (xs : List UnitSetup) (i : ℕ) (x : UnitSetup) → i < length xs → x ≡ get_or xs i x → Contains (setups_of xs) (setup_of x)
contained [] i x lt is = absurd (omega (arith, lt))
contained (y ∷ xs) zero x lt is = (0, omega arith, ap setup_of (sym is))
contained (y ∷ xs) (suc i) x lt is = let c = contained xs i x (omega (arith, lt)) is in (suc c.0, omega (arith, c.1), c.2)

-- and is one of the 32
pub unit_small : (xs : List UnitSetup) (i : ℕ) (x : UnitSetup) → ((s : Setup) → Contains (setups_of xs) s → s.unit < 32) → i < length xs → x ≡ get_or xs i x → x.unit < 32
unit_small xs i x small lt is = small (setup_of x) (contained xs i x lt is)

-- where none is left all are set up
pub all_set : (xs : List UnitSetup) (i : ℕ) (units rest : List UnitView) → length xs ≤ i → set_up (setups_of (drop i xs)) units ≡ rest → units ≡ rest
all_set [] zero units rest end is = is
all_set [] (suc i) units rest end is = is
all_set (y ∷ xs) zero units rest end is = absurd (omega (arith, end))
all_set (y ∷ xs) (suc i) units rest end is = all_set xs i units rest (omega (arith, end)) is

-- and none of them positions
still_set : (n : ℕ) (units : List UnitView) (v : UnitView) → IsRow 0 units → can_arrive v ≡ false → IsRow 0 (slice_set units n v)
still_set n units v is still = record { size = length-set units n v ∙ is.size; bits = λ k. λ l. at k l (k == n) refl }
  where
    at : (k : ℕ) → k < 32 → (b : Bool) → (k == n) ≡ b → is_on 0 k ≡ can_arrive (unit_in (slice_set units n v) k)
    at k l true e =
        let own : k ≡ n = grind (arith, nat_tests) in
        ap (λ (b : ℕ). b == 1) (bit_at-zero k) ∙ sym still ∙ ap can_arrive (sym (get_or-set_same units n v no_unit (omega (arith, own, l, is.size))))
        ∙ ap (λ (m : ℕ). can_arrive (unit_in (slice_set units n v) m)) (sym own)
    at k l false e =
        let other : k ≢ n = grind (arith, nat_tests) in
        others_kept 0 n units v is k l other

pub none_positions : (setups : List Setup) (units : List UnitView) → IsRow 0 units → IsRow 0 (set_up setups units)
none_positions [] units is = is
none_positions (s ∷ setups) units is = none_positions setups (slice_set units s.unit (new_unit s)) (still_set s.unit units (new_unit s) is refl)
