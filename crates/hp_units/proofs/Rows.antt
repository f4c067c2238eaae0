-- The row behind a change of one unit.
use Rattle.std.proofs.Common.{◌≡◌, ◌≢◌, ℕ, replicate, zero, suc, ◌+◌, ◌<◌, Bool, true, false, List, [], ◌∷◌, length, refl, sym, ◌∙◌, ap, arith, get_or-set_same, get_or-set_other}
use Rattle.std.proofs.lemmas.List.{length-set, length-replicate, get_or-replicate, get_or_default}
use Rattle.std.proofs.lemmas.Nat.Bits.{bit_at-zero}
use Rattle.std.specs.Prelude.{◌==◌, slice_set, slice_index_or, Option, None, Some, IfSome, IfNone, if◌then◌else◌}
use Rattle.std.proofs.lemmas.Bool.Decides.{nat_tests}
use Rattle.driver_machine.specs.World.{UnitView, no_unit}
use Rattle.driver_machine.specs.Events.{can_arrive, lowest}
use Rattle.hp_units.specs.Row.{unit_in, is_on, IsRow}

-- the bits of the other units are theirs still
pub others_kept : (row u : ℕ) (units : List UnitView) (v : UnitView) → IsRow row units
    → (k : ℕ) → k < 32 → k ≢ u → is_on row k ≡ can_arrive (unit_in (slice_set units u v) k)
others_kept row u units v is k lt ne = is.bits k lt ∙ ap can_arrive (sym (get_or-set_other units u k v no_unit ne))

-- also where the changed units are named
pub others_at : (row a u : ℕ) (units after : List UnitView) (v : UnitView) → a ≡ u → after ≡ slice_set units a v → IsRow row units
    → (k : ℕ) → k < 32 → k ≢ u → is_on row k ≡ can_arrive (unit_in after k)
others_at row a u units after v at changed is k lt ne =
    others_kept row a units v is k lt (λ e. ne (e ∙ at)) ∙ ap (λ (vs : List UnitView). can_arrive (unit_in vs k)) (sym changed)

-- a unit that positions as before
pub same_kept : (row u : ℕ) (units : List UnitView) (v : UnitView) → u < length units → IsRow row units → can_arrive v ≡ can_arrive (unit_in units u)
    → IsRow row (slice_set units u v)
same_kept row u units v lt is same = record { size = length-set units u v ∙ is.size; bits = λ k. λ l. at k l (k == u) refl }
  where
    at : (k : ℕ) → k < 32 → (b : Bool) → (k == u) ≡ b → is_on row k ≡ can_arrive (unit_in (slice_set units u v) k)
    at k l true e =
        let own : k ≡ u = grind (arith, nat_tests) in
        is.bits k l ∙ ap (λ (n : ℕ). can_arrive (unit_in units n)) own ∙ sym same ∙ ap can_arrive (sym (get_or-set_same units u v no_unit lt))
        ∙ ap (λ (n : ℕ). can_arrive (unit_in (slice_set units u v) n)) (sym own)
    at k l false e =
        let other : k ≢ u = grind (arith, nat_tests) in
        others_kept row u units v is k l other

-- a unit that was changed at its place, as it was there
pub own_unit : (a u : ℕ) (units now : List UnitView) (old d : UnitView) → a ≡ u → units ≡ now → u < length now → old ≡ slice_index_or units a d → old ≡ unit_in units a
own_unit a u units now old d at is lt own = own ∙ get_or_default units a _ _ (omega (arith, lt, at, ap length is))

pub old_unit : (a u : ℕ) (units now : List UnitView) (old d : UnitView) → a ≡ u → units ≡ now → u < length now → old ≡ slice_index_or units a d → old ≡ unit_in now u
old_unit a u units now old d at is lt own =
    own_unit a u units now old d at is lt own ∙ ap (λ (n : ℕ). unit_in units n) at ∙ ap (λ (vs : List UnitView). unit_in vs u) is

-- it positions as before
pub still_kept : (row a u : ℕ) (units now : List UnitView) (old d v : UnitView) → a ≡ u → units ≡ now → u < length now → IsRow row units
    → old ≡ slice_index_or units a d → can_arrive v ≡ can_arrive old → IsRow row (slice_set units a v)
still_kept row a u units now old d v at is lt kept own same =
    same_kept row a units v (omega (arith, lt, at, ap length is)) kept (same ∙ ap can_arrive (own_unit a u units now old d at is lt own))

-- and it alone was changed
pub alone : (a u : ℕ) (units now : List UnitView) (old d v : UnitView) (f : UnitView → UnitView) → a ≡ u → units ≡ now → u < length now
    → old ≡ slice_index_or units a d → v ≡ f old → slice_set units a v ≡ slice_set now u (f (unit_in now u))
alone a u units now old d v f at is lt own made =
    let here : v ≡ f (unit_in now u) =
    made ∙ ap f (old_unit a u units now old d at is lt own) in
    ap (λ (n : ℕ). slice_set units n v) at ∙ ap (λ (vs : List UnitView). slice_set vs u v) is ∙ ap (λ (w : UnitView). slice_set now u w) here

-- at the start no unit positions, and no bit is on
pub blank_row : (units : List UnitView) → units ≡ replicate 32 no_unit → IsRow 0 units
blank_row units are = record {
  size = ap length are ∙ length-replicate 32 no_unit;
  bits = λ u. λ lt. ap (λ (b : ℕ). b == 1) (bit_at-zero u) ∙ still ∙ sym (ap can_arrive (ap (λ (vs : List UnitView). unit_in vs u) are ∙ get_or-replicate 32 u no_unit no_unit lt));
}
  where
    still : false ≡ can_arrive no_unit
    still = refl

-- the lowest bit that is on is the lowest unit
pub found : (units : List UnitView) (n u : ℕ) → u < length units → can_arrive (unit_in units u) ≡ true → ((k : ℕ) → k < u → can_arrive (unit_in units k) ≡ false)
    → lowest can_arrive units n ≡ Some (n + u)
found [] n u lt on below = absurd (omega (arith, lt))
found (v ∷ vs) n zero lt on below = ap (λ (b : Bool). if b then Some n else lowest can_arrive vs (n + 1)) on ∙ ap Some zeroth
  where
    zeroth : n ≡ n + 0
    zeroth = omega arith
found (v ∷ vs) n (suc u) lt on below =
    let next : n + 1 + u ≡ n + suc u = omega arith in
    ap (λ (b : Bool). if b then Some n else lowest can_arrive vs (n + 1)) (below 0 (omega arith))
    ∙ found vs (n + 1) u (omega (arith, lt)) on (λ k l. below (suc k) (omega (arith, l))) ∙ ap Some next

pub none_found : (units : List UnitView) (n : ℕ) → ((k : ℕ) → k < length units → can_arrive (unit_in units k) ≡ false) → lowest can_arrive units n ≡ None
none_found [] n off = refl
none_found (v ∷ vs) n off =
    ap (λ (b : Bool). if b then Some n else lowest can_arrive vs (n + 1)) (off 0 (omega arith)) ∙ none_found vs (n + 1) (λ k l. off (suc k) (omega (arith, l)))

-- so the lowest bit of the row is the lowest unit that positions
pub lowest_in : (row : ℕ) (units : List UnitView) (r : Option ℕ) → IsRow row units → IfSome r (λ u. (u < 32) × (is_on row u ≡ true))
    → IfSome r (λ u. (k : ℕ) → k < u → is_on row k ≡ false) → IfNone r ((k : ℕ) → is_on row k ≡ false) → r ≡ lowest can_arrive units 0
lowest_in row units None is on below none =
    sym (none_found units 0 (λ k l. sym (is.bits k (omega (arith, l, is.size))) ∙ none k))
lowest_in row units (Some u) is on below none =
    let lt : u < length units = omega (arith, on.0, is.size) in
    let start : 0 + u ≡ u = omega arith in
    sym (found units 0 u lt (sym (is.bits u on.0) ∙ on.1) (λ k l. sym (is.bits k (omega (arith, l, on.0))) ∙ below k l) ∙ ap Some start)
