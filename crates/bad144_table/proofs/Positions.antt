-- The index at which a table lists a place.
use Rattle.std.proofs.Common.{◌≡◌, ℕ, ◌<◌, nat_lt, Bool, true, false, if◌then◌else◌, List, length, get_or, slice_get, Option, None, Some, Contains, refl, sym, ap, ◌∙◌, arith}
use Rattle.std.specs.Prelude.{IfSome, IfNone, ◌↔◌}
use Rattle.std.specs.List.{position_or_len}
use Rattle.std.proofs.lemmas.Bool.Decides.{nat_tests, Decides-ltb}
use Rattle.std.proofs.lemmas.List.Quantifiers.{position-Some}
use Rattle.std.proofs.lemmas.List.Sums.{position_or_len_is}
use Rattle.std.proofs.lemmas.Option.{get_or_from_slice_get, slice_get-get_or, slice_get_within}
use Rattle.pack_geometry.specs.declared.Place.{Place}
use Rattle.pack_geometry.specs.Geometry.{block_number}
use Rattle.pack_geometry.specs.TableSpelling.{Table, IsTable}
use Rattle.pack_geometry.specs.Homes.{is_place, index_in}
use Rattle.pack_geometry.proofs.HomeLaws.{same_place}
use Rattle.pack_geometry.proofs.TableEditLaws.{is_itself, other_place}

-- a proof by the two values of a test
at : {P : Type 0} → (b : Bool) → (b ≡ true → P) → (b ≡ false → P) → P
at {P} b one other = (elim b as (λ v. (v ≡ true → P) → (v ≡ false → P) → P) [ true ↦ λ t f. t refl | false ↦ λ t f. f refl ]) one other

position_by : (place : Place) (places : List Place) (i : ℕ) → position_or_len (is_place place) places ≡ i → (listed : Bool) → nat_lt i (length places) ≡ listed
    → (if nat_lt (position_or_len (is_place place) places) (length places) then Some (position_or_len (is_place place) places) else None) ≡ (if listed then Some i else None)
position_by place places i e listed t = rw (e, t) refl

-- a place that stands before another one of a table is another place
earlier_differs : (t : Table) (place : Place) (i k : ℕ) → IsTable t → i < length t.places → get_or t.places i place ≡ place → k < i
    → place ≡ get_or t.places k place → ⊥
earlier_differs t place i k valid small here before same =
    let less = valid.ascending k i place before small in
    let left : block_number t.kind (get_or t.places k place) ≡ block_number t.kind place = ap (block_number t.kind) (sym same) in
    let right : block_number t.kind (get_or t.places i place) ≡ block_number t.kind place = ap (block_number t.kind) here in
    omega (arith, less, left, right)

pub index_listed : (t : Table) (place : Place) (i : ℕ) → IsTable t → slice_get t.places i ≡ Some place → index_in (Some t) place ≡ Some i
index_listed t place i valid e =
    let small : i < length t.places = slice_get_within t.places i place e in
    let here : get_or t.places i place ≡ place = get_or_from_slice_get t.places i place place e in
    let first : position_or_len (is_place place) t.places ≡ i = position_or_len_is (is_place place) t.places i place (omega (arith, small))
    (λ k before. other_place place (get_or t.places k place) (earlier_differs t place i k valid small here before))
    (λ inside. ap (is_place place) here ∙ is_itself place) in
    position_by place t.places i first true ((Decides-ltb i (length t.places)).1 small)

pub listed_index : (t : Table) (place : Place) (i : ℕ) → index_in (Some t) place ≡ Some i → slice_get t.places i ≡ Some place
listed_index t place i e =
    let found = position-Some (is_place place) t.places i place e in
    slice_get-get_or t.places i place found.0 ∙ ap Some (sym (same_place place (get_or t.places i place) found.1))

nowhere_false : (n : ℕ) → nat_lt n n ≡ false
nowhere_false n = grind (arith, nat_tests)

pub index_none : (t : Table) (place : Place) → (Contains t.places place → ⊥) → index_in (Some t) place ≡ None
index_none t place absent =
    let last : position_or_len (is_place place) t.places ≡ length t.places = position_or_len_is (is_place place) t.places (length t.places) place (omega arith)
    (λ k small. other_place place (get_or t.places k place) (λ same. absent (k, small, sym same)))
    (λ inside. absurd (omega (arith, inside))) in
    position_by place t.places (length t.places) last false (nowhere_false (length t.places))

pub index_by : (t : Table) (place : Place) (r : Option ℕ) → IsTable t → IfSome r (λ i. slice_get t.places i ≡ Some place)
    → IfNone r (Contains t.places place → ⊥) → r ≡ index_in (Some t) place
index_by t place (Some i) valid listed absent = sym (index_listed t place i valid listed)
index_by t place None valid listed absent = sym (index_none t place absent)

pub only_index : (t : Table) (place : Place) (r : Option ℕ) → IsTable t → r ≡ index_in (Some t) place → (i : ℕ)
    → (r ≡ Some i) ↔ (slice_get t.places i ≡ Some place)
only_index t place r valid e i = (λ f. listed_index t place i (sym e ∙ f), λ l. e ∙ index_listed t place i valid l)
