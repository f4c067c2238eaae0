-- Places in ascending order.
use Rattle.std.proofs.Common.{◌≡◌, ◌⊎◌, inl, inr, ℕ, ◌+◌, ◌-◌, ◌<◌, ◌≤◌, Bool, true, false, nat_lt, refl, List, length, get_or, ap, sym, ◌∙◌, arith, [], ◌∷◌, ◌++◌, length-append}
use Rattle.std.specs.Prelude.{AllPairs, IsTrue, Some, slice_get, Contains, insert}
use Rattle.std.proofs.lemmas.Bool.{cases_lt, ltb-false}
use Rattle.std.specs.Bool.{OnFalse}
use Rattle.std.proofs.lemmas.List.{get_or_default}
use Rattle.std.proofs.lemmas.List.Edits.{get_or-insert_above, get_or-insert_at, get_or-insert_below, length-insert}
use Rattle.std.proofs.lemmas.List.Elements.{All-push}
use Rattle.std.proofs.lemmas.List.Quantifiers.{all_pairs_push}
use Rattle.std.proofs.lemmas.Option.{get_or_from_slice_get, slice_get-get_or, slice_get_within}
use Rattle.pack_geometry.specs.declared.DriveKind.{DriveKind}
use Rattle.pack_geometry.specs.declared.DriveKind.TheVariants.{Rp06}
use Rattle.pack_geometry.specs.declared.Place.{Place}
use Rattle.pack_geometry.specs.Geometry.{IsInside, block_number, limit_of}
use Rattle.pack_geometry.specs.TableSpelling.{Table, IsTable}
use Rattle.pack_geometry.specs.TableEdit.{with_place}
use Rattle.bad144_table.specs.Inserts.{IsNew}
use Rattle.bad144_table.specs.Inserts.{IsAtOrBelowLast}

-- from a place on, all lie at or above a block
pub above_from : (kind : DriveKind) (places : List Place) (i block : ℕ) (e : Place) → AllPairs (λ p q. block_number kind p < block_number kind q) places
    → i < length places → block ≤ block_number kind (get_or places i e)
    → (k : ℕ) (d : Place) → i ≤ k → k < length places → block ≤ block_number kind (get_or places k d)
above_from kind places i block e ascending small here k d from listed =
    let at = ap (block_number kind) (get_or_default places i d e small) in
    elim (cases_lt i k) [
      | inl less ↦ let more = ascending i k d less listed in omega (arith, at, more, here)
      | inr same ↦
          let equal : k ≡ i = omega arith in
          rw equal (omega (arith, at, here))
    ]

same_fields : (p q : Place) → p.cylinder ≡ q.cylinder → p.track ≡ q.track → p.sector ≡ q.sector → p ≡ q
same_fields p q cylinder track sector = λ i. record { cylinder = cylinder i; track = track i; sector = sector i }

-- different places of a drive have different blocks
pub same_number : (kind : DriveKind) (p q : Place) → IsInside kind p → IsInside kind q → block_number kind p ≡ block_number kind q → p ≡ q
same_number Rp06 p q ip iq e = same_fields p q (omega arith) (omega arith) (omega arith)
same_number other p q ip iq e = same_fields p q (omega arith) (omega arith) (omega arith)

-- ---- a place's position among others

-- the places below a block stand before a position, and the others from it on
pub record IsRank (kind : DriveKind) (places : List Place) (block at : ℕ) : Type 0 where
  pub bound : at ≤ length places
  pub below : (k : ℕ) (d : Place) → k < at → block_number kind (get_or places k d) < block
  pub above : (k : ℕ) (d : Place) → at ≤ k → k < length places → block ≤ block_number kind (get_or places k d)

-- a place that does not stand at its position stands nowhere
pub absent_by : (t : Table) (place : Place) (at : ℕ) → IsTable t → IsInside t.kind place → IsRank t.kind t.places (block_number t.kind place) at
    → (slice_get t.places at ≡ Some place → ⊥) → Contains t.places place → ⊥
absent_by t place at valid inside rank not_there (k, small, here) =
    let number = ap (block_number t.kind) here in
    elim (cases_lt k at) [
      | inl before ↦ omega (arith, number, rank.below k place before)
      | inr behind ↦
          elim (cases_lt at k) [
            | inl after ↦ omega (arith, number, valid.ascending at k place after small, rank.above at place (omega arith) (omega arith))
            | inr same ↦
                let equal : at ≡ k = omega arith in
                not_there (rw equal (slice_get-get_or t.places k place small ∙ ap Some here))
          ]
    ]

-- behind the position all lie above the place
above_by : (t : Table) (place : Place) (at : ℕ) → IsTable t → IsInside t.kind place → IsRank t.kind t.places (block_number t.kind place) at
    → (slice_get t.places at ≡ Some place → ⊥) → (k : ℕ) (d : Place) → at ≤ k → k < length t.places → block_number t.kind place < block_number t.kind (get_or t.places k d)
above_by t place at valid inside rank not_there k d behind small =
    let least = rank.above k d behind small in
    elim (cases_lt (block_number t.kind place) (block_number t.kind (get_or t.places k d))) [
      | inl less ↦ less
      | inr no_less ↦
          let same : get_or t.places k d ≡ place = same_number t.kind (get_or t.places k d) place (valid.inside k d small) inside (omega (arith, least)) in
          absurd (absent_by t place at valid inside rank not_there (k, small, get_or_default t.places k place d small ∙ same))
    ]

-- what stands at each place of a list with one element more
insert_view : (xs : List Place) (at : ℕ) (y d : Place) (k : ℕ) → at ≤ length xs
    → ((k < at) × (get_or (insert xs at y) k d ≡ get_or xs k d))
    ⊎ (((k ≡ at) × (get_or (insert xs at y) k d ≡ y)) ⊎ ((at < k) × (get_or (insert xs at y) k d ≡ get_or xs (k - 1) d)))
insert_view xs at y d k bound =
    elim (cases_lt k at) [
      | inl before ↦ inl (before, get_or-insert_below xs at y d k before bound)
      | inr behind ↦
          elim (cases_lt at k) [
            | inl after ↦
                let next : k ≡ k - 1 + 1 = omega arith in
                inr (inr (after, ap (λ i. get_or (insert xs at y) i d) next ∙ get_or-insert_above xs at y d (k - 1) (omega arith) bound))
            | inr same ↦
                let equal : k ≡ at = omega arith in
                inr (inl (equal, ap (λ i. get_or (insert xs at y) i d) equal ∙ get_or-insert_at xs at y d bound))
          ]
    ]

less_by : (kind : DriveKind) (p q p' q' : Place) → p ≡ p' → q ≡ q' → block_number kind p' < block_number kind q' → block_number kind p < block_number kind q
less_by kind p q p' q' ep eq less = rw (ep, eq) less

inside_by : (kind : DriveKind) (p p' : Place) → p ≡ p' → IsInside kind p' → IsInside kind p
inside_by kind p p' e inside = rw e inside

-- the table with the place at its position is in order
pub valid_insert : (t : Table) (place : Place) (at : ℕ) → IsTable t → IsInside t.kind place → IsRank t.kind t.places (block_number t.kind place) at
    → (slice_get t.places at ≡ Some place → ⊥) → length t.places < 126 → IsTable (with_place t at place)
valid_insert t place at valid inside rank not_there room =
    let long = length-insert t.places at place rank.bound in
    record {
      serial = valid.serial;
      room = omega (arith, long);
      inside =
          λ k d small.
          elim (insert_view t.places at place d k rank.bound) [
            | inl before ↦ inside_by t.kind _ _ before.1 (valid.inside k d (omega (arith, before.0, rank.bound)))
            | inr later ↦
                elim later [
                  | inl here ↦ inside_by t.kind _ _ here.1 inside
                  | inr after ↦ inside_by t.kind _ _ after.1 (valid.inside (k - 1) d (omega (arith, after.0, long)))
                ]
          ];
      ascending =
          λ i j d less small.
          elim (insert_view t.places at place d i rank.bound) [
            | inl before ↦
                elim (insert_view t.places at place d j rank.bound) [
                  | inl before' ↦ less_by t.kind _ _ _ _ before.1 before'.1 (valid.ascending i j d less (omega (arith, before'.0, rank.bound)))
                  | inr later ↦
                      elim later [
                        | inl here' ↦ less_by t.kind _ _ _ _ before.1 here'.1 (rank.below i d before.0)
                        | inr after' ↦
                            less_by t.kind _ _ _ _ before.1 after'.1
                            (valid.ascending i (j - 1) d (omega (arith, before.0, after'.0)) (omega (arith, after'.0, long)))
                      ]
                ]
            | inr later ↦
                elim later [
                  | inl here ↦
                      elim (insert_view t.places at place d j rank.bound) [
                        | inl before' ↦ absurd (omega (arith, here.0, before'.0))
                        | inr later' ↦
                            elim later' [
                              | inl here' ↦ absurd (omega (arith, here.0, here'.0))
                              | inr after' ↦
                                  less_by t.kind _ _ _ _ here.1 after'.1
                                  (above_by t place at valid inside rank not_there (j - 1) d (omega (arith, after'.0)) (omega (arith, after'.0, long)))
                            ]
                      ]
                  | inr after ↦
                      elim (insert_view t.places at place d j rank.bound) [
                        | inl before' ↦ absurd (omega (arith, after.0, before'.0))
                        | inr later' ↦
                            elim later' [
                              | inl here' ↦ absurd (omega (arith, after.0, here'.0))
                              | inr after' ↦
                                  less_by t.kind _ _ _ _ after.1 after'.1
                                  (valid.ascending (i - 1) (j - 1) d (omega (arith, after.0, after'.0)) (omega (arith, after'.0, long)))
                            ]
                      ]
                ]
          ];
    }

refute : {P : Type 0} (there : Bool) → there ≡ false → (P → IsTrue there) → P → ⊥
refute there off told p = let h = told p in cc

-- ---- what `insert` finds out

-- the place's block, the data limit, its position, and that it does not stand there
pub record IsLookedUp (t : Table) (place : Place) (block limit at : ℕ) (there : Bool) : Type 0 where
  pub valid : IsTable t
  pub inside : IsInside t.kind place
  pub number : block ≡ block_number t.kind place
  pub limit_is : limit ≡ limit_of t.kind
  pub below : block < limit
  pub rank : IsRank t.kind t.places block at
  pub answer : slice_get t.places at ≡ Some place → IsTrue there
  pub no : there ≡ false

rank_of : (t : Table) (place : Place) (block limit at : ℕ) (there : Bool) → IsLookedUp t place block limit at there → IsRank t.kind t.places (block_number t.kind place) at
rank_of t place block limit at there found = rw (← found.number) found.rank

pub is_new : (t : Table) (place : Place) (block limit at : ℕ) (there : Bool) → IsLookedUp t place block limit at there → IsNew t place
is_new t place block limit at there found = record {
  below = omega (arith, found.number, found.limit_is, found.below);
  absent =
      absent_by t place at found.valid found.inside (rank_of t place block limit at there found)
      (refute there found.no found.answer);
}

pub is_valid : (t : Table) (place : Place) (block limit at : ℕ) (there : Bool) → IsLookedUp t place block limit at there → length t.places < 126 → IsTable (with_place t at place)
is_valid t place block limit at there found room =
    valid_insert t place at found.valid found.inside (rank_of t place block limit at there found)
    (refute there found.no found.answer) room

-- ---- a place behind the last

pub below_last : (kind : DriveKind) (places : List Place) (block : ℕ) (e : Place) → AllPairs (λ p q. block_number kind p < block_number kind q) places
    → block_number kind (get_or places (length places - 1) e) < block → (k : ℕ) (d : Place) → k < length places → block_number kind (get_or places k d) < block
below_last kind places block e ascending last k d small =
    let at = ap (block_number kind) (get_or_default places (length places - 1) d e (omega arith)) in
    elim (cases_lt k (length places - 1)) [
      | inl less ↦ let more = ascending k (length places - 1) d less (omega arith) in omega (arith, at, more, last)
      | inr top ↦
          let equal : k ≡ length places - 1 = omega arith in
          rw equal (omega (arith, at, last))
    ]

pub valid_push : (t : Table) (place : Place) → IsTable t → IsInside t.kind place → length t.places < 126
    → ((k : ℕ) (d : Place) → k < length t.places → block_number t.kind (get_or t.places k d) < block_number t.kind place)
    → IsTable (record { kind = t.kind; serial = t.serial; places = t.places ++ place ∷ [] })
valid_push t place valid inside room below = record {
  serial = valid.serial;
  room = omega (arith, length-append t.places (place ∷ []));
  inside = All-push (IsInside t.kind) t.places place valid.inside inside;
  ascending = all_pairs_push (λ p q. block_number t.kind p < block_number t.kind q) t.places place valid.ascending below;
}

on_false : {P : Type 0} (b : Bool) → (b ≡ false → P) → OnFalse b P
on_false true f = tt
on_false false f = f refl

-- a place that does not lie above the last
pub at_or_below_last : (t : Table) (place blank : Place) (last number : ℕ) → (length t.places ≡ 0 → ⊥) → last ≡ block_number t.kind (get_or t.places (length t.places - 1) blank)
    → number ≡ block_number t.kind place → OnFalse (nat_lt last number) (IsAtOrBelowLast t place)
at_or_below_last t place blank last number some l n = on_false (nat_lt last number) (λ e.
    let less : number ≤ last = ltb-false last number e in
    let there : 0 < length t.places = omega (arith, some) in
    record {
      some = there;
      last = λ d.
          let same = ap (block_number t.kind) (get_or_default t.places (length t.places - 1) blank d (omega (arith, there))) in
          omega (arith, less, l, n, same);
    })

-- ---- a place's numbers

-- the numbers of a place fit the words of a pair
pub record HasSmallNumbers (place : Place) : Type 0 where
  pub cylinder : place.cylinder < 65536
  pub track : place.track < 256
  pub sector : place.sector < 256

small_numbers : (kind : DriveKind) (place : Place) → IsInside kind place → HasSmallNumbers place
small_numbers Rp06 place inside = record { cylinder = omega (arith, inside.cylinder); track = omega (arith, inside.track); sector = omega (arith, inside.sector) }
small_numbers other place inside = record { cylinder = omega (arith, inside.cylinder); track = omega (arith, inside.track); sector = omega (arith, inside.sector) }

pub listed_numbers : (t : Table) (place : Place) (i : ℕ) → IsTable t → slice_get t.places i ≡ Some place → HasSmallNumbers place
listed_numbers t place i valid here =
    small_numbers t.kind place
    (inside_by t.kind place (get_or t.places i place) (sym (get_or_from_slice_get t.places i place place here)) (valid.inside i place (slice_get_within t.places i place here)))
