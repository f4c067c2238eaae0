-- Laws of homes and of the table of a pack.
use Rattle.std.proofs.Common.{◌≡◌, ◌⊎◌, inl, inr, ℕ, ◌<◌, ◌≤◌, nat_lt, Bool, true, false, if◌then◌else◌, length, get_or, Option, None, Some, refl, sym, ap, ◌∙◌, arith}
use Rattle.std.proofs.lemmas.Bool.Decides.{Decides-ltb, nat_tests}
use Rattle.std.proofs.lemmas.Option.{none-some, same_Some}
use Rattle.std.proofs.lemmas.List.Quantifiers.{position-Some}
use Rattle.pack_geometry.specs.declared.DriveKind.{DriveKind}
use Rattle.pack_geometry.specs.declared.DriveKind.TheVariants.{Rp06}
use Rattle.pack_geometry.specs.declared.Place.{Place}
use Rattle.pack_geometry.specs.Geometry.{limit_of, block_number, place_at, copy_at, replacement_at}
use Rattle.pack_geometry.specs.Pack.{Pack, is_marked}
use Rattle.pack_geometry.specs.TableSpelling.{Table}
use Rattle.pack_geometry.specs.PackTable.{places_of}
use Rattle.pack_geometry.specs.Homes.{is_place, index_in, replacement_home, home_of}

-- the place that a test names
pub same_place : (p q : Place) → is_place p q ≡ true → p ≡ q
same_place p q e =
    let c : p.cylinder ≡ q.cylinder = grind (arith, nat_tests) in
    let t : p.track ≡ q.track = grind (arith, nat_tests) in
    let s : p.sector ≡ q.sector = grind (arith, nat_tests) in
    λ i. record { cylinder = c i; track = t i; sector = s i }

-- data blocks at one place are one block
back : (kind : DriveKind) (block : ℕ) → block < limit_of kind → block_number kind (place_at kind block) ≡ block
back Rp06 block lt = omega arith
back other block lt = omega arith

pub same_block : (kind : DriveKind) (b c : ℕ) → b < limit_of kind → c < limit_of kind → place_at kind b ≡ place_at kind c → b ≡ c
same_block kind b c lb lc e = sym (back kind b lb) ∙ ap (block_number kind) e ∙ back kind c lc

-- what a home is: the block itself, or the replacement of an entry that lists the block's place
pub record IsReplaced (kind : DriveKind) (table : Option Table) (block home : ℕ) : Type 0 where
  pub index : ℕ
  pub listed : index_in table (place_at kind block) ≡ Some index
  pub at : home ≡ replacement_at kind index

pub record IsHomeOf (kind : DriveKind) (table : Option Table) (pack : Pack) (block home : ℕ) : Type 0 where
  pub below : block < limit_of kind
  pub unmarked : is_marked pack home ≡ false
  pub cases : (home ≡ block) ⊎ IsReplaced kind table block home

replaced_by : (kind : DriveKind) (table : Option Table) (pack : Pack) (block home j : ℕ) (m : Bool) → block < limit_of kind
    → index_in table (place_at kind block) ≡ Some j → is_marked pack (replacement_at kind j) ≡ m
    → (if m then None else Some (replacement_at kind j)) ≡ Some home → IsHomeOf kind table pack block home
replaced_by kind table pack block home j true lt listed em e = absurd (none-some home e)
replaced_by kind table pack block home j false lt listed em e =
    let at : replacement_at kind j ≡ home = same_Some _ _ e in
    record {
      below = lt;
      unmarked = ap (is_marked pack) (sym at) ∙ em;
      cases = inr (record { index = j; listed = listed; at = sym at });
    }

cases_by : (kind : DriveKind) (table : Option Table) (pack : Pack) (block home : ℕ) (d m : Bool) (i : Option ℕ)
    → nat_lt block (limit_of kind) ≡ d → is_marked pack block ≡ m → index_in table (place_at kind block) ≡ i
    → (if d then (if m then replacement_home kind pack i else Some block) else None) ≡ Some home → IsHomeOf kind table pack block home
cases_by kind table pack block home false m i ed em ei e = absurd (none-some home e)
cases_by kind table pack block home true false i ed em ei e =
    let at : block ≡ home = same_Some _ _ e in
    record { below = (Decides-ltb block (limit_of kind)).0 ed; unmarked = ap (is_marked pack) (sym at) ∙ em; cases = inl (sym at) }
cases_by kind table pack block home true true None ed em ei e = absurd (none-some home e)
cases_by kind table pack block home true true (Some j) ed em ei e =
    replaced_by kind table pack block home j (is_marked pack (replacement_at kind j)) ((Decides-ltb block (limit_of kind)).0 ed) ei refl e

pub home_cases : (kind : DriveKind) (table : Option Table) (pack : Pack) (block home : ℕ) → home_of kind table pack block ≡ Some home → IsHomeOf kind table pack block home
home_cases kind table pack block home e = cases_by kind table pack block home _ _ _ refl refl refl e

pub replacement_above : (kind : DriveKind) (i : ℕ) → i < 126 → limit_of kind ≤ replacement_at kind i
replacement_above Rp06 i lt = omega arith
replacement_above other i lt = omega arith

pub replacement_once : (kind : DriveKind) (i j : ℕ) → i < 126 → j < 126 → replacement_at kind i ≡ replacement_at kind j → i ≡ j
replacement_once Rp06 i j li lj e = omega arith
replacement_once other i j li lj e = omega arith

index_small : (kind : DriveKind) (table : Option Table) (block home : ℕ) → (r : IsReplaced kind table block home) → length (places_of table) ≤ 126 → r.index < 126
index_small kind table block home r room =
    let at = position-Some (is_place (place_at kind block)) (places_of table) r.index (place_at kind block) r.listed in
    omega (arith, room, at.0)

listed_place : (kind : DriveKind) (table : Option Table) (block home : ℕ) (d : Place) → (r : IsReplaced kind table block home) → get_or (places_of table) r.index d ≡ place_at kind block
listed_place kind table block home d r =
    sym (same_place _ _ (position-Some (is_place (place_at kind block)) (places_of table) r.index d r.listed).1)

both_replaced : (kind : DriveKind) (table : Option Table) (b c home : ℕ) → length (places_of table) ≤ 126 → b < limit_of kind → c < limit_of kind
    → (r : IsReplaced kind table b home) → (s : IsReplaced kind table c home) → b ≡ c
both_replaced kind table b c home room lb lc r s =
    let i = index_small kind table b home r room in
    let j = index_small kind table c home s room in
    let one : r.index ≡ s.index = replacement_once kind r.index s.index i j (sym r.at ∙ s.at) in
    let d : Place = place_at kind b in
    same_block kind b c lb lc (sym (listed_place kind table b home d r) ∙ ap (λ k. get_or (places_of table) k d) one ∙ listed_place kind table c home d s)

own_and_replaced : (kind : DriveKind) (table : Option Table) (b c home : ℕ) → length (places_of table) ≤ 126 → b < limit_of kind
    → home ≡ b → IsReplaced kind table c home → b ≡ c
own_and_replaced kind table b c home room lb own r =
    let small = index_small kind table c home r room in
    let above = replacement_above kind r.index small in
    absurd (omega (arith, above, r.at, own, lb))

apart_by : (kind : DriveKind) (table : Option Table) (pack : Pack) (b c home : ℕ) → length (places_of table) ≤ 126
    → IsHomeOf kind table pack b home → IsHomeOf kind table pack c home → b ≡ c
apart_by kind table pack b c home room p q =
    elim p.cases [
      | inl own ↦ elim q.cases [
        | inl other ↦ sym own ∙ other
        | inr other ↦ own_and_replaced kind table b c home room p.below own other
      ]
      | inr replaced ↦ elim q.cases [
        | inl other ↦ sym (own_and_replaced kind table c b home room q.below other replaced)
        | inr other ↦ both_replaced kind table b c home room p.below q.below replaced other
      ]
    ]

pub homes_apart : (kind : DriveKind) (table : Option Table) (pack : Pack) (block other home : ℕ) → length (places_of table) ≤ 126
    → home_of kind table pack block ≡ Some home → home_of kind table pack other ≡ Some home → block ≡ other
homes_apart kind table pack block other home room e f =
    apart_by kind table pack block other home room (home_cases kind table pack block home e) (home_cases kind table pack other home f)

pub below_copies : (kind : DriveKind) (block k : ℕ) → block < limit_of kind → block < copy_at kind k
below_copies Rp06 block k lt = omega arith
below_copies other block k lt = omega arith

pub replacement_below : (kind : DriveKind) (i k : ℕ) → i < 126 → replacement_at kind i < copy_at kind k
replacement_below Rp06 i k lt = omega arith
replacement_below other i k lt = omega arith

pub home_below : (kind : DriveKind) (table : Option Table) (pack : Pack) (block home k : ℕ) → length (places_of table) ≤ 126
    → home_of kind table pack block ≡ Some home → home < copy_at kind k
home_below kind table pack block home k room e =
    let is = home_cases kind table pack block home e in
    elim is.cases [
      | inl own ↦ omega (arith, own, below_copies kind block k is.below)
      | inr replaced ↦ omega (arith, replaced.at, replacement_below kind replaced.index k (index_small kind table block home replaced room))
    ]
