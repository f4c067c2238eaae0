-- Marking the listed blocks, place by place, and what it comes to.
use Rattle.std.proofs.Common.{◌≡◌, ℕ, zero, suc, ◌+◌, ◌<◌, ◌≤◌, ◌==◌, ◌&&◌, ◌||◌, nat_lt, not, Bool, true, false, IsTrue, if◌then◌else◌, List, [], ◌∷◌, ◌++◌, map, filter, take, drop, length, length-append, get_or, Option, None, Some, Result, Ok, Err, IsErr, refl, sym, ap, ◌∙◌, subst, arith}
use Rattle.std.specs.Prelude.{slice_get}
use Rattle.std.specs.List.{list_any, position, position_or_len}
use Rattle.std.proofs.Math.Seq.{take-suc}
use Rattle.std.proofs.lemmas.Bool.Decides.{Decides-eqb, Decides-ltb, nat_tests}
use Rattle.std.proofs.lemmas.List.{map-append, take-append-drop, take_all, length-take-le}
use Rattle.std.proofs.lemmas.List.Elements.{filter-append}
use Rattle.std.proofs.lemmas.List.Quantifiers.{position-Some}
use Rattle.std.proofs.lemmas.Option.{get_or_from_slice_get, none-some, slice_get_within}
use Rattle.pack_geometry.specs.declared.DriveKind.{DriveKind}
use Rattle.pack_geometry.specs.declared.DriveKind.TheVariants.{Rp06, Rm03, Rm05}
use Rattle.pack_geometry.specs.declared.Place.{Place}
use Rattle.pack_geometry.specs.Geometry.{IsInside, block_count, block_number, copy_at, limit_of, place_at, replacement_at}
use Rattle.pack_geometry.specs.Pack.{Pack, block_at, is_marked}
use Rattle.pack_geometry.specs.Content.{bytes_at}
use Rattle.pack_geometry.specs.Homes.{content_of, home_of, if_unmarked, index_in, is_place, replacement_home}
use Rattle.pack_geometry.specs.PackTable.{HaveSameCopies, IsTableOf}
use Rattle.pack_geometry.specs.TableEdit.{with_mark_at}
use Rattle.pack_geometry.specs.TableSpelling.{Table, IsTable}
use Rattle.pack_geometry.proofs.HomeLaws.{replacement_above, same_place}
use Rattle.pack_geometry.proofs.PackTableLaws.{table_once, table_same}
use Rattle.pack_geometry.proofs.TableEditBlocks.{marked_itself, marked_other}
use Rattle.bad144_tool.specs.Adding.{HasTable}
use Rattle.outside_traits.specs.Causes.{HasCause}
use Rattle.bad144_tool.specs.Changes.{Change, Mark, DoesAll, IsCutShort, with_changes}
use Rattle.bad144_tool.specs.Edit.{marking}
use Rattle.bad144_tool.specs.Marking.{IsMarkedUp, IsMarkingStopped, Within, Marks, is_at, is_listed, markings, to_mark, wants_mark}
use Rattle.bad144_tool.proofs.ChangeLaws.{does_then, does_same, does_cut}
use Rattle.bad144_tool.proofs.TableEdits.{all_changed, changes_in_pack, number_of_place}

at : {P : Type 0} → (b : Bool) → (b ≡ true → P) → (b ≡ false → P) → P
at {P} b one other = (elim b as (λ v. (v ≡ true → P) → (v ≡ false → P) → P) [ true ↦ λ t f. t refl | false ↦ λ t f. f refl ]) one other

-- ---- the marks behind marks

or_false : (b : Bool) → (b || false) ≡ b
or_false true = refl
or_false false = refl

or_or : (a b c : Bool) → ((a || b) || c) ≡ (a || (b || c))
or_or true b c = refl
or_or false b c = refl

mark_here : (pack : Pack) (x b : ℕ) → is_marked (with_mark_at true x pack) b ≡ (is_marked pack b || (x == b))
mark_here pack x b =
    at (x == b)
    (λ e. let same : x ≡ b = (Decides-eqb x b).0 e in
    subst (λ (n : ℕ). is_marked (with_mark_at true x pack) n ≡ (is_marked pack n || (x == b))) same (marked_itself true x pack ∙ ap (λ v. is_marked pack x || v) (sym e)))
    (λ e. marked_other true x pack b (λ same. false_true (sym e ∙ (Decides-eqb x b).1 (sym same))) ∙ sym (or_false (is_marked pack b)) ∙ ap (λ v. is_marked pack b || v) (sym e))
  where
    false_true : false ≡ true → ⊥
    false_true e = cc

marks_after : (pack : Pack) (blocks : List ℕ) (b : ℕ) → is_marked (all_changed pack (map Mark blocks)) b ≡ (is_marked pack b || list_any (λ x. x == b) blocks)
marks_after pack [] b = sym (or_false (is_marked pack b))
marks_after pack (x ∷ blocks) b =
    marks_after (with_mark_at true x pack) blocks b
    ∙ ap (λ v. v || list_any (λ x. x == b) blocks) (mark_here pack x b)
    ∙ or_or (is_marked pack b) (x == b) (list_any (λ x. x == b) blocks)

image_after : (pack : Pack) (blocks : List ℕ) → (all_changed pack (map Mark blocks)).image ≡ pack.image
image_after pack [] = refl
image_after pack (x ∷ blocks) = image_after (with_mark_at true x pack) blocks

-- a place with a number, among places
abbrev has : DriveKind → ℕ → List Place → Bool
has kind b [] = false
has kind b (p ∷ ps) = (block_number kind p == b) || has kind b ps

by_head : (w e v h : Bool) (n b : ℕ) (xs : List ℕ) → (e ≡ true → w ≡ v) → list_any (λ x. x == b) xs ≡ (v && h) → (n == b) ≡ e
    → list_any (λ x. x == b) (if w then n ∷ xs else xs) ≡ (v && (e || h))
by_head true true v h n b xs same rest is =
    ap (λ u. u || list_any (λ x. x == b) xs) is ∙ subst (λ (u : Bool). true ≡ (u && true)) (same refl) refl
by_head true false v h n b xs same rest is = ap (λ u. u || list_any (λ x. x == b) xs) is ∙ rest
by_head false true v h n b xs same rest is = rest ∙ subst (λ (u : Bool). (u && h) ≡ (u && true)) (same refl) refl
by_head false false v h n b xs same rest is = rest

any_wanted : (kind : DriveKind) (pack : Pack) (b : ℕ) (ps : List Place) → list_any (λ x. x == b) (to_mark kind pack ps) ≡ (wants_mark kind pack b && has kind b ps)
any_wanted kind pack b [] = none (wants_mark kind pack b)
  where
    none : (v : Bool) → false ≡ (v && false)
    none true = refl
    none false = refl
any_wanted kind pack b (p ∷ ps) =
    by_head (wants_mark kind pack (block_number kind p)) (block_number kind p == b) (wants_mark kind pack b) (has kind b ps) (block_number kind p) b (to_mark kind pack ps)
    (λ e. ap (wants_mark kind pack) ((Decides-eqb (block_number kind p) b).0 e)) (any_wanted kind pack b ps) refl

-- ---- a place with a number is at the index of that number's place

made : (c t s : ℕ) (p : Place) → c ≡ p.cylinder → t ≡ p.track → s ≡ p.sector → record { cylinder = c; track = t; sector = s } ≡ p
made c t s p one two three = rw (one, two, three) refl

place_of_number : (kind : DriveKind) (p : Place) → IsInside kind p → place_at kind (block_number kind p) ≡ p
place_of_number Rp06 p inside = made _ _ _ p (omega (arith, inside.cylinder, inside.track, inside.sector)) (omega (arith, inside.cylinder, inside.track, inside.sector)) (omega (arith, inside.cylinder, inside.track, inside.sector))
place_of_number other p inside = made _ _ _ p (omega (arith, inside.cylinder, inside.track, inside.sector)) (omega (arith, inside.cylinder, inside.track, inside.sector)) (omega (arith, inside.cylinder, inside.track, inside.sector))

has_at : (kind : DriveKind) (b : ℕ) (ps : List Place) (k : ℕ) (d : Place) → k < length ps → block_number kind (get_or ps k d) ≡ b → has kind b ps ≡ true
has_at kind b [] k d lt e = absurd (omega (arith, lt))
has_at kind b (p ∷ ps) zero d lt e = ap (λ v. v || has kind b ps) ((Decides-eqb (block_number kind p) b).1 e)
has_at kind b (p ∷ ps) (suc k) d lt e = ap (λ v. (block_number kind p == b) || v) (has_at kind b ps k d (omega (arith, lt)) e) ∙ or_true (block_number kind p == b)
  where
    or_true : (v : Bool) → (v || true) ≡ true
    or_true true = refl
    or_true false = refl

-- an index at which a number stands, where it is among them
where_has : (kind : DriveKind) (b : ℕ) (ps : List Place) (d : Place) → has kind b ps ≡ true → (k : ℕ) × (k < length ps) × (block_number kind (get_or ps k d) ≡ b)
where_has kind b [] d e = absurd (false_true e)
  where
    false_true : false ≡ true → ⊥
    false_true h = cc
where_has kind b (p ∷ ps) d e =
    by (block_number kind p == b) refl (λ h. where_has kind b ps d h)
  where
    by : (v : Bool) → (block_number kind p == b) ≡ v → (has kind b ps ≡ true → (k : ℕ) × (k < length ps) × (block_number kind (get_or ps k d) ≡ b))
        → (k : ℕ) × (k < length (p ∷ ps)) × (block_number kind (get_or (p ∷ ps) k d) ≡ b)
    by true is rest = (0, omega arith, (Decides-eqb (block_number kind p) b).0 is)
    by false is rest =
        let tail : has kind b ps ≡ true = sym (ap (λ v. v || has kind b ps) is) ∙ e in
        let found = rest tail in (suc found.0, omega (arith, found.1), found.2)

true_false : true ≡ false → ⊥
true_false e = cc

-- the test passes at no place where no index is given
le_position : (test : Place → Bool) (xs : List Place) (k : ℕ) (d : Place) → k < length xs → test (get_or xs k d) ≡ true → position_or_len test xs ≤ k
le_position test [] k d lt e = absurd (omega (arith, lt))
le_position test (x ∷ xs) zero d lt e = rw e (omega arith)
le_position test (x ∷ xs) (suc k) d lt e =
    at (test x) (λ t. rw t (omega arith)) (λ f. rw f (omega (arith, le_position test xs k d (omega (arith, lt)) e)))

no_index : (test : Place → Bool) (xs : List Place) (k : ℕ) (d : Place) → position test xs ≡ None → k < length xs → test (get_or xs k d) ≡ true → ⊥
no_index test xs k d none lt e =
    let low = le_position test xs k d lt e in
    none-some (position_or_len test xs) (sym none ∙ rw ((Decides-ltb (position_or_len test xs) (length xs)).1 (omega (arith, low, lt))) refl)

module _ (kind : DriveKind) (table : Table) (drive : table.kind ≡ kind) (valid : IsTable table) where
  inside_at : (k : ℕ) (d : Place) → k < length table.places → IsInside kind (get_or table.places k d)
  inside_at k d lt = subst (λ (j : DriveKind). IsInside j (get_or table.places k d)) drive (valid.inside k d lt)

  has_index : (b : ℕ) → b < limit_of kind → has kind b table.places ≡ is_at (index_in (Some table) (place_at kind b))
  has_index b low = by (index_in (Some table) (place_at kind b)) refl
    where
      small : b < block_count kind
      small = below_count kind b low
        where
          below_count : (j : DriveKind) (n : ℕ) → n < limit_of j → n < block_count j
          below_count Rp06 n lt = omega arith
          below_count Rm03 n lt = omega arith
          below_count Rm05 n lt = omega arith

      by : (o : Option ℕ) → index_in (Some table) (place_at kind b) ≡ o → has kind b table.places ≡ is_at o
      by (Some i) is =
          let found = position-Some (is_place (place_at kind b)) table.places i (place_at kind b) is in
          let same = same_place (place_at kind b) (get_or table.places i (place_at kind b)) found.1 in
          has_at kind b table.places i (place_at kind b) found.0 (ap (block_number kind) (sym same) ∙ number_of_place kind b small)
      by None is =
          at (has kind b table.places)
          (λ e. let there = where_has kind b table.places (place_at kind b) e in
          let p : Place = get_or table.places there.0 (place_at kind b) in
          let same : place_at kind b ≡ p = ap (place_at kind) (sym there.2) ∙ place_of_number kind p (inside_at there.0 (place_at kind b) there.1) in
          absurd (no_index (is_place (place_at kind b)) table.places there.0 (place_at kind b) is there.1 (itself (place_at kind b) p same)))
          (λ e. e)
        where
          itself : (q p : Place) → q ≡ p → is_place q p ≡ true
          itself q p same = subst (λ (r : Place). is_place q r ≡ true) same (grind (arith, nat_tests))

  -- THE MARKS behind all
  all_marks : (pack : Pack) (b : ℕ) → is_marked (all_changed pack (markings kind pack table.places)) b ≡ (is_marked pack b || is_listed kind table b)
  all_marks pack b =
      marks_after pack (to_mark kind pack table.places) b
      ∙ ap (λ v. is_marked pack b || v) (any_wanted kind pack b table.places)
      ∙ at (nat_lt b (limit_of kind))
      (λ lt. by_low (is_marked pack b) _ _ _ lt (has_index b ((Decides-ltb b (limit_of kind)).0 lt)))
      (λ ge. by_high (is_marked pack b) _ _ _ ge)
    where
      by_low : (m l h i : Bool) → l ≡ true → h ≡ i → (m || ((l && not m) && h)) ≡ (m || (l && i))
      by_low true l h i lt e = refl
      by_low false l h i lt e = rw (lt, e) refl

      by_high : (m l h i : Bool) → l ≡ false → (m || ((l && not m) && h)) ≡ (m || (l && i))
      by_high m l h i ge = rw ge refl

  -- ---- what the marks come to

  module _ (old new : Pack) (made_of : new ≡ all_changed old (markings kind old table.places)) where
    new_marks : (b : ℕ) → is_marked new b ≡ (is_marked old b || is_listed kind table b)
    new_marks b = ap (λ (p : Pack). is_marked p b) made_of ∙ all_marks old b

    same_image : new.image ≡ old.image
    same_image = ap (λ (p : Pack). p.image) made_of ∙ image_after old (to_mark kind old table.places)

    -- above the limit nothing is marked
    reserved_mark : (b : ℕ) → limit_of kind ≤ b → is_marked new b ≡ is_marked old b
    reserved_mark b high = new_marks b ∙ ap (λ v. is_marked old b || (v && is_at (index_in (Some table) (place_at kind b)))) (not_below b (limit_of kind) high) ∙ or_false (is_marked old b)
      where
        not_below : (m n : ℕ) → n ≤ m → nat_lt m n ≡ false
        not_below m n le = grind (arith, nat_tests)

    same_copies : HaveSameCopies kind old new
    same_copies = record {
      bytes = λ k lt. ap (λ image. block_at image (copy_at kind k)) (sym same_image);
      marks = λ k lt. sym (reserved_mark (copy_at kind k) (above kind k));
    }
      where
        above : (j : DriveKind) (k : ℕ) → limit_of j ≤ copy_at j k
        above Rp06 k = omega arith
        above Rm03 k = omega arith
        above Rm05 k = omega arith

    home_listed : (b i : ℕ) → is_listed kind table b ≡ true → index_in (Some table) (place_at kind b) ≡ Some i
        → home_of kind (Some table) new b ≡ if_unmarked old (replacement_at kind i)
    home_listed b i listed is =
        let found = position-Some (is_place (place_at kind b)) table.places i (place_at kind b) is in
        by _ _ _ (low _ _ listed) (new_marks b ∙ ap (λ v. is_marked old b || v) listed ∙ or_true (is_marked old b)) is
        ∙ ap (λ v. if v then None else Some (replacement_at kind i)) (reserved_mark (replacement_at kind i) (replacement_above kind i (omega (arith, found.0, valid.room))))
      where
        or_true : (v : Bool) → (v || true) ≡ true
        or_true true = refl
        or_true false = refl

        low : (l r : Bool) → (l && r) ≡ true → l ≡ true
        low true r e = refl
        low false r e = e

        by : (l m : Bool) (o : Option ℕ) → l ≡ true → m ≡ true → o ≡ Some i
            → (if l then (if m then replacement_home kind new o else Some b) else None) ≡ if_unmarked new (replacement_at kind i)
        by l m o one two three = rw (one, two, three) refl

    bytes_same : (o : Option ℕ) → bytes_at new o ≡ bytes_at old o
    bytes_same None = refl
    bytes_same (Some home) = ap (λ image. Some (block_at image home)) same_image

    content_listed : (b i : ℕ) → is_listed kind table b ≡ true → index_in (Some table) (place_at kind b) ≡ Some i
        → content_of kind (Some table) new b ≡ bytes_at old (if_unmarked old (replacement_at kind i))
    content_listed b i listed is = ap (λ o. bytes_at new o) (home_listed b i listed is) ∙ bytes_same (if_unmarked old (replacement_at kind i))

    content_other : (b : ℕ) → is_listed kind table b ≡ false → content_of kind (Some table) new b ≡ content_of kind (Some table) old b
    content_other b other =
        let same : is_marked new b ≡ is_marked old b = new_marks b ∙ ap (λ v. is_marked old b || v) other ∙ or_false (is_marked old b) in
        bytes_same (home_of kind (Some table) new b)
        ∙ ap (λ o. bytes_at old o) (by (nat_lt b (limit_of kind)) (is_marked new b) (is_marked old b) (index_in (Some table) (place_at kind b)) same other)
      where
        by : (l m n : Bool) (o : Option ℕ) → m ≡ n → (l && is_at o) ≡ false
            → (if l then (if m then replacement_home kind new o else Some b) else None) ≡ (if l then (if n then replacement_home kind old o else Some b) else None)
        by false m n o same unlisted = refl
        by true m n None same unlisted = rw same refl
        by true m n (Some i) same unlisted = absurd (true_false unlisted)

    pub is_marked_up : IsTableOf kind old (Some table) → IsMarkedUp kind old new table
    is_marked_up told = record {
      image = same_image;
      marks = new_marks;
      table_is = table_same kind old new (Some table) same_copies told;
      homes = home_listed;
      contents = content_listed;
      others = content_other;
    }

    -- there is nothing left to mark
    none_wanted : (k : ℕ) (d : Place) → k < length table.places → wants_mark kind new (block_number kind (get_or table.places k d)) ≡ false
    none_wanted k d lt =
        let b : ℕ = block_number kind (get_or table.places k d) in
        at (nat_lt b (limit_of kind))
        (λ low. by _ _ _ _ low (new_marks b) (sym (has_index b ((Decides-ltb b (limit_of kind)).0 low)) ∙ has_at kind b table.places k d lt refl))
        (λ high. ap (λ v. v && not (is_marked new b)) high)
      where
        by : (l m n i : Bool) → l ≡ true → m ≡ (n || (l && i)) → i ≡ true → (l && not m) ≡ false
        by l m true i one two three = rw (one, two) refl
        by l m false i one two three = rw (one, two, one, three) refl

nothing_to_mark : (kind : DriveKind) (pack : Pack) (ps : List Place) → ((k : ℕ) (d : Place) → k < length ps → wants_mark kind pack (block_number kind (get_or ps k d)) ≡ false)
    → to_mark kind pack ps ≡ []
nothing_to_mark kind pack [] none = refl
nothing_to_mark kind pack (p ∷ ps) none =
    ap (λ v. if v then block_number kind p ∷ to_mark kind pack ps else to_mark kind pack ps) (none 0 p (omega arith))
    ∙ nothing_to_mark kind pack ps (λ k d lt. none (suc k) d (omega (arith, lt)))

pack_marked : (kind : DriveKind) (unit count : ℕ) (old new : ℕ → Pack) (m : Marks kind unit old new count)
    → new unit ≡ all_changed (old unit) (markings kind (old unit) m.table.places)
pack_marked kind unit count old new m = ap (λ (packs : ℕ → Pack). packs unit) m.done ∙ changes_in_pack old unit (markings kind (old unit) m.table.places)

pub marked_up : (kind : DriveKind) (unit count : ℕ) (old new : ℕ → Pack) (m : Marks kind unit old new count) → IsMarkedUp kind (old unit) (new unit) m.table
marked_up kind unit count old new m =
    is_marked_up kind m.table m.on.table_is.told.for_drive m.on.table_is.told.spelled.valid (old unit) (new unit) (pack_marked kind unit count old new m) m.on.table_is

-- a second run finds the same table, and nothing to mark
pub nothing_again : (kind : DriveKind) (unit count more : ℕ) (old new newer : ℕ → Pack) → Marks kind unit old new count → Marks kind unit new newer more
    → (more ≡ 0) × (newer ≡ new)
nothing_again kind unit count more old new newer m again =
    let up = marked_up kind unit count old new m in
    let same : again.table ≡ m.table = same_some (table_once kind (new unit) (Some again.table) (Some m.table) again.on.table_is up.table_is) in
    let none : to_mark kind (new unit) again.table.places ≡ [] =
    ap (λ (t : Table). to_mark kind (new unit) t.places) same
    ∙ nothing_to_mark kind (new unit) m.table.places
    (none_wanted kind m.table m.on.table_is.told.for_drive m.on.table_is.told.spelled.valid (old unit) (new unit) (pack_marked kind unit count old new m)) in
    (again.counted ∙ ap (λ (xs : List ℕ). length xs) none, again.done ∙ ap (λ (xs : List ℕ). with_changes new unit (map Mark xs)) none)
  where
    same_some : {t u : Table} → Some t ≡ Some u → t ≡ u
    same_some {t} {u} e = cc

-- ---- place by place

module _ {P : Type 0} {tells : P → Bool} {held : P → ℕ → Pack} {faults : P → ℕ} {unit : ℕ} where
  -- the answer may be another Ok
  pub does_ok : {T U E : Type 0} {old new : P} {v : U} {w : T} {xs : List Change} → DoesAll {P = P} {T = U} {E = E} tells held faults unit old new (Ok v) xs
      → DoesAll {P = P} {T = T} {E = E} tells held faults unit old new (Ok w) xs
  does_ok does = record { never_again = does.never_again; done = does.done; cut_short = tt; cause = record { later = does.cause.later; failed = tt } }

  -- and another Err
  pub does_err : {T U E F : Type 0} {old new : P} {e : F} {result : Result T E} {xs : List Change} → IsErr result
      → DoesAll {P = P} {T = U} {E = F} tells held faults unit old new (Err e) xs → DoesAll {P = P} {T = T} {E = E} tells held faults unit old new result xs
  does_err {result = Ok v} is does = absurd (no_err is)
    where
      no_err : false ≡ true → ⊥
      no_err f = cc
  does_err {result = Err x} is does =
      record { never_again = does.never_again; done = tt; cut_short = does.cut_short; cause = record { later = does.cause.later; failed = does.cause.failed } }

  -- a call that failed before any write
  pub does_nothing : {T U E F : Type 0} {old new : P} {e : F} (result : Result T E) {xs : List Change} → IsErr result → (IsTrue (tells new) → IsTrue (tells old))
      → (IsTrue (tells new) → held new ≡ held old) → HasCause {T = U} {E = F} (faults old) (faults new) (Err e)
      → DoesAll {P = P} {T = T} {E = E} tells held faults unit old new result xs
  does_nothing (Ok v) is again same cause = absurd (no_err is)
    where
      no_err : false ≡ true → ⊥
      no_err f = cc
  does_nothing (Err x) is again same cause =
      record { never_again = again; done = tt; cut_short = λ t. (0, same t); cause = record { later = cause.later; failed = cause.failed } }

marking_is : (kind : DriveKind) (pack : Pack) (place : Place) (on : Bool) → on ≡ wants_mark kind pack (block_number kind place)
    → marking on (block_number kind place) ≡ markings kind pack (place ∷ [])
marking_is kind pack place on is = by on (wants_mark kind pack (block_number kind place)) is
  where
    by : (v w : Bool) → v ≡ w → marking v (block_number kind place) ≡ map Mark (if w then block_number kind place ∷ [] else [])
    by v true same = rw same refl
    by v false same = rw same refl

-- the mark was wanted or not, and then set
pub marked_then : {P T E : Type 0} {tells : P → Bool} {held : P → ℕ → Pack} {faults : P → ℕ} {old mid new : P} {result : Result T E}
    (kind : DriveKind) (unit : ℕ) (place : Place) (block : ℕ) (on : Bool) → block ≡ block_number kind place
    → (IsTrue (tells mid) → IsTrue (tells old)) → (IsTrue (tells mid) → held mid ≡ held old) → faults old ≤ faults mid
    → (IsTrue (tells mid) → on ≡ wants_mark kind (held old unit) block)
    → DoesAll {P = P} {T = T} {E = E} tells held faults unit mid new result (marking on block)
    → DoesAll {P = P} {T = T} {E = E} tells held faults unit old new result (markings kind (held old unit) (place ∷ []))
marked_then {T = T} {E = E} {tells = tells} {held = held} {faults = faults} {old = old} {mid = mid} {new = new} kind unit place block on number again same later wants does =
    let looked : DoesAll {T = Bool} {E = E} tells held faults unit old mid (Ok on) [] =
    record { never_again = again; done = same; cut_short = tt; cause = record { later = later; failed = tt } } in
    does_same (λ t. ap (marking on) number ∙ marking_is kind (held old unit) place on (wants (does.never_again t) ∙ ap (wants_mark kind (held old unit)) number))
    (does_then looked does)

-- the places so far were marked where it was wanted, and then the next one
below_none : (kind : DriveKind) (b : ℕ) (ps : List Place) → ((k : ℕ) (d : Place) → k < length ps → block_number kind (get_or ps k d) < b) → has kind b ps ≡ false
below_none kind b [] below = refl
below_none kind b (p ∷ ps) below =
    ap (λ v. v || has kind b ps) (differ (block_number kind p) b (below 0 p (omega arith))) ∙ below_none kind b ps (λ k d lt. below (suc k) d (omega (arith, lt)))
  where
    differ : (m n : ℕ) → m < n → (m == n) ≡ false
    differ m n lt = grind (arith, nat_tests)

still : (kind : DriveKind) (packs : ℕ → Pack) (unit b : ℕ) (ps : List Place) → has kind b ps ≡ false
    → wants_mark kind (with_changes packs unit (markings kind (packs unit) ps) unit) b ≡ wants_mark kind (packs unit) b
still kind packs unit b ps none =
    ap (λ v. nat_lt b (limit_of kind) && not v)
    (ap (λ (p : Pack). is_marked p b) (changes_in_pack packs unit (markings kind (packs unit) ps))
    ∙ marks_after (packs unit) (to_mark kind (packs unit) ps) b
    ∙ ap (λ v. is_marked (packs unit) b || v) (any_wanted kind (packs unit) b ps ∙ ap (λ v. wants_mark kind (packs unit) b && v) none ∙ and_false (wants_mark kind (packs unit) b))
    ∙ or_false (is_marked (packs unit) b))
  where
    and_false : (v : Bool) → (v && false) ≡ false
    and_false true = refl
    and_false false = refl

to_mark-append : (kind : DriveKind) (pack : Pack) (xs ys : List Place) → to_mark kind pack (xs ++ ys) ≡ to_mark kind pack xs ++ to_mark kind pack ys
to_mark-append kind pack xs ys =
    ap (filter (wants_mark kind pack)) (map-append (block_number kind) xs ys) ∙ filter-append (wants_mark kind pack) (map (block_number kind) xs) (map (block_number kind) ys)

one_more : (places : List Place) (i : ℕ) (place : Place) → slice_get places i ≡ Some place → take (i + 1) places ≡ take i places ++ place ∷ []
one_more places i place is =
    let inside : i < length places = slice_get_within places i place is in
    let next : i + 1 ≡ suc i = omega arith in
    ap (λ (n : ℕ). take n places) next ∙ take-suc places i place inside
    ∙ ap (λ (p : Place). take i places ++ p ∷ []) (get_or_from_slice_get places i place place is)

get_or_take : (xs : List Place) (i k : ℕ) (d : Place) → k < i → get_or (take i xs) k d ≡ get_or xs k d
get_or_take [] zero k d lt = absurd (omega (arith, lt))
get_or_take [] (suc i) k d lt = refl
get_or_take (x ∷ xs) zero k d lt = absurd (omega (arith, lt))
get_or_take (x ∷ xs) (suc i) zero d lt = refl
get_or_take (x ∷ xs) (suc i) (suc k) d lt = get_or_take xs i k d (omega (arith, lt))

pub all_taken : (places : List Place) (i n : ℕ) → n ≡ length places → n ≤ i → take i places ≡ places
all_taken places i n all past = take_all i places (omega arith)

module _ (kind : DriveKind) (table : Table) (drive : table.kind ≡ kind) (valid : IsTable table) (i : ℕ) (place : Place) (is : slice_get table.places i ≡ Some place) where
  none_before : has kind (block_number kind place) (take i table.places) ≡ false
  none_before =
      let inside : i < length table.places = slice_get_within table.places i place is in
      below_none kind (block_number kind place) (take i table.places) (λ k d lt.
      let before : k < i = omega (arith, lt, length-take-le i table.places (omega (arith, inside))) in
      let less = valid.ascending k i d before inside in
      let one = ap (block_number table.kind) (get_or_take table.places i k d before) in
      let other = ap (block_number table.kind) (get_or_from_slice_get table.places i place d is) in
      subst (λ (j : DriveKind). block_number j (get_or (take i table.places) k d) < block_number j place) drive (omega (arith, less, one, other)))

  -- one more place, and how many were marked
  pub place_then : {P T U E : Type 0} {tells : P → Bool} {held : P → ℕ → Pack} {faults : P → ℕ} {unit : ℕ} {old mid new : P} {v : U} {result : Result T E}
      → DoesAll {P = P} {T = U} {E = E} tells held faults unit old mid (Ok v) (markings kind (held old unit) (take i table.places))
      → DoesAll {P = P} {T = T} {E = E} tells held faults unit mid new result (markings kind (held mid unit) (place ∷ []))
      → DoesAll {P = P} {T = T} {E = E} tells held faults unit old new result (markings kind (held old unit) (take (i + 1) table.places))
  place_then {held = held} {unit = unit} {old = old} {mid = mid} first second =
      does_same (λ t. sym (ap (λ (ps : List Place). markings kind (held old unit) ps) (one_more table.places i place is)
      ∙ ap (λ (ns : List ℕ). map Mark ns) (to_mark-append kind (held old unit) (take i table.places) (place ∷ []))
      ∙ map-append Mark (to_mark kind (held old unit) (take i table.places)) (to_mark kind (held old unit) (place ∷ []))))
      (does_then first (does_same (λ t. ap (λ v. map Mark (if v then block_number kind place ∷ [] else []))
      (ap (λ (packs : ℕ → Pack). wants_mark kind (packs unit) (block_number kind place)) (first.done (second.never_again t))
      ∙ still kind (held old) unit (block_number kind place) (take i table.places) none_before)) second))

  pub count_then : (pack : Pack) (count : ℕ) (on : Bool) → count ≡ length (to_mark kind pack (take i table.places)) → on ≡ wants_mark kind pack (block_number kind place)
      → count + (if on then 1 else 0) ≡ length (to_mark kind pack (take (i + 1) table.places))
  count_then pack count on so_far wants =
      by _ _ wants so_far ∙ sym (ap (λ (ps : List Place). length (to_mark kind pack ps)) (one_more table.places i place is)
      ∙ ap (λ (ns : List ℕ). length ns) (to_mark-append kind pack (take i table.places) (place ∷ [])) ∙ length-append _ _)
    where
      by : (v w : Bool) → v ≡ w → count ≡ length (to_mark kind pack (take i table.places))
          → count + (if v then 1 else 0) ≡ length (to_mark kind pack (take i table.places)) + length (if w then block_number kind place ∷ [] else [])
      by v true same all = rw same (omega (arith, all))
      by v false same all = rw same (omega (arith, all))

  -- the mark of the place was wanted before any was set
  pub wanted_first : (packs now : ℕ → Pack) (unit : ℕ) → now ≡ with_changes packs unit (markings kind (packs unit) (take i table.places))
      → wants_mark kind (now unit) (block_number kind place) ≡ wants_mark kind (packs unit) (block_number kind place)
  wanted_first packs now unit done =
      ap (λ (p : ℕ → Pack). wants_mark kind (p unit) (block_number kind place)) done ∙ still kind packs unit (block_number kind place) (take i table.places) none_before

-- a front of the marks is a front of all
pub does_front : {P T E : Type 0} {tells : P → Bool} {held : P → ℕ → Pack} {faults : P → ℕ} {old new : P} {e : E} (kind : DriveKind) (unit i : ℕ) (places : List Place)
    → DoesAll {P = P} {T = T} {E = E} tells held faults unit old new (Err e) (markings kind (held old unit) (take i places))
    → DoesAll {P = P} {T = T} {E = E} tells held faults unit old new (Err e) (markings kind (held old unit) places)
does_front {held = held} {old = old} kind unit i places does =
    does_same (λ t. sym (ap (λ (ps : List Place). markings kind (held old unit) ps) (sym (take-append-drop i places))
    ∙ ap (λ (ns : List ℕ). map Mark ns) (to_mark-append kind (held old unit) (take i places) (drop i places))
    ∙ map-append Mark (to_mark kind (held old unit) (take i places)) (to_mark kind (held old unit) (drop i places))))
    (does_cut (markings kind (held old unit) (drop i places)) does)

-- the packs failed within the marks
pub marking_stopped : (kind : DriveKind) (unit : ℕ) (old mid new : ℕ → Pack) (table : Table) → HasTable kind (old unit) table → mid ≡ old
    → IsCutShort mid new unit (markings kind (mid unit) table.places) → IsMarkingStopped kind unit old new
marking_stopped kind unit old mid new table on same cut =
    Within table on (subst (λ (p : ℕ → Pack). IsCutShort p new unit (markings kind (p unit) table.places)) same cut)

pub marks_all : (kind : DriveKind) (unit count : ℕ) (old mid new : ℕ → Pack) (table : Table) → HasTable kind (old unit) table → mid ≡ old
    → new ≡ with_changes mid unit (markings kind (mid unit) table.places) → count ≡ length (to_mark kind (mid unit) table.places) → Marks kind unit old new count
marks_all kind unit count old mid new table on same done counted = record {
  table = table;
  on = on;
  done = subst (λ (p : ℕ → Pack). new ≡ with_changes p unit (markings kind (p unit) table.places)) same done;
  counted = subst (λ (p : ℕ → Pack). count ≡ length (to_mark kind (p unit) table.places)) same counted;
}
