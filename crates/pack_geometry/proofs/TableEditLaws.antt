-- The writes of a table edit make it.
use Rattle.std.proofs.Common.{◌≡◌, ◌≢◌, ◌⊎◌, inl, inr, ℕ, zero, suc, ◌+◌, ◌-◌, ◌<◌, ◌≤◌, ◌==◌, ◌&&◌, ◌||◌, nat_lt, Bool, true, false, if◌then◌else◌, List, [], ◌∷◌, length, get_or, Option, None, Some, Contains, refl, sym, ap, ◌∙◌, arith}
use Rattle.std.specs.Prelude.{insert}
use Rattle.std.specs.List.{position, position_or_len}
use Rattle.std.proofs.Math.Path.{fun_ext}
use Rattle.std.proofs.lemmas.Bool.{cases_lt, false≢true, true≢false}
use Rattle.std.proofs.lemmas.Bool.Decides.{Decides-eqb, Decides-ltb, nat_tests}
use Rattle.std.proofs.lemmas.List.Edits.{get_or-insert_above, get_or-insert_at, get_or-insert_below, length-insert}
use Rattle.std.proofs.lemmas.List.Quantifiers.{position-Some}
use Rattle.std.proofs.lemmas.List.Sums.{position_or_len_is}
use Rattle.std.proofs.lemmas.Option.{none-some}
use Rattle.pack_geometry.specs.declared.DriveKind.{DriveKind}
use Rattle.pack_geometry.specs.declared.Place.{Place}
use Rattle.pack_geometry.specs.Geometry.{limit_of, place_at, copy_at, replacement_at}
use Rattle.pack_geometry.specs.Pack.{Pack, block_at, is_marked, written}
use Rattle.pack_geometry.specs.Content.{bytes_at}
use Rattle.pack_geometry.specs.TableSpelling.{Table, table_text}
use Rattle.pack_geometry.specs.PackTable.{IsTableOf}
use Rattle.pack_geometry.specs.Homes.{is_place, index_in, if_unmarked, replacement_home, content_of}
use Rattle.pack_geometry.specs.TableEdit.{Edit, IsAddedAt, edited_table, replacement_bytes, edited_content, IsApart, IsEdited, moved_up, with_copies, with_mark_at, edited}
use Rattle.pack_geometry.proofs.HomeLaws.{same_place, same_block, below_copies, replacement_above, replacement_below}
use Rattle.pack_geometry.proofs.PackLaws.{block_at-with_block_same}
use Rattle.pack_geometry.proofs.TableLaws.{length-table_text}
use Rattle.pack_geometry.proofs.TableEditBlocks.{other_block, moved_marks, moved_apart, moved_here, copied_marks, copied_apart, copied_here, length-replacement_bytes, mark_image, marked_other, marked_itself, differ}

-- a proof by the two values of a test
at : {P : Type 0} → (b : Bool) → (b ≡ true → P) → (b ≡ false → P) → P
at {P} b one other = (elim b as (λ v. (v ≡ true → P) → (v ≡ false → P) → P) [ true ↦ λ t f. t refl | false ↦ λ t f. f refl ]) one other

-- ---- positions in a list of places, and in one with a place more

position_by : (test : Place → Bool) (xs : List Place) (i : ℕ) (inside : Bool) → position_or_len test xs ≡ i → nat_lt i (length xs) ≡ inside
    → (if nat_lt (position_or_len test xs) (length xs) then Some (position_or_len test xs) else None) ≡ (if inside then Some i else None)
position_by test xs i inside e t = rw (e, t) refl

position_is : (test : Place → Bool) (xs : List Place) (i : ℕ) (d : Place) → i < length xs → ((k : ℕ) → k < i → test (get_or xs k d) ≡ false)
    → test (get_or xs i d) ≡ true → position test xs ≡ Some i
position_is test xs i d lt before here =
    position_by test xs i true (position_or_len_is test xs i d (omega (arith, lt)) before (λ inside. here)) ((Decides-ltb i (length xs)).1 lt)

nowhere : (n : ℕ) → nat_lt n n ≡ false
nowhere n = grind (arith, nat_tests)

position_none : (test : Place → Bool) (xs : List Place) (d : Place) → ((k : ℕ) → k < length xs → test (get_or xs k d) ≡ false) → position test xs ≡ None
position_none test xs d all =
    position_by test xs (length xs) false (position_or_len_is test xs (length xs) d (omega arith) all (λ inside. absurd (omega (arith, inside)))) (nowhere (length xs))

position_le : (test : Place → Bool) (xs : List Place) (k : ℕ) (d : Place) → k < length xs → test (get_or xs k d) ≡ true → position_or_len test xs ≤ k
position_le test [] k d lt e = absurd (omega (arith, lt))
position_le test (x ∷ xs) zero d lt e = rw e (omega arith)
position_le test (x ∷ xs) (suc k) d lt e =
    at (test x) (λ t. rw t (omega arith)) (λ f. rw f (omega (arith, position_le test xs k d (omega (arith, lt)) e)))

none_inside : (p n : ℕ) → p < n → (if nat_lt p n then Some p else None) ≡ None → ⊥
none_inside p n lt e = none-some p (sym e ∙ rw ((Decides-ltb p n).1 lt) refl)

none_passes : (test : Place → Bool) (xs : List Place) (k : ℕ) (d : Place) → position test xs ≡ None → k < length xs → test (get_or xs k d) ≡ false
none_passes test xs k d none lt =
    at (test (get_or xs k d))
    (λ e. let low = position_le test xs k d lt e in absurd (none_inside (position_or_len test xs) (length xs) (omega (arith, low, lt)) none))
    (λ e. e)

insert_before : (test : Place → Bool) (xs : List Place) (i j : ℕ) (y d : Place) → i ≤ length xs → j < i → position test xs ≡ Some j
    → position test (insert xs i y) ≡ Some j
insert_before test xs i j y d le before e =
    let found = position-Some test xs j d e in
    position_is test (insert xs i y) j d (omega (arith, before, le, length-insert xs i y))
    (λ k lt. ap test (get_or-insert_below xs i y d k (omega (arith, lt, before)) le) ∙ found.2 k lt)
    (ap test (get_or-insert_below xs i y d j before le) ∙ found.1)

-- no element of the longer list passes before one that did not pass before in the shorter
passed_over : (test : Place → Bool) (xs : List Place) (i n : ℕ) (y d : Place) → i ≤ length xs → n ≤ length xs → i ≤ n → test y ≡ false
    → ((k : ℕ) → k < n → test (get_or xs k d) ≡ false) → (k : ℕ) → k < n + 1 → test (get_or (insert xs i y) k d) ≡ false
passed_over test xs i n y d le ln ie no_new all k lt =
    elim (cases_lt k i) [
      | inl before ↦ ap test (get_or-insert_below xs i y d k before le) ∙ all k (omega (arith, before, ie))
      | inr behind ↦
          elim (cases_lt i k) [
            | inl after ↦
                let one_less : k ≡ k - 1 + 1 = omega (arith, after) in
                ap (λ m. test (get_or (insert xs i y) m d)) one_less
                ∙ ap test (get_or-insert_above xs i y d (k - 1) (omega (arith, after)) le) ∙ all (k - 1) (omega (arith, after, lt))
            | inr here ↦
                let same : k ≡ i = omega (arith, behind, here) in
                ap (λ m. test (get_or (insert xs i y) m d)) same ∙ ap test (get_or-insert_at xs i y d le) ∙ no_new
          ]
    ]

insert_behind : (test : Place → Bool) (xs : List Place) (i j : ℕ) (y d : Place) → i ≤ length xs → i ≤ j → test y ≡ false → position test xs ≡ Some j
    → position test (insert xs i y) ≡ Some (j + 1)
insert_behind test xs i j y d le behind no_new e =
    let found = position-Some test xs j d e in
    position_is test (insert xs i y) (j + 1) d (omega (arith, found.0, length-insert xs i y))
    (passed_over test xs i j y d le (omega (arith, found.0)) behind no_new found.2)
    (ap test (get_or-insert_above xs i y d j behind le) ∙ found.1)

insert_nowhere : (test : Place → Bool) (xs : List Place) (i : ℕ) (y d : Place) → i ≤ length xs → test y ≡ false → position test xs ≡ None
    → position test (insert xs i y) ≡ None
insert_nowhere test xs i y d le no_new e =
    position_none test (insert xs i y) d
    (λ k lt. passed_over test xs i (length xs) y d le (omega arith) le no_new (λ l small. none_passes test xs l d e small) k (omega (arith, lt, length-insert xs i y)))

pub other_place : (p q : Place) → (p ≡ q → ⊥) → is_place p q ≡ false
other_place p q ne = at (is_place p q) (λ e. absurd (ne (same_place p q e))) (λ e. e)

pub is_itself : (p : Place) → is_place p p ≡ true
is_itself p = grind (arith, nat_tests)

insert_itself : (xs : List Place) (i : ℕ) (y : Place) → i ≤ length xs → (Contains xs y → ⊥) → position (is_place y) (insert xs i y) ≡ Some i
insert_itself xs i y le absent =
    position_is (is_place y) (insert xs i y) i y (omega (arith, le, length-insert xs i y))
    (λ k lt. ap (is_place y) (get_or-insert_below xs i y y k lt le)
    ∙ other_place y (get_or xs k y) (λ same. absent (k, omega (arith, lt, le), sym same)))
    (ap (is_place y) (get_or-insert_at xs i y y le) ∙ is_itself y)

-- ---- what the writes leave

pub record IsAfter (kind : DriveKind) (old new : Pack) (table : Table) (edit : Edit) (i : ℕ) : Type 0 where
  pub room : length table.places < 126
  pub apart : (b : ℕ) → IsApart kind i (length table.places) b → block_at new.image b ≡ block_at old.image b
  pub moved : (j : ℕ) → i ≤ j → j < length table.places → block_at new.image (replacement_at kind (j + 1)) ≡ block_at old.image (replacement_at kind j)
  pub first : block_at new.image (replacement_at kind i) ≡ replacement_bytes old edit
  pub copies : (k : ℕ) → k < 5 → block_at new.image (copy_at kind k) ≡ table_text table.serial (edited_table kind table edit i).places
  pub marks_other : (b : ℕ) → b ≢ edit.block → is_marked new b ≡ is_marked old b
  pub mark_itself : is_marked new edit.block ≡ (is_marked old edit.block || edit.mark)

pub not_above : (kind : DriveKind) (block j : ℕ) → block < limit_of kind → j < 126 → block ≢ replacement_at kind j
not_above kind block j lt small e = let above = replacement_above kind j small in absurd (omega (arith, above, e, lt))

pub not_copy : (kind : DriveKind) (block k : ℕ) → block < limit_of kind → block ≢ copy_at kind k
not_copy kind block k lt e = let below = below_copies kind block k lt in absurd (omega (arith, below, e))

no_replacement_is_copy : (kind : DriveKind) (j k : ℕ) → j < 126 → replacement_at kind j ≢ copy_at kind k
no_replacement_is_copy kind j k small e = let below = replacement_below kind j k small in absurd (omega (arith, below, e))

pub after_writes : (kind : DriveKind) (pack : Pack) (table : Table) (edit : Edit) (i : ℕ) → IsAddedAt kind pack table edit i
    → IsAfter kind pack (edited kind pack table edit i) table edit i
after_writes kind pack table edit i added = record {
  room = room;
  apart = λ b away. image b ∙ copied_apart kind text 5 listed b size away.no_copy ∙ other_block moved (replacement_at kind i) b bytes long (away.no_replacement i (omega arith) added.position)
      ∙ moved_apart kind pack i d b (λ k lt. away.no_replacement (i + k + 1) (omega arith) (omega (arith, lt, added.position)));
  moved = λ j from below. up j (j - i) (omega (arith, from)) (omega (arith, from, below, added.position)) (omega (arith, below, room));
  first = image (replacement_at kind i) ∙ copied_apart kind text 5 listed (replacement_at kind i) size (λ k lt. no_replacement_is_copy kind i k (omega (arith, added.position, room)))
      ∙ block_at-with_block_same moved.image bytes (replacement_at kind i) long;
  copies = λ k lt. image (copy_at kind k) ∙ copied_here kind text 5 listed k size lt;
  marks_other = λ b ne. marked_other edit.mark edit.block copied b ne ∙ ap (λ m. is_marked (record { image = []; marks = m }) b) marks;
  mark_itself = marked_itself edit.mark edit.block copied ∙ ap (λ m. is_marked (record { image = []; marks = m }) edit.block || edit.mark) marks;
}
  where
    room : length table.places < 126
    room = omega (arith, added.valid.room, length-insert table.places i (place_at kind edit.block), added.position)

    d : ℕ
    d = length table.places - i

    text : List ℕ
    text = table_text table.serial (edited_table kind table edit i).places

    size : length text ≡ 512
    size = length-table_text table.serial (edited_table kind table edit i).places added.valid.room

    bytes : List ℕ
    bytes = replacement_bytes pack edit

    long : length bytes ≡ 512
    long = length-replacement_bytes pack edit

    moved : Pack
    moved = moved_up kind pack i d

    listed : Pack
    listed = written moved (replacement_at kind i) bytes

    copied : Pack
    copied = with_copies kind text 5 listed

    image : (b : ℕ) → block_at (with_mark_at edit.mark edit.block copied).image b ≡ block_at copied.image b
    image b = ap (λ x. block_at x b) (mark_image edit.mark edit.block copied)

    marks : copied.marks ≡ pack.marks
    marks = copied_marks kind text 5 listed ∙ moved_marks kind pack i d

    up : (j k : ℕ) → j ≡ i + k → k < d → j + 1 < 126 → block_at (with_mark_at edit.mark edit.block copied).image (replacement_at kind (j + 1)) ≡ block_at pack.image (replacement_at kind j)
    up j k e lt small =
        rw e (image (replacement_at kind (i + k + 1))
        ∙ copied_apart kind text 5 listed (replacement_at kind (i + k + 1)) size (λ l five. no_replacement_is_copy kind (i + k + 1) l (omega (arith, e, small)))
        ∙ other_block moved (replacement_at kind i) (replacement_at kind (i + k + 1)) bytes long (differ kind (i + k + 1) i (omega (arith, e, small)) (omega (arith, e, small)) (λ same. absurd (omega (arith, same))))
        ∙ moved_here kind pack i d k (omega (arith, added.position, room)) lt)

-- ---- contents

if_same : (new old : Pack) (a b : ℕ) (m : Bool) → is_marked new a ≡ m → is_marked old b ≡ m → block_at new.image a ≡ block_at old.image b
    → bytes_at new (if_unmarked new a) ≡ bytes_at old (if_unmarked old b)
if_same new old a b true p q e = rw (p, q) refl
if_same new old a b false p q e = rw (p, q) (ap Some e)

by_tests : (kind : DriveKind) (new old : Pack) (t u : Option Table) (b : ℕ) (below m : Bool) → nat_lt b (limit_of kind) ≡ below
    → is_marked new b ≡ m → is_marked old b ≡ m → (below ≡ true → block_at new.image b ≡ block_at old.image b)
    → (below ≡ true → bytes_at new (replacement_home kind new (index_in t (place_at kind b))) ≡ bytes_at old (replacement_home kind old (index_in u (place_at kind b))))
    → content_of kind t new b ≡ content_of kind u old b
by_tests kind new old t u b false m lt p q own replaced = rw lt refl
by_tests kind new old t u b true true lt p q own replaced = rw (lt, p, q) (replaced refl)
by_tests kind new old t u b true false lt p q own replaced = rw (lt, p, q) (ap Some (own refl))

replaced_by : (kind : DriveKind) (old new : Pack) (table : Table) (edit : Edit) (i b : ℕ) → IsAddedAt kind old table edit i → IsAfter kind old new table edit i
    → b < limit_of kind → b ≢ edit.block → (o : Option ℕ) → index_in (Some table) (place_at kind b) ≡ o
    → bytes_at new (replacement_home kind new (index_in (Some (edited_table kind table edit i)) (place_at kind b)))
    ≡ bytes_at old (replacement_home kind old (index_in (Some table) (place_at kind b)))
replaced_by kind old new table edit i b added is lt ne o e = by o e
  where
    q : Place
    q = place_at kind b

    y : Place
    y = place_at kind edit.block

    new_is_other : is_place q y ≡ false
    new_is_other = other_place q y (λ same. ne (same_block kind b edit.block lt added.data_block same))

    marks : (j : ℕ) → j < 126 → is_marked new (replacement_at kind j) ≡ is_marked old (replacement_at kind j)
    marks j small = is.marks_other (replacement_at kind j) (λ same. not_above kind edit.block j added.data_block small (sym same))

    by : (o : Option ℕ) → index_in (Some table) q ≡ o
        → bytes_at new (replacement_home kind new (position (is_place q) (insert table.places i y))) ≡ bytes_at old (replacement_home kind old (position (is_place q) table.places))
    by None e = rw (insert_nowhere (is_place q) table.places i y q added.position new_is_other e, e) refl
    by (Some j) e =
        let small : j < length table.places = (position-Some (is_place q) table.places j q e).0 in
        elim (cases_lt j i) [
          | inl before ↦
              rw (insert_before (is_place q) table.places i j y q added.position before e, e)
              (if_same new old (replacement_at kind j) (replacement_at kind j) (is_marked old (replacement_at kind j)) (marks j (omega (arith, small, is.room))) refl
              (is.apart (replacement_at kind j) (record {
                no_copy = λ k five. no_replacement_is_copy kind j k (omega (arith, small, is.room));
                no_replacement = λ l from to. differ kind j l (omega (arith, small, is.room)) (omega (arith, to, is.room)) (λ same. absurd (omega (arith, same, before, from)));
              })))
          | inr behind ↦
              rw (insert_behind (is_place q) table.places i j y q added.position behind new_is_other e, e)
              (if_same new old (replacement_at kind (j + 1)) (replacement_at kind j) false
              (marks (j + 1) (omega (arith, small, is.room)) ∙ added.unmarked (j + 1) (omega (arith, behind)) (omega (arith, small)))
              (added.unmarked j behind (omega (arith, small)))
              (is.moved j behind small))
        ]

own_stays : (kind : DriveKind) (old new : Pack) (table : Table) (edit : Edit) (i b : ℕ) → IsAfter kind old new table edit i → b < limit_of kind
    → block_at new.image b ≡ block_at old.image b
own_stays kind old new table edit i b is lt = is.apart b (record {
  no_copy = λ k five. not_copy kind b k lt;
  no_replacement = λ j from to. not_above kind b j lt (omega (arith, to, is.room));
})

others_by : (kind : DriveKind) (old new : Pack) (table : Table) (edit : Edit) (i b : ℕ) → IsAddedAt kind old table edit i → IsAfter kind old new table edit i
    → b ≢ edit.block → content_of kind (Some (edited_table kind table edit i)) new b ≡ content_of kind (Some table) old b
others_by kind old new table edit i b added is ne =
    by_tests kind new old (Some (edited_table kind table edit i)) (Some table) b (nat_lt b (limit_of kind)) (is_marked old b) refl (is.marks_other b ne) refl
    (λ t. own_stays kind old new table edit i b is ((Decides-ltb b (limit_of kind)).0 t))
    (λ t. replaced_by kind old new table edit i b added is ((Decides-ltb b (limit_of kind)).0 t) ne (index_in (Some table) (place_at kind b)) refl)

new_by : (kind : DriveKind) (old new : Pack) (t : Option Table) (edit : Edit) (i : ℕ) (m : Bool) → nat_lt edit.block (limit_of kind) ≡ true
    → is_marked new edit.block ≡ m → (edit.mark || is_marked old edit.block) ≡ m → index_in t (place_at kind edit.block) ≡ Some i
    → is_marked new (replacement_at kind i) ≡ false → block_at new.image (replacement_at kind i) ≡ replacement_bytes old edit
    → block_at new.image edit.block ≡ block_at old.image edit.block
    → content_of kind t new edit.block ≡ Some (edited_content old edit)
new_by kind old new t edit i true lt p q listed unmarked first own = rw (lt, p, q, listed, unmarked) (ap Some first)
new_by kind old new t edit i false lt p q listed unmarked first own = rw (lt, p, q) (ap Some own)

either : (a b : Bool) → (a || b) ≡ (b || a)
either true true = refl
either true false = refl
either false true = refl
either false false = refl

new_content : (kind : DriveKind) (old new : Pack) (table : Table) (edit : Edit) (i : ℕ) → IsAddedAt kind old table edit i → IsAfter kind old new table edit i
    → content_of kind (Some (edited_table kind table edit i)) new edit.block ≡ Some (edited_content old edit)
new_content kind old new table edit i added is =
    let small : i < 126 = omega (arith, added.position, is.room) in
    new_by kind old new (Some (edited_table kind table edit i)) edit i (is_marked old edit.block || edit.mark) ((Decides-ltb edit.block (limit_of kind)).1 added.data_block)
    is.mark_itself (either edit.mark (is_marked old edit.block))
    (insert_itself table.places i (place_at kind edit.block) added.position added.fresh)
    (is.marks_other (replacement_at kind i) (λ same. not_above kind edit.block i added.data_block small (sym same)) ∙ added.unmarked i (omega arith) added.position)
    is.first
    (own_stays kind old new table edit i edit.block is added.data_block)

-- ---- the table

pub record IsFirstUnmarked (kind : DriveKind) (pack : Pack) (n : ℕ) : Type 0 where
  pub copy : ℕ
  pub small : copy < n
  pub unmarked : is_marked pack (copy_at kind copy) ≡ false
  pub first : (k : ℕ) → k < copy → is_marked pack (copy_at kind k) ≡ true

first_unmarked : (kind : DriveKind) (pack : Pack) (n : ℕ) → IsFirstUnmarked kind pack n ⊎ ((k : ℕ) → k < n → is_marked pack (copy_at kind k) ≡ true)
first_unmarked kind pack zero = inr (λ k lt. absurd (omega (arith, lt)))
first_unmarked kind pack (suc n) =
    elim (first_unmarked kind pack n) [
      | inl found ↦ inl (record { copy = found.copy; small = omega (arith, found.small); unmarked = found.unmarked; first = found.first })
      | inr all ↦
          at (is_marked pack (copy_at kind n))
          (λ m. inr (λ k lt. elim (cases_lt k n) [
            | inl below ↦ all k below
            | inr top ↦ let last : k ≡ n = omega (arith, lt, top) in ap (λ l. is_marked pack (copy_at kind l)) last ∙ m
          ]))
          (λ u. inl (record { copy = n; small = omega arith; unmarked = u; first = all }))
    ]

table_after : (kind : DriveKind) (old new : Pack) (table : Table) (edit : Edit) (i : ℕ) → IsAddedAt kind old table edit i → IsAfter kind old new table edit i
    → IsTableOf kind new (Some (edited_table kind table edit i))
table_after kind old new table edit i added is =
    elim (first_unmarked kind new 5) [
      | inl found ↦ record {
        copy = found.copy;
        is_copy = found.small;
        told = record {
          for_drive = added.table_is.told.for_drive;
          unmarked = found.unmarked;
          spelled = record { text = is.copies found.copy found.small; valid = added.valid };
        };
        first = λ k other lt told. true≢false (sym (found.first k lt) ∙ told.unmarked);
      }
      | inr all ↦
          let c : ℕ = added.table_is.copy in
          let same = is.marks_other (copy_at kind c) (λ e. not_copy kind edit.block c added.data_block (sym e)) in
          absurd (true≢false (sym (all c added.table_is.is_copy) ∙ same ∙ added.table_is.told.unmarked))
    ]

marks_after : (new old mark same : Bool) → (same ≡ false → new ≡ old) → (same ≡ true → new ≡ (old || mark)) → new ≡ (old || (mark && same))
marks_after new old true true other itself = itself refl
marks_after new old false true other itself = itself refl
marks_after new true mark false other itself = other refl
marks_after new false true false other itself = other refl
marks_after new false false false other itself = other refl

pub edit_made : (kind : DriveKind) (pack : Pack) (table : Table) (edit : Edit) (i : ℕ) → IsAddedAt kind pack table edit i
    → IsEdited kind pack (edited kind pack table edit i) table edit i
edit_made kind pack table edit i added = record {
  copies = λ k lt. record { text = is.copies k lt; valid = added.valid };
  table_is = table_after kind pack (edited kind pack table edit i) table edit i added is;
  others = λ b ne. others_by kind pack (edited kind pack table edit i) table edit i b added is ne;
  content = new_content kind pack (edited kind pack table edit i) table edit i added is;
  marks = λ b. marks_after _ _ edit.mark (b == edit.block)
      (λ f. is.marks_other b (λ e. false≢true (sym f ∙ (Decides-eqb b edit.block).1 e)))
      (λ t. let one : b ≡ edit.block = (Decides-eqb b edit.block).0 t in rw one is.mark_itself);
  rest = is.apart;
}
  where
    is : IsAfter kind pack (edited kind pack table edit i) table edit i
    is = after_writes kind pack table edit i added

-- ---- a block whose bytes are copied

own_content : (kind : DriveKind) (pack : Pack) (t : Option Table) (block : ℕ) → nat_lt block (limit_of kind) ≡ true → is_marked pack block ≡ false
    → content_of kind t pack block ≡ Some (block_at pack.image block)
own_content kind pack t block lt unmarked = rw (lt, unmarked) refl

copied_content : (pack : Pack) (edit : Edit) (m : Bool) → edit.copy ≡ true
    → (if m then replacement_bytes pack edit else block_at pack.image edit.block) ≡ block_at pack.image edit.block
copied_content pack edit true copied = rw copied refl
copied_content pack edit false copied = refl

pub contents_kept : (kind : DriveKind) (pack new : Pack) (table : Table) (edit : Edit) (i : ℕ) → IsAddedAt kind pack table edit i
    → IsEdited kind pack new table edit i → edit.copy ≡ true → is_marked pack edit.block ≡ false
    → content_of kind (Some (edited_table kind table edit i)) new ≡ content_of kind (Some table) pack
contents_kept kind pack new table edit i added made copied unmarked =
    fun_ext (λ b. at (b == edit.block)
    (λ t. let one : b ≡ edit.block = (Decides-eqb b edit.block).0 t in rw one same)
    (λ f. made.others b (λ e. false≢true (sym f ∙ (Decides-eqb b edit.block).1 e))))
  where
    same : content_of kind (Some (edited_table kind table edit i)) new edit.block ≡ content_of kind (Some table) pack edit.block
    same = made.content ∙ ap Some (copied_content pack edit (edit.mark || is_marked pack edit.block) copied)
        ∙ sym (own_content kind pack (Some table) edit.block ((Decides-ltb edit.block (limit_of kind)).1 added.data_block) unmarked)
