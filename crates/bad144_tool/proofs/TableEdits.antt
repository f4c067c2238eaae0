-- The writes of an edit make the table edit.
use Rattle.std.proofs.Common.{◌≡◌, ◌≢◌, ℕ, zero, suc, ◌+◌, ◌-◌, ◌<◌, ◌≤◌, Bool, true, false, List, [], ◌∷◌, ◌++◌, length, refl, sym, ap, ◌∙◌, subst, arith}
use Rattle.std.proofs.lemmas.Bool.Decides.{nat_tests}
use Rattle.std.proofs.lemmas.List.Edits.{length-insert}
use Rattle.std.specs.Prelude.{if◌then◌else◌, insert}
use Rattle.pack_geometry.specs.declared.DriveKind.{DriveKind}
use Rattle.pack_geometry.specs.declared.DriveKind.TheVariants.{Rp06}
use Rattle.pack_geometry.specs.Geometry.{block_count, block_number, limit_of, place_at, replacement_at}
use Rattle.pack_geometry.specs.Pack.{Pack, block_at, written}
use Rattle.pack_geometry.specs.TableSpelling.{Table, IsTable, table_text}
use Rattle.pack_geometry.specs.TableEdit.{IsAddedAt, edited, moved_up, with_copies, with_mark_at, with_place, zero_block}
use Rattle.bad144_tool.specs.Adding.{Adds, MayList, edit_of}
use Rattle.bad144_tool.specs.Changes.{Change, Block, Mark, with_change, with_changes}
use Rattle.bad144_tool.specs.Edit.{copies, edit_writes, first_content, marking, moves, writes_with}
use Rattle.bad144_tool.specs.declared.edit.AddWay.{AddWay}
use Rattle.bad144_tool.proofs.EditLaws.{different_replacements, moves_same}
use Rattle.pack_geometry.proofs.PackLaws.{block_at-with_block_other, length-block_at}

-- one write, as it is seen in the unit's pack
abbrev pub changed : Pack → Change → Pack
changed pack (Block block bytes) = written pack block bytes
changed pack (Mark block) = with_mark_at true block pack

abbrev pub all_changed : Pack → List Change → Pack
all_changed pack [] = pack
all_changed pack (change ∷ changes) = all_changed (changed pack change) changes

change_in_pack : (packs : ℕ → Pack) (unit : ℕ) (change : Change) → with_change packs unit change unit ≡ changed (packs unit) change
change_in_pack packs unit (Block block bytes) = grind (arith, nat_tests)
change_in_pack packs unit (Mark block) = grind (arith, nat_tests)

pub changes_in_pack : (packs : ℕ → Pack) (unit : ℕ) (changes : List Change) → with_changes packs unit changes unit ≡ all_changed (packs unit) changes
changes_in_pack packs unit [] = refl
changes_in_pack packs unit (change ∷ changes) =
    changes_in_pack (with_change packs unit change) unit changes ∙ ap (λ (pack : Pack). all_changed pack changes) (change_in_pack packs unit change)

-- and the other units' packs stay
change_elsewhere : (packs : ℕ → Pack) (unit other : ℕ) (change : Change) → other ≢ unit → with_change packs unit change other ≡ packs other
change_elsewhere packs unit other (Block block bytes) ne = grind (arith, nat_tests)
change_elsewhere packs unit other (Mark block) ne = grind (arith, nat_tests)

pub changes_elsewhere : (packs : ℕ → Pack) (unit other : ℕ) (changes : List Change) → other ≢ unit → with_changes packs unit changes other ≡ packs other
changes_elsewhere packs unit other [] ne = refl
changes_elsewhere packs unit other (change ∷ changes) ne =
    changes_elsewhere (with_change packs unit change) unit other changes ne ∙ change_elsewhere packs unit other change ne

all_changed-append : (pack : Pack) (xs ys : List Change) → all_changed pack (xs ++ ys) ≡ all_changed (all_changed pack xs) ys
all_changed-append pack [] ys = refl
all_changed-append pack (x ∷ xs) ys = all_changed-append (changed pack x) xs ys

-- the moves, one by one
moves_are : (kind : DriveKind) (pack : Pack) (i n : ℕ) → i + n < 126 → all_changed pack (moves kind pack.image i n) ≡ moved_up kind pack i n
moves_are kind pack i zero small = refl
moves_are kind pack i (suc n) small =
    let bytes : List ℕ = block_at pack.image (replacement_at kind (i + n)) in
    let after : Pack = written pack (replacement_at kind (i + n + 1)) bytes in
    ap (λ (cs : List Change). all_changed after cs) (sym (moves_same kind pack.image after.image i n (λ j lt.
    block_at-with_block_other pack.image bytes (replacement_at kind (i + n + 1)) (replacement_at kind (i + j)) (length-block_at pack.image (replacement_at kind (i + n)))
    (different_replacements kind (i + j) (i + n + 1) (omega arith) (omega arith)))))
    ∙ moves_are kind after i n (omega arith)

copies_are : (kind : DriveKind) (pack : Pack) (text : List ℕ) → all_changed pack (copies kind text) ≡ with_copies kind text 5 pack
copies_are kind pack text = refl

marking_is : (mark : Bool) (pack : Pack) (block : ℕ) → all_changed pack (marking mark block) ≡ with_mark_at mark block pack
marking_is true pack block = refl
marking_is false pack block = refl

content_is : (copy : Bool) (image : List ℕ) (block : ℕ) → first_content copy image block ≡ (if copy then block_at image block else zero_block)
unfolding zero_block
content_is true image block = refl
content_is false image block = refl

writes_are : (kind : DriveKind) (pack : Pack) (table new_table : Table) (i n block : ℕ) (way : AddWay) → new_table ≡ with_place table i (place_at kind block)
    → n ≡ length table.places - i → i + n < 126
    → all_changed pack (writes_with kind pack.image new_table i n block way) ≡ edited kind pack table (edit_of block way) i
writes_are kind pack table new_table i n block way placed count small =
    let first : Change = Block (replacement_at kind i) (first_content way.copy pack.image block) in
    let text : List ℕ = table_text new_table.serial new_table.places in
    all_changed-append pack (moves kind pack.image i n ++ first ∷ [] ++ copies kind text) (marking way.mark block)
    ∙ marking_is way.mark _ block
    ∙ ap (λ (p : Pack). with_mark_at way.mark block p) (
    all_changed-append pack (moves kind pack.image i n ++ first ∷ []) (copies kind text)
    ∙ copies_are kind _ text
    ∙ ap (λ (t : Table). with_copies kind (table_text t.serial t.places) 5 (all_changed pack (moves kind pack.image i n ++ first ∷ []))) placed
    ∙ ap (λ (p : Pack). with_copies kind (table_text table.serial (insert table.places i (place_at kind block))) 5 p) (
    all_changed-append pack (moves kind pack.image i n) (first ∷ [])
    ∙ ap (λ (p : Pack). written p (replacement_at kind i) (first_content way.copy pack.image block)) (
    moves_are kind pack i n small ∙ ap (λ (m : ℕ). moved_up kind pack i m) count)
    ∙ ap (λ (bytes : List ℕ). written (moved_up kind pack i (length table.places - i)) (replacement_at kind i) bytes) (content_is way.copy pack.image block)))

-- a block and its place
pub number_of_place : (kind : DriveKind) (block : ℕ) → block < block_count kind → block_number kind (place_at kind block) ≡ block
number_of_place Rp06 block small = omega arith
number_of_place other block small = omega arith

is_added : (kind : DriveKind) (pack : Pack) (block i : ℕ) (way : AddWay) (table new_table : Table) → block < block_count kind
    → (may : MayList kind pack block i table new_table) → IsAddedAt kind pack table (edit_of block way) i
is_added kind pack block i way table new_table small may =
    let inserted = may.goes.inserted in
    let drive : table.kind ≡ kind = may.goes.on.table_is.told.for_drive in
    let more : length new_table.places ≡ length table.places + 1 =
    ap (λ (t : Table). length t.places) inserted.changed ∙ length-insert table.places i (place_at kind block) inserted.position in
    record {
      table_is = may.goes.on.table_is;
      data_block = subst (λ (n : ℕ). n < limit_of kind) (number_of_place kind block small)
          (subst (λ (k : DriveKind). block_number k (place_at kind block) < limit_of k) drive inserted.fresh.below);
      fresh = inserted.fresh.absent;
      position = inserted.position;
      valid = subst (λ (t : Table). IsTable t) inserted.changed inserted.valid;
      unmarked = λ j from to. may.free j from (omega (arith, more));
    }

pub adds_as : (kind : DriveKind) (unit block i : ℕ) (way : AddWay) (old new : ℕ → Pack) → block < block_count kind → (a : Adds kind unit block way old new i)
    → new unit ≡ edited kind (old unit) a.table (edit_of block way) i
adds_as kind unit block i way old new small a =
    let inserted = a.may.goes.inserted in
    let more : length a.new_table.places ≡ length a.table.places + 1 =
    ap (λ (t : Table). length t.places) inserted.changed ∙ length-insert a.table.places i (place_at kind block) inserted.position in
    let few : length a.table.places + 1 ≤ 126 = omega (arith, more, inserted.valid.room) in
    ap (λ (p : ℕ → Pack). p unit) a.done
    ∙ changes_in_pack old unit (edit_writes kind (old unit).image a.new_table i block way)
    ∙ writes_are kind (old unit) a.table a.new_table i (length a.new_table.places - 1 - i) block way inserted.changed
    (omega (arith, more)) (omega (arith, more, few, inserted.position))

pub adds_edits : (kind : DriveKind) (unit block i : ℕ) (way : AddWay) (old new : ℕ → Pack) → block < block_count kind → (a : Adds kind unit block way old new i)
    → IsAddedAt kind (old unit) a.table (edit_of block way) i
adds_edits kind unit block i way old new small a = is_added kind (old unit) block i way a.table a.new_table small a.may
