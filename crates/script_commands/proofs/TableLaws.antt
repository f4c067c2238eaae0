-- An empty pack has no bad-sector table.
use Rattle.std.proofs.Common.{◌≡◌, inl, inr, ℕ, ◌+◌, ◌*◌, ◌/◌, ◌%◌, ◌<◌, ◌≤◌, List, [], length, get_or, Option, None, Some, refl, sym, subst, arith, ◌∙◌}
use Rattle.std.proofs.lemmas.Bool.{cases_lt}
use Rattle.std.proofs.lemmas.Option.{none-some}
use Rattle.pack_geometry.specs.declared.DriveKind.{DriveKind}
use Rattle.pack_geometry.specs.declared.Place.{Place}
use Rattle.pack_geometry.specs.Geometry.{block_number, copy_at}
use Rattle.pack_geometry.specs.Pack.{Pack, block_at, empty_pack}
use Rattle.pack_geometry.specs.PackTable.{IsFirstTold, IsTableAt, IsTableOf, AreTablesOf}
use Rattle.pack_geometry.specs.TableFields.{word_at}
use Rattle.pack_geometry.specs.TableSpelling.{Table, Spells, table_text}
use Rattle.pack_geometry.proofs.PackLaws.{get_or-window}
use Rattle.pack_geometry.proofs.TableLaws.{place_in-listed, unlisted_is_end}
use Rattle.hp_exercise.specs.Room.{AreEmpty}

-- ITS WORDS are zero.
blank_byte : (block i : ℕ) → i < 512 → get_or (block_at [] block) i 0 ≡ 0
unfolding block_at
blank_byte block i less = get_or-window 512 (512 * block) [] i less

word_of_none : (a b : ℕ) → a ≡ 0 → b ≡ 0 → a + 256 * b ≡ 0
word_of_none a b low high = omega (arith, low, high)

blank_word : (block at : ℕ) → at + 1 < 512 → word_at (block_at [] block) at ≡ 0
blank_word block at less =
    word_of_none (get_or (block_at [] block) at 0) (get_or (block_at [] block) (at + 1) 0) (blank_byte block at (omega (arith, less))) (blank_byte block (at + 1) less)

-- PLACES whose words are zero are one, and there can be no two of it.
abbrev first_place : Place
first_place = record { cylinder = 0; track = 0; sector = 0 }

is_first : (cylinder word : ℕ) → cylinder ≡ 0 → word ≡ 0 → record { cylinder = cylinder; track = word / 256; sector = word % 256 } ≡ first_place
is_first cylinder word c w = rw (c, w) refl

not_below : (n : ℕ) → n < n → ⊥
not_below n less = absurd (omega (arith, less))

no_ones : (word : ℕ) → word ≡ 0 → word ≡ 65535 → ⊥
no_ones word none ones = absurd (omega (arith, none, ones))

no_spelling : (block : ℕ) (table : Table) → Spells (block_at [] block) table → ⊥
no_spelling block table spells = elim (cases_lt (length table.places) 126) [ inl few ↦ too_few few | inr all ↦ too_many all ]
  where
    text : List ℕ
    text = table_text table.serial table.places

    word : (at : ℕ) → at + 1 < 512 → word_at text at ≡ 0
    word at less = subst (λ (bytes : List ℕ). word_at bytes at ≡ 0) spells.text (blank_word block at less)

    too_few : length table.places < 126 → ⊥
    too_few few =
        no_ones (word_at text 508) (word 508 (omega arith))
        (unlisted_is_end table.serial table.places 125 spells.valid.room (omega (arith, few)) (omega arith)).0

    at_first : (k : ℕ) → k < 126 → 126 ≤ length table.places → get_or table.places k first_place ≡ first_place
    at_first k less all =
        let listed : k < length table.places = omega (arith, less, all) in
        sym (place_in-listed table.kind table.serial table.places k first_place listed (spells.valid.inside k first_place listed))
        ∙ is_first (word_at text (8 + 4 * k)) (word_at text (10 + 4 * k)) (word (8 + 4 * k) (omega (arith, less))) (word (10 + 4 * k) (omega (arith, less)))

    too_many : 126 ≤ length table.places → ⊥
    too_many all =
        let ascends : block_number table.kind (get_or table.places 0 first_place) < block_number table.kind (get_or table.places 1 first_place) =
        spells.valid.ascending 0 1 first_place (omega arith) (omega (arith, all)) in
        not_below (block_number table.kind first_place)
        (subst (λ (p : Place). block_number table.kind p < block_number table.kind first_place) (at_first 0 (omega arith) all)
        (subst (λ (p : Place). block_number table.kind (get_or table.places 0 first_place) < block_number table.kind p) (at_first 1 (omega arith) all) ascends))

-- SO NO UNIT has one.
none_told : (kind : DriveKind) (pack : Pack) (table : Table) → pack ≡ empty_pack → IsFirstTold kind pack table → ⊥
none_told kind pack table empty is =
    no_spelling (copy_at kind is.copy) table (subst (λ (p : Pack). Spells (block_at p.image (copy_at kind is.copy)) table) empty is.told.spelled)

none_at : (drive : Option DriveKind) (pack : Pack) (found : Option Table) (table : Table) → pack ≡ empty_pack → IsTableAt drive pack found → found ≡ Some table → ⊥
none_at None pack found table empty is some = absurd (none-some table (sym is ∙ some))
none_at (Some kind) pack found table empty is some = none_told kind pack table empty (subst (IsTableOf kind pack) some is)

pub no_tables : (drives : ℕ → Option DriveKind) (packs : ℕ → Pack) (tables : ℕ → Option Table) (unit : ℕ) (table : Table) → AreTablesOf drives packs tables → AreEmpty packs
    → tables unit ≡ Some table → ⊥
no_tables drives packs tables unit table read empty some = none_at (drives unit) (packs unit) (tables unit) table (empty unit) (read unit) some
