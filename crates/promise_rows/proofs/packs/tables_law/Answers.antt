use Rattle.std.proofs.Common.{◌≡◌, ℕ, ◌+◌, ◌*◌, ◌<◌, [], ◌∷◌, length, Option, Some, refl, sym, ap, ◌∙◌, subst, length-append, arith}
use Rattle.std.proofs.lemmas.Bool.{false≢true}
use Rattle.std.proofs.lemmas.Option.{same_Some}
use Rattle.pack_geometry.specs.declared.DriveKind.{DriveKind}
use Rattle.pack_geometry.specs.declared.DriveKind.TheVariants.{Rp06}
use Rattle.pack_geometry.specs.Geometry.{block_count, replacement_at}
use Rattle.pack_geometry.specs.Pack.{Pack, block_at}
use Rattle.pack_geometry.specs.PackTable.{IsFirstTold, IsTableOf}
use Rattle.pack_geometry.specs.TableSpelling.{Table}
use Rattle.pack_geometry.proofs.PackTableLaws.{table_once}
use Rattle.pack_geometry.proofs.TableEditLaws.{after_writes}
use Rattle.bad144_tool.specs.Adding.{edit_of}
use Rattle.bad144_tool.proofs.TableEdits.{adds_as, adds_edits}
use Rattle.promise_rows.specs.Tables.{EntryAfterTheEnd, ReplacementsLeftBehind, LastCopyTaken, MarkedCopyTaken, TooLongAtTheLastByte}
use Rattle.promise_rows.proofs.packs.tables_law.Goals as goal

after_the_end : EntryAfterTheEnd
after_the_end kind bytes places place i old less new =
    new.sound.places (length places) (omega (arith, length-append places (place ∷ []))) (old.sound.ended (length places) (omega arith) less)

left_behind : ReplacementsLeftBehind
left_behind kind unit block i j way old new small adds from below differs =
    differs (ap (λ (pack : Pack). block_at pack.image (replacement_at kind (j + 1))) (adds_as kind unit block i way old new small adds)
    ∙ (after_writes kind (old unit) adds.table (edit_of block way) i (adds_edits kind unit block i way old new small adds)).moved j from below)

-- the table that the first copy tells is the pack's
first_told : (kind : DriveKind) (pack : Pack) (first last : Table) → IsFirstTold kind pack first → IsTableOf kind pack (Some last) → last ≡ first
first_told kind pack first last told is = same_Some last first (table_once kind pack (Some last) (Some first) is told)

last_copy : LastCopyTaken
last_copy kind pack first last found tells also differs is answers =
    differs (first_told kind pack first last (record { copy = 0; is_copy = omega arith; told = tells; first = λ k other before. omega (arith, before) })
    (subst (λ (table : Option Table). IsTableOf kind pack table) is answers.1))

marked_copy : MarkedCopyTaken
marked_copy kind pack table found marked is answers =
    let told : IsFirstTold kind pack table = subst (λ (t : Option Table). IsTableOf kind pack t) is answers.1 in
    false≢true (sym told.told.unmarked ∙ marked told.copy told.is_copy)

last_byte : TooLongAtTheLastByte
last_byte kind pack is answers = itself (512 * block_count kind) (length pack.image) is answers.1
  where
    itself : (most size : ℕ) → size ≡ most → most < size → ⊥
    itself most size is above = omega (arith, is, above)

pub returns-clause-entry_after_the_end : goal.returns-clause-entry_after_the_end
returns-clause-entry_after_the_end c = after_the_end

pub returns-clause-replacements_left_behind : goal.returns-clause-replacements_left_behind
returns-clause-replacements_left_behind c = left_behind

pub returns-clause-last_copy_taken : goal.returns-clause-last_copy_taken
returns-clause-last_copy_taken c = last_copy

pub returns-clause-marked_copy_taken : goal.returns-clause-marked_copy_taken
returns-clause-marked_copy_taken c = marked_copy

pub returns-clause-too_long_at_the_last_byte : goal.returns-clause-too_long_at_the_last_byte
returns-clause-too_long_at_the_last_byte c = last_byte

pub returns-clause-wider_mask : goal.returns-clause-wider_mask
returns-clause-wider_mask c = λ none. none Rp06 refl
