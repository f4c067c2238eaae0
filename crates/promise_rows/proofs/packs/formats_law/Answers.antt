use Rattle.std.proofs.Common.{◌≡◌, inl, inr, ℕ, ◌+◌, ◌-◌, ◌*◌, ◌^◌, ◌<◌, ◌≤◌, ◌==◌, ◌&&◌, not, min, Bool, true, false, List, [], ◌∷◌, ◌++◌, length, get_or, refl, sym, ap, ◌∙◌, arith}
use Rattle.std.specs.Prelude.{codes, decimal}
use Rattle.std.proofs.lemmas.Bool.{eq-eqb}
use Rattle.std.proofs.lemmas.Fmt.{decimal_digit, decimal_step}
use Rattle.std.proofs.Math.ListN.{replicate}
use Rattle.pack_geometry.specs.declared.DriveKind.{DriveKind}
use Rattle.pack_geometry.specs.declared.DriveKind.TheVariants.{Rp06, Rm03, Rm05}
use Rattle.pack_geometry.specs.Geometry.{block_count, copy_at, limit_of, replacement_at}
use Rattle.pack_geometry.specs.Pack.{Pack, block_at, is_marked}
use Rattle.pack_format.specs.Formatted.{IsWritten}
use Rattle.pack_format.specs.testing.Stages.{IsAsLong}
use Rattle.pack_format.specs.testing.Stages.{if_done}
use Rattle.command_parts.specs.Lines.{Told, too_long_text}
use Rattle.command_parts.specs.Statuses.{status_code}
use Rattle.pack_commands.specs.Formats.{format_status, format_text}
use Rattle.pack_format.specs.declared.fault.FormatFault.{FormatFault}
use Rattle.pack_format.specs.declared.fault.FormatFault.TheVariants.{Memory, TooLong, TooMany, Spare, NoCopy, Differs, Store}
use Rattle.pack_format.proofs.FormatLaws.{on_drive}
use Rattle.pack_format.proofs.SurveyLaws.{count_more}
use Rattle.promise_rows.specs.Formats.{HeadsLeftWhereTheyAre, AnotherBlockTold, CopyLeftOut, ZerosLeftOut, FailedReadingPassedOver, AnotherUnitNamedTooLong, KindTakenForAnother, FormatLengthensTheImage, DiffersAtALaterByte}
use Rattle.promise_rows.proofs.packs.formats_law.Goals as goal

heads_left : HeadsLeftWhereTheyAre
heads_left kind block drive below aimed = less drive.cc _ aimed.heads below
  where
    less : (a b : ℕ) → a ≡ b → a < b → ⊥
    less a b same below = omega (arith, same, below)

block_told : AnotherBlockTold
block_told told block at wrote read bytes some stop = omega (arith, some, stop.1.written.0)

-- what a sector has that was done
both : (a b : Bool) → a ≡ true → b ≡ false → a && not b ≡ true
both a b one other = ap (λ (x : Bool). x && not b) one ∙ ap not other

copy_left : CopyLeftOut
copy_left kind serial old new unmarked differs formatted = differs (formatted.copies 0 (omega arith) unmarked)

zeros_left : ZerosLeftOut
zeros_left unit block old new unmarked pattern fills =
    let zeros : replicate 512 165 ≡ replicate 512 0 =
    sym pattern ∙ fills.sectors block ∙ ap (λ (done : Bool). if_done done (replicate 512 0) (block_at (old unit).image block))
    (both (block == block) (is_marked (old unit) block) (eq-eqb block block refl) unmarked) in
    let first : 165 ≡ 0 = ap (λ (bytes : List ℕ). get_or bytes 0 0) zeros in
    omega (arith, first)

passed_over : FailedReadingPassedOver
passed_over kind serial block number pack table old marked new = omega (arith, old.counted, new.counted, count_more pack block marked)

-- the texts of units 31 and 0 differ in their first digit
abbrev text : List ℕ → ℕ → List ℕ
text digits n = codes "too long unit " ++ digits ++ codes " length " ++ decimal n ++ 10 ∷ []

of_31 : (n : ℕ) → get_or (too_long_text 31 n) 14 0 ≡ 51
of_31 n = ap (λ (digits : List ℕ). get_or (text digits n) 14 0) (decimal_step 31 (omega arith) (omega arith) ∙ ap (λ (front : List ℕ). front ++ 49 ∷ []) (decimal_digit 3 (omega arith)))

of_0 : (n : ℕ) → get_or (too_long_text 0 n) 14 0 ≡ 48
of_0 n = ap (λ (digits : List ℕ). get_or (text digits n) 14 0) (decimal_digit 0 (omega arith))

-- a fault that ends with 7 is an image that is too long, and the text names the unit
other_unit : (faults n m : ℕ) (after : List ℕ) → faults < 2 ^ 64 - 1 → after ≡ too_long_text 31 m → Told [] after (too_long_text 0 n) faults faults → ⊥
other_unit faults n m after few is (inl said) =
    let digit : 51 ≡ 48 = sym (of_31 m) ∙ ap (λ (bytes : List ℕ). get_or bytes 14 0) (sym is ∙ said) ∙ of_0 n in omega (arith, digit)
other_unit faults n m after few is (inr stopped) = not_next faults few stopped.0
  where
    not_next : (n : ℕ) → n < 2 ^ 64 - 1 → min (n + 1) (2 ^ 64 - 1) ≤ n → ⊥
    not_next n less le = omega (arith, less, le)

named : (why : FormatFault) (faults m : ℕ) (after : List ℕ) → 7 ≡ status_code (format_status why) → faults < 2 ^ 64 - 1 → after ≡ too_long_text 31 m
    → Told [] after (format_text 0 why) faults faults → ⊥
unfolding format_text
named (TooLong size) faults m after status few is told = other_unit faults size m after few is told
named other faults m after status few is told = omega (arith, status)

unit_named : AnotherUnitNamedTooLong
unit_named kind serial faults old new after few is runs =
    let refused = runs.refused (inl refl) in named refused.why faults (length (old 0).image) after refused.status few is (refused.told refl)

kind_taken : KindTakenForAnother
kind_taken unit serial faults faults_after old new taken after long runs = above (512 * block_count Rm03) (length (old unit).image) (runs.fits (inl refl) refl) long
  where
    above : (most size : ℕ) → size ≤ most → most < size → ⊥
    above most size fits long = omega (arith, fits, long)

-- a sector that is written lies on the drive, so the image ends there
ends_there : (written : ℕ → Type 0) (count old new : ℕ) → IsAsLong written old new → ((sector : ℕ) → written sector → sector < count) → old ≤ 512 * count → 512 * count < new → ⊥
ends_there written count old new long within fits above =
    elim long.most [
      | inl same ↦ omega (arith, same, fits, above)
      | inr last ↦ let below = within last.0 last.1 in let ends = last.2 in omega (arith, below, ends, above)
    ]

lengthens : FormatLengthensTheImage
lengthens kind unit serial faults faults_after old new out_tells taken after fits above = (
  λ run.
      let formatted = ((run.formatted (inl refl)).done refl).0 in
      ends_there (IsWritten kind (old unit)) (block_count kind) (length (old unit).image) (length (new unit).image) formatted.long (on_drive kind (old unit)) fits above,
  λ run. elim (run.stopped refl refl) [
    | inl same ↦ stays (length (old unit).image) (length (new unit).image) (512 * block_count kind) (ap (λ (h : ℕ → Pack). length (h unit).image) same) fits above
    | inr partly ↦
        ends_there (λ sector. (sector < partly.begun) × IsWritten kind (old unit) sector) (block_count kind) (length (old unit).image) (length (new unit).image) partly.long
        (λ sector is. on_drive kind (old unit) sector is.1) fits above
  ],
)
  where
    stays : (old new most : ℕ) → new ≡ old → old ≤ most → most < new → ⊥
    stays old new most same fits above = omega (arith, same, fits, above)

later_byte : DiffersAtALaterByte
later_byte kind serial block at wrote read k differs less other = other (differs.before k less)

pub returns-clause-format_lengthens_the_image : goal.returns-clause-format_lengthens_the_image
returns-clause-format_lengthens_the_image c = lengthens

pub returns-clause-differs_at_a_later_byte : goal.returns-clause-differs_at_a_later_byte
returns-clause-differs_at_a_later_byte c = later_byte

pub returns-clause-heads_left_where_they_are : goal.returns-clause-heads_left_where_they_are
returns-clause-heads_left_where_they_are c = heads_left

pub returns-clause-another_block_told : goal.returns-clause-another_block_told
returns-clause-another_block_told c = block_told

pub returns-clause-copy_left_out : goal.returns-clause-copy_left_out
returns-clause-copy_left_out c = copy_left

pub returns-clause-zeros_left_out : goal.returns-clause-zeros_left_out
returns-clause-zeros_left_out c = zeros_left

pub returns-clause-failed_reading_passed_over : goal.returns-clause-failed_reading_passed_over
returns-clause-failed_reading_passed_over c = passed_over

pub returns-clause-another_unit_named_too_long : goal.returns-clause-another_unit_named_too_long
returns-clause-another_unit_named_too_long c = unit_named

pub returns-clause-kind_taken_for_another : goal.returns-clause-kind_taken_for_another
returns-clause-kind_taken_for_another c = kind_taken
