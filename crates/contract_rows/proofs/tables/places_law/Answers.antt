use Rattle.std.proofs.Common.{◌≡◌, ℕ, ◌+◌, ◌-◌, ◌<◌, ◌==◌, nat_le, Bool, true, false, if◌then◌else◌, List, [], ◌∷◌, length, refl, sym, ap, ◌∙◌, arith}
use Rattle.std.proofs.lemmas.Bool.{eq-eqb}
use Rattle.std.proofs.lemmas.Bool.Decides.{nat_tests}
use Rattle.pack_geometry.specs.declared.DriveKind.{DriveKind}
use Rattle.pack_geometry.specs.declared.DriveKind.TheVariants.{Rp06}
use Rattle.partitions.specs.declared.Admission.TheVariants.{Inside, Eof, Outside}
use Rattle.partitions.specs.Partitions.{first_of, size_of}
use Rattle.contract_rows.proofs.tables.places_law.Goals as goal
use Rattle.pack_geometry.specs.Geometry.{block_count, replacement_at, sectors_of}

off_by_one : (kind : DriveKind) (i : ℕ) → i < 126 → ¬ (replacement_at kind i ≡ block_count kind - sectors_of kind - i)
off_by_one Rp06 i few is = omega (arith, few, is)
off_by_one other i few is = omega (arith, few, is)

at_end : (here inside : Bool) (first : ℕ) → here ≡ true → (if here then Eof else if inside then Inside first else Outside) ≡ Outside → ⊥
at_end true inside first e is = cc is
at_end false inside first e is = absurd (cc e)

past : (here inside : Bool) (n first : ℕ) → inside ≡ false → (if here then Eof else if inside then Inside n else Outside) ≡ Inside first → ⊥
past true inside n first e is = cc is
past false true n first e is = absurd (cc e)
past false false n first e is = cc is

above : (a b : ℕ) → a ≡ b + 1 → nat_le a b ≡ false
above a b e = grind (arith, nat_tests)

itself : (n : ℕ) → nat_le n n ≡ true
itself n = grind (arith, nat_tests)

pub returns : goal.returns
returns c = record {
  replacement_off_by_one = off_by_one;
  rm05_limit_by_22_sectors = λ is. omega (arith, is);
  sector_too_many = λ kind place last inside. omega (arith, last, inside.sector);
  end_is_outside = λ kind part count is.
      let size : ℕ = size_of kind part in at_end (size == size) (nat_le (size + count) size) (first_of kind part + size) (eq-eqb size size refl) is;
  one_block_past_the_end = λ kind part block count first e is.
      past (block == size_of kind part) (nat_le (block + count) (size_of kind part)) (first_of kind part + block) first (above (block + count) (size_of kind part) e) is;
  rm05_g_by_rm03 = λ is. omega (arith, is);
  format_before_the_bad_sector = λ word wanted is. cc is;
  marked_header_keeps_its_good_bit = λ is. omega (arith, is);
  rm05_marked_as_an_rp06 = λ is. omega (arith, is);
  bytes_as_they_are = λ byte other differs is.
      differs (sym (sym (ap (λ (b : Bool). if b then byte else 63) other) ∙ is));
  plus_for_a_text_that_fits = λ text long is.
      let one : length text ≡ 1 = ap (λ (xs : List ℕ). length xs) (sym (ap (λ (b : Bool). if b then text else 43 ∷ []) (itself (length text))) ∙ is) in
      omega (arith, long, one);
}
