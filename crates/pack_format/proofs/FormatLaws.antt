-- A pack behind all its sectors is formatted.
use Rattle.std.proofs.Common.{◌≡◌, ◌⊎◌, inl, inr, ℕ, zero, suc, ◌<◌, ◌≤◌, Bool, true, false, List, replicate, Option, None, Some, refl, sym, ap, ◌∙◌, arith}
use Rattle.std.specs.Prelude.{slice_get, if◌then◌else◌}
use Rattle.std.proofs.lemmas.Bool.{cases_lt}
use Rattle.std.proofs.lemmas.Bool.Decides.{Decides-ltb}
use Rattle.std.proofs.lemmas.Option.{slice_get-map, slice_get_within}
use Rattle.std.specs.Option.{option_map}
use Rattle.pack_geometry.specs.declared.DriveKind.{DriveKind}
use Rattle.pack_geometry.specs.declared.DriveKind.TheVariants.{Rp06}
use Rattle.pack_geometry.specs.Geometry.{block_count, copy_at, limit_of, place_at, replacement_at}
use Rattle.pack_geometry.specs.Pack.{Pack, block_at, is_marked}
use Rattle.pack_geometry.specs.Content.{bytes_at}
use Rattle.pack_geometry.specs.Homes.{content_of, index_in, replacement_home}
use Rattle.pack_geometry.specs.PackTable.{IsTableOf}
use Rattle.pack_geometry.specs.TableSpelling.{Spells}
use Rattle.bad144_table.proofs.Positions.{index_listed}
use Rattle.pack_format.specs.Formatted.{Copy, Data, IsFormatted, IsWritten, Replacement, found, marked_blocks, table_for}
use Rattle.pack_format.proofs.testing.LongLaws.{long_as}
use Rattle.pack_format.proofs.testing.StageLaws.{at, false_true, same_marks}
use Rattle.pack_format.proofs.SurveyLaws.{among}
use Rattle.pack_format.proofs.WalkLaws.{IsDone, IsSet}

-- ---- a sector that is written lies on the drive

on_data : (kind : DriveKind) (sector : ℕ) → sector < limit_of kind → sector < block_count kind
on_data Rp06 sector lt = omega (arith, lt)
on_data other sector lt = omega (arith, lt)

on_spare : (kind : DriveKind) (i : ℕ) → replacement_at kind i < block_count kind
on_spare Rp06 i = omega arith
on_spare other i = omega arith

on_copy : (kind : DriveKind) (k : ℕ) → k < 5 → copy_at kind k < block_count kind
on_copy Rp06 k lt = omega (arith, lt)
on_copy other k lt = omega (arith, lt)

pub on_drive : (kind : DriveKind) (pack : Pack) (sector : ℕ) → IsWritten kind pack sector → sector < block_count kind
on_drive kind pack sector (Data below unmarked) = on_data kind sector below
on_drive kind pack sector (Replacement i less is unmarked) = omega (arith, is, on_spare kind i)
on_drive kind pack sector (Copy k less is unmarked) = omega (arith, is, on_copy kind k less)

-- ---- the table of the pack

-- the first unmarked copy of the first ones
record IsFirstCopy (kind : DriveKind) (pack : Pack) (n : ℕ) : Type 0 where
  pub copy : ℕ
  pub small : copy < n
  pub unmarked : is_marked pack (copy_at kind copy) ≡ false
  pub first : (k : ℕ) → k < copy → is_marked pack (copy_at kind k) ≡ true

find_copy : (kind : DriveKind) (pack : Pack) (n : ℕ) → ((k : ℕ) → k < n → is_marked pack (copy_at kind k) ≡ true) ⊎ IsFirstCopy kind pack n
find_copy kind pack zero = inl (λ k lt. absurd (omega (arith, lt)))
find_copy kind pack (suc n) =
    elim (find_copy kind pack n) [
      | inl all ↦
          at (is_marked pack (copy_at kind n))
          (λ marked. inl (λ k lt. elim (cases_lt k n) [
            | inl less ↦ all k less
            | inr same ↦ let e : k ≡ n = omega (arith, lt, same) in ap (λ (i : ℕ). is_marked pack (copy_at kind i)) e ∙ marked
          ]))
          (λ unmarked. inr (record { copy = n; small = omega arith; unmarked = unmarked; first = all }))
      | inr found_one ↦ inr (record { copy = found_one.copy; small = omega (arith, found_one.small); unmarked = found_one.unmarked; first = found_one.first })
    ]

module _ (kind : DriveKind) (serial n : ℕ) (bytes : List ℕ) (old new : Pack) (s : IsSet kind serial n bytes old) (d : IsDone kind serial (block_count kind) old new) where
  new_marks : (sector : ℕ) → is_marked new sector ≡ is_marked old sector
  new_marks sector = same_marks new old sector d.marks

  spelled : (k : ℕ) → k < 5 → is_marked old (copy_at kind k) ≡ false → Spells (block_at new.image (copy_at kind k)) (table_for kind serial old)
  spelled k lt unmarked = d.done (copy_at kind k) (on_copy kind k lt) (Copy k lt refl unmarked)

  data_zeros : (block : ℕ) → block < limit_of kind → is_marked old block ≡ false → block_at new.image block ≡ replicate 512 0
  data_zeros block lt unmarked = d.done block (on_data kind block lt) (Data lt unmarked)

  spare_zeros : (i : ℕ) → i < found kind old → is_marked old (replacement_at kind i) ≡ false → block_at new.image (replacement_at kind i) ≡ replicate 512 0
  spare_zeros i lt unmarked = d.done (replacement_at kind i) (on_spare kind i) (Replacement i lt refl unmarked)

  table_now : IsTableOf kind new (Some (table_for kind serial old))
  table_now =
      elim (find_copy kind old 5) [
        | inl all ↦ absurd (s.can.copy all)
        | inr c ↦
            record {
              copy = c.copy;
              is_copy = c.small;
              told = record { for_drive = refl; unmarked = new_marks (copy_at kind c.copy) ∙ c.unmarked; spelled = spelled c.copy c.small c.unmarked };
              first = λ k other lt tells. false_true (sym tells.unmarked ∙ new_marks (copy_at kind k) ∙ c.first k lt);
            }
      ]

  -- below each number all replacements are unmarked, since else there would be a first one
  spares_unmarked : (m : ℕ) → m ≤ found kind old → (j : ℕ) → j < m → is_marked old (replacement_at kind j) ≡ false
  spares_unmarked zero le j lt = absurd (omega (arith, lt))
  spares_unmarked (suc m) le j lt =
      elim (cases_lt j m) [
        | inl less ↦ spares_unmarked m (omega (arith, le)) j less
        | inr same ↦
            let e : j ≡ m = omega (arith, lt, same) in
            at (is_marked old (replacement_at kind j))
            (λ marked.
            absurd (s.can.spares m (record { used = omega (arith, le); marked = ap (λ (x : ℕ). is_marked old (replacement_at kind x)) (sym e) ∙ marked; first = λ x less. spares_unmarked m (omega (arith, le)) x less })))
            (λ unmarked. unmarked)
      ]

  content_now : (block : ℕ) → block < limit_of kind → content_of kind (Some (table_for kind serial old)) new block ≡ Some (replicate 512 0)
  content_now block lt =
      ap (λ (b : Bool). bytes_at new (if b then (if is_marked new block then replacement_home kind new (index_in (Some (table_for kind serial old)) (place_at kind block)) else Some block) else None))
      ((Decides-ltb block (limit_of kind)).1 lt)
      ∙ at (is_marked old block)
      (λ marked.
      let w = among old (limit_of kind) block lt marked in
      let listed : slice_get (table_for kind serial old).places w.0 ≡ Some (place_at kind block) =
      slice_get-map (place_at kind) (marked_blocks kind old) w.0 ∙ ap (λ (o : Option ℕ). option_map (place_at kind) o) w.1 in
      let index = index_listed (table_for kind serial old) (place_at kind block) w.0 s.spelled.valid listed in
      let small : w.0 < found kind old = slice_get_within (marked_blocks kind old) w.0 block w.1 in
      let spare = spares_unmarked (found kind old) (omega arith) w.0 small in
      ap (λ (b : Bool). bytes_at new (if b then replacement_home kind new (index_in (Some (table_for kind serial old)) (place_at kind block)) else Some block)) (new_marks block ∙ marked)
      ∙ ap (λ (o : Option ℕ). bytes_at new (replacement_home kind new o)) index
      ∙ ap (λ (b : Bool). bytes_at new (if b then None else Some (replacement_at kind w.0))) (new_marks (replacement_at kind w.0) ∙ spare)
      ∙ ap Some (spare_zeros w.0 small spare))
      (λ unmarked.
      ap (λ (b : Bool). bytes_at new (if b then replacement_home kind new (index_in (Some (table_for kind serial old)) (place_at kind block)) else Some block)) (new_marks block ∙ unmarked)
      ∙ ap Some (data_zeros block lt unmarked))

  pub formatted : IsFormatted kind serial old new
  formatted = record {
    can = s.can;
    copies = spelled;
    table_is = table_now;
    content = content_now;
    marks = d.marks;
    others = d.others;
    long = long_as (IsWritten kind old) d.long (λ sector it. it.1) (λ sector it. (on_drive kind old sector it, it));
  }
