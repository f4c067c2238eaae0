-- How long an image gets by sectors that are written.
use Rattle.std.proofs.Common.{◌≡◌, ◌⊎◌, inl, inr, ℕ, ◌+◌, ◌*◌, ◌-◌, ◌≤◌, List, ◌++◌, take, drop, length, ap, ◌∙◌, subst, sym, arith}
use Rattle.std.proofs.lemmas.Bool.{cases_lt}
use Rattle.std.proofs.lemmas.Grind.{common_steps}
use Rattle.std.proofs.lemmas.List.{length-append, length-replicate}
use Rattle.pack_geometry.specs.Pack.{grown, with_block, with_window}
use Rattle.pack_format.specs.testing.Stages.{IsAsLong}

module _ {f : ℕ → Type 0} {old new : ℕ} where
  -- where none is written,
  pub long_same : new ≡ old → ((sector : ℕ) → f sector → ⊥) → IsAsLong f old new
  long_same same none = record { kept = omega (arith, same); covers = λ sector is. absurd (none sector is); most = inl same }

  -- of the same sectors by other words,
  pub long_as : (g : ℕ → Type 0) → IsAsLong f old new → ((sector : ℕ) → f sector → g sector) → ((sector : ℕ) → g sector → f sector) → IsAsLong g old new
  long_as g long to from = record {
    kept = long.kept;
    covers = λ sector is. long.covers sector (from sector is);
    most = elim long.most [ inl same ↦ inl same | inr last ↦ inr (last.0, to last.0 last.1, last.2) ];
  }

  pub long_at : (same : ℕ) → new ≡ same → IsAsLong f old same → IsAsLong f old new
  long_at same is long = subst (λ (n : ℕ). IsAsLong f old n) (sym is) long

-- and of some sectors behind others
pub long_then : (f g h : ℕ → Type 0) {old mid new : ℕ} → IsAsLong f old mid → IsAsLong g mid new → ((sector : ℕ) → f sector → h sector) → ((sector : ℕ) → g sector → h sector)
    → ((sector : ℕ) → h sector → f sector ⊎ g sector) → IsAsLong h old new
long_then f g h {old} {mid} {new} first second one two which = record {
  kept = omega (arith, first.kept, second.kept);
  covers = λ sector is. elim (which sector is) [
    | inl is ↦ above sector (first.covers sector is)
    | inr is ↦ second.covers sector is
  ];
  most = elim second.most [
    | inl same ↦
        elim first.most [
          | inl before ↦ inl (same ∙ before)
          | inr last ↦ inr (last.0, one last.0 last.1, same ∙ last.2)
        ]
    | inr last ↦ inr (last.0, two last.0 last.1, last.2)
  ];
}
  where
    above : (sector : ℕ) → 512 * (sector + 1) ≤ mid → 512 * (sector + 1) ≤ new
    above sector le = omega (arith, le, second.kept)

-- ---- one block

length_grown : (image : List ℕ) (n : ℕ) → length (grown image n) ≡ length image + (n - length image)
unfolding grown
length_grown image n = length-append image _ ∙ ap (λ (k : ℕ). length image + k) (length-replicate (n - length image) 0)

length_put : (at : ℕ) (bytes whole : List ℕ) → at + length bytes ≤ length whole → length (take at whole ++ bytes ++ drop (at + length bytes) whole) ≡ length whole
length_put at bytes whole inside = grind (arith, common_steps)

length_window : (at : ℕ) (bytes image : List ℕ) → length (with_window at bytes image) ≡ length image + (at + length bytes - length image)
unfolding with_window
length_window at bytes image =
    length_put at bytes (grown image (at + length bytes)) (by_grown (length image) (at + length bytes) (length (grown image (at + length bytes))) (length_grown image (at + length bytes)))
    ∙ length_grown image (at + length bytes)
  where
    by_grown : (l n g : ℕ) → g ≡ l + (n - l) → n ≤ g
    by_grown l n g e = omega (arith, e)

pub long_block : (f : ℕ → Type 0) (image bytes : List ℕ) (block : ℕ) → length bytes ≡ 512 → f block → ((sector : ℕ) → f sector → sector ≡ block)
    → IsAsLong f (length image) (length (with_block image block bytes))
unfolding with_block
long_block f image bytes block whole is only = by (length image) (length bytes) (length (with_block image block bytes)) whole (length_window (512 * block) bytes image)
  where
    by : (old size new : ℕ) → size ≡ 512 → new ≡ old + (512 * block + size - old) → IsAsLong f old new
    by old size new e to = record {
      kept = omega (arith, to);
      covers = λ sector it. let same = only sector it in omega (arith, e, to, same);
      most = elim (cases_lt old (512 * (block + 1))) [
        | inl less ↦ inr (block, is, omega (arith, e, to, less))
        | inr le ↦ inl (omega (arith, e, to, le))
      ];
    }
