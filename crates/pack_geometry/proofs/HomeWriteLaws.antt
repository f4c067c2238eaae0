-- What a write at the home of a data block leaves.
use Rattle.std.proofs.Common.{◌≡◌, ◌≢◌, ℕ, ◌<◌, ◌≤◌, List, length, Option, None, Some, refl, sym, ap, ◌∙◌, arith}
use Rattle.pack_geometry.specs.declared.DriveKind.{DriveKind}
use Rattle.pack_geometry.specs.Geometry.{copy_at}
use Rattle.pack_geometry.specs.Pack.{Pack, written}
use Rattle.pack_geometry.specs.Content.{bytes_at}
use Rattle.pack_geometry.specs.TableSpelling.{Table}
use Rattle.pack_geometry.specs.PackTable.{places_of, HaveSameCopies}
use Rattle.pack_geometry.specs.Homes.{home_of, content_of}
use Rattle.pack_geometry.proofs.PackLaws.{block_at-with_block_same, block_at-with_block_other}
use Rattle.pack_geometry.proofs.HomeLaws.{homes_apart, home_below}

pub content_same : (kind : DriveKind) (table : Option Table) (pack : Pack) (block home : ℕ) (bytes : List ℕ) → length bytes ≡ 512
    → home_of kind table pack block ≡ Some home → content_of kind table (written pack home bytes) block ≡ Some bytes
content_same kind table pack block home bytes l e =
    ap (bytes_at (written pack home bytes)) e ∙ ap Some (block_at-with_block_same pack.image bytes home l)

bytes_other : (pack : Pack) (home : ℕ) (bytes : List ℕ) (o : Option ℕ) → length bytes ≡ 512 → (o ≡ Some home → ⊥)
    → bytes_at (written pack home bytes) o ≡ bytes_at pack o
bytes_other pack home bytes None l apart = refl
bytes_other pack home bytes (Some h) l apart = ap Some (block_at-with_block_other pack.image bytes home h l (λ e. apart (ap Some e)))

pub content_other : (kind : DriveKind) (table : Option Table) (pack : Pack) (block home other : ℕ) (bytes : List ℕ) → length bytes ≡ 512
    → length (places_of table) ≤ 126 → home_of kind table pack block ≡ Some home → other ≢ block
    → content_of kind table (written pack home bytes) other ≡ content_of kind table pack other
content_other kind table pack block home other bytes l room e ne =
    bytes_other pack home bytes (home_of kind table pack other) l (λ f. ne (homes_apart kind table pack other block home room f e))

apart_from_home : (home copy : ℕ) → home < copy → copy ≢ home
apart_from_home home copy lt e = omega (arith, lt, e)

pub copies_same : (kind : DriveKind) (table : Option Table) (pack : Pack) (block home : ℕ) (bytes : List ℕ) → length bytes ≡ 512
    → length (places_of table) ≤ 126 → home_of kind table pack block ≡ Some home → HaveSameCopies kind pack (written pack home bytes)
copies_same kind table pack block home bytes l room e = record {
  bytes = λ k lt. sym (block_at-with_block_other pack.image bytes home (copy_at kind k) l
      (apart_from_home home (copy_at kind k) (home_below kind table pack block home k room e)));
  marks = λ k lt. refl;
}
