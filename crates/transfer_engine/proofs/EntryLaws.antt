-- The entry whose replacement takes the place of a marked sector.
use Rattle.std.proofs.Common.{◌≡◌, ℕ, ◌+◌, ◌-◌, ◌<◌, arith, true, false, Option, None, Some, refl, sym, ap, ◌∙◌, subst}
use Rattle.std.specs.Prelude.{is_some}
use Rattle.pack_geometry.specs.declared.DriveKind.{DriveKind}
use Rattle.pack_geometry.specs.declared.DriveKind.TheVariants.{Rp06, Rm03, Rm05}
use Rattle.pack_geometry.specs.declared.Place.{Place}
use Rattle.pack_geometry.specs.Geometry.{block_count, limit_of, place_at}
use Rattle.pack_geometry.specs.TableSpelling.{Table}
use Rattle.pack_geometry.specs.Homes.{index_in}
use Rattle.transfer_engine.specs.declared.progress.Progress.{Progress}
use Rattle.transfer_engine.specs.State.{TransferState, IsTransfer, seen_as, segment_of}
use Rattle.transfer_engine.specs.Calls.{entry_for}

-- none where the sector is a replacement
pub none_for_replacement : (clean : ℕ) (table : Option Table) (p : Progress) (index : Option ℕ) (t : TransferState) → seen_as p index ≡ t → is_some index ≡ true
    → None ≡ entry_for clean table t
none_for_replacement clean table p None t same some = cc
none_for_replacement clean table p (Some i) t same some = subst (λ (s : TransferState). None ≡ entry_for clean table s) same refl

-- none where no table is known
pub none_without : (clean : ℕ) (p : Progress) (index : Option ℕ) (t : TransferState) (table : Option Table) (r : Option ℕ) → seen_as p index ≡ t
    → is_some index ≡ false → table ≡ None → r ≡ None → r ≡ entry_for clean table t
none_without clean p None t table r same own is none =
    subst (λ (s : TransferState). r ≡ entry_for clean table s) same (none ∙ ap (λ (o : Option Table). index_in o (place_at p.job.kind (p.job.first + (p.done + clean)))) (sym is))
none_without clean p (Some i) t table r same own is none = cc

-- else that at which its place is listed
pub listed_for : (clean : ℕ) (p : Progress) (index : Option ℕ) (t : TransferState) (table : Option Table) (known : Table) (place : Place) (r : Option ℕ)
    → seen_as p index ≡ t → is_some index ≡ false → table ≡ Some known → place ≡ place_at p.job.kind (p.job.first + p.done + clean)
    → r ≡ index_in (Some known) place → r ≡ entry_for clean table t
listed_for clean p None t table known place r same own is at listed =
    let block : p.job.first + p.done + clean ≡ p.job.first + (p.done + clean) = omega arith in
    subst (λ (s : TransferState). r ≡ entry_for clean table s) same
    (listed ∙ ap (λ (q : Place). index_in (Some known) q) (at ∙ ap (λ (n : ℕ). place_at p.job.kind n) block)
    ∙ ap (λ (o : Option Table). index_in o (place_at p.job.kind (p.job.first + (p.done + clean)))) (sym is))
listed_for clean p (Some i) t table known place r same own is at listed = cc

-- the place is one of the drive
pub place_inside : (clean : ℕ) (p : Progress) (index : Option ℕ) (t : TransferState) → seen_as p index ≡ t → is_some index ≡ false → IsTransfer t
    → clean < (segment_of t).count → p.job.first + p.done + clean < block_count p.job.kind
place_inside clean p None t same own valid inside =
    let is : IsTransfer (seen_as p None) = subst IsTransfer (sym same) valid in
    let few : clean < p.job.count - p.done = subst (λ (s : TransferState). clean < (segment_of s).count) (sym same) inside in
    below p.job.kind (p.job.first + p.done + clean) (omega (arith, is.is_job.below, few))
  where
    below : (kind : DriveKind) (n : ℕ) → n < limit_of kind → n < block_count kind
    below Rp06 n lt = omega (arith, lt)
    below Rm03 n lt = omega (arith, lt)
    below Rm05 n lt = omega (arith, lt)
place_inside clean p (Some i) t same own valid inside = cc
