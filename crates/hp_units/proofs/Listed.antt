-- A transfer is at a replacement exactly where its segment begins at or above the data limit.
use Rattle.std.proofs.Common.{◌≡◌, refl, ap, ℕ, ◌+◌, ◌<◌, ◌≤◌, Option, Some, None, arith}
use Rattle.pack_geometry.specs.declared.DriveKind.{DriveKind}
use Rattle.pack_geometry.specs.declared.DriveKind.TheVariants.{Rp06}
use Rattle.pack_geometry.specs.Geometry.{limit_of, replacement_at, place_at}
use Rattle.pack_geometry.specs.Homes.{index_in}
use Rattle.pack_geometry.specs.TableSpelling.{Table}
use Rattle.transfer_engine.specs.State.{TransferState, IsTransfer, segment_of, segment_by}
use Rattle.transfer_engine.specs.Calls.{entry_for, entry_by}

replacement-is-above : (kind : DriveKind) (i : ℕ) → i < 126 → limit_of kind ≤ replacement_at kind i
replacement-is-above Rp06 i small = omega (arith, small)
replacement-is-above other i small = omega (arith, small)

own-by : (t : TransferState) (table : Option Table) (moved : ℕ) (index : Option ℕ) → t.index ≡ index → IsTransfer t
    → (segment_by index t.job t.done).block < limit_of t.job.kind
    → entry_by index table (place_at t.job.kind (t.job.first + (t.done + moved)))
    ≡ index_in table (place_at t.job.kind ((segment_by index t.job t.done).block + moved))
own-by t table moved None is valid below = ap (λ (b : ℕ). index_in table (place_at t.job.kind b)) (omega arith)
own-by t table moved (Some i) is valid below =
    let above = replacement-is-above t.job.kind i (valid.entry i is) in absurd (omega (arith, above, below))

replaced-by : (t : TransferState) (table : Option Table) (moved : ℕ) (index : Option ℕ) → t.index ≡ index → IsTransfer t
    → limit_of t.job.kind ≤ (segment_by index t.job t.done).block
    → None ≡ entry_by index table (place_at t.job.kind (t.job.first + (t.done + moved)))
replaced-by t table moved None is valid above = absurd (omega (arith, above, valid.left, valid.is_job.below))
replaced-by t table moved (Some i) is valid above = refl

pub entry_of_own : (t : TransferState) (table : Option Table) (moved : ℕ) → IsTransfer t → (segment_of t).block < limit_of t.job.kind
    → entry_for moved table t ≡ index_in table (place_at t.job.kind ((segment_of t).block + moved))
entry_of_own t table moved valid below = own-by t table moved t.index refl valid below

pub entry_of_replacement : (t : TransferState) (table : Option Table) (moved : ℕ) → IsTransfer t → limit_of t.job.kind ≤ (segment_of t).block
    → None ≡ entry_for moved table t
entry_of_replacement t table moved valid above = replaced-by t table moved t.index refl valid above
