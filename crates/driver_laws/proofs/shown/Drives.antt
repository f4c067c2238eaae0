-- Places that lie on a drive, and that it takes them as an address.
use Rattle.std.proofs.Common.{◌≡◌, ◌<◌, ℕ, ◌+◌, Option, Some, None, true, sym, subst, arith}
use Rattle.std.specs.Prelude.{nat_lt}
use Rattle.pack_geometry.specs.declared.DriveKind.{DriveKind}
use Rattle.pack_geometry.specs.declared.DriveKind.TheVariants.{Rp06}
use Rattle.pack_geometry.specs.Geometry.{replacement_at, block_count, limit_of}
use Rattle.transfer_engine.specs.State.{TransferState, IsTransfer, segment_of}
use Rattle.transfer_engine.specs.State as engine
use Rattle.driver_laws.proofs.invariant.Drives.{below_limit}

-- ADDRESSES
replacement_below : (kind : DriveKind) (i : ℕ) → replacement_at kind i < block_count kind
replacement_below Rp06 i = omega arith
replacement_below other i = omega arith

pub below : {m n : ℕ} → m < n → nat_lt m n ≡ true
below lt = grind (arith, lt)

-- where a segment begins is a block of the pack
pub segment_below : (kind : DriveKind) (t : TransferState) → IsTransfer t → t.job.kind ≡ kind → (segment_of t).block < block_count kind
segment_below kind t is same = at t.index
  where
    at : (index : Option ℕ) → (engine.segment_by index t.job t.done).block < block_count kind
    at None = below_limit kind (t.job.first + t.done) (subst (λ k. t.job.first + t.done < limit_of k) same (omega (arith, is.is_job.below, is.left)))
    at (Some i) = subst (λ k. replacement_at k i < block_count kind) (sym same) (replacement_below kind i)
