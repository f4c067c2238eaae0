-- What a piece of a range may be asked for, at each turn.
use Rattle.std.proofs.Common.{◌≡◌, ℕ, ◌+◌, ◌*◌, ◌<◌, ◌≤◌, Bool, List, sym, subst, arith}
use Rattle.pack_geometry.specs.declared.DriveKind.{DriveKind}
use Rattle.partitions.specs.declared.Part.{Part}
use Rattle.partitions.specs.Partitions.{size_of}
use Rattle.blocking_io.specs.FrontsPasses.{asked, Stage, setup_at}
use Rattle.driver_machine.specs.Guards.{IsSetUp}
use Rattle.driver_laws.specs.rules.Waited.{with_packs}
use Rattle.raw_io.specs.declared.pieces.Piece.{Piece}
use Rattle.blocking_io.specs.Blocks.{AreBlocks}
use Rattle.blocking_io.specs.Sites.{kind_at}
use Rattle.raw_io.specs.Pieces.{IsPiece}
use Rattle.blocking_io.proofs.Sites.{kind_stays}

-- ---- its blocks lie inside the partition
pub piece_blocks : (kind : DriveKind) (unit : ℕ) (part : Part) (write : Bool) (place left : ℕ) (p : Piece) (bytes : List ℕ) → IsPiece unit part write place left p → place + left ≤ 512 * size_of kind part
    → AreBlocks kind (asked p.request bytes)
piece_blocks kind unit part write place left p bytes is inside = record {
  id = is.id;
  some = least p.skip p.size p.request.count is.cut.some is.cut.fits;
  few = is.few;
  last = is.last;
  offset = is.offset;
  inside = subst (λ z. p.request.block + p.request.count ≤ size_of kind z) (sym is.part_is)
      (within p.request.block p.request.count p.skip p.size place left (size_of kind part) is.begins is.cut.ends is.size inside);
}
  where
    least : (skip size count : ℕ) → 0 < size → skip + size ≤ 512 * count → 1 ≤ count
    least skip size count some fits = omega (arith, some, fits)

    within : (block count skip size place left all : ℕ) → place ≡ 512 * block + skip → 512 * count < skip + size + 512 → size ≤ left → place + left ≤ 512 * all → block + count ≤ all
    within block count skip size place left all begins ends fits room = omega (arith, begins, ends, fits, room)

-- at each turn
pub turn_blocks : (old now : Stage) (unit : ℕ) (part : Part) (write : Bool) (at size done left : ℕ) (p : Piece) (bytes : List ℕ) → setup_at now ≡ with_packs (setup_at old) now.held → IsSetUp old.world unit → IsSetUp now.world unit
    → IsPiece unit part write (at + done) left p → done + left ≤ size → at + size ≤ 512 * size_of (kind_at old.world unit) part → AreBlocks (kind_at now.world p.request.unit) (asked p.request bytes)
turn_blocks old now unit part write at size done left p bytes same was is piece few inside =
    subst (λ z. AreBlocks (kind_at now.world z) (asked p.request bytes)) (sym piece.unit_is)
    (piece_blocks (kind_at now.world unit) unit part write (at + done) left p bytes piece
    (subst (λ kind. at + done + left ≤ 512 * size_of kind part) (sym (kind_stays old now unit same was is)) (omega (arith, few, inside))))
