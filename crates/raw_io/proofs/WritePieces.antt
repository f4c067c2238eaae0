-- Pieces of a range that are written.
use Rattle.std.proofs.Common.{◌≡◌, ◌≢◌, ◌⊎◌, inl, inr, ℕ, ◌<◌, ◌≤◌, ◌+◌, ◌-◌, ◌*◌, ◌==◌, true, false, IsTrue, List, [], length, take, drop, None, Some, refl, sym, ap, ◌∙◌, subst, arith}
use Rattle.std.specs.Prelude.{IsSome, if◌then◌else◌}
use Rattle.std.proofs.lemmas.Bool.Decides.{eqb_tells}
use Rattle.std.proofs.lemmas.List.{take_all}
use Rattle.pack_geometry.specs.declared.DriveKind.{DriveKind}
use Rattle.partitions.specs.Partitions.{first_of}
use Rattle.driver_laws.specs.rules.Machine.{Blocks, blocks_done}
use Rattle.driver_laws.proofs.rules.Blocks.{begun_blocks}
use Rattle.driver_machine.specs.Guards.{IsSetUp}
use Rattle.blocking_io.specs.FrontsPasses.{asked, Stage, setup_at, StillTell, SessionsJoin}
use Rattle.trace_replay.specs.declared.requests.request.Request.{Request}
use Rattle.driver_laws.specs.rules.Rest.{HasTables}
use Rattle.driver_laws.specs.rules.Laid.{laid_at}
use Rattle.raw_io.specs.declared.pieces.Piece.{Piece}
use Rattle.driver_laws.specs.rules.Bytes.{range, with_range}
use Rattle.raw_io.specs.Transfers.{Transfers}
use Rattle.blocking_io.specs.Blocks.{AreBlocks, PutsBlocks, PutsFront}
use Rattle.blocking_io.specs.Sites.{map_at, left_map, IsUntouched}
use Rattle.driver_laws.specs.rules.Pieces.{Reaches, bytes_among}
use Rattle.raw_io.specs.Blocks.{GivesBlocks, Gives, Puts}
use Rattle.raw_io.specs.Pieces.{IsCut, IsWhole, IsWholeOrOne, start_at, Continues, WritesPiece, PutsPiece, StopsPiece}
use Rattle.driver_laws.proofs.rules.Ranges.{laid_long, length_range, block_range}
use Rattle.driver_laws.proofs.rules.Replaced.{whole_written, edge_written}
use Rattle.raw_io.proofs.Joins.{transfers_join, transfers_wider}
use Rattle.blocking_io.proofs.Sites.{map_long, left_over, others_over, kind_stays}
use Rattle.driver_laws.proofs.rules.WaitedSteps.{some_among}
use Rattle.raw_io.proofs.ReadPieces.{some_block, whole_size}
use Rattle.driver_laws.proofs.rules.WholeBlocks.{IsBlock}

written_is : (r : Request) (bytes : List ℕ) → r.write ≡ true → (asked r bytes).written ≡ Some bytes
written_is r bytes writes = ap (λ b. if b then Some bytes else None) writes

-- ---- WHOLE BLOCKS
among_whole : (n c : ℕ) → n ≤ c → bytes_among n 0 (512 * c) ≡ 512 * n
among_whole n c few = elim (eqb_tells n 0) [
  | inl none ↦ subst (λ z. bytes_among z 0 (512 * c) ≡ 512 * z) (sym none.1) refl
  | inr other ↦ some_among n 0 (512 * c) (above n other.1) ∙ least n c few
]
  where
    above : (n : ℕ) → n ≢ 0 → 0 < n
    above n ne = grind (arith, ne)

    least : (n c : ℕ) → n ≤ c → Rattle.std.specs.Prelude.min (512 * n - 0) (512 * c) ≡ 512 * n
    least n c few = grind (arith, few)

module _ (p : Piece) (bytes : List ℕ) (old : Stage) (writes : p.request.write ≡ true) (last : p.request.last ≡ 512) (skip : p.skip ≡ 0) (full : p.size ≡ 512 * p.request.count) where
  whole_continues : (next : Blocks) (n : ℕ) → n ≤ p.request.count → ((k : ℕ) → k < n → IsSome (map_at old p.request.unit (start_at old p + p.request.block + k)))
      → ((block : ℕ) → next block ≡ blocks_done (map_at old p.request.unit) (start_at old p + p.request.block) (asked p.request bytes) n block)
      → Continues p (start_at old p) (bytes_among n p.skip p.size) bytes (map_at old p.request.unit) next
  whole_continues next n few usable is blocks at d from long so_far bytes_is begins either inside block =
      let all : bytes_among n p.skip p.size ≡ 512 * n = ap (λ z. bytes_among n z p.size) skip ∙ ap (bytes_among n 0) full ∙ among_whole n p.request.count few in
      let start : at + d ≡ 512 * p.request.block = omega (arith, begins, skip) in
      let room : d + 512 * p.request.count ≤ length from = omega (arith, inside, full) in
      is block
      ∙ whole_written blocks (map_at old p.request.unit) (start_at old p) at d p.request.block p.request.count n from bytes (asked p.request bytes) long so_far (written_is p.request bytes writes)
      (bytes_is ∙ ap (λ z. take z (drop d from)) full) (λ k lt. whole_size (asked p.request bytes) k last) few start room usable block
      ∙ ap (λ z. with_range blocks (start_at old p) at (take (d + z) from) block) (sym all)

  pub puts_whole : (n : ℕ) (new : Stage) → Puts (asked p.request bytes) n old new → PutsPiece p (bytes_among n p.skip p.size) bytes old new
  puts_whole n new x = record {
    blocks = n;
    few = x.few;
    size_is = refl;
    transfers = x.transfers;
    told = λ t tables. told (x.told t tables);
  }
    where
      told : PutsBlocks (asked p.request bytes) n old new → WritesPiece p n (bytes_among n p.skip p.size) bytes old new
      told y = record { reaches = y.reaches; continues = whole_continues (map_at new p.request.unit) n x.few y.reaches.usable y.written; map = y.map }

  pub stops_whole : (new : Stage) → PutsFront (asked p.request bytes) old new → StopsPiece p bytes old new
  stops_whole new x = record {
    blocks = x.done;
    few = x.few;
    continues = whole_continues (left_map old new p.request.unit) x.done x.few x.usable x.written;
    map = x.map;
    others = x.others;
  }

-- a piece that begins with a block and has the bytes of one at least
pub whole_if : (p : Piece) → IsCut p → IsWholeOrOne p → p.skip ≤ 0 → 512 ≤ p.size → IsWhole p
whole_if p cut (inl whole) none long = whole
whole_if p cut (inr one) none long = let fits = cut.fits in (omega (arith, none), omega (arith, fits, one, none, long))

-- ---- A BLOCK THAT IS COVERED IN PART
-- nothing was written
none_continues : (p : Piece) (bytes : List ℕ) (old : Stage) (next : Blocks) → ((block : ℕ) → next block ≡ map_at old p.request.unit block)
    → Continues p (start_at old p) 0 bytes (map_at old p.request.unit) next
none_continues p bytes old next same blocks at d from long so_far bytes_is begins either inside block =
    same block ∙ so_far block ∙ ap (λ z. with_range blocks (start_at old p) at (take z from) block) (nothing d)
  where
    nothing : (x : ℕ) → x ≡ x + 0
    nothing x = omega arith

pub stops_read : (p : Piece) (bytes : List ℕ) (old new : Stage) → IsUntouched old new → StopsPiece p bytes old new
stops_read p bytes old new x = record {
  blocks = 0;
  few = omega arith;
  continues = none_continues p bytes old (left_map old new p.request.unit) (λ block. x.map p.request.unit block);
  map = λ u block ne. x.map u block;
  others = x.others;
}

-- the block can't be used
pub puts_none : (p : Piece) (n : ℕ) (bytes buffer buffer' : List ℕ) (old new : Stage) → n ≡ 0 → Gives (asked (record p.request { write = false }) []) n buffer buffer' old new → PutsPiece p 0 bytes old new
puts_none p n bytes buffer buffer' old new none x = at (subst (λ k. Gives (asked (record p.request { write = false }) []) k buffer buffer' old new) none x)
  where
    at : Gives (asked (record p.request { write = false }) []) 0 buffer buffer' old new → PutsPiece p 0 bytes old new
    at g = record {
      blocks = 0;
      few = omega arith;
      size_is = refl;
      transfers = transfers_wider p.request.unit p.request.part old new g.transfers;
      told = λ t tables. record {
        reaches = (g.told t tables).reaches;
        continues = none_continues p bytes old (map_at new p.request.unit) (λ block. ap (λ f. f p.request.unit block) (g.told t tables).same.map);
        map = λ u block ne. ap (λ f. f u block) (g.told t tables).same.map;
      };
    }

-- it was read
pub one_read : (p : Piece) (n : ℕ) (buffer buffer' : List ℕ) (old new : Stage) → p.request.count ≡ 1 → n ≢ 0 → Gives (asked (record p.request { write = false }) []) n buffer buffer' old new
    → Gives (asked (record p.request { write = false }) []) 1 buffer buffer' old new
one_read p n buffer buffer' old new one some x =
    subst (λ k. Gives (asked (record p.request { write = false }) []) k buffer buffer' old new) (only n p.request.count one some x.few) x
  where
    only : (n count : ℕ) → count ≡ 1 → n ≢ 0 → n ≤ count → n ≡ 1
    only n count one some few = grind (arith, one, some, few)

-- other bytes may be written there
pub other_bytes : (kind other : DriveKind) (r : Request) (bytes now : List ℕ) → other ≡ kind → AreBlocks kind (asked r bytes) → AreBlocks other (asked r now)
other_bytes kind other r bytes now same is =
    subst (λ z. AreBlocks z (asked r now)) (sym same) (record { id = is.id; some = is.some; few = is.few; last = is.last; offset = is.offset; inside = is.inside })

module _ (law : SessionsJoin) (p : Piece) (bytes buffer content merged : List ℕ) (old mid new : Stage) (writes : p.request.write ≡ true) (last : p.request.last ≡ 512) (one : p.request.count ≡ 1) (cut : IsCut p)
    (size : length bytes ≡ p.size) (long : length buffer ≡ 512) (merged_long : length merged ≡ 512) (merged_is : merged ≡ laid_at p.skip bytes content)
    (was : IsSetUp old.world p.request.unit) (is : IsSetUp mid.world p.request.unit) (still : StillTell mid new)
    (g : Gives (asked (record p.request { write = false }) []) 1 buffer content old mid) where
  start : start_at mid p ≡ start_at old p
  start = ap (λ z. first_of z p.request.part) (kind_stays old mid p.request.unit g.transfers.goes.setup was is)

  module _ (gb : GivesBlocks (asked (record p.request { write = false }) []) 1 buffer content old mid) where
    maps : map_at mid p.request.unit ≡ map_at old p.request.unit
    maps = ap (λ f. f p.request.unit) gb.same.map

    own : IsBlock (map_at old p.request.unit (start_at old p + p.request.block))
    own = some_block (map_at old p.request.unit (start_at old p + p.request.block))
        (subst (λ z. IsSome (map_at old p.request.unit z)) (at_first (start_at old p + p.request.block)) (gb.reaches.usable 0 (omega arith)))
        (λ bs e. map_long (setup_at old) p.request.unit (start_at old p + p.request.block) bs e)
      where
        at_first : (x : ℕ) → x + 0 ≡ x
        at_first x = omega arith

    content_is : content ≡ own.bytes
    content_is =
        let one_block : length (range (512 * 1) (map_at old p.request.unit) (start_at old p) (512 * p.request.block)) ≡ 512 = length_range (512 * 1) (map_at old p.request.unit) (start_at old p) (512 * p.request.block) in
        gb.bytes
        ∙ laid_long (range (512 * 1) (map_at old p.request.unit) (start_at old p) (512 * p.request.block)) buffer (omega (arith, one_block, long))
        ∙ take_all (length buffer) (range (512 * 1) (map_at old p.request.unit) (start_at old p) (512 * p.request.block)) (omega (arith, one_block, long))
        ∙ block_range p.request.block (map_at old p.request.unit) (start_at old p) own.bytes own.is own.long

    edge_continues : (next : Blocks) (n : ℕ) → n ≤ 1
        → ((block : ℕ) → next block ≡ blocks_done (map_at mid p.request.unit) (start_at mid p + p.request.block) (asked p.request merged) n block)
        → Continues p (start_at old p) (bytes_among n p.skip p.size) bytes (map_at old p.request.unit) next
    edge_continues next n few next_is blocks at d from long_all so_far bytes_is begins either inside block =
        next_is block
        ∙ ap (λ z. blocks_done z (start_at mid p + p.request.block) (asked p.request merged) n block) maps
        ∙ ap (λ z. blocks_done (map_at old p.request.unit) (z + p.request.block) (asked p.request merged) n block) start
        ∙ by_count (eqb_tells n 0)
      where
        fits : p.skip + p.size ≤ 512
        fits = let all = cut.fits in omega (arith, all, one)

        nothing : (x : ℕ) → x ≡ x + 0
        nothing x = omega arith

        least : n ≢ 0 → n ≡ 1
        least ne = grind (arith, few, ne)

        among_one : bytes_among 1 p.skip p.size ≡ p.size
        among_one = some_among 1 p.skip p.size (omega arith) ∙ smaller p.skip p.size fits
          where
            smaller : (skip size : ℕ) → skip + size ≤ 512 → Rattle.std.specs.Prelude.min (512 * 1 - skip) size ≡ size
            smaller skip size fits = grind (arith, fits)

        by_count : ((n == 0 ≡ true) × (n ≡ 0)) ⊎ ((n == 0 ≡ false) × (n ≢ 0))
            → blocks_done (map_at old p.request.unit) (start_at old p + p.request.block) (asked p.request merged) n block ≡ with_range blocks (start_at old p) at (take (d + bytes_among n p.skip p.size) from) block
        by_count (inl none) = subst (λ z. blocks_done (map_at old p.request.unit) (start_at old p + p.request.block) (asked p.request merged) z block
            ≡ with_range blocks (start_at old p) at (take (d + bytes_among z p.skip p.size) from) block) (sym none.1)
            (begun_blocks (map_at old p.request.unit) (start_at old p + p.request.block) (asked p.request merged) block ∙ so_far block
            ∙ ap (λ z. with_range blocks (start_at old p) at (take z from) block) (nothing d))
        by_count (inr other) = subst (λ z. blocks_done (map_at old p.request.unit) (start_at old p + p.request.block) (asked p.request merged) z block
            ≡ with_range blocks (start_at old p) at (take (d + bytes_among z p.skip p.size) from) block) (sym (least other.1))
            (edge_written blocks (map_at old p.request.unit) (start_at old p) at d p.request.block p.skip p.size from own.bytes merged (asked p.request merged) long_all so_far
            (written_is p.request merged writes) (whole_size (asked p.request merged) 0 last) merged_long own.is
            (merged_is ∙ ap (laid_at p.skip bytes) content_is ∙ ap (λ zs. laid_at p.skip zs own.bytes) bytes_is) begins either fits inside block
            ∙ ap (λ z. with_range blocks (start_at old p) at (take (d + z) from) block) (sym among_one))

    same_front : (n : ℕ) → Reaches (map_at mid p.request.unit) (start_at mid p + p.request.block) p.request.count n → Reaches (map_at old p.request.unit) (start_at old p + p.request.block) p.request.count n
    same_front n r = subst (λ z. Reaches z (start_at old p + p.request.block) p.request.count n) maps (subst (λ z. Reaches (map_at mid p.request.unit) (z + p.request.block) p.request.count n) start r)

  pub puts_edge : (n : ℕ) → Puts (asked p.request merged) n mid new → PutsPiece p (bytes_among n p.skip p.size) bytes old new
  puts_edge n x = record {
    blocks = n;
    few = x.few;
    size_is = refl;
    transfers = transfers;
    told = λ t tables. told (g.told (still.packs t) tables) (x.told t (g.transfers.goes.tables (still.packs t) tables));
  }
    where
      transfers : Transfers false p.request.unit p.request.part old new
      transfers = transfers_join law false p.request.unit p.request.part old mid new (transfers_wider p.request.unit p.request.part old mid g.transfers) x.transfers still

      told : GivesBlocks (asked (record p.request { write = false }) []) 1 buffer content old mid → PutsBlocks (asked p.request merged) n mid new → WritesPiece p n (bytes_among n p.skip p.size) bytes old new
      told gb y = record {
        reaches = same_front gb n y.reaches;
        continues = edge_continues gb (map_at new p.request.unit) n (subst (λ z. n ≤ z) one x.few) y.written;
        map = λ u block ne. y.map u block ne ∙ ap (λ f. f u block) gb.same.map;
      }

  pub stops_edge : (IsTrue new.packs_tell → HasTables (setup_at mid) → PutsFront (asked p.request merged) mid new) → IsTrue new.packs_tell → HasTables (setup_at old) → StopsPiece p bytes old new
  stops_edge stopped t tables =
      at (g.told (still.packs t) tables) (stopped t (g.transfers.goes.tables (still.packs t) tables))
    where
      at : GivesBlocks (asked (record p.request { write = false }) []) 1 buffer content old mid → PutsFront (asked p.request merged) mid new → StopsPiece p bytes old new
      at gb x =
          let over : left_map mid new ≡ left_map old new = left_over old mid new g.transfers.goes.setup in
          record {
            blocks = x.done;
            few = x.few;
            continues = edge_continues gb (left_map old new p.request.unit) x.done (subst (λ z. x.done ≤ z) one x.few) (λ block. ap (λ f. f p.request.unit block) (sym over) ∙ x.written block);
            map = λ u block ne. ap (λ f. f u block) (sym over) ∙ x.map u block ne ∙ ap (λ f. f u block) gb.same.map;
            others = others_over old mid new g.transfers.goes.setup (g.transfers.others (still.packs t) tables) x.others;
          }
