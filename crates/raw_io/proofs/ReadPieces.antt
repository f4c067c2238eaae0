-- Whole blocks and pieces of a range that are read.
use Rattle.std.proofs.Common.{◌≡◌, ◌≢◌, ◌⊎◌, inl, inr, ℕ, ◌<◌, ◌≤◌, ◌+◌, ◌*◌, ◌==◌, Bool, true, false, IsTrue, List, [], ◌++◌, length, take, drop, Option, None, Some, refl, sym, ap, ◌∙◌, subst, arith}
use Rattle.std.specs.Prelude.{IsSome, if◌then◌else◌}
use Rattle.std.proofs.lemmas.Bool.Decides.{eqb_tells}
use Rattle.std.proofs.lemmas.Option.{none-some}
use Rattle.partitions.specs.Partitions.{first_of}
use Rattle.trace_replay.specs.requests.Requests.{Request}
use Rattle.trace_replay.specs.Packs.{size_of_block}
use Rattle.driver_laws.specs.rules.Machine.{Blocks, bytes_of_first}
use Rattle.driver_machine.specs.Guards.{IsSetUp}
use Rattle.blocking_io.specs.FrontsPasses.{asked, Stage, setup_at, StillTell, SessionsJoin}
use Rattle.driver_laws.specs.rules.Rest.{HasTables}
use Rattle.driver_laws.specs.rules.Laid.{laid}
use Rattle.raw_io.specs.declared.pieces.Piece.{Piece}
use Rattle.driver_laws.specs.rules.Bytes.{range}
use Rattle.blocking_io.specs.Sites.{map_at, IsUntouched}
use Rattle.driver_laws.specs.rules.Pieces.{Reaches, bytes_among}
use Rattle.blocking_io.specs.Blocks.{origin, ReadsOnce}
use Rattle.raw_io.specs.Blocks.{Reads, GivesBlocks, Gives}
use Rattle.raw_io.specs.Pieces.{start_at, ReadsPiece, GivesPiece}
use Rattle.driver_laws.proofs.rules.Ranges.{laid_short, length_range, range_laid, blocks_range}
use Rattle.blocking_io.proofs.Sites.{kind_stays, map_long, untouched_behind}
use Rattle.raw_io.proofs.Joins.{transfers_join, clean_before}
use Rattle.driver_laws.proofs.rules.WaitedSteps.{among_few, among_fits}
use Rattle.driver_laws.proofs.rules.WholeBlocks.{IsBlock}

-- ---- a block that can be used has 512 bytes
pub some_block : (block : Option (List ℕ)) → IsSome block → ((bytes : List ℕ) → block ≡ Some bytes → length bytes ≡ 512) → IsBlock block
some_block None some long = absurd (search arith)
some_block (Some bytes) some long = record { bytes = bytes; is = refl; long = long bytes refl }

pub whole_size : (r : Request) (k : ℕ) → r.last ≡ 512 → size_of_block r k ≡ 512
whole_size r k last = by (k + 1 == r.count)
  where
    by : (b : Bool) → (if b then r.last else 512) ≡ 512
    by true = last
    by false = refl

are_blocks : (s : Stage) (unit first n : ℕ) → ((k : ℕ) → k < n → IsSome (map_at s unit (first + k))) → (k : ℕ) → k < n → IsBlock (map_at s unit (first + k))
are_blocks s unit first n usable k lt = some_block (map_at s unit (first + k)) (usable k lt) (λ bytes is. map_long (setup_at s) unit (first + k) bytes is)

-- ---- WHOLE BLOCKS
some_blocks : (r : Request) (n : ℕ) (into into' : List ℕ) (old new : Stage) → (n ≡ r.count) ⊎ (n ≡ 0) → 1 ≤ r.count → r.last ≡ 512 → ReadsOnce r n into into' old new → GivesBlocks r n into into' old new
some_blocks r n into into' old new (inl all) some last x = record {
  reaches = x.reaches;
  bytes = x.all all ∙ ap (λ zs. laid zs into)
      (blocks_range r.count r.block (map_at old r.unit) (origin old r) r (are_blocks old r.unit (origin old r + r.block) r.count (λ k lt. x.reaches.usable k (subst (λ z. k < z) (sym all) lt))) (λ k lt. whole_size r k last))
      ∙ ap (λ k. laid (range (512 * k) (map_at old r.unit) (origin old r) (512 * r.block)) into) (sym all);
  same = x.same;
}
some_blocks r n into into' old new (inr none) some last x = record {
  reaches = x.reaches;
  bytes = x.none (subst (λ z. z < r.count) (sym none) some) ∙ ap (λ k. laid (range (512 * k) (map_at old r.unit) (origin old r) (512 * r.block)) into) (sym none);
  same = x.same;
}

pub gives_first : (r : Request) (n : ℕ) (into into' : List ℕ) (old new : Stage) → (n ≡ r.count) ⊎ (n ≡ 0) → 1 ≤ r.count → r.last ≡ 512 → Reads r n into into' old new → Gives r n into into' old new
gives_first r n into into' old new either some last x = record {
  few = x.few;
  transfers = x.transfers;
  told = λ t tables. some_blocks r n into into' old new either some last (x.told t tables);
  clean = x.clean;
}

-- ---- AND ONCE MORE, those before the first that can't be used
again_all : (blocks : Blocks) (first n m : ℕ) → ((k : ℕ) → k < n → IsSome (blocks (first + k))) → Reaches blocks first n m → m ≤ n → m ≡ n
again_all blocks first n m usable r few = elim (eqb_tells m n) [
  | inl same ↦ same.1
  | inr other ↦ absurd (never (blocks (first + m)) (r.ends (less m n few other.1)) (usable m (less m n few other.1)))
]
  where
    less : (m n : ℕ) → m ≤ n → m ≢ n → m < n
    less m n le ne = grind (arith, le, ne)

    never : (block : Option (List ℕ)) → block ≡ None → IsSome block → ⊥
    never None is some = search arith
    never (Some bytes) is some = none-some bytes (sym is)

module _ (law : SessionsJoin) (r : Request) (n m : ℕ) (into between into' : List ℕ) (old mid new : Stage) (fewer : n < r.count) (last : r.last ≡ 512)
    (was : IsSetUp old.world r.unit) (is : IsSetUp mid.world r.unit) (still : StillTell mid new)
    (x : Reads r n into between old mid) (y : Reads (record r { count = n }) m between into' mid new) where
  given_again : IsTrue new.packs_tell → HasTables (setup_at old) → GivesBlocks r n into into' old new
  given_again t tables =
      let first : ReadsOnce r n into between old mid = x.told (still.packs t) tables in
      let next : ReadsOnce (record r { count = n }) m between into' mid new = y.told t (x.transfers.goes.tables (still.packs t) tables) in
      let same : map_at mid r.unit ≡ map_at old r.unit = ap (λ f. f r.unit) first.same.map in
      let start : origin mid r ≡ origin old r = ap (λ z. first_of z r.part) (kind_stays old mid r.unit x.transfers.goes.setup was is) in
      let reaches : Reaches (map_at old r.unit) (origin old r + r.block) n m =
      subst (λ z. Reaches z (origin old r + r.block) n m) same (subst (λ z. Reaches (map_at mid r.unit) (z + r.block) n m) start next.reaches) in
      let all : m ≡ n = again_all (map_at old r.unit) (origin old r + r.block) n m first.reaches.usable reaches y.few in
      record {
        reaches = first.reaches;
        bytes = next.all all
            ∙ ap (λ z. laid (bytes_of_first n z (origin mid r + r.block) (record r { count = n })) between) same
            ∙ ap (λ z. laid (bytes_of_first n (map_at old r.unit) (z + r.block) (record r { count = n })) between) start
            ∙ ap (λ zs. laid zs between) (blocks_range n r.block (map_at old r.unit) (origin old r) (record r { count = n })
            (are_blocks old r.unit (origin old r + r.block) n first.reaches.usable) (λ k lt. whole_size (record r { count = n }) k last))
            ∙ ap (λ zs. laid (range (512 * n) (map_at old r.unit) (origin old r) (512 * r.block)) zs) (first.none fewer);
        same = record { map = next.same.map ∙ first.same.map };
      }

  pub gives_again : Gives r n into into' old new
  unfolding transfers_join
  gives_again = record {
    few = omega (arith, fewer);
    transfers = transfers_join law true r.unit r.part old mid new x.transfers y.transfers still;
    told = given_again;
    clean = λ t tables k lt. clean_before (setup_at old) r.unit (origin old r + r.block + k) x.transfers.parts y.transfers.parts (x.clean (still.packs t) tables k lt);
  }

pub untouched_again : (r : Request) (n : ℕ) (into between : List ℕ) (old mid new : Stage) → (IsTrue new.packs_tell → IsTrue mid.packs_tell) → Reads r n into between old mid
    → (IsTrue new.packs_tell → HasTables (setup_at mid) → IsUntouched mid new) → IsTrue new.packs_tell → HasTables (setup_at old) → IsUntouched old new
untouched_again r n into between old mid new still x next t tables =
    untouched_behind old mid new x.transfers.goes.setup (x.told (still t) tables).same (x.transfers.others (still t) tables) (next t (x.transfers.goes.tables (still t) tables))

-- ---- A PIECE, taken out of its blocks
piece_bytes : (skip size n at : ℕ) (blocks : Blocks) (first : ℕ) (buffer into : List ℕ) → skip < 512 → 512 * n ≤ length buffer → bytes_among n skip size ≤ length into
    → take (bytes_among n skip size) (drop skip (laid (range (512 * n) blocks first at) buffer)) ++ drop (bytes_among n skip size) into
    ≡ laid (range (bytes_among n skip size) blocks first (at + skip)) into
piece_bytes skip size n at blocks first buffer into in_block room fits =
    by_count
    ∙ ap (λ k. range (bytes_among n skip size) blocks first (at + skip) ++ drop k into) (sym long)
    ∙ sym (laid_short (range (bytes_among n skip size) blocks first (at + skip)) into (subst (λ k. k ≤ length into) (sym long) fits))
  where
    long : length (range (bytes_among n skip size) blocks first (at + skip)) ≡ bytes_among n skip size
    long = length_range (bytes_among n skip size) blocks first (at + skip)

    above : (n : ℕ) → n ≢ 0 → 0 < n
    above n ne = grind (arith, ne)

    by_count : take (bytes_among n skip size) (drop skip (laid (range (512 * n) blocks first at) buffer)) ++ drop (bytes_among n skip size) into
        ≡ range (bytes_among n skip size) blocks first (at + skip) ++ drop (bytes_among n skip size) into
    by_count = elim (eqb_tells n 0) [
      | inl none ↦ subst (λ z. take (bytes_among z skip size) (drop skip (laid (range (512 * n) blocks first at) buffer)) ++ drop (bytes_among z skip size) into
          ≡ range (bytes_among z skip size) blocks first (at + skip) ++ drop (bytes_among z skip size) into) (sym none.1) refl
      | inr other ↦ ap (λ zs. zs ++ drop (bytes_among n skip size) into)
          (range_laid skip (bytes_among n skip size) (512 * n) blocks first at buffer room (among_fits n skip size in_block (above n other.1)))
    ]

pub gives_piece : (p : Piece) (n : ℕ) (buffer buffer' into into' : List ℕ) (old new : Stage) → p.skip < 512 → 512 * p.request.count ≤ length buffer → p.size ≤ length into
    → into' ≡ take (bytes_among n p.skip p.size) (drop p.skip buffer') ++ drop (bytes_among n p.skip p.size) into
    → Gives (asked p.request []) n buffer buffer' old new → GivesPiece p (bytes_among n p.skip p.size) into into' old new
gives_piece p n buffer buffer' into into' old new in_block room fits is x = record {
  blocks = n;
  few = x.few;
  size_is = refl;
  transfers = x.transfers;
  told = λ t tables. told (x.told t tables);
  clean = x.clean;
}
  where
    told : GivesBlocks (asked p.request []) n buffer buffer' old new → ReadsPiece p n (bytes_among n p.skip p.size) into into' old new
    told g =
        let few = x.few in
        let less : bytes_among n p.skip p.size ≤ p.size = among_few n p.skip p.size in
        record {
          reaches = g.reaches;
          bytes = is ∙ ap (λ zs. take (bytes_among n p.skip p.size) (drop p.skip zs) ++ drop (bytes_among n p.skip p.size) into) g.bytes
              ∙ piece_bytes p.skip p.size n (512 * p.request.block) (map_at old p.request.unit) (start_at old p) buffer into in_block (omega (arith, room, few)) (omega (arith, less, fits));
          same = g.same;
        }
