-- A range that is written, piece by piece.
use Rattle.std.proofs.Common.{◌≡◌, ◌≢◌, ◌⊎◌, inl, inr, ℕ, ◌<◌, ◌≤◌, ◌+◌, ◌-◌, ◌*◌, true, false, IsTrue, List, length, length-drop, length-take-le, take, drop, refl, sym, ap, ◌∙◌, subst, arith}
use Rattle.std.specs.Prelude.{IsSome}
use Rattle.std.proofs.lemmas.Bool.Decides.{eqb_tells}
use Rattle.partitions.specs.declared.Part.{Part}
use Rattle.partitions.specs.Partitions.{first_of, size_of}
use Rattle.driver_laws.specs.rules.Machine.{Blocks}
use Rattle.driver_machine.specs.Guards.{IsSetUp}
use Rattle.driver_laws.specs.rules.Rest.{HasTables}
use Rattle.driver_laws.specs.rules.Waited.{with_packs}
use Rattle.blocking_io.specs.FrontsPasses.{Stage, setup_at, StillTell, SessionsJoin}
use Rattle.raw_io.specs.declared.pieces.Piece.{Piece}
use Rattle.driver_laws.specs.rules.Bytes.{ComesTo, with_range}
use Rattle.raw_io.specs.Transfers.{Transfers}
use Rattle.blocking_io.specs.Sites.{kind_at, map_at, left_map}
use Rattle.raw_io.specs.Calls.{WritesRange, StopsAt}
use Rattle.driver_laws.specs.rules.Pieces.{Reaches, bytes_among, EndsBlock}
use Rattle.raw_io.specs.Pieces.{IsPiece, IsWritten, start_at, start_of, WritesPiece, PutsPiece, StopsPiece, PutsRange}
use Rattle.driver_laws.proofs.rules.Replaced.{none_replaced, had_some, had_none}
use Rattle.raw_io.proofs.Joins.{transfers_none, transfers_for, transfers_join}
use Rattle.blocking_io.proofs.Sites.{map_long, left_over, others_over, kind_stays}
use Rattle.driver_laws.proofs.rules.WaitedSteps.{all_among, fewer_among, among_few, SoFar, starts_so, comes_whole, IsNext, front_or_aligned, so_more, comes_to}
use Rattle.raw_io.proofs.Loops.{turn_blocks}
use Rattle.raw_io.proofs.ReadRanges.{next_of, all_blocks, fewer_blocks}

-- ---- SO FAR
pub record HasWritten (unit : ℕ) (part : Part) (at done : ℕ) (from : List ℕ) (old new : Stage) : Type 0 where
  pub so : SoFar (map_at old unit) (start_of old unit part) at (length from) done
  pub written : (block : ℕ) → map_at new unit block ≡ with_range (map_at old unit) (start_of old unit part) at (take done from) block
  pub map : (u block : ℕ) → u ≢ unit → map_at new u block ≡ map_at old u block

pub record SoWritten (unit : ℕ) (part : Part) (at done : ℕ) (from : List ℕ) (old new : Stage) : Type 0 where
  pub few : done ≤ length from
  pub transfers : Transfers false unit part old new
  pub told : IsTrue new.packs_tell → HasTables (setup_at old) → HasWritten unit part at done from old new

pub written_none : (unit : ℕ) (part : Part) (at : ℕ) (from : List ℕ) (s : Stage) → SoWritten unit part at 0 from s s
written_none unit part at from s = record {
  few = omega arith;
  transfers = transfers_none false unit part s;
  told = λ t tables. record {
    so = starts_so (map_at s unit) (start_of s unit part) at (length from);
    written = λ block. sym (none_replaced (map_at s unit) (start_of s unit part) at block);
    map = λ u block ne. refl;
  };
}

pub written_whole : (unit : ℕ) (part : Part) (at done : ℕ) (from : List ℕ) (old new : Stage) → (done < length from → ⊥) → SoWritten unit part at done from old new → PutsRange unit part at done from old new
written_whole unit part at done from old new whole so = record {
  few = so.few;
  transfers = so.transfers;
  told = λ t tables. at_end (so.told t tables);
}
  where
    equal : (a b : ℕ) → a ≤ b → (a < b → ⊥) → a ≡ b
    equal a b le never = elim (eqb_tells a b) [
      | inl same ↦ same.1
      | inr other ↦ absurd (never (grind (arith, le, other)))
    ]

    all : done ≡ length from
    all = equal done (length from) so.few whole

    at_end : HasWritten unit part at done from old new → WritesRange unit (start_of old unit part) at done from old new
    at_end has = record {
      comes = subst (ComesTo (map_at old unit) (start_of old unit part) at (length from)) (sym all)
          (comes_whole (map_at old unit) (start_of old unit part) at (length from) (subst (SoFar (map_at old unit) (start_of old unit part) at (length from)) all has.so));
      written = has.written;
      map = has.map;
    }

-- ---- the bytes of the next piece
pub piece_of : (d size : ℕ) (from : List ℕ) → take (d + size - d) (drop d from) ≡ take size (drop d from)
piece_of d size from = ap (λ k. take k (drop d from)) (less d size)
  where
    less : (a b : ℕ) → a + b - a ≡ b
    less a b = omega arith

pub turn_written : (old now : Stage) (unit : ℕ) (part : Part) (at done : ℕ) (from bytes : List ℕ) (p : Piece) → setup_at now ≡ with_packs (setup_at old) now.held → IsSetUp old.world unit → IsSetUp now.world unit
    → IsPiece unit part true (at + done) (length from - done) p → done ≤ length from → at + length from ≤ 512 * size_of (kind_at old.world unit) part → bytes ≡ take p.size (drop done from)
    → IsWritten (kind_at now.world p.request.unit) p bytes
turn_written old now unit part at done from bytes p same was is piece few inside bytes_is = record {
  write_is = piece.write_is;
  inside = turn_blocks old now unit part true at (length from) done (length from - done) p bytes same was is piece (omega (arith, few)) inside;
  cut = piece.cut;
  size = ap length bytes_is ∙ long;
}
  where
    long : length (take p.size (drop done from)) ≡ p.size
    long =
        let left : length (drop done from) ≡ length from - done = length-drop done from in
        let fits = piece.size in
        length-take-le p.size (drop done from) (omega (arith, left, fits))

-- what can be used of the blocks as they are now could be used of them as they were
reaches_before : (blocks now : Blocks) (first at b c n : ℕ) (from : List ℕ) → ((block : ℕ) → now block ≡ with_range blocks first at from block) → Reaches now (first + b) c n → Reaches blocks (first + b) c n
reaches_before blocks now first at b c n from is r = record {
  usable = λ k lt. had_some blocks first at (first + b + k) from (subst IsSome (is (first + b + k)) (r.usable k lt));
  ends = λ lt. had_none blocks first at (first + b + n) from (sym (is (first + b + n)) ∙ r.ends lt);
}

module _ (law : SessionsJoin) (unit : ℕ) (part : Part) (at done : ℕ) (from bytes : List ℕ) (p : Piece) (old mid new : Stage) (was : IsSetUp old.world unit) (is : IsSetUp mid.world unit)
    (so : SoWritten unit part at done from old mid) (piece : IsPiece unit part true (at + done) (length from - done) p) (bytes_is : bytes ≡ take p.size (drop done from)) where
  next : IsNext at (length from) done p.request.block p.request.count p.skip p.size
  next = next_of unit part true at (length from) done p piece so.few

  start : start_at mid p ≡ start_of old unit part
  start = ap (λ z. first_of (kind_at mid.world z) p.request.part) piece.unit_is ∙ ap (λ z. first_of (kind_at mid.world unit) z) piece.part_is
      ∙ ap (λ z. first_of z part) (kind_stays old mid unit so.transfers.goes.setup was is)

  module _ (has : HasWritten unit part at done from old mid) where
    either : (done ≡ 0) ⊎ (p.skip ≡ 0)
    either = front_or_aligned (map_at old unit) (start_of old unit part) at (length from) done p.request.block p.request.count p.skip p.size has.so next

    before : (n : ℕ) → Reaches (map_at mid p.request.unit) (start_at mid p + p.request.block) p.request.count n → Reaches (map_at old unit) (start_of old unit part + p.request.block) p.request.count n
    before n r = reaches_before (map_at old unit) (map_at mid unit) (start_of old unit part) at p.request.block p.request.count n (take done from) has.written
        (subst (λ z. Reaches (map_at mid z) (start_of old unit part + p.request.block) p.request.count n) piece.unit_is
        (subst (λ z. Reaches (map_at mid p.request.unit) (z + p.request.block) p.request.count n) start r))

    goes_on : (size : ℕ) (after : ℕ → Blocks) → Rattle.raw_io.specs.Pieces.Continues p (start_at mid p) size bytes (map_at mid p.request.unit) (after p.request.unit)
        → (block : ℕ) → after unit block ≡ with_range (map_at old unit) (start_of old unit part) at (take (done + size) from) block
    goes_on size after continues =
        let with_start = subst (λ z. Rattle.raw_io.specs.Pieces.Continues p z size bytes (map_at mid p.request.unit) (after p.request.unit)) start continues in
        let with_unit = subst (λ z. Rattle.raw_io.specs.Pieces.Continues p (start_of old unit part) size bytes (map_at mid z) (after z)) piece.unit_is with_start in
        with_unit (map_at old unit) at done from (λ block content e. map_long (setup_at old) unit block content e) has.written bytes_is piece.begins either next.inside

  module _ (size : ℕ) (still : StillTell mid new) (given : PutsPiece p size bytes mid new) where
    transfers : Transfers false unit part old new
    transfers = transfers_join law false unit part old mid new so.transfers
        (transfers_for false p.request.unit unit p.request.part part mid new piece.unit_is piece.part_is given.transfers) still

    few_now : done + size ≤ length from
    few_now =
        let less : bytes_among given.blocks p.skip p.size ≤ p.size = among_few given.blocks p.skip p.size in
        let inside = next.inside in
        let is_size = given.size_is in
        omega (arith, less, inside, is_size)

    other_units : HasWritten unit part at done from old mid → WritesPiece p given.blocks size bytes mid new → (u block : ℕ) → u ≢ unit → map_at new u block ≡ map_at old u block
    other_units has g u block ne = g.map u block (subst (λ z. u ≢ z) (sym piece.unit_is) ne) ∙ has.map u block ne

    pub write_more : (size < p.size → ⊥) → SoWritten unit part at (done + size) from old new
    write_more whole = record {
      few = few_now;
      transfers = transfers;
      told = λ t tables. more (so.told (still.packs t) tables) (given.told t (so.transfers.goes.tables (still.packs t) tables));
    }
      where
        all : given.blocks ≡ p.request.count
        all = all_blocks given.blocks p piece.cut given.few (λ lt. whole (subst (λ z. z < p.size) (sym given.size_is) lt))

        size_all : size ≡ p.size
        size_all = given.size_is ∙ ap (λ z. bytes_among z p.skip p.size) all ∙ all_among p.request.count p.skip p.size piece.cut.some piece.cut.fits

        more : HasWritten unit part at done from old mid → WritesPiece p given.blocks size bytes mid new → HasWritten unit part at (done + size) from old new
        more has g = record {
          so = subst (λ z. SoFar (map_at old unit) (start_of old unit part) at (length from) (done + z)) (sym size_all)
              (so_more (map_at old unit) (start_of old unit part) at (length from) done p.request.block p.request.count p.skip p.size given.blocks has.so next (before has given.blocks g.reaches) given.few all);
          written = goes_on has size (map_at new) g.continues;
          map = other_units has g;
        }

    pub write_ends : size < p.size → PutsRange unit part at (done + size) from old new
    write_ends short = record {
      few = few_now;
      transfers = transfers;
      told = λ t tables. ends (so.told (still.packs t) tables) (given.told t (so.transfers.goes.tables (still.packs t) tables));
    }
      where
        less : given.blocks < p.request.count
        less = fewer_blocks given.blocks p piece.cut given.few (subst (λ z. z < p.size) given.size_is short)

        ends : HasWritten unit part at done from old mid → WritesPiece p given.blocks size bytes mid new → WritesRange unit (start_of old unit part) at (done + size) from old new
        ends has g = record {
          comes = subst (λ z. ComesTo (map_at old unit) (start_of old unit part) at (length from) (done + z)) (sym given.size_is)
              (comes_to (map_at old unit) (start_of old unit part) at (length from) done p.request.block p.request.count p.skip p.size given.blocks has.so next (before has given.blocks g.reaches) given.few less);
          written = goes_on has size (map_at new) g.continues;
          map = other_units has g;
        }

  pub write_stops : (IsTrue new.packs_tell → IsTrue mid.packs_tell) → (IsTrue new.packs_tell → HasTables (setup_at mid) → StopsPiece p bytes mid new) → IsTrue new.packs_tell → HasTables (setup_at old)
      → StopsAt unit (start_of old unit part) at from old new
  write_stops still stopped t tables = at_stop (so.told (still t) tables) (stopped t (so.transfers.goes.tables (still t) tables))
    where
      whole_by : (n : ℕ) → n ≤ p.request.count → HasWritten unit part at done from old mid → EndsBlock at (length from) (done + bytes_among n p.skip p.size)
      whole_by n few has = elim (eqb_tells n p.request.count) [
        | inl same ↦ subst (λ z. EndsBlock at (length from) (done + z)) (sym (ap (λ z. bytes_among z p.skip p.size) same.1 ∙ all_among p.request.count p.skip p.size piece.cut.some piece.cut.fits)) (full next.whole)
        | inr other ↦ elim (eqb_tells n 0) [
          | inl none ↦ subst (λ z. EndsBlock at (length from) (done + bytes_among z p.skip p.size)) (sym none.1) (subst (EndsBlock at (length from)) (nothing done) has.so.whole)
          | inr above ↦
              let some : 0 < n = positive n above.1 in
              let less : n < p.request.count = smaller n p.request.count few other.1 in
              let is_size : bytes_among n p.skip p.size ≡ 512 * n - p.skip = fewer_among n p.request.count p.skip p.size some less piece.cut.ends in
              let begins = next.begins in
              let in_block = next.skip_less in
              let place : at + (done + bytes_among n p.skip p.size) ≡ 512 * (p.request.block + n) = omega (arith, is_size, begins, in_block, some) in
              inr (inr (omega (arith, place)))
        ]
      ]
        where
          nothing : (x : ℕ) → x ≡ x + 0
          nothing x = omega arith

          positive : (n : ℕ) → n ≢ 0 → 0 < n
          positive n ne = grind (arith, ne)

          smaller : (m n : ℕ) → m ≤ n → m ≢ n → m < n
          smaller m n le ne = grind (arith, le, ne)

          full : (done + p.size ≡ length from) ⊎ (p.skip + p.size ≡ 512 * p.request.count) → EndsBlock at (length from) (done + p.size)
          full (inl end) = inr (inl end)
          full (inr all) = let begins = next.begins in inr (inr (omega (arith, begins, all)))

      at_stop : HasWritten unit part at done from old mid → StopsPiece p bytes mid new → StopsAt unit (start_of old unit part) at from old new
      at_stop has x =
          let over : left_map mid new ≡ left_map old new = left_over old mid new so.transfers.goes.setup in
          let less : bytes_among x.blocks p.skip p.size ≤ p.size = among_few x.blocks p.skip p.size in
          let inside = next.inside in
          record {
            done = done + bytes_among x.blocks p.skip p.size;
            few = omega (arith, less, inside);
            whole = whole_by x.blocks x.few has;
            written = λ block. ap (λ f. f unit block) (sym over) ∙ goes_on has (bytes_among x.blocks p.skip p.size) (left_map mid new) x.continues block;
            map = λ u block ne. ap (λ f. f u block) (sym over) ∙ x.map u block (subst (λ z. u ≢ z) (sym piece.unit_is) ne) ∙ has.map u block ne;
            others = others_over old mid new so.transfers.goes.setup (so.transfers.others (still t) tables) x.others;
          }
