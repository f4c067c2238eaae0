-- A range that is read, piece by piece.
use Rattle.std.proofs.Common.{◌≡◌, ◌≢◌, ◌⊎◌, inl, inr, ℕ, ◌<◌, ◌≤◌, ◌+◌, ◌-◌, ◌*◌, true, false, IsTrue, List, ◌++◌, length, take, drop, refl, sym, ap, ◌∙◌, subst, arith}
use Rattle.std.proofs.lemmas.Bool.Decides.{eqb_tells}
use Rattle.partitions.specs.declared.Part.{Part}
use Rattle.partitions.specs.Partitions.{first_of}
use Rattle.driver_machine.specs.Guards.{IsSetUp}
use Rattle.driver_laws.specs.rules.Sessions.{told_in}
use Rattle.driver_laws.specs.rules.Rest.{HasTables}
use Rattle.driver_laws.specs.rules.Cleans.{MovedClean}
use Rattle.driver_laws.specs.rules.Laid.{laid, laid_at}
use Rattle.blocking_io.specs.FrontsPasses.{Stage, setup_at, StillTell, SessionsJoin}
use Rattle.raw_io.specs.declared.pieces.Piece.{Piece}
use Rattle.driver_laws.specs.rules.Bytes.{range, Touches, ComesTo}
use Rattle.raw_io.specs.Transfers.{Transfers, AreClean}
use Rattle.blocking_io.specs.Sites.{kind_at, map_at, IsUntouched, IsUnchanged}
use Rattle.raw_io.specs.Calls.{ReadsRange}
use Rattle.driver_laws.specs.rules.Pieces.{Reaches, bytes_among}
use Rattle.raw_io.specs.Pieces.{IsCut, IsPiece, start_at, start_of, ReadsPiece, GivesPiece, GivesRange}
use Rattle.driver_laws.proofs.rules.Ranges.{laid_more, length_range, range_more}
use Rattle.raw_io.proofs.Joins.{transfers_none, transfers_for, transfers_join, clean_before, clean_behind}
use Rattle.blocking_io.proofs.Sites.{untouched_behind, kind_stays}
use Rattle.driver_laws.proofs.rules.WaitedSteps.{all_among, among_less, among_few, SoFar, starts_so, comes_whole, IsNext, touched_among, so_more, comes_to}

-- ---- the next piece of a range
pub next_of : (unit : ℕ) (part : Part) (write : _) (at size done : ℕ) (p : Piece) → IsPiece unit part write (at + done) (size - done) p → done ≤ size
    → IsNext at size done p.request.block p.request.count p.skip p.size
next_of unit part write at size done p is few =
    let fits = is.size in
    record {
      begins = is.begins;
      skip_less = is.cut.skip;
      some = is.cut.some;
      fits = is.cut.fits;
      ends = is.cut.ends;
      inside = omega (arith, fits, few);
      whole = by is.whole;
    }
  where
    by : (p.size ≡ size - done) ⊎ (p.skip + p.size ≡ 512 * p.request.count) → (done + p.size ≡ size) ⊎ (p.skip + p.size ≡ 512 * p.request.count)
    by (inl end) = inl (omega (arith, end, few))
    by (inr full) = inr full

-- all its blocks were done, or fewer
pub all_blocks : (n : ℕ) (p : Piece) → IsCut p → n ≤ p.request.count → (bytes_among n p.skip p.size < p.size → ⊥) → n ≡ p.request.count
all_blocks n p cut few whole = elim (eqb_tells n p.request.count) [
  | inl same ↦ same.1
  | inr other ↦ absurd (whole (among_less n p.request.count p.skip p.size cut.some cut.skip (less n p.request.count few other.1) cut.ends))
]
  where
    less : (m n : ℕ) → m ≤ n → m ≢ n → m < n
    less m n le ne = grind (arith, le, ne)

pub fewer_blocks : (n : ℕ) (p : Piece) → IsCut p → n ≤ p.request.count → bytes_among n p.skip p.size < p.size → n < p.request.count
fewer_blocks n p cut few short = elim (eqb_tells n p.request.count) [
  | inl same ↦
      let all : bytes_among n p.skip p.size ≡ p.size = all_among n p.skip p.size cut.some (subst (λ z. p.skip + p.size ≤ 512 * z) (sym same.1) cut.fits) in
      absurd (omega (arith, all, short))
  | inr other ↦ less n p.request.count few other.1
]
  where
    less : (m n : ℕ) → m ≤ n → m ≢ n → m < n
    less m n le ne = grind (arith, le, ne)

-- ---- SO FAR
pub record HasRead (unit : ℕ) (part : Part) (at done : ℕ) (into now : List ℕ) (old new : Stage) : Type 0 where
  pub so : SoFar (map_at old unit) (start_of old unit part) at (length into) done
  pub bytes : now ≡ laid (range done (map_at old unit) (start_of old unit part) at) into
  pub same : IsUnchanged old new

pub record SoRead (unit : ℕ) (part : Part) (at done : ℕ) (into now : List ℕ) (old new : Stage) : Type 0 where
  pub few : done ≤ length into
  pub transfers : Transfers true unit part old new
  pub told : IsTrue new.packs_tell → HasTables (setup_at old) → HasRead unit part at done into now old new
  pub clean : IsTrue new.packs_tell → HasTables (setup_at old) → AreClean unit (start_of old unit part) (Touches at done) (told_in transfers.parts) old

pub read_none : (unit : ℕ) (part : Part) (at : ℕ) (into : List ℕ) (s : Stage) → SoRead unit part at 0 into into s s
read_none unit part at into s = record {
  few = omega arith;
  transfers = transfers_none true unit part s;
  told = λ t tables. record { so = starts_so (map_at s unit) (start_of s unit part) at (length into); bytes = refl; same = record { map = refl } };
  clean = λ t tables k touched. absurd (never touched.some);
}
  where
    never : 0 < 0 → ⊥
    never lt = omega (arith, lt)

pub read_whole : (unit : ℕ) (part : Part) (at done : ℕ) (into now : List ℕ) (old new : Stage) → (done < length into → ⊥) → SoRead unit part at done into now old new → GivesRange unit part at done into now old new
read_whole unit part at done into now old new whole so = record {
  few = so.few;
  transfers = so.transfers;
  told = λ t tables. at_end (so.told t tables);
  clean = so.clean;
}
  where
    all : done ≡ length into
    all = equal done (length into) so.few whole
      where
        equal : (a b : ℕ) → a ≤ b → (a < b → ⊥) → a ≡ b
        equal a b le never = elim (eqb_tells a b) [
          | inl same ↦ same.1
          | inr other ↦ absurd (never (grind (arith, le, other)))
        ]

    at_end : HasRead unit part at done into now old new → ReadsRange unit (start_of old unit part) at done into now old new
    at_end has = record {
      comes = subst (ComesTo (map_at old unit) (start_of old unit part) at (length into)) (sym all)
          (comes_whole (map_at old unit) (start_of old unit part) at (length into) (subst (SoFar (map_at old unit) (start_of old unit part) at (length into)) all has.so));
      bytes = has.bytes;
      map = has.same.map;
    }

module _ (law : SessionsJoin) (unit : ℕ) (part : Part) (at done size : ℕ) (into now rest now' : List ℕ) (p : Piece) (old mid new : Stage) (was : IsSetUp old.world unit) (is : IsSetUp mid.world unit) (still : StillTell mid new)
    (so : SoRead unit part at done into now old mid) (piece : IsPiece unit part false (at + done) (length into - done) p) (given : GivesPiece p size (drop done now) rest mid new) (now_is : now' ≡ take done now ++ rest) where
  transfers : Transfers true unit part old new
  transfers = transfers_join law true unit part old mid new so.transfers
      (transfers_for true p.request.unit unit p.request.part part mid new piece.unit_is piece.part_is given.transfers) still

  start : start_at mid p ≡ start_of old unit part
  start = ap (λ z. first_of (kind_at mid.world z) p.request.part) piece.unit_is ∙ ap (λ z. first_of (kind_at mid.world unit) z) piece.part_is
      ∙ ap (λ z. first_of z part) (kind_stays old mid unit so.transfers.goes.setup was is)

  next : IsNext at (length into) done p.request.block p.request.count p.skip p.size
  next = next_of unit part false at (length into) done p piece so.few

  record Now : Type 0 where
    reaches : Reaches (map_at old unit) (start_of old unit part + p.request.block) p.request.count given.blocks
    bytes : now' ≡ laid (range (done + size) (map_at old unit) (start_of old unit part) at) into
    same : IsUnchanged old new

  now_read : HasRead unit part at done into now old mid → ReadsPiece p given.blocks size (drop done now) rest mid new → Now
  now_read has g =
      let maps : map_at mid p.request.unit ≡ map_at old unit = ap (λ f. f p.request.unit) has.same.map ∙ ap (map_at old) piece.unit_is in
      let long : length (range done (map_at old unit) (start_of old unit part) at) ≡ done = length_range done (map_at old unit) (start_of old unit part) at in
      record {
        reaches = subst (λ z. Reaches z (start_of old unit part + p.request.block) p.request.count given.blocks) maps
            (subst (λ z. Reaches (map_at mid p.request.unit) (z + p.request.block) p.request.count given.blocks) start g.reaches);
        bytes = now_is
            ∙ ap (λ zs. take done now ++ zs) (g.bytes ∙ ap (λ z. laid (range size z (start_at mid p) (512 * p.request.block + p.skip)) (drop done now)) maps
            ∙ ap (λ z. laid (range size (map_at old unit) z (512 * p.request.block + p.skip)) (drop done now)) start
            ∙ ap (λ z. laid (range size (map_at old unit) (start_of old unit part) z) (drop done now)) (sym piece.begins))
            ∙ ap (λ zs. laid_at done (range size (map_at old unit) (start_of old unit part) (at + done)) zs) has.bytes
            ∙ ap (λ z. laid_at z (range size (map_at old unit) (start_of old unit part) (at + done)) (laid (range done (map_at old unit) (start_of old unit part) at) into)) (sym long)
            ∙ laid_more (range done (map_at old unit) (start_of old unit part) at) (range size (map_at old unit) (start_of old unit part) (at + done)) into
            ∙ ap (λ zs. laid zs into) (sym (range_more done size (map_at old unit) (start_of old unit part) at));
        same = record { map = g.same.map ∙ has.same.map };
      }

  few_now : done + size ≤ length into
  few_now =
      let less : bytes_among given.blocks p.skip p.size ≤ p.size = among_few given.blocks p.skip p.size in
      let inside = next.inside in
      let is_size = given.size_is in
      omega (arith, less, inside, is_size)

  -- each block that is touched now was touched before, or is one of the piece
  now_clean : IsTrue new.packs_tell → HasTables (setup_at old) → AreClean unit (start_of old unit part) (Touches at (done + size)) (told_in (so.transfers.parts ++ given.transfers.parts)) old
  now_clean t tables k touched =
      by (touched_among (map_at old unit) (start_of old unit part) at (length into) done p.request.block p.request.count p.skip p.size given.blocks has.so next
      (now_read has (given.told t mid_tables)).reaches given.few k (subst (λ z. Touches at (done + z) k) given.size_is touched))
    where
      mid_tables : HasTables (setup_at mid)
      mid_tables = so.transfers.goes.tables (still.packs t) tables

      has : HasRead unit part at done into now old mid
      has = so.told (still.packs t) tables

      by : Touches at done k ⊎ ((p.request.block ≤ k) × (k < p.request.block + given.blocks)) → MovedClean (setup_at old) unit (start_of old unit part + k) (told_in (so.transfers.parts ++ given.transfers.parts))
      by (inl before) = clean_before (setup_at old) unit (start_of old unit part + k) so.transfers.parts given.transfers.parts (so.clean (still.packs t) tables k before)
      by (inr here) =
          let block : start_of old unit part + p.request.block + (k - p.request.block) ≡ start_of old unit part + k = omega (arith, here.0) in
          subst (λ z. MovedClean (setup_at old) unit z (told_in (so.transfers.parts ++ given.transfers.parts))) block
          (subst (λ z. MovedClean (setup_at old) unit (z + p.request.block + (k - p.request.block)) (told_in (so.transfers.parts ++ given.transfers.parts))) start
          (subst (λ z. MovedClean (setup_at old) z (start_at mid p + p.request.block + (k - p.request.block)) (told_in (so.transfers.parts ++ given.transfers.parts))) piece.unit_is
          (clean_behind old mid p.request.unit (start_at mid p + p.request.block + (k - p.request.block)) so.transfers.parts given.transfers.parts so.transfers.goes.setup
          (so.transfers.others (still.packs t) tables) (given.clean t mid_tables (k - p.request.block) (less p.request.block k given.blocks here.0 here.1)))))
        where
          less : (b k n : ℕ) → b ≤ k → k < b + n → k - b < n
          less b k n le lt = omega (arith, le, lt)

  pub read_more : (size < p.size → ⊥) → SoRead unit part at (done + size) into now' old new
  unfolding transfers transfers_join transfers_for
  read_more whole = record {
    few = few_now;
    transfers = transfers;
    told = λ t tables. more (so.told (still.packs t) tables) (given.told t (so.transfers.goes.tables (still.packs t) tables));
    clean = now_clean;
  }
    where
      all : given.blocks ≡ p.request.count
      all = all_blocks given.blocks p piece.cut given.few (λ lt. whole (subst (λ z. z < p.size) (sym given.size_is) lt))

      size_all : size ≡ p.size
      size_all = given.size_is ∙ ap (λ z. bytes_among z p.skip p.size) all ∙ all_among p.request.count p.skip p.size piece.cut.some piece.cut.fits

      more : HasRead unit part at done into now old mid → ReadsPiece p given.blocks size (drop done now) rest mid new → HasRead unit part at (done + size) into now' old new
      more has g =
          let x : Now = now_read has g in
          record {
            so = subst (λ z. SoFar (map_at old unit) (start_of old unit part) at (length into) (done + z)) (sym size_all)
                (so_more (map_at old unit) (start_of old unit part) at (length into) done p.request.block p.request.count p.skip p.size given.blocks has.so next x.reaches given.few all);
            bytes = x.bytes;
            same = x.same;
          }

  pub read_ends : size < p.size → GivesRange unit part at (done + size) into now' old new
  unfolding transfers transfers_join transfers_for
  read_ends short = record {
    few = few_now;
    transfers = transfers;
    told = λ t tables. ends (so.told (still.packs t) tables) (given.told t (so.transfers.goes.tables (still.packs t) tables));
    clean = now_clean;
  }
    where
      less : given.blocks < p.request.count
      less = fewer_blocks given.blocks p piece.cut given.few (subst (λ z. z < p.size) given.size_is short)

      ends : HasRead unit part at done into now old mid → ReadsPiece p given.blocks size (drop done now) rest mid new → ReadsRange unit (start_of old unit part) at (done + size) into now' old new
      ends has g =
          let x : Now = now_read has g in
          record {
            comes = subst (λ z. ComesTo (map_at old unit) (start_of old unit part) at (length into) (done + z)) (sym given.size_is)
                (comes_to (map_at old unit) (start_of old unit part) at (length into) done p.request.block p.request.count p.skip p.size given.blocks has.so next x.reaches given.few less);
            bytes = x.bytes;
            map = x.same.map;
          }

pub read_stops : (unit : ℕ) (part : Part) (at done : ℕ) (into now : List ℕ) (old mid new : Stage) → (IsTrue new.packs_tell → IsTrue mid.packs_tell) → SoRead unit part at done into now old mid
    → (IsTrue new.packs_tell → HasTables (setup_at mid) → IsUntouched mid new) → IsTrue new.packs_tell → HasTables (setup_at old) → IsUntouched old new
read_stops unit part at done into now old mid new still so next t tables =
    untouched_behind old mid new so.transfers.goes.setup (so.told (still t) tables).same (so.transfers.others (still t) tables) (next t (so.transfers.goes.tables (still t) tables))
