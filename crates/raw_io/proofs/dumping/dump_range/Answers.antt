use Rattle.std.proofs.Common.{◌≤◌, ◌+◌, ◌-◌, ◌*◌, ◌∙◌, take, drop, true, refl, sym, subst, arith, rules, false}
use Rattle.partitions.specs.declared.Part.TheVariants.{B}
use Rattle.partitions.specs.Partitions.{size_of}
use Rattle.driver_laws.specs.rules.Bytes.{dumped}
use Rattle.blocking_io.specs.Sites.{MayTransfer, kind_at}
use Rattle.blocking_io.specs.Spots.{Spot, seen}
use Rattle.blocking_io.proofs.Spots.{keeps_join, keeps_none, may_again, still}
use Rattle.raw_io.specs.Pieces.{IsPiece}
use Rattle.raw_io.proofs.Breaks.{breaks_for}
use Rattle.raw_io.proofs.Dumps.{dumped_long}
use Rattle.raw_io.proofs.Moving.{stopped_behind}
use Rattle.raw_io.proofs.WriteRanges.{written_none, written_whole, turn_written, write_more, write_ends, write_stops}
use Rattle.raw_io.proofs.dumping.dump_range.Goals as goal

pub loop-done-init : goal.loop-done-init
loop-done-init g c =
    let start : Spot = g.S.Site.at c.args.site.now in
    record {
      so = written_none c.args.unit B c.args.place (dumped c.args.memory.now) (seen start);
      keeps = keeps_none start c.requires.may.ready;
      loans = refl;
      all = refl;
      room = refl;
    }

pub dump_piece-requires-clause-may : goal.dump_piece-requires-clause-may
dump_piece-requires-clause-may g c =
    let now : Spot = g.S.Site.at c.loop-done.site in
    subst (λ z. MayTransfer now.driver z) (sym c.piece_to_write-piece.ensures.piece.unit_is) (may_again c.requires.may c.loop-done.invariant.keeps)

pub dump_piece-requires-clause-piece : goal.dump_piece-requires-clause-piece
dump_piece-requires-clause-piece g c =
    let old : Spot = g.S.Site.at c.args.site.now in
    let now : Spot = g.S.Site.at c.loop-done.site in
    let so = c.loop-done.invariant in
    turn_written (seen old) (seen now) c.args.unit B c.args.place c.loop-done.done (dumped c.args.memory.now) (take c.piece_to_write-piece.result.size (drop c.loop-done.done (dumped c.args.memory.now))) c.piece_to_write-piece.result
    so.so.transfers.goes.setup c.requires.may.unit_is (so.keeps.units refl c.args.unit c.requires.may.unit_is)
    (subst (λ n. IsPiece c.args.unit B true (c.args.place + c.loop-done.done) (n - c.loop-done.done) c.piece_to_write-piece.result) (so.all ∙ sym (dumped_long c.args.memory.now)) c.piece_to_write-piece.ensures.piece)
    so.so.few
    (subst (λ n. c.args.place + n ≤ 512 * size_of (kind_at old.driver.world c.args.unit) B) (sym (dumped_long c.args.memory.now)) c.requires.inside)
    refl

pub returns-in_err-written-clause-turns : goal.returns-in_err-written-clause-turns
returns-in_err-written-clause-turns g c =
    let old : Spot = g.S.Site.at c.args.site.now in
    let mid : Spot = g.S.Site.at c.loop-done.site in
    let new : Spot = g.S.Site.at c.dump_piece.new.site in
    let so = c.loop-done.invariant in
    let piece = c.piece_to_write-piece in
    let m = c.in_err-written.ensures.turns in
    stopped_behind c.sessions_law.ensures.stops c.from_residual.result c.in_err-written.field-0.0 c.from_residual.ensures.1 so.so.transfers so.keeps
    (write_stops c.sessions_law.ensures.join c.args.unit B c.args.place c.loop-done.done (dumped c.args.memory.now) (take piece.result.size (drop c.loop-done.done (dumped c.args.memory.now))) piece.result (seen old) (seen mid) (seen new)
    c.requires.may.unit_is (so.keeps.units refl c.args.unit c.requires.may.unit_is) so.so
    (subst (λ n. IsPiece c.args.unit B true (c.args.place + c.loop-done.done) (n - c.loop-done.done) piece.result) (so.all ∙ sym (dumped_long c.args.memory.now)) piece.ensures.piece)
    refl m.keeps.never_again m.left)
    (breaks_for false piece.result.request.unit c.args.unit piece.result.request.part B c.in_err-written.field-0.0 (seen mid) (seen new) piece.ensures.piece.unit_is piece.ensures.piece.part_is m.stopped) m.keeps

pub returns-then-written-piece-clause-turns : goal.returns-then-written-piece-clause-turns
returns-then-written-piece-clause-turns g c =
    let old : Spot = g.S.Site.at c.args.site.now in
    let mid : Spot = g.S.Site.at c.loop-done.site in
    let new : Spot = g.S.Site.at c.dump_piece.new.site in
    let so = c.loop-done.invariant in
    let m = c.in_ok-written.ensures.turns in
    record {
      done = write_ends c.sessions_law.ensures.join c.args.unit B c.args.place c.loop-done.done (dumped c.args.memory.now) (take c.piece_to_write-piece.result.size (drop c.loop-done.done (dumped c.args.memory.now))) c.piece_to_write-piece.result
          (seen old) (seen mid) (seen new) c.requires.may.unit_is (so.keeps.units refl c.args.unit c.requires.may.unit_is) so.so
          (subst (λ n. IsPiece c.args.unit B true (c.args.place + c.loop-done.done) (n - c.loop-done.done) c.piece_to_write-piece.result) (so.all ∙ sym (dumped_long c.args.memory.now)) c.piece_to_write-piece.ensures.piece)
          refl c.in_ok-written.written (still m.keeps) m.done c.if-written-piece.true;
      left = tt;
      stopped = tt;
      keeps = keeps_join so.keeps m.keeps;
    }

pub loop-done-preserved : goal.loop-done-preserved
loop-done-preserved g c =
    let old : Spot = g.S.Site.at c.args.site.now in
    let mid : Spot = g.S.Site.at c.loop-done.site in
    let new : Spot = g.S.Site.at c.dump_piece.new.site in
    let so = c.loop-done.invariant in
    let m = c.in_ok-written.ensures.turns in
    let whole = c.if-written-piece.false in
    record {
      so = write_more c.sessions_law.ensures.join c.args.unit B c.args.place c.loop-done.done (dumped c.args.memory.now) (take c.piece_to_write-piece.result.size (drop c.loop-done.done (dumped c.args.memory.now))) c.piece_to_write-piece.result
          (seen old) (seen mid) (seen new) c.requires.may.unit_is (so.keeps.units refl c.args.unit c.requires.may.unit_is) so.so
          (subst (λ n. IsPiece c.args.unit B true (c.args.place + c.loop-done.done) (n - c.loop-done.done) c.piece_to_write-piece.result) (so.all ∙ sym (dumped_long c.args.memory.now)) c.piece_to_write-piece.ensures.piece)
          refl c.in_ok-written.written (still m.keeps) m.done (λ short. absurd (omega (arith, whole, short)));
      keeps = keeps_join so.keeps m.keeps;
      loans = search rules;
      all = so.all;
      room = search rules;
    }

pub returns-clause-turns : goal.returns-clause-turns
returns-clause-turns g c =
    let old : Spot = g.S.Site.at c.args.site.now in
    let new : Spot = g.S.Site.at c.loop-done.site in
    let all = c.loop-done.invariant.all in
    let test = c.loop-done-test.false in
    let long = dumped_long c.args.memory.now in
    record {
      done = written_whole c.args.unit B c.args.place c.loop-done.done (dumped c.args.memory.now) (seen old) (seen new) (λ lt. absurd (omega (arith, all, test, long, lt))) c.loop-done.invariant.so;
      left = tt;
      stopped = tt;
      keeps = c.loop-done.invariant.keeps;
    }
