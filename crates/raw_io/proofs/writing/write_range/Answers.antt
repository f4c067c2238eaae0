use Rattle.std.proofs.Common.{◌+◌, ◌-◌, take, drop, refl, sym, subst, arith, rules, false}
use Rattle.blocking_io.specs.Sites.{MayTransfer}
use Rattle.blocking_io.specs.Spots.{Spot, seen}
use Rattle.blocking_io.proofs.Spots.{keeps_join, keeps_none, may_again, still}
use Rattle.raw_io.proofs.Breaks.{breaks_for}
use Rattle.raw_io.proofs.Moving.{stopped_behind}
use Rattle.raw_io.proofs.WriteRanges.{written_none, written_whole, piece_of, turn_written, write_more, write_ends, write_stops}
use Rattle.raw_io.proofs.writing.write_range.Goals as goal

pub loop-done-init : goal.loop-done-init
loop-done-init g c =
    let start : Spot = g.S.Site.at c.args.site.now in
    record {
      so = written_none c.args.unit c.args.part c.args.at c.args.from.now (seen start);
      keeps = keeps_none start c.requires.may.ready;
      loans = refl;
    }

pub write_piece-requires-clause-may : goal.write_piece-requires-clause-may
write_piece-requires-clause-may g c =
    let now : Spot = g.S.Site.at c.loop-done.site in
    subst (λ z. MayTransfer now.driver z) (sym c.piece_to_write-piece.ensures.piece.unit_is) (may_again c.requires.may c.loop-done.invariant.keeps)

pub write_piece-requires-clause-piece : goal.write_piece-requires-clause-piece
write_piece-requires-clause-piece g c =
    let old : Spot = g.S.Site.at c.args.site.now in
    let now : Spot = g.S.Site.at c.loop-done.site in
    let so = c.loop-done.invariant in
    turn_written (seen old) (seen now) c.args.unit c.args.part c.args.at c.loop-done.done c.args.from.now
    (take (c.loop-done.done + c.piece_to_write-piece.result.size - c.loop-done.done) (drop c.loop-done.done c.args.from.now)) c.piece_to_write-piece.result
    so.so.transfers.goes.setup c.requires.may.unit_is (so.keeps.units refl c.args.unit c.requires.may.unit_is) c.piece_to_write-piece.ensures.piece
    so.so.few c.requires.inside (piece_of c.loop-done.done c.piece_to_write-piece.result.size c.args.from.now)

pub returns-in_err-size-clause-turns : goal.returns-in_err-size-clause-turns
returns-in_err-size-clause-turns g c =
    let old : Spot = g.S.Site.at c.args.site.now in
    let mid : Spot = g.S.Site.at c.loop-done.site in
    let new : Spot = g.S.Site.at c.write_piece.new.site in
    let so = c.loop-done.invariant in
    let piece = c.piece_to_write-piece in
    let m = c.in_err-size.ensures.turns in
    stopped_behind c.sessions_law.ensures.stops c.from_residual.result c.in_err-size.field-0.0 c.from_residual.ensures.1 so.so.transfers so.keeps
    (write_stops c.sessions_law.ensures.join c.args.unit c.args.part c.args.at c.loop-done.done c.args.from.now
    (take (c.loop-done.done + piece.result.size - c.loop-done.done) (drop c.loop-done.done c.args.from.now)) piece.result (seen old) (seen mid) (seen new) c.requires.may.unit_is
    (so.keeps.units refl c.args.unit c.requires.may.unit_is) so.so piece.ensures.piece
    (piece_of c.loop-done.done piece.result.size c.args.from.now) m.keeps.never_again m.left)
    (breaks_for false piece.result.request.unit c.args.unit piece.result.request.part c.args.part c.in_err-size.field-0.0 (seen mid) (seen new) piece.ensures.piece.unit_is piece.ensures.piece.part_is m.stopped) m.keeps

pub returns-then-size-piece-clause-turns : goal.returns-then-size-piece-clause-turns
returns-then-size-piece-clause-turns g c =
    let old : Spot = g.S.Site.at c.args.site.now in
    let mid : Spot = g.S.Site.at c.loop-done.site in
    let new : Spot = g.S.Site.at c.write_piece.new.site in
    let so = c.loop-done.invariant in
    let m = c.in_ok-size.ensures.turns in
    record {
      done = write_ends c.sessions_law.ensures.join c.args.unit c.args.part c.args.at c.loop-done.done c.args.from.now
          (take (c.loop-done.done + c.piece_to_write-piece.result.size - c.loop-done.done) (drop c.loop-done.done c.args.from.now)) c.piece_to_write-piece.result (seen old) (seen mid) (seen new) c.requires.may.unit_is
          (so.keeps.units refl c.args.unit c.requires.may.unit_is) so.so c.piece_to_write-piece.ensures.piece
          (piece_of c.loop-done.done c.piece_to_write-piece.result.size c.args.from.now) c.in_ok-size.size (still m.keeps) m.done c.if-size-piece.true;
      left = tt;
      stopped = tt;
      keeps = keeps_join so.keeps m.keeps;
    }

pub loop-done-preserved : goal.loop-done-preserved
loop-done-preserved g c =
    let old : Spot = g.S.Site.at c.args.site.now in
    let mid : Spot = g.S.Site.at c.loop-done.site in
    let new : Spot = g.S.Site.at c.write_piece.new.site in
    let so = c.loop-done.invariant in
    let m = c.in_ok-size.ensures.turns in
    let all = c.if-size-piece.false in
    record {
      so = write_more c.sessions_law.ensures.join c.args.unit c.args.part c.args.at c.loop-done.done c.args.from.now
          (take (c.loop-done.done + c.piece_to_write-piece.result.size - c.loop-done.done) (drop c.loop-done.done c.args.from.now)) c.piece_to_write-piece.result (seen old) (seen mid) (seen new) c.requires.may.unit_is
          (so.keeps.units refl c.args.unit c.requires.may.unit_is) so.so c.piece_to_write-piece.ensures.piece
          (piece_of c.loop-done.done c.piece_to_write-piece.result.size c.args.from.now) c.in_ok-size.size (still m.keeps) m.done (λ short. absurd (omega (arith, all, short)));
      keeps = keeps_join so.keeps m.keeps;
      loans = search rules;
    }

pub returns-clause-turns : goal.returns-clause-turns
returns-clause-turns g c =
    let old : Spot = g.S.Site.at c.args.site.now in
    let new : Spot = g.S.Site.at c.loop-done.site in
    let test = c.loop-done-test.false in
    record {
      done = written_whole c.args.unit c.args.part c.args.at c.loop-done.done c.args.from.now (seen old) (seen new) (λ lt. absurd (omega (arith, test, lt))) c.loop-done.invariant.so;
      left = tt;
      stopped = tt;
      keeps = c.loop-done.invariant.keeps;
    }
