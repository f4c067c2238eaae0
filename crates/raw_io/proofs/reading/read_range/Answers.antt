use Rattle.std.proofs.Common.{◌+◌, ◌-◌, [], ◌++◌, false, length, refl, sym, ap, subst, arith, rules, true}
use Rattle.blocking_io.specs.Sites.{MayTransfer}
use Rattle.blocking_io.specs.Spots.{Spot, seen}
use Rattle.blocking_io.proofs.Spots.{keeps_join, keeps_none, may_again, still}
use Rattle.raw_io.specs.Pieces.{IsPiece, GivesPiece}
use Rattle.raw_io.proofs.Breaks.{breaks_for}
use Rattle.raw_io.proofs.Loops.{turn_blocks}
use Rattle.raw_io.proofs.Moving.{stopped_behind}
use Rattle.raw_io.proofs.ReadRanges.{read_none, read_whole, read_more, read_ends, read_stops}
use Rattle.raw_io.proofs.reading.read_range.Goals as goal

pub loop-done-init : goal.loop-done-init
loop-done-init g c =
    let start : Spot = g.S.Site.at c.args.site.now in
    record {
      so = read_none c.args.unit c.args.part c.args.at c.args.into.now (seen start);
      keeps = keeps_none start c.requires.may.ready;
      loans = refl;
      long = refl;
      room = refl;
    }

pub read_piece-requires-clause-may : goal.read_piece-requires-clause-may
read_piece-requires-clause-may g c =
    let old : Spot = g.S.Site.at c.args.site.now in
    let now : Spot = g.S.Site.at c.loop-done.site in
    let so = c.loop-done.invariant in
    let piece = c.piece_to_read-piece.ensures in
    let long = so.long in
    let test = c.loop-done-test.true in
    let may = may_again c.requires.may so.keeps in
    record {
      may = subst (λ z. MayTransfer now.driver z) (sym piece.unit_is) may;
      blocks = turn_blocks (seen old) (seen now) c.args.unit c.args.part false c.args.at (length c.args.into.now) c.loop-done.done (length c.loop-done.into - c.loop-done.done) c.piece_to_read-piece.result []
          so.so.transfers.goes.setup c.requires.may.unit_is may.unit_is piece (omega (arith, long, test)) c.requires.inside;
    }

pub returns-in_err-size-clause-turns : goal.returns-in_err-size-clause-turns
returns-in_err-size-clause-turns g c =
    let old : Spot = g.S.Site.at c.args.site.now in
    let mid : Spot = g.S.Site.at c.loop-done.site in
    let new : Spot = g.S.Site.at c.read_piece.new.site in
    let so = c.loop-done.invariant in
    let piece = c.piece_to_read-piece in
    let m = c.in_err-size.ensures.turns in
    stopped_behind c.sessions_law.ensures.stops c.from_residual.result c.in_err-size.field-0.0 c.from_residual.ensures.1 so.so.transfers so.keeps
    (read_stops c.args.unit c.args.part c.args.at c.loop-done.done c.args.into.now c.loop-done.into (seen old) (seen mid) (seen new) m.keeps.never_again so.so m.left)
    (breaks_for true piece.result.request.unit c.args.unit piece.result.request.part c.args.part c.in_err-size.field-0.0 (seen mid) (seen new) piece.ensures.unit_is piece.ensures.part_is m.stopped) m.keeps

pub returns-then-size-piece-clause-turns : goal.returns-then-size-piece-clause-turns
returns-then-size-piece-clause-turns g c =
    let old : Spot = g.S.Site.at c.args.site.now in
    let mid : Spot = g.S.Site.at c.loop-done.site in
    let new : Spot = g.S.Site.at c.read_piece.new.site in
    let so = c.loop-done.invariant in
    let m = c.in_ok-size.ensures.turns in
    record {
      done = read_ends c.sessions_law.ensures.join c.args.unit c.args.part c.args.at c.loop-done.done c.in_ok-size.size c.args.into.now c.loop-done.into c.read_piece.new.into
          (c.split_at_mut-rest.result.0.now ++ c.read_piece.new.into) c.piece_to_read-piece.result (seen old) (seen mid) (seen new) c.requires.may.unit_is
          (so.keeps.units refl c.args.unit c.requires.may.unit_is) (still m.keeps) so.so
          (subst (λ n. IsPiece c.args.unit c.args.part false (c.args.at + c.loop-done.done) (n - c.loop-done.done) c.piece_to_read-piece.result) so.long c.piece_to_read-piece.ensures)
          (subst (λ zs. GivesPiece c.piece_to_read-piece.result c.in_ok-size.size zs c.read_piece.new.into (seen mid) (seen new)) c.split_at_mut-rest.ensures.back m.done)
          (ap (λ zs. zs ++ c.read_piece.new.into) c.split_at_mut-rest.ensures.front) c.if-size-piece.true;
      left = tt;
      stopped = tt;
      keeps = keeps_join so.keeps m.keeps;
    }

pub loop-done-preserved : goal.loop-done-preserved
loop-done-preserved g c =
    let old : Spot = g.S.Site.at c.args.site.now in
    let mid : Spot = g.S.Site.at c.loop-done.site in
    let new : Spot = g.S.Site.at c.read_piece.new.site in
    let so = c.loop-done.invariant in
    let m = c.in_ok-size.ensures.turns in
    let all = c.if-size-piece.false in
    record {
      so = read_more c.sessions_law.ensures.join c.args.unit c.args.part c.args.at c.loop-done.done c.in_ok-size.size c.args.into.now c.loop-done.into c.read_piece.new.into
          (c.split_at_mut-rest.result.0.now ++ c.read_piece.new.into) c.piece_to_read-piece.result (seen old) (seen mid) (seen new) c.requires.may.unit_is
          (so.keeps.units refl c.args.unit c.requires.may.unit_is) (still m.keeps) so.so
          (subst (λ n. IsPiece c.args.unit c.args.part false (c.args.at + c.loop-done.done) (n - c.loop-done.done) c.piece_to_read-piece.result) so.long c.piece_to_read-piece.ensures)
          (subst (λ zs. GivesPiece c.piece_to_read-piece.result c.in_ok-size.size zs c.read_piece.new.into (seen mid) (seen new)) c.split_at_mut-rest.ensures.back m.done)
          (ap (λ zs. zs ++ c.read_piece.new.into) c.split_at_mut-rest.ensures.front) (λ short. absurd (omega (arith, all, short)));
      keeps = keeps_join so.keeps m.keeps;
      loans = search rules;
      long = search rules;
      room = search rules;
    }

pub returns-clause-turns : goal.returns-clause-turns
returns-clause-turns g c =
    let old : Spot = g.S.Site.at c.args.site.now in
    let new : Spot = g.S.Site.at c.loop-done.site in
    let long = c.loop-done.invariant.long in
    let test = c.loop-done-test.false in
    record {
      done = read_whole c.args.unit c.args.part c.args.at c.loop-done.done c.args.into.now c.loop-done.into (seen old) (seen new) (λ lt. absurd (omega (arith, long, test, lt))) c.loop-done.invariant.so;
      left = tt;
      stopped = tt;
      keeps = c.loop-done.invariant.keeps;
    }
