use Rattle.std.proofs.Common.{◌*◌, refl, sym, ap, ◌∙◌, subst, arith}
use Rattle.blocking_io.specs.Sites.{kind_at}
use Rattle.blocking_io.specs.Spots.{Spot, seen}
use Rattle.blocking_io.proofs.Sites.{kind_stays}
use Rattle.blocking_io.proofs.Spots.{keeps_join, may_again, still, stopped}
use Rattle.raw_io.specs.Pieces.{PutsPiece}
use Rattle.raw_io.proofs.Breaks.{breaks_wider}
use Rattle.raw_io.proofs.Joins.{transfers_wider}
use Rattle.raw_io.proofs.Moving.{stopped_behind}
use Rattle.raw_io.proofs.WritePieces.{stops_read, puts_none, one_read, other_bytes, puts_edge, stops_edge}
use Rattle.raw_io.proofs.writing.write_edge.Goals as goal

pub get_blocks-requires-clause-may : goal.get_blocks-requires-clause-may
get_blocks-requires-clause-may g c =
    let blocks = c.requires.piece.inside in
    record { may = c.requires.may; blocks = record { id = blocks.id; some = blocks.some; few = blocks.few; last = blocks.last; offset = blocks.offset; inside = blocks.inside } }

pub returns-in_err-get_blocks-clause-turns : goal.returns-in_err-get_blocks-clause-turns
returns-in_err-get_blocks-clause-turns g c =
    let old : Spot = g.S.Site.at c.args.site.now in
    let new : Spot = g.S.Site.at c.get_blocks.new.site in
    let m = c.in_err-get_blocks.ensures.turns in
    stopped c.from_residual.result c.in_err-get_blocks.field-0.0 c.from_residual.ensures.1
    (λ t tables. stops_read c.args.piece c.args.from.now (seen old) (seen new) (m.left t tables))
    (breaks_wider c.args.piece.request.unit c.args.piece.request.part c.in_err-get_blocks.field-0.0 (seen old) (seen new) m.stopped) m.keeps

pub returns-then-branch-eq0-clause-turns : goal.returns-then-branch-eq0-clause-turns
returns-then-branch-eq0-clause-turns g c =
    let old : Spot = g.S.Site.at c.args.site.now in
    let new : Spot = g.S.Site.at c.get_blocks.new.site in
    let m = c.in_ok-get_blocks.ensures.turns in
    record {
      done = puts_none c.args.piece c.in_ok-get_blocks.field-0 c.args.from.now _ c.get_blocks.new.into (seen old) (seen new) c.if-branch-eq0.true m.done;
      left = tt;
      stopped = tt;
      keeps = m.keeps;
    }

pub put_blocks-requires-clause-may : goal.put_blocks-requires-clause-may
put_blocks-requires-clause-may g c =
    let old : Spot = g.S.Site.at c.args.site.now in
    let mid : Spot = g.S.Site.at c.get_blocks.new.site in
    let m = c.in_ok-get_blocks.ensures.turns in
    let may = may_again c.requires.may m.keeps in
    record {
      may = may;
      blocks = other_bytes (kind_at old.driver.world c.args.piece.request.unit) (kind_at mid.driver.world c.args.piece.request.unit) c.args.piece.request c.args.from.now c.merge.new.block
          (kind_stays (seen old) (seen mid) c.args.piece.request.unit m.done.transfers.goes.setup c.requires.may.unit_is may.unit_is) c.requires.piece.inside;
    }

pub put_blocks-requires-clause-writes : goal.put_blocks-requires-clause-writes
put_blocks-requires-clause-writes g c =
    c.requires.piece.write_is

pub put_blocks-requires-clause-size : goal.put_blocks-requires-clause-size
put_blocks-requires-clause-size g c =
    c.merge.array_long ∙ sym (ap (λ n. 512 * n) c.requires.one)

pub returns-in_err-written-clause-turns : goal.returns-in_err-written-clause-turns
returns-in_err-written-clause-turns g c =
    let old : Spot = g.S.Site.at c.args.site.now in
    let mid : Spot = g.S.Site.at c.get_blocks.new.site in
    let new : Spot = g.S.Site.at c.put_blocks.new.site in
    let piece = c.requires.piece in
    let m = c.in_ok-get_blocks.ensures.turns in
    let next = c.in_err-written.ensures.turns in
    stopped_behind c.sessions_law.ensures.stops c.from_residual-in_err-written.result c.in_err-written.field-0.0 c.from_residual-in_err-written.ensures.1
    (transfers_wider c.args.piece.request.unit c.args.piece.request.part (seen old) (seen mid) m.done.transfers) m.keeps
    (stops_edge c.sessions_law.ensures.join c.args.piece c.args.from.now _ c.get_blocks.new.into c.merge.new.block (seen old) (seen mid) (seen new) piece.write_is piece.inside.last c.requires.one
    piece.cut piece.size refl c.merge.array_long c.merge.ensures c.requires.may.unit_is (m.keeps.units refl c.args.piece.request.unit c.requires.may.unit_is) (still next.keeps)
    (one_read c.args.piece c.in_ok-get_blocks.field-0 _ c.get_blocks.new.into (seen old) (seen mid) c.requires.one c.if-branch-eq0.false m.done) next.left)
    next.stopped next.keeps

pub bytes_among-requires-clause-skip : goal.bytes_among-requires-clause-skip
bytes_among-requires-clause-skip g c =
    c.requires.piece.cut.skip

pub bytes_among-requires-clause-few : goal.bytes_among-requires-clause-few
bytes_among-requires-clause-few g c =
    let few = c.in_ok-written.ensures.turns.done.few in
    let most = c.requires.piece.inside.few in
    omega (arith, few, most)

pub returns-clause-turns : goal.returns-clause-turns
returns-clause-turns g c =
    let old : Spot = g.S.Site.at c.args.site.now in
    let mid : Spot = g.S.Site.at c.get_blocks.new.site in
    let new : Spot = g.S.Site.at c.put_blocks.new.site in
    let piece = c.requires.piece in
    let m = c.in_ok-get_blocks.ensures.turns in
    let next = c.in_ok-written.ensures.turns in
    record {
      done = subst (λ n. PutsPiece c.args.piece n c.args.from.now (seen old) (seen new)) (sym c.bytes_among.ensures)
          (puts_edge c.sessions_law.ensures.join c.args.piece c.args.from.now _ c.get_blocks.new.into c.merge.new.block (seen old) (seen mid) (seen new) piece.write_is piece.inside.last c.requires.one
          piece.cut piece.size refl c.merge.array_long c.merge.ensures c.requires.may.unit_is (m.keeps.units refl c.args.piece.request.unit c.requires.may.unit_is) (still next.keeps)
          (one_read c.args.piece c.in_ok-get_blocks.field-0 _ c.get_blocks.new.into (seen old) (seen mid) c.requires.one c.if-branch-eq0.false m.done) c.in_ok-written.written next.done);
      left = tt;
      stopped = tt;
      keeps = keeps_join m.keeps next.keeps;
    }
