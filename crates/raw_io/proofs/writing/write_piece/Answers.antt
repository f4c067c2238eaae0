use Rattle.std.proofs.Common.{sym, subst}
use Rattle.blocking_io.proofs.Spots.{stopped}
use Rattle.blocking_io.specs.Spots.{Spot, seen}
use Rattle.raw_io.specs.Pieces.{IsWhole, PutsPiece}
use Rattle.raw_io.proofs.WritePieces.{whole_if, puts_whole, stops_whole}
use Rattle.raw_io.proofs.writing.write_piece.Goals as goal

pub returns-in_err-written-clause-turns : goal.returns-in_err-written-clause-turns
returns-in_err-written-clause-turns g c =
    let old : Spot = g.S.Site.at c.args.site.now in
    let new : Spot = g.S.Site.at c.put_blocks.new.site in
    let piece = c.requires.piece in
    let whole : IsWhole c.args.piece = whole_if c.args.piece piece.cut c.requires.whole c.if-piece-gt0.false c.if-piece-lt512.false in
    let m = c.in_err-written.ensures.turns in
    stopped c.from_residual.result c.in_err-written.field-0.0 c.from_residual.ensures.1
    (λ t tables. stops_whole c.args.piece c.args.from.now (seen old) piece.write_is piece.inside.last whole.0 whole.1 (seen new) (m.left t tables)) m.stopped m.keeps

pub returns-clause-turns : goal.returns-clause-turns
returns-clause-turns g c =
    let old : Spot = g.S.Site.at c.args.site.now in
    let new : Spot = g.S.Site.at c.put_blocks.new.site in
    let piece = c.requires.piece in
    let whole : IsWhole c.args.piece = whole_if c.args.piece piece.cut c.requires.whole c.if-piece-gt0.false c.if-piece-lt512.false in
    let m = c.in_ok-written.ensures.turns in
    record {
      done = subst (λ n. PutsPiece c.args.piece n c.args.from.now (seen old) (seen new)) (sym c.bytes_among.ensures)
          (puts_whole c.args.piece c.args.from.now (seen old) piece.write_is piece.inside.last whole.0 whole.1 c.in_ok-written.written (seen new) m.done);
      left = tt;
      stopped = tt;
      keeps = m.keeps;
    }
