use Rattle.std.proofs.Common.{sym, subst, false}
use Rattle.blocking_io.specs.Sites.{kind_at}
use Rattle.blocking_io.specs.Spots.{Spot, TurnsOut}
use Rattle.raw_io.specs.Transfers.{Breaks}
use Rattle.raw_io.specs.Pieces.{IsWritten, PutsPiece, StopsPiece}
use Rattle.raw_io.proofs.Dumps.{piece_is}
use Rattle.raw_io.proofs.dumping.dump_piece.Goals as goal

pub write_piece-requires-clause-piece : goal.write_piece-requires-clause-piece
write_piece-requires-clause-piece g c =
    subst (IsWritten (kind_at (g.S.Site.at c.args.site.now).driver.world c.args.piece.request.unit) c.args.piece) (sym (piece_is c.args.piece.size c.args.start c.args.blocks.now c.lay_piece.new.buffer c.args.memory.now c.requires.room c.lay_piece.ensures)) c.requires.piece

pub returns-clause-turns : goal.returns-clause-turns
returns-clause-turns g c =
    let old : Spot = g.S.Site.at c.args.site.now in
    let new : Spot = g.S.Site.at c.write_piece.new.site in
    subst (λ bytes. TurnsOut (λ size. PutsPiece c.args.piece size bytes) (StopsPiece c.args.piece bytes) (Breaks false c.args.piece.request.unit c.args.piece.request.part) c.write_piece.result old new)
    (piece_is c.args.piece.size c.args.start c.args.blocks.now c.lay_piece.new.buffer c.args.memory.now c.requires.room c.lay_piece.ensures) c.write_piece.ensures.turns
