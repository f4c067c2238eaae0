use Rattle.std.proofs.Common.{◌≡◌, ℕ, ◌+◌, ◌-◌, List, ◌++◌, take, drop, sym, ap, ◌∙◌, subst, arith}
use Rattle.blocking_io.proofs.Spots.{stopped}
use Rattle.blocking_io.specs.Spots.{Spot, seen}
use Rattle.raw_io.specs.Pieces.{GivesPiece}
use Rattle.raw_io.proofs.ReadPieces.{gives_piece}
use Rattle.raw_io.proofs.reading.read_piece.Goals as goal

taken : (size n skip : ℕ) (part buffer into : List ℕ) → size ≡ n → part ≡ take (skip + size - skip) (drop skip buffer) → part ++ drop size into ≡ take n (drop skip buffer) ++ drop n into
taken size n skip part buffer into same is =
    let more : skip + size - skip ≡ size = omega arith in
    ap (λ zs. zs ++ drop size into) (is ∙ ap (λ k. take k (drop skip buffer)) more) ∙ ap (λ k. take k (drop skip buffer) ++ drop k into) same

pub returns-in_err-read-clause-turns : goal.returns-in_err-read-clause-turns
returns-in_err-read-clause-turns g c =
    let m = c.in_err-read.ensures.turns in
    stopped c.from_residual.result c.in_err-read.field-0.0 c.from_residual.ensures.1 m.left m.stopped m.keeps

pub returns-clause-turns : goal.returns-clause-turns
returns-clause-turns g c =
    let old : Spot = g.S.Site.at c.args.site.now in
    let new : Spot = g.S.Site.at c.get_blocks.new.site in
    let m = c.in_ok-read.ensures.turns in
    record {
      done = subst (λ z. GivesPiece c.args.piece z c.args.into.now (c.copy_from_slice.new.self ++ drop c.bytes_among-size.result c.args.into.now) (seen old) (seen new)) (sym c.bytes_among-size.ensures)
          (gives_piece c.args.piece c.in_ok-read.read c.args.blocks.now c.get_blocks.new.into c.args.into.now (c.copy_from_slice.new.self ++ drop c.bytes_among-size.result c.args.into.now) (seen old) (seen new)
          c.requires.cut.skip c.requires.room c.requires.fits
          (taken c.bytes_among-size.result _ c.args.piece.skip c.copy_from_slice.new.self c.get_blocks.new.into c.args.into.now c.bytes_among-size.ensures c.copy_from_slice.ensures.after) m.done);
      left = tt;
      stopped = tt;
      keeps = m.keeps;
    }
