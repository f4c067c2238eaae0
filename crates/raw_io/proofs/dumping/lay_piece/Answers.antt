use Rattle.std.proofs.Common.{◌-◌, ◌++◌, length, replicate, ap, ◌∙◌}
use Rattle.raw_io.proofs.Dumps.{laid_piece}
use Rattle.raw_io.proofs.dumping.lay_piece.Goals as goal

pub returns : goal.returns
returns c =
    c.fill.ensures
    ∙ ap (λ zs. zs ++ replicate (length c.args.buffer.now - length zs) 0) c.part_of.ensures
    ∙ laid_piece c.args.start (length c.args.buffer.now) c.args.memory.now c.requires.inside
