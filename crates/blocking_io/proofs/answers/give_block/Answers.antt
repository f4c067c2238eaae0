use Rattle.std.proofs.Common.{ap, ◌∙◌, ◌*◌}
use Rattle.driver_laws.specs.rules.Laid.{laid_at}
use Rattle.blocking_io.proofs.Blocks.{block_given}
use Rattle.blocking_io.proofs.answers.give_block.Goals as goal

pub returns : goal.returns
returns c =
    let block = c.requires.block in
    c.lay_at.ensures
    ∙ ap (λ bytes. laid_at (512 * c.args.k) bytes c.args.into.now)
    (block_given c.args.subsystem.now.world c.args.k c.args.size block c.answer_block.new.into (c.answer_block.ensures block.reads.made block.slot block.reads.oldest block.slot_is))
