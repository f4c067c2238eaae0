use Rattle.std.proofs.Common.{arith, sym, ap, ◌∙◌, ◌<◌, length}
use Rattle.std.proofs.lemmas.List.{take_all}
use Rattle.driver_machine.specs.World.{bytes_in}
use Rattle.driver_laws.specs.rules.Laid.{laid}
use Rattle.blocking_io.specs.Taking.{oldest_blocks}
use Rattle.blocking_io.proofs.Blocks.{read_is, has_block, whole_before}
use Rattle.blocking_io.proofs.Laying.{laid_none, blocks_laid}
use Rattle.blocking_io.proofs.answers.give_blocks.Goals as goal

pub give_block-requires : goal.give_block-requires
give_block-requires c = record { block = has_block c.args.subsystem.now.world c.args.count c.args.last c.loop-k.k c.block_size.result c.law.ensures.sound c.requires.reads (omega arith) c.block_size.ensures }

pub loop-k-init : goal.loop-k-init
loop-k-init c = sym (laid_none c.args.into.now)

pub loop-k-preserved : goal.loop-k-preserved
loop-k-preserved c =
    let w = c.args.subsystem.now.world in
    let read = read_is w c.args.count c.args.last c.law.ensures.sound c.requires.reads in
    let size = read.size in
    let lt : c.loop-k.k < length (oldest_blocks w) = omega (arith, size) in
    blocks_laid (oldest_blocks w) c.loop-k.k c.loop-k.into c.give_block.new.into c.args.into.now lt
    (whole_before (oldest_blocks w) c.args.count c.args.last c.loop-k.k read (omega arith)) c.loop-k.invariant c.give_block.ensures

pub returns : goal.returns
returns c =
    let w = c.args.subsystem.now.world in
    let read = read_is w c.args.count c.args.last c.law.ensures.sound c.requires.reads in
    let size = read.size in
    c.loop-k.invariant ∙ ap (λ blocks. laid (bytes_in blocks) c.args.into.now) (take_all c.loop-k.k (oldest_blocks w) (omega (arith, size)))
