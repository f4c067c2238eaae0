use Rattle.std.proofs.Common.{◌<◌, refl, ap, ◌∙◌, length, arith}
use Rattle.script_runs.proofs.Gatherings.{blocks_more, blocks_stop}
use Rattle.script_runs.proofs.desk.gather_blocks.Goals as goal

pub loop-k-preserved : goal.loop-k-preserved
loop-k-preserved g c =
    let blocks = c.args.desk.now.blocks.items in
    let few = c.requires in
    let here = c.loop-k-test.true in
    let lt : c.loop-k.k < length blocks = omega (arith, few, here) in
    record {
      gathers = blocks_more g.O.Sink.tells g.O.Sink.taken g.O.Sink.faults c.args.out.now c.loop-k.out c.gather_block.new.out c.args.desk.now.gather c.loop-k.desk.gather c.gather_block.new.desk.gather
          _ _ blocks c.loop-k.desk.blocks.items c.loop-k.k refl lt c.loop-k.invariant.gathers (ap (λ v. v.items) c.loop-k.invariant.blocks) c.in_ok-gather_block.ensures.gathers;
      blocks = c.in_ok-gather_block.ensures.blocks ∙ c.loop-k.invariant.blocks;
    }

pub returns-in_err-gather_block-clause-gathers : goal.returns-in_err-gather_block-clause-gathers
returns-in_err-gather_block-clause-gathers g c =
    let blocks = c.args.desk.now.blocks.items in
    let few = c.requires in
    let here = c.loop-k-test.true in
    let lt : c.loop-k.k < length blocks = omega (arith, few, here) in
    blocks_stop g.O.Sink.tells g.O.Sink.taken g.O.Sink.faults c.args.out.now c.loop-k.out c.gather_block.new.out c.args.desk.now.gather c.loop-k.desk.gather c.gather_block.new.desk.gather
    _ _ blocks c.loop-k.desk.blocks.items c.loop-k.k refl lt c.loop-k.invariant.gathers (ap (λ v. v.items) c.loop-k.invariant.blocks) c.in_err-gather_block.ensures.gathers
    c.from_residual.result c.args.count here refl c.from_residual.ensures.0
