use Rattle.std.proofs.Common.{sym, ◌∙◌, ap, arith}
use Rattle.main_memory.specs.Bytes.{front}
use Rattle.main_memory.specs.Blocks.{with_bytes_in}
use Rattle.main_memory.proofs.ByteLaws.{front-whole}
use Rattle.main_memory.proofs.BlockLaws.{with_bytes_in-whole}
use Rattle.main_memory.proofs.span.write_front.Goals as goal

pub returns-then-span-eq512-clause-bytes : goal.returns-then-span-eq512-clause-bytes
returns-then-span-eq512-clause-bytes c =
    let span = c.args.span in
    let block = c.args.from.now in
    c.put_whole.ensures.bytes
    ∙ sym (ap (λ xs. with_bytes_in span xs c.args.bytes.now) (front-whole span.len block (omega (arith, c.told-from, c.if-span-eq512.true)))
    ∙ with_bytes_in-whole span block c.args.bytes.now c.if-span-eq0.true c.if-span-eq512.true c.told-from)

pub returns-else-span-eq0-clause-bytes : goal.returns-else-span-eq0-clause-bytes
unfolding front
returns-else-span-eq0-clause-bytes c = c.write_span.ensures.bytes
