use Rattle.std.proofs.Common.{◌≡◌, ◌+◌, ◌*◌, refl, arith}
use Rattle.main_memory.specs.Blocks.{with_bytes_in}
use Rattle.main_memory.proofs.span.write_span.Goals as goal

pub returns-clause-bytes : goal.returns-clause-bytes
unfolding with_bytes_in
returns-clause-bytes c =
    let start : 512 * c.args.span.next + 0 ≡ 512 * c.args.span.next = omega arith in
    rw (c.put-2.ensures.bytes, c.put.ensures.bytes, c.split_at.ensures.back, c.split_at.ensures.front, c.len_in_frame.ensures.frame, start) refl
