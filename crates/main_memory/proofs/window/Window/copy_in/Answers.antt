use Rattle.std.proofs.Common.{ap, ◌∙◌, arith}
use Rattle.main_memory.specs.Bytes.{front}
use Rattle.main_memory.specs.Blocks.{bytes_in}
use Rattle.main_memory.specs.Memory.{Memory}
use Rattle.main_memory.proofs.ByteLaws.{length-front}
use Rattle.main_memory.proofs.BlockLaws.{bytes_in-with_bytes_in}
use Rattle.main_memory.proofs.window.Window.copy_in.Goals as goal

pub returns-clause-bytes : goal.returns-clause-bytes
returns-clause-bytes c =
    let window = c.args.self.now in
    ap (λ (m : Memory). bytes_in window.span m.bytes) c.write.ensures.memory
    ∙ bytes_in-with_bytes_in window.span (front window.span.len c.args.from.now) window.memory.now.bytes window.inside
    (length-front window.span.len c.args.from.now (omega (arith, window.inside.few, c.told-from))) c.write.ensures.size
