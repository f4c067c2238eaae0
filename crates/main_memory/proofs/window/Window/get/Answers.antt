use Rattle.std.proofs.Common.{ℕ, List, get_or, ap, ◌∙◌}
use Rattle.main_memory.specs.Blocks.{bytes_in}
use Rattle.main_memory.proofs.HeldLaws.{filled_at}
use Rattle.main_memory.proofs.window.Window.get.Goals as goal

pub returns-clause-byte : goal.returns-clause-byte
returns-clause-byte c =
    let window = c.args.self.now in
    ap (λ (xs : List ℕ). get_or xs c.args.at 0) c.copy_out.ensures.bytes ∙ filled_at 512 (bytes_in window.span window.memory.now.bytes) c.args.at
