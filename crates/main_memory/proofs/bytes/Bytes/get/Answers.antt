use Rattle.std.proofs.Common.{List, ℕ, length, sym, ap, ◌∙◌}
use Rattle.main_memory.proofs.ByteLaws.{length-filled}
use Rattle.main_memory.proofs.bytes.Bytes.get.Goals as goal

pub returns-clause-size : goal.returns-clause-size
returns-clause-size c = sym (ap (λ (xs : List ℕ). length xs) c.self.view_is) ∙ length-filled 8388608 c.self.inside.held.items c.self.invariant.inside
