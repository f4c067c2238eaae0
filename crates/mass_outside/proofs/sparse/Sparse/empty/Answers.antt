use Rattle.std.proofs.Common.{List, ℕ, length, sym, ap, arith}
use Rattle.mass_outside.proofs.SparseLaws.{kept_none_yet}
use Rattle.mass_outside.proofs.sparse.Sparse.empty.Goals as goal

pub invariant_of-result : goal.invariant_of-result
invariant_of-result c = (kept_none_yet c.new.result.items c.new-2.result.items c.new-4.result.items c.new-3.result.items 0 0 c.new-2.ensures.items c.new-3.ensures.items c.new-4.ensures.items (sym (ap (λ (bytes : List ℕ). length bytes) c.new.ensures.items)), omega arith, omega arith, omega arith)
