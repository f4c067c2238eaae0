use Rattle.std.proofs.Common.{arith, sym}
use Rattle.live_noise.proofs.EntryLaws.{none_found}
use Rattle.live_noise.proofs.entries.first_at.Goals as goal

pub returns-then-not-is_at : goal.returns-then-not-is_at
returns-then-not-is_at c =
    none_found c.args.unit c.args.block c.args.entries.now c.count_below-i.result (omega arith) c.requires (omega arith)
    (rw c.number_at.ensures at c.count_below-i.ensures.point) _ (sym c.if-not-is_at.ensures)
