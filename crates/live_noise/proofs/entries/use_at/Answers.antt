use Rattle.std.proofs.Common.{arith, sym, ◌∙◌}
use Rattle.live_noise.proofs.EntryLaws.{used_in_place}
use Rattle.live_noise.proofs.entries.use_at.Goals as goal

pub returns-in-Some-clause-items : goal.returns-in-Some-clause-items
returns-in-Some-clause-items c =
    used_in_place c.args.word c.args.i c.index-entry.result.now c.in-Some.span c.args.entries.now.items (omega arith) (sym c.span_left.ensures ∙ c.in-Some.is)
