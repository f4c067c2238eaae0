use Rattle.std.proofs.Common.{arith, ◌∙◌}
use Rattle.live_noise.proofs.EntryLaws.{put_behind, put_in_order, when_ok}
use Rattle.live_noise.proofs.entries.put.Goals as goal

pub returns-clause-items : goal.returns-clause-items
returns-clause-items c =
    let point = rw (c.as_slice.ensures.value, c.number.ensures) at c.count_not_behind-i.ensures.point in
    when_ok c.insert.result _ _ _ (c.insert.ensures.succeeds c.requires.room) c.insert.ensures.items
    ∙ put_behind c.args.entry c.args.entries.now.items c.count_not_behind-i.result point

pub returns-clause-order : goal.returns-clause-order
returns-clause-order c =
    let point = rw (c.as_slice.ensures.value, c.number.ensures) at c.count_not_behind-i.ensures.point in
    let done = when_ok c.insert.result _ _ _ (c.insert.ensures.succeeds c.requires.room) c.insert.ensures.items in
    rw done (put_in_order c.args.entry c.args.entries.now.items c.count_not_behind-i.result c.requires.order c.requires.block (omega arith) point)
