use Rattle.std.proofs.Common.{arith}
use Rattle.outside_traits.proofs.GatherLaws.{short_front}
use Rattle.outside_traits.proofs.gather.put_short_at.Goals as goal

pub returns-clause-front : goal.returns-clause-front
returns-clause-front c =
    short_front c.args.room.now.items c.deref_mut.result.now c.copy_from_slice.new.self _ _ c.args.from.now c.args.at c.args.len c.args.room.now.len c.deref_mut.ensures.value c.copy_from_slice.ensures.after
    (omega arith) (omega (arith, c.args.room.now.ok.0)) (omega arith)
