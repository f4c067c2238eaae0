use Rattle.std.proofs.Common.{arith}
use Rattle.std.proofs.lemmas.List.{length_push}
use Rattle.mass_outside.proofs.MemoryLaws.{empty_more}
use Rattle.mass_outside.proofs.mem_packs.empty_slots.Goals as goal

pub loop-preserved : goal.loop-preserved
loop-preserved c = record {
  len = rw (c.in_ok-push.ensures.items, length_push) (omega (arith, c.loop.invariant.len));
  empty = rw (c.in_ok-push.ensures.items, c.empty.ensures) (empty_more _ c.loop.invariant.empty);
}
