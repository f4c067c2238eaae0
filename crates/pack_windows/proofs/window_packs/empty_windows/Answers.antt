use Rattle.std.proofs.Common.{arith}
use Rattle.std.proofs.lemmas.List.{length_push}
use Rattle.pack_windows.proofs.PartLaws.{part_more}
use Rattle.pack_windows.proofs.window_packs.empty_windows.Goals as goal

pub loop-preserved : goal.loop-preserved
loop-preserved c = record {
  count = rw (c.in_ok-push.ensures.items, length_push) (omega (arith, c.loop.invariant.count));
  parts = λ whole. rw c.in_ok-push.ensures.items (part_more _ _ whole (λ unit. c.new.ensures (whole unit)) (c.loop.invariant.parts whole));
}
