use Rattle.std.proofs.Common.{arith}
use Rattle.std.proofs.lemmas.List.{length_push}
use Rattle.main_memory.proofs.FillLaws.{one_more}
use Rattle.main_memory.proofs.frames.all_zeros.Goals as goal

pub loop-init : goal.loop-init
loop-init c = record {
  frames = omega (arith, c.in_ok-fills.ensures.len, c.in_ok-fills.fills.ok.0);
  zeros = λ frame h. absurd (omega arith);
}

pub loop-preserved : goal.loop-preserved
loop-preserved c = record {
  frames = rw (c.in_ok-push.ensures.items, length_push) (omega (arith, c.loop.invariant.frames));
  zeros = λ frame h. rw c.in_ok-push.ensures.items (one_more c.loop.fills.items frame c.loop.invariant.frames c.loop.invariant.zeros h);
}
