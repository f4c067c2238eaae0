use Rattle.std.proofs.Common.{rules}
use Rattle.outside_traits.proofs.TakenLaws.{taken_more, count_inside}
use Rattle.outside_traits.proofs.whole.write_all.Goals as goal

-- src/whole.rt:13:5
pub loop-done-preserved : goal.loop-done-preserved
loop-done-preserved g c = record {
  inside = count_inside c.args.from.now c.loop-done.done c.in_ok-done.field-0 c.loop-done.invariant.inside c.in_ok-done.ensures.bound;
  never_again = search rules;
  told = λ t. taken_more _ _ _ c.args.from.now c.loop-done.done c.in_ok-done.field-0 (c.loop-done.invariant.told (c.in_ok-done.ensures.never_again t)) (c.in_ok-done.ensures.bytes t);
  later = search rules;
}
