use Rattle.run_plan.specs.Figures.{travel_of, asked_of}
use Rattle.run_plan.proofs.FigureLaws.{sums_step, sum_step, summary_is}
use Rattle.run_plan.proofs.plan.summary_text.Goals as goal

pub loop-lane-preserved : goal.loop-lane-preserved
loop-lane-preserved c = record {
  each = sums_step c.args.plan.now.rows.items c.as_slice.result.now c.args.plan.now.lanes.items c.deref-lane-items.result.now c.lane-item.result c.loop-lane.lane-index _ _ _
      c.deref-lane-items.ensures.value c.as_slice.ensures.value c.loop-lane-test.true c.lane-item.is c.loop-lane.invariant.each c.in_ok-put_drive.ensures;
  travel = sum_step travel_of c.args.plan.now.lanes.items c.deref-lane-items.result.now c.lane-item.result c.loop-lane.lane-index _ _
      c.deref-lane-items.ensures.value c.loop-lane-test.true c.lane-item.is c.loop-lane.invariant.travel c.plus-travel.ensures;
  as_asked = sum_step asked_of c.args.plan.now.lanes.items c.deref-lane-items.result.now c.lane-item.result c.loop-lane.lane-index _ _
      c.deref-lane-items.ensures.value c.loop-lane-test.true c.lane-item.is c.loop-lane.invariant.as_asked c.plus-as_asked.ensures;
}

pub returns : goal.returns
returns c = summary_is c.args.plan.now c.deref-lane-items.result.now c.as_slice-2.result.now c.loop-lane.lane-index c.loop-lane.travel c.loop-lane.as_asked c.in_ok-figures.figures c.loop-lane.out.items _
    c.deref-lane-items.ensures.value c.as_slice-2.ensures.value c.loop-lane-test.false c.loop-lane.invariant.each c.loop-lane.invariant.travel c.loop-lane.invariant.as_asked c.in_ok-figures.ensures
    c.in_ok-put_figures.ensures
