use Rattle.std.proofs.Common.{arith, length, ap}
use Rattle.std.proofs.lemmas.List.{length-map}
use Rattle.std.proofs.lemmas.Result.{IfOk-weaker}
use Rattle.run_plan.specs.Requests.{is_few, shown_count}
use Rattle.picture_svg.specs.Pictures.{unit_of}
use Rattle.picture_svg.proofs.Whole.{few_units, few_listed, picture_is, picture_of}
use Rattle.picture_svg.proofs.picture.svg.Goals as goal

pub draw-requires-clause-lanes : goal.draw-requires-clause-lanes
draw-requires-clause-lanes c =
    omega (arith, ap length c.as_slice.ensures.value, length-map c.in_ok-lanes.lanes.items unit_of, ap length c.in_ok-lanes.ensures, few_units 32 c.args.sheet.now)

pub draw-requires-clause-few : goal.draw-requires-clause-few
draw-requires-clause-few c =
    omega (arith, ap length c.in_ok-shown.ensures.listed, few_listed c.args.sheet.now (is_few (shown_count c.args.sheet.now)))

pub returns : goal.returns
returns c =
    let d = picture_is c.args.sheet.now c.in_ok-lanes.lanes.items c.as_slice.result.now c.in_ok-shown.shown.listed.items c.new-out.result c.draw.new.out
    c.as_slice.ensures.value c.in_ok-lanes.ensures c.new-out.ensures c.in_ok-draw.ensures in
    IfOk-weaker c.finish.result _ _
    (λ text written. picture_of c.args.sheet.now c.in_ok-shown.shown.listed.items c.draw.new.out text.items c.in_ok-shown.ensures.listed d written)
    c.finish.ensures
