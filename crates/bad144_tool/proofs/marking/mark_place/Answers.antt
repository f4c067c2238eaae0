use Rattle.std.proofs.Common.{ap, ◌∙◌}
use Rattle.bad144_tool.specs.Marking.{wants_mark}
use Rattle.bad144_tool.proofs.ExitLaws.{no_value}
use Rattle.bad144_tool.proofs.MarkLaws.{does_err, does_nothing, does_ok, marked_then}
use Rattle.bad144_tool.proofs.marking.mark_place.Goals as goal

pub returns-in_err-on : goal.returns-in_err-on
returns-in_err-on g c =
    let is = c.from_residual.ensures.0 in
    let wants = c.in_err-on.ensures in record {
      does = does_nothing _ is wants.never_again wants.same wants.cause;
      did = no_value _ _ is;
    }

pub returns-in_err-write_mark : goal.returns-in_err-write_mark
returns-in_err-write_mark g c =
    let is = c.from_residual-in_err-write_mark.ensures.0 in
    let wants = c.in_ok-on.ensures in record {
      does = does_err is (marked_then c.args.kind c.args.unit c.args.place _ c.in_ok-on.on c.number-block.ensures wants.never_again wants.same wants.cause.later wants.wants
          c.in_err-write_mark.ensures);
      did = no_value _ _ is;
    }

pub returns : goal.returns
returns g c =
    let wants = c.in_ok-on.ensures in
    let mark = c.in_ok-write_mark.ensures in record {
      does = does_ok (marked_then c.args.kind c.args.unit c.args.place _ c.in_ok-on.on c.number-block.ensures wants.never_again wants.same wants.cause.later wants.wants mark);
      did = λ t. wants.wants (mark.never_again t) ∙ ap (wants_mark c.args.kind (g.P.Packs.held c.args.packs.now c.args.unit)) c.number-block.ensures;
    }
