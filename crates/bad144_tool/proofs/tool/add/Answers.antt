use Rattle.std.proofs.Common.{arith}
use Rattle.bad144_tool.proofs.AddLaws.{adds, at_error, within}
use Rattle.bad144_tool.proofs.ExitLaws.{counted_failed, counted_ok, counted_on, counted_then, leaves_same, no_value}
use Rattle.bad144_tool.proofs.tool.add.Goals as goal

pub returns-in_err-plan : goal.returns-in_err-plan
returns-in_err-plan g c =
    let error = c.from_residual.ensures.1 in
    let plan = c.in_err-plan.ensures in record {
      never_again = plan.never_again;
      added = no_value _ _ c.from_residual.ensures.0;
      index = no_value _ _ c.from_residual.ensures.0;
      faults = at_error _ _ error plan.faults;
      why = at_error _ _ error plan.why;
      left = at_error _ _ error (λ t. leaves_same c.args.kind c.args.unit c.args.block c.args.way _ _ _ (plan.same t));
      store = counted_on _ error plan.store;
    }

pub returns-in_err-write_edit : goal.returns-in_err-write_edit
returns-in_err-write_edit g c =
    let error = c.from_residual-in_err-write_edit.ensures.1 in
    let plan = c.in_ok-plan.ensures in
    let edit = c.in_err-write_edit.ensures in record {
      never_again = λ t. plan.never_again (edit.never_again t);
      added = no_value _ _ c.from_residual-in_err-write_edit.ensures.0;
      index = no_value _ _ c.from_residual-in_err-write_edit.ensures.0;
      faults = at_error _ _ error tt;
      why = at_error _ _ error (λ _. tt);
      left = at_error _ _ error (λ t.
          let told = edit.never_again t in
          let may = plan.may told in
          within c.args.kind c.args.unit c.args.block _ c.args.way _ _ _ may.0 _ may.1 (plan.same told) (edit.cut_short t));
      store = counted_then plan.store.later (counted_failed edit.cause);
    }

pub returns : goal.returns
returns g c =
    let plan = c.in_ok-plan.ensures in
    let edit = c.in_ok-write_edit.ensures in record {
      never_again = λ t. plan.never_again (edit.never_again t);
      added = λ t.
          let told = edit.never_again t in
          let may = plan.may told in
          adds c.args.kind c.args.unit c.args.block _ c.args.way _ _ _ may.0 _ may.1 (plan.same told) (edit.done t);
      index = omega (arith, plan.index, plan.room);
      faults = tt;
      why = tt;
      left = tt;
      store = counted_then plan.store.later (counted_ok _ edit.cause.later);
    }
