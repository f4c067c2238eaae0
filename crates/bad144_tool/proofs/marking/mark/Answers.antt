use Rattle.bad144_tool.proofs.AddLaws.{at_error}
use Rattle.bad144_tool.proofs.ExitLaws.{counted_failed, counted_ok, counted_on, counted_then, marks_same, no_value}
use Rattle.bad144_tool.proofs.MarkLaws.{marking_stopped, marks_all}
use Rattle.bad144_tool.proofs.marking.mark.Goals as goal

pub returns-in_err-table : goal.returns-in_err-table
returns-in_err-table g c =
    let error = c.from_residual.ensures.1 in
    let table = c.in_err-table.ensures in record {
      never_again = table.never_again;
      marked = no_value _ _ c.from_residual.ensures.0;
      few = no_value _ _ c.from_residual.ensures.0;
      faults = at_error _ _ error table.only;
      why = at_error _ _ error (table.why 0);
      left = at_error _ _ error (λ t. marks_same c.args.kind c.args.unit _ _ _ (table.same t));
      store = counted_on _ error table.store;
    }

pub returns-in_err-count : goal.returns-in_err-count
returns-in_err-count g c =
    let error = c.from_residual-in_err-count.ensures.1 in
    let table = c.in_ok-table.ensures in
    let does = c.in_err-count.ensures.does in record {
      never_again = λ t. table.never_again (does.never_again t);
      marked = no_value _ _ c.from_residual-in_err-count.ensures.0;
      few = no_value _ _ c.from_residual-in_err-count.ensures.0;
      faults = at_error _ _ error tt;
      why = at_error _ _ error (λ _. tt);
      left = at_error _ _ error (λ t.
          let told = does.never_again t in
          marking_stopped c.args.kind c.args.unit _ _ _ c.in_ok-table.table (table.table told) (table.same told) (does.cut_short t));
      store = counted_then table.store.later (counted_failed does.cause);
    }

pub returns : goal.returns
returns g c =
    let table = c.in_ok-table.ensures in
    let count = c.in_ok-count.ensures in record {
      never_again = λ t. table.never_again (count.does.never_again t);
      marked = λ t.
          let told = count.does.never_again t in
          marks_all c.args.kind c.args.unit _ _ _ _ c.in_ok-table.table (table.table told) (table.same told) (count.does.done t) (count.counted t);
      few = count.few;
      faults = tt;
      why = tt;
      left = tt;
      store = counted_then table.store.later (counted_ok _ count.does.cause.later);
    }
