use Rattle.std.proofs.Common.{refl, ◌∙◌}
use Rattle.bad144_tool.proofs.ListLaws.{listed}
use Rattle.bad144_tool.proofs.AddLaws.{at_error}
use Rattle.bad144_tool.proofs.ExitLaws.{counted_failed, counted_ok, counted_on, counted_other, counted_same, counted_then, fresh_is_list_fault, fresh_is_not_sink, not_done, not_this, ok_is_no_error, sink_is_not_store, store_is_not_sink}
use Rattle.bad144_tool.proofs.tool.list.Goals as goal

pub returns-in_err-check_length : goal.returns-in_err-check_length
returns-in_err-check_length g c =
    let error = c.from_residual.ensures.1 in
    let check = c.in_err-check_length.ensures in
    let not_sink = fresh_is_not_sink c.args.kind _ check.faults in record {
      never_again = check.never_again;
      out_never_again = λ t. t;
      same = check.same;
      listed = not_done _ _ c.from_residual.ensures.0;
      faults = at_error _ _ error (fresh_is_list_fault c.args.kind _ check.faults);
      why = at_error _ _ error check.why;
      front = λ is. absurd (not_this _ error not_sink is);
      silent = at_error _ _ error (λ _. refl);
      store = counted_on _ error check.store;
      sink = counted_same _ error not_sink;
    }

pub returns-in_err-table : goal.returns-in_err-table
returns-in_err-table g c =
    let error = c.from_residual-in_err-table.ensures.1 in
    let check = c.in_ok-check_length.ensures in
    let table = c.in_err-table.ensures in record {
      never_again = λ t. check.never_again (table.never_again t);
      out_never_again = λ t. t;
      same = λ t. table.same t ∙ check.same (table.never_again t);
      listed = not_done _ _ c.from_residual-in_err-table.ensures.0;
      faults = at_error _ _ error tt;
      why = at_error _ _ error (λ _. tt);
      front = λ is. absurd (not_this _ error store_is_not_sink is);
      silent = at_error _ _ error (λ _. refl);
      store = counted_then check.store.later (counted_failed table.cause);
      sink = counted_same _ error store_is_not_sink;
    }

pub returns-in_err-write_list : goal.returns-in_err-write_list
returns-in_err-write_list g c =
    let error = c.from_residual-in_err-write_list.ensures.1 in
    let check = c.in_ok-check_length.ensures in
    let table = c.in_ok-table.ensures in
    let list = c.in_err-write_list.ensures in record {
      never_again = λ t. check.never_again (table.never_again t);
      out_never_again = list.puts.never_again;
      same = λ t. table.same t ∙ check.same (table.never_again t);
      listed = not_done _ _ c.from_residual-in_err-write_list.ensures.0;
      faults = at_error _ _ error tt;
      why = at_error _ _ error (λ _. tt);
      front = λ _. record {
        table = c.in_ok-table.table;
        is = listed c.args.kind c.args.unit _ _ _ c.in_ok-table.table table.drive list.valid (λ t. check.fits (table.never_again t)) (λ t. check.same (table.never_again t)) table.table;
        told = list.puts.front;
      };
      silent = at_error _ _ error (λ other. absurd (other refl));
      store = counted_then check.store.later (counted_other _ error sink_is_not_store table.cause.later);
      sink = counted_failed list.puts.cause;
    }

pub returns : goal.returns
returns g c =
    let check = c.in_ok-check_length.ensures in
    let table = c.in_ok-table.ensures in
    let list = c.in_ok-write_list.ensures in record {
      never_again = λ t. check.never_again (table.never_again t);
      out_never_again = list.puts.never_again;
      same = λ t. table.same t ∙ check.same (table.never_again t);
      listed = record {
        table = c.in_ok-table.table;
        is = listed c.args.kind c.args.unit _ _ _ c.in_ok-table.table table.drive list.valid (λ t. check.fits (table.never_again t)) (λ t. check.same (table.never_again t)) table.table;
        told = list.puts.bytes;
      };
      faults = tt;
      why = tt;
      front = λ is. absurd (ok_is_no_error is);
      silent = tt;
      store = counted_then check.store.later (counted_ok _ table.cause.later);
      sink = counted_ok _ list.puts.cause.later;
    }
