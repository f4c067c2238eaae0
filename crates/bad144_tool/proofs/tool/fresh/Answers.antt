use Rattle.bad144_tool.proofs.AddLaws.{at_error}
use Rattle.bad144_tool.proofs.ChangeLaws.{cut_at_once}
use Rattle.bad144_tool.proofs.EditLaws.{fresh_cut, fresh_done}
use Rattle.bad144_tool.proofs.ExitLaws.{counted_failed, counted_ok, counted_on, counted_then, not_done, not_this, ok_is_no_error, store_is_not_long}
use Rattle.bad144_tool.proofs.tool.fresh.Goals as goal

pub returns-in_err-check_length : goal.returns-in_err-check_length
returns-in_err-check_length g c =
    let is = c.from_residual.ensures.0 in
    let error = c.from_residual.ensures.1 in
    let check = c.in_err-check_length.ensures in record {
      never_again = check.never_again;
      fits = not_done _ _ is;
      done = not_done _ _ is;
      faults = at_error _ _ error check.faults;
      why = at_error _ _ error check.why;
      stopped = λ _ t. cut_at_once _ _ c.args.unit _ (check.same t);
      unchanged = λ _ _ t. check.same t;
      store = counted_on _ error check.store;
    }

pub returns-in_err-write_copies : goal.returns-in_err-write_copies
returns-in_err-write_copies g c =
    let is = c.from_residual-in_err-write_copies.ensures.0 in
    let error = c.from_residual-in_err-write_copies.ensures.1 in
    let check = c.in_ok-check_length.ensures in
    let write = c.in_err-write_copies.ensures in record {
      never_again = λ t. check.never_again (write.never_again t);
      fits = not_done _ _ is;
      done = not_done _ _ is;
      faults = at_error _ _ error tt;
      why = at_error _ _ error (λ _. tt);
      stopped = λ _ t. fresh_cut c.args.kind c.args.unit c.args.serial _ _ _ _ (check.same (write.never_again t)) c.empty_table.ensures (write.cut_short t);
      unchanged = λ n long _. absurd (not_this _ error (store_is_not_long n) long);
      store = counted_then check.store.later (counted_failed write.cause);
    }

pub returns : goal.returns
returns g c =
    let check = c.in_ok-check_length.ensures in
    let write = c.in_ok-write_copies.ensures in record {
      never_again = λ t. check.never_again (write.never_again t);
      fits = λ t. check.fits (write.never_again t);
      done = λ t. fresh_done c.args.kind c.args.unit c.args.serial _ _ _ _ (check.same (write.never_again t)) c.empty_table.ensures (write.done t);
      faults = tt;
      why = tt;
      stopped = λ is _. absurd (ok_is_no_error is);
      unchanged = λ _ is _. absurd (ok_is_no_error is);
      store = counted_then check.store.later (counted_ok _ write.cause.later);
    }
