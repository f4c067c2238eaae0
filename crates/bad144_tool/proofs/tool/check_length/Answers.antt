use Rattle.bad144_tool.proofs.AddLaws.{at_error}
use Rattle.bad144_tool.proofs.ExitLaws.{counted_failed, counted_ok, counted_unless, fits_length, long_is_not_store, longer, not_done}
use Rattle.bad144_tool.proofs.tool.check_length.Goals as goal

pub returns-in_err-length : goal.returns-in_err-length
returns-in_err-length g c =
    let error = c.from_residual.ensures.1 in
    let length = c.in_err-length.ensures in record {
      never_again = length.never_again;
      same = length.same;
      fits = not_done _ _ c.from_residual.ensures.0;
      faults = at_error _ _ error tt;
      why = at_error _ _ error (λ _. tt);
      store = counted_failed length.cause;
    }

pub returns : goal.returns
returns g c =
    let length = c.in_ok-length.ensures in record {
      never_again = length.never_again;
      same = length.same;
      fits = λ t. fits_length _ _ c.from.result c.blocks-2.result _ c.if-length-from.false c.from.ensures c.blocks-2.ensures (length.length t);
      faults = tt;
      why = tt;
      store = counted_ok _ length.cause.later;
    }

pub returns-then-length-from : goal.returns-then-length-from
returns-then-length-from g c =
    let length = c.in_ok-length.ensures in
    let above = longer _ c.from.result c.blocks-2.result _ c.if-length-from.true c.from.ensures c.blocks-2.ensures in record {
      never_again = length.never_again;
      same = length.same;
      fits = tt;
      faults = above;
      why = λ t. record { is = length.length t; above = above };
      store = counted_unless _ (long_is_not_store c.in_ok-length.length) length.cause.later;
    }
