use Rattle.pack_format.proofs.StepLaws.{step_ok, step_store}
use Rattle.pack_format.proofs.ExitLaws.{fits_length}
use Rattle.pack_format.proofs.formatting.check_length.Goals as goal

pub returns-in_err-length : goal.returns-in_err-length
returns-in_err-length g c =
    let length = c.in_err-length.ensures in record {
      same = length.same;
      step = step_store _ c.from_residual.ensures.1 (record { never_again = length.never_again; later = length.cause.later }) length.cause.failed (record { why = λ t. tt; fault = tt });
    }

pub returns : goal.returns
returns g c =
    let length = c.in_ok-length.ensures in record {
      same = length.same;
      step = step_ok _ (record { never_again = length.never_again; later = length.cause.later })
          (λ t. fits_length _ _ c.from.result c.blocks-2.result _ c.if-length-from.false c.from.ensures c.blocks-2.ensures (length.length t));
    }
