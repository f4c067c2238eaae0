-- The data's remainder is the check, and no other is.
use Rattle.std.proofs.Common.{arith}
use Rattle.fire_code.proofs.Words.{encoded, encoded_only}
use Rattle.fire_code.proofs.encode.Goals as goal

pub returns-clause-right : goal.returns-clause-right
returns-clause-right c = encoded c.args.bytes.now c.data_remainder.result (omega arith) c.data_remainder.ensures

pub returns-clause-only : goal.returns-clause-only
returns-clause-only c check small right = encoded_only c.args.bytes.now c.data_remainder.result check c.data_remainder.ensures small right
