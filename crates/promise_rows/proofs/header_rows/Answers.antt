use Rattle.promise_rows.proofs.Headers.{headers_are}
use Rattle.promise_rows.proofs.header_rows.Goals as goal

pub returns : goal.returns
returns c = headers_are
