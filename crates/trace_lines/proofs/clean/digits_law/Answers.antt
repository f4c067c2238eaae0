use Rattle.std.proofs.Common.{arith}
use Rattle.std.proofs.lemmas.Fmt.{length-decimal-le}
use Rattle.trace_lines.proofs.clean.digits_law.Goals as goal

pub returns-clause-long : goal.returns-clause-long
returns-clause-long c = λ n h. length-decimal-le 20 n (omega arith) (omega (arith, h)) h

pub returns-clause-middle : goal.returns-clause-middle
returns-clause-middle c = λ n h. length-decimal-le 10 n (omega arith) (omega (arith, h)) (omega (arith, h))

pub returns-clause-short : goal.returns-clause-short
returns-clause-short c = λ n h. length-decimal-le 3 n (omega arith) (omega (arith, h)) (omega (arith, h))
