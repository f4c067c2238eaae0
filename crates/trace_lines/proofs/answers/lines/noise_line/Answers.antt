use Rattle.std.proofs.Common.{arith}
use Rattle.std.proofs.lemmas.Grind.{common_steps}
use Rattle.trace_lines.proofs.answers.TextLaws.{noise_said}
use Rattle.trace_lines.proofs.answers.lines.noise_line.Goals as goal

pub returns-clause-said : goal.returns-clause-said
returns-clause-said c = λ noise places has. noise_said c.args.line c.args.class noise c.put-4.new.self (grind (arith, common_steps)) places has
