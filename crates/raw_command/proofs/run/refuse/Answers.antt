use Rattle.std.proofs.Common.{refl, arith}
use Rattle.raw_command.proofs.RunLaws.{is_silent, told_silent}
use Rattle.raw_command.proofs.run.refuse.Goals as goal

pub returns-in-Memory : goal.returns-in-Memory
returns-in-Memory g c = record {
  same = refl;
  never_again = λ t. t;
  told = λ t. told_silent _ c.args.unit _ c.args.fault (is_silent c.args.fault c.in-Memory.is);
  silent = λ is. refl;
  later = omega arith;
}
