use Rattle.std.proofs.Common.{refl}
use Rattle.driver_laws.proofs.answers.Waiting.{taking_drops}
use Rattle.driver_laws.proofs.answers.Taking.{none_waits}
use Rattle.driver_laws.proofs.answers.answers.taken_law.Goals as goal

pub returns-clause-waiting : goal.returns-clause-waiting
returns-clause-waiting c = taking_drops

pub returns-clause-answers : goal.returns-clause-answers
returns-clause-answers c = λ w. refl

pub returns-clause-all : goal.returns-clause-all
returns-clause-all c = none_waits
