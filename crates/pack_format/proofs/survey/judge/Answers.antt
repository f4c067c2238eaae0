use Rattle.std.proofs.Common.{arith, sym}
use Rattle.pack_format.proofs.SurveyLaws.{can_be, is_no_copy}
use Rattle.pack_format.proofs.survey.judge.Goals as goal

pub returns-in-None-clause-why : goal.returns-in-None-clause-why
returns-in-None-clause-why c = λ kind pack judged.
    is_no_copy kind pack c.args.found c.args.spare c.args.no_copy judged (omega arith) (sym c.in-None.ensures.used) c.if-no_copy.true

pub returns-in-None-2-clause-ok : goal.returns-in-None-2-clause-ok
returns-in-None-2-clause-ok c = λ kind pack judged.
    can_be kind pack c.args.found c.args.spare c.args.no_copy judged (omega arith) (sym c.in-None-2.ensures.used) c.if-no_copy.false
