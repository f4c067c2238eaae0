use Rattle.std.proofs.Common.{◌≡◌, true, false, arith, rules, sym, ◌∙◌}
use Rattle.pack_format.proofs.SurveyLaws.{not_off, survey_over, survey_same}
use Rattle.pack_format.proofs.survey.take.Goals as goal

pub returns-then-not-marked-clause-survey : goal.returns-then-not-marked-clause-survey
returns-then-not-marked-clause-survey c = λ serial pack survey mark.
    let off : c.args.marked ≡ false = search (rules, not_off) in
    survey_same c.args.kind serial pack c.args.block c.args.survey.now.found c.args.survey.now.table survey (sym mark ∙ off)

pub returns-then-survey-gt126-clause-survey : goal.returns-then-survey-gt126-clause-survey
returns-then-survey-gt126-clause-survey c = λ serial pack survey mark.
    let on : c.args.marked ≡ true = search rules in
    survey_over c.args.kind serial pack c.args.block c.args.survey.now.found c.args.survey.now.table c.args.survey.now.table survey (sym mark ∙ on) (omega arith)

pub returns-clause-survey : goal.returns-clause-survey
returns-clause-survey c = λ serial pack survey mark.
    let on : c.args.marked ≡ true = search rules in
    c.list.ensures.survey serial c.args.survey.now.found pack survey (sym mark ∙ on) (omega arith)
