use Rattle.promise_rows.proofs.Saying.{answers_before_lines, text_not_said, rest_not_sent}
use Rattle.promise_rows.proofs.saying_rows.Goals as goal

pub returns-clause-answers_before_lines : goal.returns-clause-answers_before_lines
returns-clause-answers_before_lines c = answers_before_lines

pub returns-clause-text_not_said : goal.returns-clause-text_not_said
returns-clause-text_not_said c = text_not_said

pub returns-clause-rest_not_sent : goal.returns-clause-rest_not_sent
returns-clause-rest_not_sent c = rest_not_sent
