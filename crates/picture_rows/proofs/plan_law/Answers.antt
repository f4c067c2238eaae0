use Rattle.picture_rows.proofs.Planned.{request_left_out, column_left_out, bar_of_another_unit, caption_of_another_run, legend_without_a_letter}
use Rattle.picture_rows.proofs.plan_law.Goals as goal

pub returns-clause-request_left_out : goal.returns-clause-request_left_out
returns-clause-request_left_out c = request_left_out

pub returns-clause-column_left_out : goal.returns-clause-column_left_out
returns-clause-column_left_out c = column_left_out

pub returns-clause-bar_of_another_unit : goal.returns-clause-bar_of_another_unit
returns-clause-bar_of_another_unit c = bar_of_another_unit

pub returns-clause-caption_of_another_run : goal.returns-clause-caption_of_another_run
returns-clause-caption_of_another_run c = caption_of_another_run

pub returns-clause-legend_without_a_letter : goal.returns-clause-legend_without_a_letter
returns-clause-legend_without_a_letter c = legend_without_a_letter
