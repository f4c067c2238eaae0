use Rattle.picture_rows.proofs.Charted.{panel_drops_a_column, row_of_another_unit, lane_left_out, shown_not_listed, row_left_out, letter_not_once}
use Rattle.picture_rows.proofs.chart_law.Goals as goal

pub returns-clause-panel_drops_a_column : goal.returns-clause-panel_drops_a_column
returns-clause-panel_drops_a_column c = panel_drops_a_column

pub returns-clause-row_of_another_unit : goal.returns-clause-row_of_another_unit
returns-clause-row_of_another_unit c = row_of_another_unit

pub returns-clause-lane_left_out : goal.returns-clause-lane_left_out
returns-clause-lane_left_out c = lane_left_out

pub returns-clause-shown_not_listed : goal.returns-clause-shown_not_listed
returns-clause-shown_not_listed c = shown_not_listed

pub returns-clause-row_left_out : goal.returns-clause-row_left_out
returns-clause-row_left_out c = row_left_out

pub returns-clause-letter_not_once_in_the_legend : goal.returns-clause-letter_not_once_in_the_legend
returns-clause-letter_not_once_in_the_legend c = letter_not_once
