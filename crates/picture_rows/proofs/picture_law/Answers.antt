use Rattle.picture_rows.proofs.Outcomes.{column_drops_an_event, idle_event_left_out, ampersand_as_it_is, coordinate_of_20000, window_from_the_first_event, lead_of_equals_the_first, all_adapters_taken_together, request_behind_the_window_shown, line_of_another_drive, group_ended_around_an_arm, tooltip_ended_twice}
use Rattle.picture_rows.proofs.picture_law.Goals as goal

pub returns-clause-column_drops_an_event : goal.returns-clause-column_drops_an_event
returns-clause-column_drops_an_event c = column_drops_an_event

pub returns-clause-idle_event_left_out : goal.returns-clause-idle_event_left_out
returns-clause-idle_event_left_out c = idle_event_left_out

pub returns-clause-ampersand_as_it_is : goal.returns-clause-ampersand_as_it_is
returns-clause-ampersand_as_it_is c = ampersand_as_it_is

pub returns-clause-window_from_the_first_event : goal.returns-clause-window_from_the_first_event
returns-clause-window_from_the_first_event c = window_from_the_first_event

pub returns-clause-lead_of_equals_the_first : goal.returns-clause-lead_of_equals_the_first
returns-clause-lead_of_equals_the_first c = lead_of_equals_the_first

pub returns-clause-line_of_another_drive : goal.returns-clause-line_of_another_drive
returns-clause-line_of_another_drive c = line_of_another_drive

pub returns-clause-group_ended_around_an_arm : goal.returns-clause-group_ended_around_an_arm
returns-clause-group_ended_around_an_arm c = group_ended_around_an_arm

pub returns-clause-tooltip_ended_twice : goal.returns-clause-tooltip_ended_twice
returns-clause-tooltip_ended_twice c = tooltip_ended_twice

pub returns-clause-coordinate_of_20000 : goal.returns-clause-coordinate_of_20000
returns-clause-coordinate_of_20000 c = coordinate_of_20000

pub returns-clause-all_adapters_taken_together : goal.returns-clause-all_adapters_taken_together
returns-clause-all_adapters_taken_together c = all_adapters_taken_together

pub returns-clause-request_behind_the_window_shown : goal.returns-clause-request_behind_the_window_shown
returns-clause-request_behind_the_window_shown c = request_behind_the_window_shown
