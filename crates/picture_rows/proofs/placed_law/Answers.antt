use Rattle.picture_rows.proofs.Placed.{scale_turned_round, columns_turned_round, cylinders_turned_round, bottom_off_its_bound, top_off_its_bound, events_left_out, held_at_another_adapter}
use Rattle.picture_rows.proofs.placed_law.Goals as goal

pub returns-clause-scale_turned_round : goal.returns-clause-scale_turned_round
returns-clause-scale_turned_round c = scale_turned_round

pub returns-clause-columns_turned_round : goal.returns-clause-columns_turned_round
returns-clause-columns_turned_round c = columns_turned_round

pub returns-clause-cylinders_turned_round : goal.returns-clause-cylinders_turned_round
returns-clause-cylinders_turned_round c = cylinders_turned_round

pub returns-clause-bottom_off_its_bound : goal.returns-clause-bottom_off_its_bound
returns-clause-bottom_off_its_bound c = bottom_off_its_bound

pub returns-clause-top_off_its_bound : goal.returns-clause-top_off_its_bound
returns-clause-top_off_its_bound c = top_off_its_bound

pub returns-clause-events_left_out : goal.returns-clause-events_left_out
returns-clause-events_left_out c = events_left_out

pub returns-clause-held_at_another_adapter : goal.returns-clause-held_at_another_adapter
returns-clause-held_at_another_adapter c = held_at_another_adapter
