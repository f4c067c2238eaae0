use Rattle.promise_rows.proofs.Commands.{number_before_its_command, two_refusals_of_one_status, half_of_the_source, half_the_number_played, seed_from_the_greatest_byte_on}
use Rattle.promise_rows.proofs.command_rows.Goals as goal

pub returns-clause-number_before_its_command : goal.returns-clause-number_before_its_command
returns-clause-number_before_its_command c = number_before_its_command

pub returns-clause-two_refusals_of_one_status : goal.returns-clause-two_refusals_of_one_status
returns-clause-two_refusals_of_one_status c = two_refusals_of_one_status

pub returns-clause-half_of_the_source : goal.returns-clause-half_of_the_source
returns-clause-half_of_the_source c = half_of_the_source

pub returns-clause-half_the_number_played : goal.returns-clause-half_the_number_played
returns-clause-half_the_number_played c = half_the_number_played

pub returns-clause-seed_from_the_greatest_byte_on : goal.returns-clause-seed_from_the_greatest_byte_on
returns-clause-seed_from_the_greatest_byte_on c = seed_from_the_greatest_byte_on
