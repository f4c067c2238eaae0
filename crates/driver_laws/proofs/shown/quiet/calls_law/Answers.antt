use Rattle.driver_laws.proofs.shown.QuietQuietCalls.{quiet_opens, quiet_submits, drains_find_nothing, drains_begin, drains_continue, drains_are_over, takings_open, takings_drain}
use Rattle.driver_laws.proofs.shown.Again.{quiet_again}
use Rattle.driver_laws.proofs.shown.Setups.{setup_stays}
use Rattle.driver_laws.proofs.shown.quiet.calls_law.Goals as goal

pub returns-clause-opens : goal.returns-clause-opens
returns-clause-opens c = quiet_opens

pub returns-clause-submits : goal.returns-clause-submits
returns-clause-submits c = quiet_submits

pub returns-clause-begins : goal.returns-clause-begins
returns-clause-begins c = drains_begin

pub returns-clause-goes_on : goal.returns-clause-goes_on
returns-clause-goes_on c = drains_continue

pub returns-clause-over : goal.returns-clause-over
returns-clause-over c = drains_are_over

pub returns-clause-again : goal.returns-clause-again
returns-clause-again c = quiet_again

pub returns-clause-setup : goal.returns-clause-setup
returns-clause-setup c = setup_stays

pub returns-clause-nothing : goal.returns-clause-nothing
returns-clause-nothing c = drains_find_nothing

pub returns-clause-taken : goal.returns-clause-taken
returns-clause-taken c = takings_open

pub returns-clause-taken_within : goal.returns-clause-taken_within
returns-clause-taken_within c = takings_drain
