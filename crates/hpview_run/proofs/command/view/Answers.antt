use Rattle.hpview_run.specs.declared.status.Status.TheVariants.{Done, Usage, Refused, SourceFailed, SinkFailed, NoEvent}
use Rattle.hpview_run.proofs.CommandLaws.{decoded, drawn_for, is_silent, none_for, nothing_drawn, one_command, right_stays, stopped_for}
use Rattle.hpview_run.proofs.command.view.Goals as goal

pub returns-in-None-clause-statuses : goal.returns-in-None-clause-statuses
returns-in-None-clause-statuses g c = (c.put_usage.result, c.code.ensures)

pub returns-in-Some-clause-usage_told : goal.returns-in-Some-clause-usage_told
returns-in-Some-clause-usage_told g c = λ e. absurd (c.run_command.ensures.no_usage (decoded _ Usage _ c.code-in-Some.ensures e))

pub returns-in-Some-clause-statuses : goal.returns-in-Some-clause-statuses
returns-in-Some-clause-statuses g c = (c.run_command.result, c.code-in-Some.ensures)

pub returns-in-Some-clause-done : goal.returns-in-Some-clause-done
returns-in-Some-clause-done g c = λ command named e.
    drawn_for c.in-Some.command command _ _ _ _ _ _ _ (one_command c.command_of.result _ c.in-Some.command command c.command_of.ensures c.in-Some.is named)
    (c.run_command.ensures.done (decoded _ Done _ c.code-in-Some.ensures e))

pub returns-in-Some-clause-stopped : goal.returns-in-Some-clause-stopped
returns-in-Some-clause-stopped g c = λ command named e.
    stopped_for c.in-Some.command command _ _ _ _ _ _ _ (one_command c.command_of.result _ c.in-Some.command command c.command_of.ensures c.in-Some.is named)
    (c.run_command.ensures.stopped (decoded _ SinkFailed _ c.code-in-Some.ensures e))

pub returns-in-Some-clause-none : goal.returns-in-Some-clause-none
returns-in-Some-clause-none g c = λ command named e.
    none_for c.in-Some.command command _ _ _ _ _ _ _ _ _ (one_command c.command_of.result _ c.in-Some.command command c.command_of.ensures c.in-Some.is named)
    (c.run_command.ensures.none (decoded _ NoEvent _ c.code-in-Some.ensures e))

pub returns-in-Some-clause-refused : goal.returns-in-Some-clause-refused
returns-in-Some-clause-refused g c = λ e. c.run_command.ensures.refused (decoded _ Refused _ c.code-in-Some.ensures e)

pub returns-in-Some-clause-right : goal.returns-in-Some-clause-right
returns-in-Some-clause-right g c = λ t u right e. right_stays _ _ _ _ _ _ _ _ _ c.inputs_law.ensures.script c.inputs_law.ensures.trace c.inputs_law.ensures.legal t u right
    (c.run_command.ensures.refused (decoded _ Refused _ c.code-in-Some.ensures e))

pub returns-in-Some-clause-faulty : goal.returns-in-Some-clause-faulty
returns-in-Some-clause-faulty g c = λ command named t u faulty e.
    nothing_drawn command _ _ _ _ _ _ _ c.inputs_law.ensures.script c.inputs_law.ensures.trace c.inputs_law.ensures.one t u faulty
    (drawn_for c.in-Some.command command _ _ _ _ _ _ _ (one_command c.command_of.result _ c.in-Some.command command c.command_of.ensures c.in-Some.is named)
    (c.run_command.ensures.done (decoded _ Done _ c.code-in-Some.ensures e)))

pub returns-in-Some-clause-source : goal.returns-in-Some-clause-source
returns-in-Some-clause-source g c = λ e. c.run_command.ensures.source (decoded _ SourceFailed _ c.code-in-Some.ensures e)

pub returns-in-Some-clause-sink : goal.returns-in-Some-clause-sink
returns-in-Some-clause-sink g c = λ e. c.run_command.ensures.sink (decoded _ SinkFailed _ c.code-in-Some.ensures e)

pub returns-in-Some-clause-silent : goal.returns-in-Some-clause-silent
returns-in-Some-clause-silent g c = λ e. c.run_command.ensures.silent (is_silent _ _ c.code-in-Some.ensures e)
