use Rattle.blocking_io.proofs.Joined.{answers_reach, sessions_join, stops_join}
use Rattle.blocking_io.proofs.sessions.sessions_law.Goals as goal

pub returns-clause-answered : goal.returns-clause-answered
returns-clause-answered c = answers_reach

pub returns-clause-join : goal.returns-clause-join
returns-clause-join c = sessions_join

pub returns-clause-stops : goal.returns-clause-stops
returns-clause-stops c = stops_join
