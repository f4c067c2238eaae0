use Rattle.outside_traits.proofs.GatherLaws.{gathers_join, gathers_stop}
use Rattle.outside_traits.proofs.gather.gather_law.Goals as goal

pub returns-clause-join : goal.returns-clause-join
returns-clause-join g c = gathers_join g.T.Sink.tells g.T.Sink.taken g.T.Sink.faults

pub returns-clause-stop : goal.returns-clause-stop
returns-clause-stop g c = λ old new kept left result x y e. gathers_stop g.T.Sink.tells g.T.Sink.taken g.T.Sink.faults old new kept left result result x y e e
