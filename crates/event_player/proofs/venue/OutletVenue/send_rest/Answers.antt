use Rattle.std.proofs.Common.{[], ap}
use Rattle.hp_driver.specs.Subsystem.{State}
use Rattle.event_player.proofs.Halting.{rest_taken}
use Rattle.event_player.proofs.Saying.{driver_sent}
use Rattle.event_player.proofs.venue.OutletVenue.send_rest.Goals as goal

pub returns : goal.returns
returns g c =
    let lines = c.send.ensures.puts in
    let answers = c.flush.ensures.puts in
    record {
      lines = rest_taken g.T.Sink.tells g.T.Sink.taken g.T.Sink.faults c.args.self.now.trace.now c.send.new.trace c.args.self.now.subsystem.now.kept c.send.result lines;
      answers = rest_taken g.O.Sink.tells g.O.Sink.taken g.O.Sink.faults c.args.self.now.out.now c.flush.new.sink c.args.self.now.desk.now.gather c.flush.result answers;
      again = answers.never_again;
      again_lines = lines.never_again;
      later = answers.cause.later;
      later_lines = lines.cause.later;
      same = driver_sent (ap (λ (d : State). record d { kept = [] }) c.send.ensures.same);
    }
