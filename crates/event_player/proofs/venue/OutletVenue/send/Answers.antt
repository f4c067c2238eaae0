use Rattle.std.proofs.Common.{[], refl, ap}
use Rattle.std.proofs.lemmas.Result.{IfOk-from_err}
use Rattle.hp_driver.specs.Subsystem.{State}
use Rattle.event_player.proofs.SaysLaws.{on_ok, on_err}
use Rattle.event_player.proofs.Saying.{driver_sent, says_sent, says_unsent}
use Rattle.event_player.proofs.venue.OutletVenue.send.Goals as goal

pub returns-in_err-send : goal.returns-in_err-send
returns-in_err-send g c = record {
  says = says_unsent g.O.Sink.tells g.O.Sink.taken g.O.Sink.faults g.T.Sink.tells g.T.Sink.taken g.T.Sink.faults
      c.args.self.now.out.now c.args.self.now.trace.now c.send.new.trace c.args.self.now.desk.now.gather c.args.self.now.desk.now.gather c.args.self.now.subsystem.now.kept c.send.new.self.kept c.from_residual.result []
      c.from_residual.ensures.0 c.in_err-send.ensures.puts;
  still = λ off. absurd (cc off);
  emptied = IfOk-from_err c.from_residual.result (λ _. _) c.from_residual.ensures.0;
  stopped = on_err _ c.from_residual.result refl;
  same = driver_sent (ap (λ (d : State). record d { kept = [] }) c.in_err-send.ensures.same);
}

pub returns : goal.returns
returns g c = record {
  says = says_sent g.O.Sink.tells g.O.Sink.taken g.O.Sink.faults g.T.Sink.tells g.T.Sink.taken g.T.Sink.faults
      c.args.self.now.out.now c.flush.new.sink c.args.self.now.trace.now c.send.new.trace c.args.self.now.desk.now.gather c.args.self.now.desk.now.gather c.flush.new.self c.args.self.now.subsystem.now.kept c.send.new.self.kept c.flush.result []
      c.in_ok-send.ensures.puts (ap (λ (d : State). d.kept) c.in_ok-send.ensures.same) refl c.flush.ensures.gathers;
  still = λ off. absurd (cc off);
  emptied = on_ok _ c.flush.result (λ on. (c.flush.ensures.empty, ap (λ (d : State). d.kept) c.in_ok-send.ensures.same));
  stopped = on_err _ c.flush.result refl;
  same = driver_sent (ap (λ (d : State). record d { kept = [] }) c.in_ok-send.ensures.same);
}
