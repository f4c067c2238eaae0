use Rattle.std.proofs.Common.{refl, ap}
use Rattle.hp_driver.specs.Subsystem.{State}
use Rattle.event_player.proofs.Saying.{says_sent, says_unsent}
use Rattle.event_player.proofs.desk.Desk.say.Goals as goal

pub returns-in_err-send-clause-says : goal.returns-in_err-send-clause-says
returns-in_err-send-clause-says g c =
    says_unsent g.O.Sink.tells g.O.Sink.taken g.O.Sink.faults g.T.Sink.tells g.T.Sink.taken g.T.Sink.faults
    c.args.out.now c.args.trace.now c.send.new.trace c.args.self.now.gather c.try_keep.new.self c.args.subsystem.now.kept c.send.new.self.kept c.from_residual.result c.args.text.now
    c.from_residual.ensures.0 c.in_err-send.ensures.puts

pub returns-clause-says : goal.returns-clause-says
returns-clause-says g c =
    says_sent g.O.Sink.tells g.O.Sink.taken g.O.Sink.faults g.T.Sink.tells g.T.Sink.taken g.T.Sink.faults
    c.args.out.now c.put.new.sink c.args.trace.now c.send.new.trace c.args.self.now.gather c.try_keep.new.self c.put.new.self c.args.subsystem.now.kept c.send.new.self.kept c.put.result c.args.text.now
    c.in_ok-send.ensures.puts (ap (λ (s : State). s.kept) c.in_ok-send.ensures.same) (c.if-try_keep.ensures.full refl) c.put.ensures
