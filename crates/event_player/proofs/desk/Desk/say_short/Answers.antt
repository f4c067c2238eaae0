use Rattle.std.proofs.Common.{ℕ, List, [], refl, ap, subst, take}
use Rattle.trace_lines.specs.answers.Counting.{Counts}
use Rattle.hp_driver.specs.Subsystem.{State}
use Rattle.event_player.proofs.Saying.{says_sent, says_unsent}
use Rattle.event_player.proofs.desk.Desk.say_short.Goals as goal

pub returns-in_err-send-clause-says : goal.returns-in_err-send-clause-says
returns-in_err-send-clause-says g c =
    says_unsent g.O.Sink.tells g.O.Sink.taken g.O.Sink.faults g.T.Sink.tells g.T.Sink.taken g.T.Sink.faults
    c.args.out.now c.args.trace.now c.send.new.trace c.args.self.now.gather c.try_keep_short.new.self c.args.subsystem.now.kept c.send.new.self.kept c.from_residual.result (take c.args.len c.args.text.now)
    c.from_residual.ensures.0 c.in_err-send.ensures.puts

pub returns-clause-says : goal.returns-clause-says
returns-clause-says g c =
    says_sent g.O.Sink.tells g.O.Sink.taken g.O.Sink.faults g.T.Sink.tells g.T.Sink.taken g.T.Sink.faults
    c.args.out.now c.put_short.new.sink c.args.trace.now c.send.new.trace c.args.self.now.gather c.try_keep_short.new.self c.put_short.new.self c.args.subsystem.now.kept c.send.new.self.kept c.put_short.result
    (take c.args.len c.args.text.now)
    c.in_ok-send.ensures.puts (ap (λ (s : State). s.kept) c.in_ok-send.ensures.same) (c.if-try_keep_short.ensures.full refl) c.put_short.ensures

pub returns-then-try_keep_short-clause-counts : goal.returns-then-try_keep_short-clause-counts
returns-then-try_keep_short-clause-counts g c =
    subst (λ (xs : List ℕ). Counts [] (take c.args.len xs) c.args.self.now.tally c.count_text.new.self) c.as_slice.ensures c.count_text.ensures.counts

pub returns-in_err-send-clause-counts : goal.returns-in_err-send-clause-counts
returns-in_err-send-clause-counts g c =
    subst (λ (xs : List ℕ). Counts [] (take c.args.len xs) c.args.self.now.tally c.count_text.new.self) c.as_slice.ensures c.count_text.ensures.counts

pub returns-clause-counts : goal.returns-clause-counts
returns-clause-counts g c =
    subst (λ (xs : List ℕ). Counts [] (take c.args.len xs) c.args.self.now.tally c.count_text.new.self) c.as_slice.ensures c.count_text.ensures.counts
