use Rattle.std.proofs.Common.{ap, ◌∙◌}
use Rattle.hp_driver.specs.Inputs.{input_of}
use Rattle.hp_driver.specs.Subsystem.{State}
use Rattle.callers.proofs.Carrying.{happened_fits, may_call, taken_fits}
use Rattle.callers.proofs.both.happen.Goals as goal

pub returns : goal.returns
returns g c = record {
  goes = record {
    call = may_call c.event.new.self c.take_answers.new.subsystem c.take_answers.ensures c.in_ok-event.ensures.going;
    fits = λ asked fits. taken_fits asked c.event.new.self c.take_answers.new.subsystem c.take_answers.ensures
        (happened_fits g.P.Packs.tells g.P.Packs.held g.T.Sink.tells g.T.Sink.taken c.args.packs.now c.event.new.packs c.args.trace.now c.event.new.trace c.args.line (input_of c.args.event)
        c.args.subsystem.now.world c.event.new.self.world c.args.subsystem.now.kept c.event.new.self.kept c.law.ensures.sound (c.law.ensures.work c.requires.may.going) c.in_ok-event.ensures.does asked fits);
    outstanding = ap (λ (s : State). s.outstanding) c.take_answers.ensures ∙ c.event.ensures.outstanding;
  };
}
