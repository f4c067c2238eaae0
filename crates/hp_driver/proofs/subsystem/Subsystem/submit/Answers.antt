use Rattle.std.proofs.Common.{refl, sym, ap, subst, None, Some, ◌∙◌}
use Rattle.std.proofs.lemmas.Bool.{false≢true}
use Rattle.trace_replay.specs.requests.Requests as told
use Rattle.driver_laws.specs.declared.answers.outcome.Stop.{Stop}
use Rattle.driver_laws.specs.declared.answers.outcome.Stop.TheVariants.{Sink}
use Rattle.hp_driver.specs.Bytes.{KeepsMaps}
use Rattle.hp_driver.specs.Subsystem.{State, asked, IsAsked, Submits}
use Rattle.hp_driver.proofs.Asking.{may_ask}
use Rattle.hp_driver.proofs.subsystem.Subsystem.submit.Goals as goal

pub submit-requires : goal.submit-requires
submit-requires g c =
    let kept : State = record { world = c.self.inside.core.world; outstanding = c.self.inside.outstanding; failed = c.self.inside.failed; kept = c.self.inside.core.kept } in
    let none = ap (λ (s : State). s.world.answers) c.self.view_is ∙ c.requires.none_waits in
    record {
      stands = record {
        sound = c.self.invariant.sound;
        work = c.self.invariant.work (ap (λ (s : State). s.failed) c.self.view_is ∙ c.requires.going);
        noise = c.self.invariant.noise;
      };
      none_waits = none;
      may = may_ask kept c.args.request c.args.bytes.now c.self.invariant.slots none
          (subst (λ (s : State). IsAsked s c.args.request c.args.bytes.now) (sym c.self.view_is) c.requires.asked);
    }

pub invariant_of-self-in-Err : goal.invariant_of-self-in-Err
invariant_of-self-in-Err g c = record {
  sound = c.submit.ensures.leaves.sound;
  work = λ e. absurd (false≢true (sym e));
  noise = c.submit.ensures.leaves.noise;
  slots = c.submit.ensures.leaves.slots ∙ c.self.invariant.slots;
  few = c.self.invariant.few;
}

pub returns-in-Ok : goal.returns-in-Ok
returns-in-Ok g c =
    let r : told.Request = asked c.args.request c.args.bytes.now in
    record {
      does = subst (λ (s : State). Submits g.T.Sink.tells g.T.Sink.taken c.args.trace.now c.submit.new.trace c.args.line r s.world c.submit.new.core.world s.kept c.submit.new.core.kept None)
          c.self.view_is c.in-Ok.ensures.does;
      going = ap (λ (s : State). s.failed) c.self.view_is ∙ c.requires.going;
      failed = tt;
      outstanding = ap (λ (s : State). s.outstanding) c.self.view_is;
      never_again = c.submit.ensures.never_again;
      cause = record { later = c.submit.ensures.cause.later; failed = tt };
      bytes = subst (λ (s : State). KeepsMaps s.world c.submit.new.core.world) c.self.view_is c.submit.ensures.bytes;
    }

pub returns-in-Err : goal.returns-in-Err
returns-in-Err g c =
    let r : told.Request = asked c.args.request c.args.bytes.now in
    record {
      does = subst (λ (s : State). Submits g.T.Sink.tells g.T.Sink.taken c.args.trace.now c.submit.new.trace c.args.line r s.world c.submit.new.core.world s.kept c.submit.new.core.kept (Some Sink))
          c.self.view_is
          (subst (λ (stop : Stop). Submits g.T.Sink.tells g.T.Sink.taken c.args.trace.now c.submit.new.trace c.args.line r c.self.inside.core.world c.submit.new.core.world c.self.inside.core.kept
          c.submit.new.core.kept (Some stop)) c.in-Err.ensures.stop c.in-Err.ensures.does);
      going = tt;
      failed = refl;
      outstanding = ap (λ (s : State). s.outstanding) c.self.view_is;
      never_again = c.submit.ensures.never_again;
      cause = record { later = c.submit.ensures.cause.later; failed = c.in-Err.ensures.cause.failed };
      bytes = subst (λ (s : State). KeepsMaps s.world c.submit.new.core.world) c.self.view_is c.submit.ensures.bytes;
    }

pub invariant_of-self : goal.invariant_of-self
invariant_of-self g c = record {
  sound = c.submit.ensures.leaves.sound;
  work = λ e. c.in-Ok.ensures.leaves.work;
  noise = c.submit.ensures.leaves.noise;
  slots = c.submit.ensures.leaves.slots ∙ c.self.invariant.slots;
  few = c.self.invariant.few;
}
