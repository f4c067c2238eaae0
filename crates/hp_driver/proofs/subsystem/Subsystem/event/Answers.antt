use Rattle.std.proofs.Common.{refl, sym, ap, subst, None, Option, Some, ◌∙◌}
use Rattle.std.proofs.lemmas.Bool.{false≢true}
use Rattle.trace_replay.specs.Script.{Input}
use Rattle.driver_laws.specs.declared.answers.outcome.Stop.{Stop}
use Rattle.hp_driver.specs.Inputs.{input_of}
use Rattle.hp_driver.specs.Bytes.{KeepsMapsIn}
use Rattle.hp_driver.specs.Subsystem.{State, IsThere, Comes}
use Rattle.hp_driver.proofs.subsystem.Subsystem.event.Goals as goal

pub happen-requires : goal.happen-requires
happen-requires g c = record {
  stands = record {
    sound = c.self.invariant.sound;
    work = c.self.invariant.work (ap (λ (s : State). s.failed) c.self.view_is ∙ c.requires.going);
    noise = c.self.invariant.noise;
  };
  there = subst (λ (s : State). IsThere s.world (input_of c.args.event)) (sym c.self.view_is) c.requires.there;
}

pub invariant_of-self-in-Err : goal.invariant_of-self-in-Err
invariant_of-self-in-Err g c = record {
  sound = c.happen.ensures.leaves.sound;
  work = λ e. absurd (false≢true (sym e));
  noise = c.happen.ensures.leaves.noise;
  slots = c.happen.ensures.leaves.slots ∙ c.self.invariant.slots;
  few = c.self.invariant.few;
}

pub returns-in-Ok : goal.returns-in-Ok
returns-in-Ok g c =
    let input : Input = input_of c.args.event in
    record {
      does = subst (λ (s : State). Comes g.P.Packs.tells g.P.Packs.held g.T.Sink.tells g.T.Sink.taken c.args.packs.now c.happen.new.packs c.args.trace.now c.happen.new.trace c.args.line input s.world
          c.happen.new.core.world s.kept c.happen.new.core.kept None) c.self.view_is c.in-Ok.ensures.comes;
      going = ap (λ (s : State). s.failed) c.self.view_is ∙ c.requires.going;
      failed = tt;
      outstanding = ap (λ (s : State). s.outstanding) c.self.view_is;
      still = c.happen.ensures.still;
      never_again = c.happen.ensures.never_again_packs;
      never_again_trace = c.happen.ensures.never_again;
      causes = c.in-Ok.ensures.causes;
      bytes = subst (λ (s : State). KeepsMapsIn (g.P.Packs.tells c.happen.new.packs) (g.P.Packs.held c.args.packs.now) (g.P.Packs.held c.happen.new.packs) input s.world c.happen.new.core.world None)
          c.self.view_is c.in-Ok.ensures.bytes;
    }

pub returns-in-Err : goal.returns-in-Err
returns-in-Err g c =
    let input : Input = input_of c.args.event in
    let stop : Option Stop = Some c.in-Err.stop in
    record {
      does = subst (λ (s : State). Comes g.P.Packs.tells g.P.Packs.held g.T.Sink.tells g.T.Sink.taken c.args.packs.now c.happen.new.packs c.args.trace.now c.happen.new.trace c.args.line input s.world
          c.happen.new.core.world s.kept c.happen.new.core.kept stop) c.self.view_is c.in-Err.ensures.comes;
      going = tt;
      failed = refl;
      outstanding = ap (λ (s : State). s.outstanding) c.self.view_is;
      still = c.happen.ensures.still;
      never_again = c.happen.ensures.never_again_packs;
      never_again_trace = c.happen.ensures.never_again;
      causes = c.in-Err.ensures.causes;
      bytes = subst (λ (s : State). KeepsMapsIn (g.P.Packs.tells c.happen.new.packs) (g.P.Packs.held c.args.packs.now) (g.P.Packs.held c.happen.new.packs) input s.world c.happen.new.core.world stop)
          c.self.view_is c.in-Err.ensures.bytes;
    }

pub invariant_of-self : goal.invariant_of-self
invariant_of-self g c = record {
  sound = c.happen.ensures.leaves.sound;
  work = λ e. c.in-Ok.ensures.leaves.work;
  noise = c.happen.ensures.leaves.noise;
  slots = c.happen.ensures.leaves.slots ∙ c.self.invariant.slots;
  few = c.self.invariant.few;
}
