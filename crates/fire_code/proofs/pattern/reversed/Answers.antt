-- Each step mirrors one bit.
use Rattle.std.proofs.Common.{◌≡◌, ◌+◌, ◌*◌, ◌^◌, ◌-◌, arith, sym, ◌∙◌, subst}
use Rattle.fire_code.specs.Burst.{reversed as the_reversed}
use Rattle.fire_code.proofs.Steps.{mirror_bit, mirror_room, mirror_fits, mirror_done}
use Rattle.fire_code.proofs.pattern.reversed.Goals as goal

pub loop-step-init : goal.loop-step-init
loop-step-init c = (omega arith, omega arith)

pub overflow_mul-mirrored : goal.overflow_mul-mirrored
overflow_mul-mirrored c = omega (arith, mirror_fits c.loop-step._step c.loop-step.mirrored c.loop-step-test.true c.loop-step.invariant.0)

pub overflow_add-mirrored : goal.overflow_add-mirrored
overflow_add-mirrored c = omega (arith, mirror_fits c.loop-step._step c.loop-step.mirrored c.loop-step-test.true c.loop-step.invariant.0)

pub loop-step-preserved : goal.loop-step-preserved
loop-step-preserved c = (
  mirror_room c.loop-step._step c.loop-step.mirrored c.loop-step.rest c.loop-step.invariant.0,
  sym (mirror_bit c.loop-step._step c.loop-step.mirrored c.loop-step.rest c.loop-step-test.true) ∙ c.loop-step.invariant.1,
)

pub returns : goal.returns
returns c =
    let e : c.loop-step._step ≡ 11 = omega arith in
    sym (mirror_done c.loop-step.mirrored c.loop-step.rest)
    ∙ subst (λ z. c.loop-step.mirrored * 2 ^ (11 - z) + the_reversed (11 - z) c.loop-step.rest ≡ the_reversed 11 c.args.value) e c.loop-step.invariant.1
