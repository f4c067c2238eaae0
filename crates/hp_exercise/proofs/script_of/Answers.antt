use Rattle.std.proofs.Common.{◌≡◌, ◌-◌, ◌++◌, List, ℕ, sym, ap, ◌∙◌, arith}
use Rattle.rand_core.specs.Steps.{stream_of}
use Rattle.rand_xoshiro.specs.SplitMix64.{splitmix_steps}
use Rattle.hp_exercise.proofs.StepLaws.{stepped, ended}
use Rattle.hp_exercise.proofs.script_of.Goals as goal

pub loop-step-preserved : goal.loop-step-preserved
loop-step-preserved c =
    let text = c.loop-step.text.items in
    let line = c.line-line.result in
    let new = c.extend_from_slice.new.self.items in
    let is : new ≡ text ++ line = c.in_ok-extend_from_slice.ensures.items ∙ ap (λ (xs : List ℕ). text ++ xs) c.as_bytes.ensures.text in
    stepped text line new c.loop-step.step (stream_of splitmix_steps c.loop-step.generator) (stream_of splitmix_steps c.next_u64.new.self) c.next_u64.result
    (omega (arith, c.loop-step-test.true)) c.next_u64.ensures c.line-line.ensures is
    ∙ c.loop-step.invariant

pub returns : goal.returns
returns c =
    let none : 2048 - c.loop-step.step ≡ 0 = omega (arith, c.loop-step-test.false) in
    sym (ended c.loop-step.text.items c.loop-step.step (2048 - c.loop-step.step) (stream_of splitmix_steps c.loop-step.generator) none) ∙ c.loop-step.invariant
