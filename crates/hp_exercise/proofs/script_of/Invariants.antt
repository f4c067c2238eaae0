use Rattle.std.proofs.Common.{◌≡◌, ◌-◌, ◌++◌}
use Rattle.rand_core.specs.Steps.{stream_of}
use Rattle.rand_xoshiro.specs.SplitMix64.{splitmix_steps}
use Rattle.hp_exercise.specs.Exercise.{steps_text, script_text}
use Rattle.hp_exercise.proofs.script_of.Given as goal

-- what is written, and what is left to write from the generator's words on
abbrev pub invariant-loop-step : goal.invariant-loop-step
invariant-loop-step l = l.text.items ++ steps_text (2048 - l.step) l.step (stream_of splitmix_steps l.generator) ≡ script_text l.number
