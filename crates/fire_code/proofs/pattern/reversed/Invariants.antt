-- What has been mirrored round, and what is left, make the whole.
use Rattle.std.proofs.Common.{◌≡◌, ◌+◌, ◌-◌, ◌*◌, ◌^◌, ◌<◌}
use Rattle.fire_code.specs.Burst.{reversed as the_reversed}
use Rattle.fire_code.proofs.pattern.reversed.Given as goal

abbrev pub invariant-loop-step : goal.invariant-loop-step
invariant-loop-step l =
    (l.mirrored < 2 ^ l._step) × (l.mirrored * 2 ^ (11 - l._step) + the_reversed (11 - l._step) l.rest ≡ the_reversed 11 l.fn.value)
