-- The window is the remainder times a power of x, and no burst begins at a place seen.
use Rattle.std.proofs.Common.{◌≡◌}
use Rattle.fire_code.specs.Remainder.{times_x as the_product, repeat}
use Rattle.fire_code.specs.Residue.{IsWindow}
use Rattle.fire_code.proofs.Search.{NoneBefore}
use Rattle.fire_code.proofs.plain.verdict_of.Given as goal

abbrev pub invariant-loop-step : goal.invariant-loop-step
invariant-loop-step l = l.window ≡ repeat the_product l._step l.fn.remainder

abbrev pub invariant-loop-exponent : goal.invariant-loop-exponent
invariant-loop-exponent l = IsWindow l.fn.remainder l.exponent l.window × NoneBefore l.fn.remainder l.exponent
