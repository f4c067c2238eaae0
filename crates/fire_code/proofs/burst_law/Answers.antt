-- The law on lists of places.
use Rattle.fire_code.proofs.Bursts.{same_burst, burst_not_zero}
use Rattle.fire_code.proofs.burst_law.Goals as goal

pub returns : goal.returns
returns c = record { not_zero = burst_not_zero; apart = same_burst }
