-- The table of eight steps, entry by entry.
use Rattle.std.proofs.Common.{◌≡◌, ℕ, ◌*◌, ◌^◌, ◌<◌, get_or, refl}
use Rattle.fire_code.specs.declared.tables.TheConstants.{EIGHT_STEPS}
use Rattle.fire_code.specs.Remainder.{times_x, repeat}
use Rattle.fire_code.proofs.Bursts.{by_test}

-- each entry is that of the register
pub eight_steps-is : (i : ℕ) → i < 256 → get_or EIGHT_STEPS i 0 ≡ repeat times_x 8 (i * 2 ^ 24)
unfolding repeat times_x
eight_steps-is = by_test (λ i. get_or EIGHT_STEPS i 0) (λ i. repeat times_x 8 (i * 2 ^ 24)) 256 refl
