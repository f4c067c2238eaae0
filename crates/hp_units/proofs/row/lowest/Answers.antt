use Rattle.std.proofs.Common.{◌==◌, ℕ, ap, w32, arith}
use Rattle.std.proofs.lemmas.Nat.Bits.{bit_at-trailing_zeros}
use Rattle.hp_units.proofs.row.lowest.Goals as goal

pub returns-clause-on : goal.returns-clause-on
returns-clause-on c =
    let low = bit_at-trailing_zeros w32 c.args.row (omega (arith, c.if-row-eq0.false)) (omega (arith, c.ranges.row.fits)) in
    (low.0, ap (λ (b : ℕ). b == 1) low.1)

pub returns-clause-below : goal.returns-clause-below
returns-clause-below c =
    let low = bit_at-trailing_zeros w32 c.args.row (omega (arith, c.if-row-eq0.false)) (omega (arith, c.ranges.row.fits)) in
    λ k. λ lt. ap (λ (b : ℕ). b == 1) (low.2 k lt)
