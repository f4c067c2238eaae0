-- A window that is found is the burst, or shows that there is none.
use Rattle.std.proofs.Common.{◌<◌, ◌+◌, ◌-◌, ◌^◌, arith, sym, subst}
use Rattle.std.proofs.lemmas.Bool.{both_ways}
use Rattle.fire_code.specs.Burst.{IsBurst}
use Rattle.fire_code.proofs.Bursts.{reversed-lt}
use Rattle.fire_code.proofs.Search.{window_found}
use Rattle.fire_code.proofs.Clocks.{too_early, no_room}
use Rattle.fire_code.proofs.by_residues.burst_at.Goals as goal

pub returns-then-exponent-gt4127 : goal.returns-then-exponent-gt4127
returns-then-exponent-gt4127 c r hr wrong h =
    too_early r c.args.exponent c.args.window wrong c.requires.exponent c.if-exponent-gt4127.true c.requires.top c.requires.small h

pub fits-requires-clause-pattern : goal.fits-requires-clause-pattern
fits-requires-clause-pattern c = subst (λ z. z < 2048) (sym c.reversed-pattern.ensures) (reversed-lt 11 c.args.window)

pub returns-then-not-fits : goal.returns-then-not-fits
returns-then-not-fits c r hr wrong h =
    no_room r c.args.exponent c.args.window wrong (omega arith) c.requires.top c.requires.small h
    (λ fit. both_ways _ c.if-not-fits.true (c.fits.ensures.1 (subst (λ z. z < 2 ^ (4128 - (4127 - c.args.exponent))) (sym c.reversed-pattern.ensures) fit)))

pub returns : goal.returns
returns c r hr wrong h =
    subst (λ z. IsBurst (4127 - c.args.exponent + 1) z r) (sym c.reversed-pattern.ensures)
    (window_found r c.args.exponent c.args.window hr (omega arith) h c.requires.top c.requires.small
    (subst (λ z. z < 2 ^ (4128 - (4127 - c.args.exponent))) c.reversed-pattern.ensures (c.fits.ensures.0 c.if-not-fits.false)))
