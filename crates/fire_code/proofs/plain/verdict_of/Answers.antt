-- The search sees each place at which a burst may begin.
use Rattle.std.proofs.Common.{◌≡◌, ◌<◌, ◌+◌, ◌-◌, ◌^◌, suc, arith, refl, sym, ap, ◌∙◌, subst}
use Rattle.std.proofs.lemmas.Bool.{both_ways}
use Rattle.fire_code.specs.Remainder.{times_x as the_product, repeat}
use Rattle.fire_code.specs.Burst.{IsBurst}
use Rattle.fire_code.proofs.Bursts.{reversed-lt}
use Rattle.fire_code.proofs.Search.{window_start, window_next, window_found, none_at_start, none_next}
use Rattle.fire_code.proofs.plain.verdict_of.Goals as goal
use Rattle.fire_code.proofs.plain.verdict_of.Goals.{then-window-ge1024+then-window-lt2048+else-fits, else-window-ge1024, else-window-ge1024-via-then-window-ge1024+else-window-lt2048, else-window-ge1024-via-else-window-ge1024}

pub loop-step-init : goal.loop-step-init
unfolding repeat
loop-step-init c = refl

pub loop-step-preserved : goal.loop-step-preserved
unfolding repeat
loop-step-preserved c =
    let e : suc c.loop-step._step ≡ c.loop-step._step + 1 = omega arith in
    c.times_x-window.ensures ∙ ap the_product c.loop-step.invariant ∙ ap (λ z. repeat the_product z c.args.remainder) e

pub loop-exponent-init : goal.loop-exponent-init
loop-exponent-init c =
    let e : c.loop-step._step ≡ 10 = omega arith in (
      window_start c.args.remainder c.loop-step.window (omega arith) (subst (λ z. c.loop-step.window ≡ repeat the_product z c.args.remainder) e c.loop-step.invariant),
      none_at_start c.args.remainder,
    )

pub fits-requires-clause-pattern : goal.fits-requires-clause-pattern
fits-requires-clause-pattern c = subst (λ z. z < 2048) (sym c.reversed-pattern.ensures) (reversed-lt 11 c.loop-exponent.window)

pub returns-then-fits : goal.returns-then-fits
returns-then-fits c =
    subst (λ z. IsBurst (4127 - c.loop-exponent.exponent + 1) z c.args.remainder) (sym c.reversed-pattern.ensures)
    (window_found c.args.remainder c.loop-exponent.exponent c.loop-exponent.window (omega arith) c.loop-exponent-test.true c.loop-exponent.invariant.0
    c.if-window-ge1024.true c.if-window-lt2048.true
    (subst (λ z. z < 2 ^ (4128 - (4127 - c.loop-exponent.exponent))) c.reversed-pattern.ensures (c.fits.ensures.0 c.if-fits.true)))

pub loop-exponent-preserved : goal.loop-exponent-preserved
loop-exponent-preserved c = (
  window_next c.args.remainder c.loop-exponent.exponent c.loop-exponent.window c.over_x-window.result (omega arith) c.over_x-window.ensures c.loop-exponent.invariant.0,
  none_next c.args.remainder c.loop-exponent.exponent c.loop-exponent.window (omega arith) c.loop-exponent.invariant.0 (λ top small fits.
      elim c.if-window-ge1024.branch [
        | then-window-ge1024+then-window-lt2048+else-fits w ↦ both_ways _ w.if-fits.false (w.fits.ensures.1 (subst (λ z. z < 2 ^ (4128 - (4127 - c.loop-exponent.exponent))) (sym w.reversed-pattern.ensures) fits))
        | else-window-ge1024 w ↦
            elim w.else-window-ge1024.branch [
              | else-window-ge1024-via-then-window-ge1024+else-window-lt2048 v ↦ omega arith
              | else-window-ge1024-via-else-window-ge1024 v ↦ omega arith
            ]
      ]) c.loop-exponent.invariant.1,
)
