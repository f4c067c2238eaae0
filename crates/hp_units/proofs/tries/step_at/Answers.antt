use Rattle.std.proofs.Common.{◌≡◌, ℕ, zero, suc, ◌-◌, ◌<◌, List, ◌∷◌, sym, ap, ◌∙◌, slice_get, arith}
use Rattle.trace_replay.specs.declared.retry_offsets.Step.{Step}
use Rattle.driver_machine.specs.declared.RetryStep.TheVariants.{Recalibrate}
use Rattle.driver_machine.specs.Due.{steps_for}
use Rattle.hp_units.proofs.tries.step_at.Goals as goal

-- what stands behind the first
behind-first : {A : Type 0} (x : A) (xs : List A) (n : ℕ) → 0 < n → slice_get xs (n - 1) ≡ slice_get (x ∷ xs) n
behind-first x xs zero lt = absurd (omega (arith, lt))
behind-first x xs (suc m) lt = let e : suc m - 1 ≡ m = omega arith in ap (slice_get xs) e

pub returns-in-Offset : goal.returns-in-Offset
returns-in-Offset c = c.offset_at.ensures ∙ ap (λ (s : Step). slice_get (steps_for c.args.cylinder s) c.args.n) (sym c.in-Offset.is)

pub returns-else-n-eq0 : goal.returns-else-n-eq0
returns-else-n-eq0 c =
    c.seek_at.ensures ∙ behind-first Recalibrate _ c.args.n (omega (arith, c.if-n-eq0.false))
    ∙ ap (λ (s : Step). slice_get (steps_for c.args.cylinder s) c.args.n) (sym c.in-Recalibrate.is)
