use Rattle.std.proofs.Common.{◌∙◌, arith}
use Rattle.main_memory.proofs.FillLaws.{fill_in}
use Rattle.main_memory.proofs.span.fill_span.Goals as goal
use Rattle.main_memory.proofs.span.fill_span.Goals.{else-span-via-then-span+in_ok-fill-2+else-branch-fill, else-span-via-else-span}

pub returns : goal.returns
returns c =
    fill_in c.args.span c.in_ok-fill.fill c.args.bytes.now c.requires.span c.fill.ensures.size c.in_ok-fill.ensures.fill
    (λ some. elim c.else-span.branch [
      | else-span-via-then-span+in_ok-fill-2+else-branch-fill w ↦ λ k few. w.in_ok-fill-2.ensures.fill k few ∙ w.if-branch-fill.false
      | else-span-via-else-span w ↦ absurd (omega (arith, some, w.if-span.false))
    ])
