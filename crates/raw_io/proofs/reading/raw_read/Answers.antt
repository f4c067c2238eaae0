use Rattle.std.proofs.Common.{arith, rules}
use Rattle.blocking_io.proofs.Spots.{turned_at}
use Rattle.raw_io.proofs.Answered.{no_fault, not_outside, never_outside}
use Rattle.raw_io.proofs.Moving.{comes_outside, comes_stopped, comes_unusable, comes_whole}
use Rattle.raw_io.proofs.reading.raw_read.Goals as goal

pub returns-then-is_outside-clause-comes : goal.returns-then-is_outside-clause-comes
returns-then-is_outside-clause-comes g c = comes_outside _ c.requires.may.ready

pub returns-in_err-done-clause-nothing : goal.returns-in_err-done-clause-nothing
returns-in_err-done-clause-nothing g c = never_outside c.from_residual.result c.in_err-done.field-0.0 c.from_residual.ensures.1

pub returns-in_err-done-clause-comes : goal.returns-in_err-done-clause-comes
returns-in_err-done-clause-comes g c = comes_stopped c.from_residual.result c.in_err-done.field-0.0 c.from_residual.ensures.1 (turned_at c.in_err-done.ensures.turns (search rules))

pub returns-then-done-into-clause-nothing : goal.returns-then-done-into-clause-nothing
returns-then-done-into-clause-nothing g c = λ e. absurd (not_outside c.in_ok-done.done e)

pub returns-then-done-into-clause-comes : goal.returns-then-done-into-clause-comes
returns-then-done-into-clause-comes g c =
    let same = c.read_range.auto.into in
    let fewer = c.if-done-into.true in
    comes_unusable c.in_ok-done.done (omega (arith, same, fewer)) (turned_at c.in_ok-done.ensures.turns (search rules))

pub returns-clause-nothing : goal.returns-clause-nothing
returns-clause-nothing g c = λ e. absurd (no_fault _ _ e)

pub returns-clause-comes : goal.returns-clause-comes
returns-clause-comes g c =
    let few = c.in_ok-done.ensures.turns.done.few in
    let same = c.read_range.auto.into in
    let whole = c.if-done-into.false in
    comes_whole tt c.in_ok-done.done (omega (arith, few, same, whole)) (turned_at c.in_ok-done.ensures.turns (search rules))
