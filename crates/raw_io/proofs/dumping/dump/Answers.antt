use Rattle.std.proofs.Common.{◌*◌, ◌-◌, length, ◌∙◌, ap, arith, rules, false}
use Rattle.partitions.specs.declared.Part.TheVariants.{B}
use Rattle.partitions.specs.Partitions.{size_of}
use Rattle.driver_laws.specs.rules.Bytes.{blocks_for}
use Rattle.raw_io.proofs.Dumps.{dumped_long}
use Rattle.blocking_io.proofs.Spots.{turned_at}
use Rattle.raw_io.proofs.Answered.{no_fault, not_outside, never_outside}
use Rattle.raw_io.proofs.Moving.{comes_outside, comes_stopped, comes_unusable, comes_whole, turned_from}
use Rattle.raw_io.proofs.dumping.dump.Goals as goal

pub returns-then-memory-gt-MEMORY-clause-comes : goal.returns-then-memory-gt-MEMORY-clause-comes
returns-then-memory-gt-MEMORY-clause-comes g c = comes_outside _ c.requires.may.ready

pub returns-in_err-done-clause-nothing : goal.returns-in_err-done-clause-nothing
returns-in_err-done-clause-nothing g c = never_outside c.from_residual.result c.in_err-done.field-0.0 c.from_residual.ensures.1

pub returns-in_err-done-clause-comes : goal.returns-in_err-done-clause-comes
returns-in_err-done-clause-comes g c =
    let place = ap (λ n. 512 * n) (c.from.ensures ∙ ap (λ n. n - blocks_for (length c.args.memory.now)) (c.part_range.ensures.size ∙ ap (λ k. size_of k B) c.kind.ensures)) in
    comes_stopped c.from_residual.result c.in_err-done.field-0.0 c.from_residual.ensures.1
    (turned_at (turned_from c.in_err-done.ensures.turns place) (search rules))

pub returns-then-done-count-clause-nothing : goal.returns-then-done-count-clause-nothing
returns-then-done-count-clause-nothing g c = λ e. absurd (not_outside c.in_ok-done.done e)

pub returns-then-done-count-clause-comes : goal.returns-then-done-count-clause-comes
returns-then-done-count-clause-comes g c =
    let place = ap (λ n. 512 * n) (c.from.ensures ∙ ap (λ n. n - blocks_for (length c.args.memory.now)) (c.part_range.ensures.size ∙ ap (λ k. size_of k B) c.kind.ensures)) in
    comes_unusable c.in_ok-done.done c.if-done-count.true
    (turned_at (turned_from c.in_ok-done.ensures.turns place) (search rules))

pub returns-clause-nothing : goal.returns-clause-nothing
returns-clause-nothing g c = λ e. absurd (no_fault _ _ e)

pub returns-clause-comes : goal.returns-clause-comes
returns-clause-comes g c =
    let place = ap (λ n. 512 * n) (c.from.ensures ∙ ap (λ n. n - blocks_for (length c.args.memory.now)) (c.part_range.ensures.size ∙ ap (λ k. size_of k B) c.kind.ensures)) in
    let few = c.in_ok-done.ensures.turns.done.few in
    let whole = c.if-done-count.false in
    let long = dumped_long c.args.memory.now in
    comes_whole _ c.in_ok-done.done (omega (arith, few, long, whole))
    (turned_at (turned_from c.in_ok-done.ensures.turns place) (search rules))
