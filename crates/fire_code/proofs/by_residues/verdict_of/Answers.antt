-- A window that is found has one exponent.
use Rattle.std.proofs.Common.{arith, sym, ◌∙◌}
use Rattle.fire_code.proofs.Clocks.{clocked_start, clocked_next, clocked_found, cycle_zero}
use Rattle.fire_code.proofs.by_residues.verdict_of.Goals as goal
use Rattle.fire_code.proofs.by_residues.verdict_of.Goals.{else-window-ge1024-via-then-window-ge1024+else-window-lt2048, else-window-ge1024-via-else-window-ge1024}

pub returns-then-cycle-eq0 : goal.returns-then-cycle-eq0
returns-then-cycle-eq0 c = cycle_zero c.args.remainder (omega arith) c.if-remainder-eq0.false (sym c.cycle_of-cycle.ensures.value ∙ c.if-cycle-eq0.true)

pub loop-clocks-init : goal.loop-clocks-init
loop-clocks-init c = clocked_start c.args.remainder c.ring_of-window.result (omega arith) c.ring_of-window.ensures

pub returns-then-window-lt2048 : goal.returns-then-window-lt2048
returns-then-window-lt2048 c =
    c.burst_at.ensures c.args.remainder (omega arith) c.if-remainder-eq0.false
    (clocked_found c.args.remainder c.loop-clocks.clocks c.loop-clocks.window c.joined.result c.from.result c.logarithm-then-window-lt2048.result c.logarithm.result
    (omega arith) c.loop-clocks.invariant c.if-window-lt2048.true c.joined.ensures.window c.joined.ensures.cycle c.from.ensures
    c.logarithm-then-window-lt2048.ensures.below c.logarithm-then-window-lt2048.ensures.power (c.logarithm.ensures.power ∙ c.cycle_of-cycle.ensures.value))

pub loop-clocks-preserved : goal.loop-clocks-preserved
loop-clocks-preserved c = clocked_next c.args.remainder c.loop-clocks.clocks c.loop-clocks.window c.loop-clocks-test.true c.loop-clocks.invariant
    (λ top small. elim c.else-window-ge1024.branch [
      | else-window-ge1024-via-then-window-ge1024+else-window-lt2048 w ↦ omega arith
      | else-window-ge1024-via-else-window-ge1024 w ↦ omega arith
    ])
