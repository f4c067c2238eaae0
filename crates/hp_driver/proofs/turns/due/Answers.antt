use Rattle.std.proofs.Common.{◌+◌, ◌*◌, length, ap, arith}
use Rattle.driver_machine.specs.World.{UnitView, unit_at}
use Rattle.driver_machine.specs.Events.{next_acts}
use Rattle.hp_driver.proofs.Going.{at_first, at_last, turned, turn_stopped, turn_empty}
use Rattle.hp_driver.proofs.Exits.{handed}
use Rattle.hp_driver.proofs.turns.due.Goals as goal

pub loop-init : goal.loop-init
loop-init g c = record { going = at_first _ _ _ _ _ (next_acts c.args.line c.args.u) (8 + 3 * length (unit_at c.args.core.now.world c.args.u).queue) c.requires.sound; free = c.requires.free }

pub returns-in_err-more : goal.returns-in_err-more
returns-in_err-more g c =
    handed _ _ _ _ _ _ _ _ _ c.from_residual.ensures.1
    (turn_stopped _ _ _ _ _ _ _ _ _ _ (next_acts c.args.line c.args.u) (8 + 3 * length (unit_at c.args.core.now.world c.args.u).queue) c.loop.counter _
    (omega (arith, ap (λ (v : UnitView). length v.queue) c.unit.ensures)) c.loop.invariant.going c.in_err-more.ensures.does)

pub returns-then-not-more : goal.returns-then-not-more
returns-then-not-more g c =
    turn_empty _ _ _ _ _ _ _ _ _ _ (next_acts c.args.line c.args.u) (8 + 3 * length (unit_at c.args.core.now.world c.args.u).queue) c.loop.counter _ _
    c.loop.invariant.going c.in_ok-more.ensures.does (c.in_ok-more.ensures.none c.if-not-more.true)

pub loop-preserved : goal.loop-preserved
loop-preserved g c = record {
  going = turned _ _ _ _ _ _ _ _ _ _ (next_acts c.args.line c.args.u) (8 + 3 * length (unit_at c.args.core.now.world c.args.u).queue) c.loop.counter _
      (omega (arith, ap (λ (v : UnitView). length v.queue) c.unit.ensures)) c.loop.invariant.going c.in_ok-more.ensures.does;
  free = c.in_ok-more.ensures.free;
}

pub returns : goal.returns
returns g c = at_last _ _ _ _ _ _ _ _ _ (next_acts c.args.line c.args.u) (8 + 3 * length (unit_at c.args.core.now.world c.args.u).queue) c.loop.counter (omega (arith, ap (λ (v : UnitView). length v.queue) c.unit.ensures)) c.loop.invariant.going
