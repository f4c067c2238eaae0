use Rattle.std.proofs.Common.{◌+◌, length, arith}
use Rattle.driver_machine.specs.Events.{choose_acts}
use Rattle.hp_driver.proofs.Going.{at_last, turned, turn_stopped, turn_empty}
use Rattle.hp_driver.proofs.Exits.{handed}
use Rattle.hp_driver.proofs.turns.start_adapter.Goals as goal

pub returns-in_err-more : goal.returns-in_err-more
returns-in_err-more g c =
    handed _ _ _ _ _ _ _ _ _ c.from_residual.ensures.1
    (turn_stopped _ _ _ _ _ _ _ _ _ _ (choose_acts c.args.line c.args.a) (2 + length c.args.core.now.world.slots) c.loop.counter _
    (omega arith) c.loop.invariant c.in_err-more.ensures.does)

pub returns-then-not-more : goal.returns-then-not-more
returns-then-not-more g c =
    turn_empty _ _ _ _ _ _ _ _ _ _ (choose_acts c.args.line c.args.a) (2 + length c.args.core.now.world.slots) c.loop.counter _ _
    c.loop.invariant c.in_ok-more.ensures.does (c.in_ok-more.ensures.none c.if-not-more.true)

pub loop-preserved : goal.loop-preserved
loop-preserved g c =
    turned _ _ _ _ _ _ _ _ _ _ (choose_acts c.args.line c.args.a) (2 + length c.args.core.now.world.slots) c.loop.counter _
    (omega arith) c.loop.invariant c.in_ok-more.ensures.does

pub returns : goal.returns
returns g c = at_last _ _ _ _ _ _ _ _ _ (choose_acts c.args.line c.args.a) (2 + length c.args.core.now.world.slots) c.loop.counter (omega arith) c.loop.invariant
