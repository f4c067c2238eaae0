use Rattle.std.proofs.Common.{arith}
use Rattle.std.proofs.lemmas.List.{replicate_more}
use Rattle.driver_machine.specs.World.{no_unit}
use Rattle.hp_core.proofs.start.blank_units.Goals as goal

pub loop-preserved : goal.loop-preserved
loop-preserved c = record {
  items = cc (replicate_more c.loop.counter no_unit, c.push_reserved.ensures.items, c.loop.invariant.items, c.in_ok-unit.ensures);
  len = omega (arith, c.push_reserved.ensures.len, c.loop.invariant.len);
  room = omega (arith, c.push_reserved.ensures.capacity, c.loop.invariant.room);
}
