-- The ends of the list say whether it is a short burst.
use Rattle.fire_code.proofs.Noises.{noise_order, short_from_ends}
use Rattle.fire_code.proofs.class_by.Goals as goal

pub overflow_sub-places-2 : goal.overflow_sub-places-2
overflow_sub-places-2 c = noise_order c.args.places.now c.requires

pub returns-then-places-le10 : goal.returns-then-places-le10
returns-then-places-le10 c = short_from_ends c.args.places.now c.requires c.if-places-le10.true
