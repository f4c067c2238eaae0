use Rattle.std.proofs.Common.{arith}
use Rattle.mass_outside.proofs.SparseLaws.{kept_none_yet}
use Rattle.mass_outside.proofs.sparse.Sparse.of.Goals as goal

pub invariant_of-result : goal.invariant_of-result
invariant_of-result c = (
  kept_none_yet c.args.given.items c.in_ok-written.written.items c.in_ok-places.places.items c.in_ok-kept.kept.items c.len-size.result c.args.blocks c.in_ok-written.ensures.items c.in_ok-kept.ensures.items c.in_ok-places.ensures.items (omega (arith, c.len-size.ensures, c.args.given.ok.0)),
  omega (arith, c.in_ok-written.ensures.capacity),
  omega (arith, c.in_ok-kept.ensures.capacity),
  omega (arith, c.in_ok-places.ensures.capacity),
)
