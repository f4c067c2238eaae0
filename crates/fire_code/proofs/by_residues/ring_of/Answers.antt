-- The residue, clocked ten times at once.
use Rattle.std.proofs.Common.{arith}
use Rattle.fire_code.specs.Residue.{ring_of as the_ring}
use Rattle.fire_code.proofs.Residues.{ring_of-ten}
use Rattle.fire_code.proofs.by_residues.ring_of.Goals as goal

pub returns : goal.returns
unfolding the_ring
returns c = ring_of-ten c.args.remainder (omega arith)
