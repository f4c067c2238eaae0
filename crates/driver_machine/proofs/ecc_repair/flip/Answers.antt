use Rattle.std.proofs.Common.{arith, ◌<◌, ◌^◌}
use Rattle.std.proofs.lemmas.List.Elements.{All-from_get_or}
use Rattle.driver_machine.proofs.ecc_repair.Flipping.{flipped_first, flipped_next, flipped_all}
use Rattle.driver_machine.proofs.ecc_repair.flip.Goals as goal

pub loop-i-init : goal.loop-i-init
loop-i-init c = flipped_first c.args.at c.args.pattern c.from-first.result c.from.result c.args.bytes.now c.requires.pattern c.from.ensures c.from-first.ensures

pub loop-i-preserved : goal.loop-i-preserved
loop-i-preserved c = flipped_next c.args.at c.args.pattern c.args.bytes.now c.loop-i.bytes c.loop-i.i c.loop-i.burst c.loop-i.invariant (omega (arith, c.from-first.ensures)) (omega arith)

pub returns-clause-repaired : goal.returns-clause-repaired
returns-clause-repaired c = flipped_all c.args.at c.args.pattern c.args.bytes.now c.loop-i.bytes c.loop-i.i c.loop-i.burst c.loop-i.invariant c.requires.pattern (omega (arith, c.loop-i-test.false, c.min-i-end.ensures, c.from-first.ensures))

pub returns-clause-whole : goal.returns-clause-whole
returns-clause-whole c = record {
  size = omega arith;
  small = All-from_get_or (λ byte. byte < 2 ^ 8) c.args.bytes.now 0 (λ i h. c.fits-bytes i);
}
