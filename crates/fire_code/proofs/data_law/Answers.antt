use Rattle.std.proofs.Common.{arith, ◌<◌, ◌^◌}
use Rattle.std.proofs.lemmas.List.Elements.{All-from_get_or}
use Rattle.fire_code.proofs.data_law.Goals as goal

pub returns : goal.returns
returns c = record {
  size = omega arith;
  small = All-from_get_or (λ byte. byte < 2 ^ 8) c.args.bytes.now 0 (λ i h. c.fits-bytes i);
}
