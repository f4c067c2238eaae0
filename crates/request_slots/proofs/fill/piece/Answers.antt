use Rattle.std.proofs.Common.{◌*◌}
use Rattle.request_slots.proofs.FillLaws.{front-rest}
use Rattle.request_slots.proofs.fill.piece.Goals as goal

pub returns : goal.returns
returns c = front-rest c.args.bytes.now (512 * c.args.k) _ c.min.ensures
