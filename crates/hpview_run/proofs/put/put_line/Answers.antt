use Rattle.std.proofs.Common.{refl}
use Rattle.hpview_run.proofs.CommandLaws.{told_of}
use Rattle.hpview_run.proofs.put.put_line.Goals as goal

pub returns : goal.returns
returns g c = told_of c.write_all.result _ _ _ _ _ _ _ _ c.as_bytes.ensures.text refl c.write_all.ensures.bytes c.write_all.ensures.front c.write_all.ensures.cause
