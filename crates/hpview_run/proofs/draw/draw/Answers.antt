use Rattle.std.proofs.Common.{refl}
use Rattle.hpview_run.proofs.draw.draw.Goals as goal

pub returns-in-Ok-clause-ok : goal.returns-in-Ok-clause-ok
returns-in-Ok-clause-ok c = record {
  sheet = _;
  caption_is = c.caption_of.ensures;
  run = refl;
  window = refl;
  texts = c.as_slice.ensures.value;
  notes = c.as_slice-2.ensures.value;
  picture = c.in-Ok.ensures;
}
