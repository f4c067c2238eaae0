use Rattle.std.proofs.Common.{◌∙◌}
use Rattle.mba_adapter.proofs.MapLaws.{put_first-registers}
use Rattle.mba_adapter.proofs.map.map_of.Goals as goal

pub returns : goal.returns
returns c = c.put_first.ensures ∙ put_first-registers 256 _
