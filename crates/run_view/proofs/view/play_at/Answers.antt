use Rattle.run_view.proofs.SeeLaws.{said_here}
use Rattle.run_view.proofs.view.play_at.Goals as goal

pub returns : goal.returns
returns c = said_here c.args.plays.now c.args.at _ c.requires
