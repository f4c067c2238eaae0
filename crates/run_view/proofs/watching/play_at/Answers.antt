use Rattle.run_view.proofs.SeeLaws.{said_here, heard_here}
use Rattle.run_view.proofs.watching.play_at.Goals as goal

pub returns-clause-here : goal.returns-clause-here
returns-clause-here c = said_here c.args.plays.now c.args.at _ c.requires.inside

pub returns-clause-heard : goal.returns-clause-heard
returns-clause-heard c = heard_here c.args.plays.now c.args.at _ c.requires.heard c.requires.inside
