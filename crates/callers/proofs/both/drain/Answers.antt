use Rattle.callers.proofs.Carrying.{goes_on, goes_both}
use Rattle.callers.proofs.both.drain.Goals as goal

pub loop-init : goal.loop-init
loop-init g c = goes_on c.args.subsystem.now c.requires.may

pub loop-preserved : goal.loop-preserved
loop-preserved g c = goes_both c.args.subsystem.now c.loop.subsystem c.happen.new.subsystem c.loop.invariant c.in_ok-happen.ensures.goes
