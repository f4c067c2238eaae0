use Rattle.std.proofs.Common.{◌≡◌, fold, take}
use Rattle.run_plan.specs.Events.{with_bar}
use Rattle.run_plan.proofs.events.put_bars.Given as goal

abbrev pub invariant-loop-bar : goal.invariant-loop-bar
invariant-loop-bar l = l.out.items ≡ fold (with_bar l.plan.window l.unit) l.initial.out.items (take l.bar-index l.bars)
