use Rattle.std.proofs.Common.{◌-◌}
use Rattle.bad144_tool.proofs.edit.+move_all.Given as goal

abbrev pub decreases-move_all : goal.decreases-move_all
decreases-move_all g l = l.end - l.i
