use Rattle.std.proofs.Common.{◌≡◌, ◌++◌, map, take, drop}
use Rattle.drive_pictures.specs.Drives.{cleared}
use Rattle.run_picture.proofs.columns.clear_cells.Given as goal

abbrev pub invariant-loop-drive : goal.invariant-loop-drive
invariant-loop-drive l = l.drives ≡ map cleared (take l.drive-index l.initial.drives) ++ drop l.drive-index l.initial.drives
