use Rattle.std.proofs.Common.{◌≡◌, ◌++◌, map, take, drop}
use Rattle.drive_pictures.specs.Drives.{unseen}
use Rattle.run_picture.proofs.acts.begin_events.Given as goal

abbrev pub invariant-loop-drive : goal.invariant-loop-drive
invariant-loop-drive l = l.drives ≡ map unseen (take l.drive-index l.initial.drives) ++ drop l.drive-index l.initial.drives
