use Rattle.std.proofs.Common.{◌≡◌, ◌++◌, map, take, drop}
use Rattle.drive_pictures.specs.Drives.{event_counted}
use Rattle.run_picture.proofs.acts.count_events.Given as goal

abbrev pub invariant-loop-drive : goal.invariant-loop-drive
invariant-loop-drive l = l.drives ≡ map event_counted (take l.drive-index l.initial.drives) ++ drop l.drive-index l.initial.drives
