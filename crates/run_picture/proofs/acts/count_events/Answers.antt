use Rattle.drive_pictures.specs.Drives.{event_counted}
use Rattle.run_picture.proofs.ListLaws.{map_step}
use Rattle.run_picture.proofs.acts.count_events.Goals as goal

pub loop-drive-preserved : goal.loop-drive-preserved
loop-drive-preserved c =
    map_step event_counted c.args.drives.now c.loop-drive.drives c.loop-drive.drive-index _ c.count_event.new.self c.loop-drive-test.true
    c.loop-drive.auto.drives c.loop-drive.invariant c.count_event.ensures
