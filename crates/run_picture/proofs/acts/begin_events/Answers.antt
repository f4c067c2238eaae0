use Rattle.drive_pictures.specs.Drives.{unseen}
use Rattle.run_picture.proofs.ListLaws.{map_step}
use Rattle.run_picture.proofs.acts.begin_events.Goals as goal

pub loop-drive-preserved : goal.loop-drive-preserved
loop-drive-preserved c =
    map_step unseen c.args.drives.now c.loop-drive.drives c.loop-drive.drive-index _ c.begin_event.new.self c.loop-drive-test.true
    c.loop-drive.auto.drives c.loop-drive.invariant c.begin_event.ensures
