use Rattle.drive_pictures.specs.Drives.{cleared}
use Rattle.run_picture.proofs.ListLaws.{map_step}
use Rattle.run_picture.proofs.columns.clear_cells.Goals as goal

pub loop-drive-preserved : goal.loop-drive-preserved
loop-drive-preserved c =
    map_step cleared c.args.drives.now c.loop-drive.drives c.loop-drive.drive-index _ c.clear.new.self c.loop-drive-test.true
    c.loop-drive.auto.drives c.loop-drive.invariant c.clear.ensures
