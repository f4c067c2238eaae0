use Rattle.std.proofs.Common.{arith}
use Rattle.driver_machine.specs.Events.{attention}
use Rattle.hp_driver.proofs.Going.{none_yet, drive_done, drive_stopped, drives_over}
use Rattle.hp_driver.proofs.Exits.{handed}
use Rattle.hp_driver.proofs.events.attentions.Goals as goal

pub loop-drive-init : goal.loop-drive-init
loop-drive-init g c = none_yet _ _ _ _ _ _ c.requires.sound

pub returns-in_err-attention : goal.returns-in_err-attention
returns-in_err-attention g c =
    handed _ _ _ _ _ _ _ _ _ c.from_residual.ensures.1
    (drive_stopped _ _ _ _ _ _ _ _ _ _ (attention c.args.line c.args.a) c.loop-drive.drive _ (omega arith) c.loop-drive.invariant c.in_err-attention.ensures)

pub loop-drive-preserved : goal.loop-drive-preserved
loop-drive-preserved g c =
    drive_done _ _ _ _ _ _ _ _ _ _ (attention c.args.line c.args.a) c.loop-drive.drive _ (omega arith) c.loop-drive.invariant c.in_ok-attention.ensures

pub returns : goal.returns
returns g c = drives_over _ _ _ _ _ _ _ _ _ (attention c.args.line c.args.a) c.loop-drive.drive (omega arith) c.loop-drive.invariant
