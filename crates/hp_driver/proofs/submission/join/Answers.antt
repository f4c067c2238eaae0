use Rattle.hp_driver.proofs.Attends.{sound_behind}
use Rattle.hp_driver.proofs.Submitting.{join_sound, join_frees, submits, submit_stopped}
use Rattle.hp_driver.proofs.submission.join.Goals as goal

pub due-requires-clause-sound : goal.due-requires-clause-sound
due-requires-clause-sound g c = join_sound _ _ _ _ _ _ c.join.ensures c.requires.sound

pub due-requires-clause-free : goal.due-requires-clause-free
due-requires-clause-free g c = join_frees _ _ _ _ _ _ c.join.ensures c.requires.sound c.requires.work

pub returns-in_err-due : goal.returns-in_err-due
returns-in_err-due g c = submit_stopped _ _ _ _ _ _ c.join.ensures _ _ _ _ _ _ _ c.from_residual.ensures.1 c.in_err-due.ensures

pub start_adapter-requires-clause-sound : goal.start_adapter-requires-clause-sound
start_adapter-requires-clause-sound g c =
    sound_behind _ _ _ c.args.line c.args.asked.unit _ _ _ _ _ (join_sound _ _ _ _ _ _ c.join.ensures c.requires.sound) c.in_ok-due.ensures

pub returns : goal.returns
returns g c = submits _ _ _ _ _ _ c.join.ensures _ _ _ _ _ _ _ _ _ c.in_ok-due.ensures c.start_adapter.ensures
