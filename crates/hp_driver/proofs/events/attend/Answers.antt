use Rattle.std.proofs.Common.{sym}
use Rattle.hp_driver.proofs.Joined.{of_act}
use Rattle.hp_driver.proofs.Exits.{as_acts, handed}
use Rattle.hp_driver.proofs.Parts.{none_pending}
use Rattle.hp_driver.proofs.Attends.{attends_all, first_stopped, second_stopped, sound_behind}
use Rattle.hp_driver.proofs.events.attend.Goals as goal

pub returns-then-not-interrupts : goal.returns-then-not-interrupts
returns-then-not-interrupts g c =
    as_acts _ _ _ _ _ _ _ _ _ _ (none_pending c.args.core.now.world c.args.line c.args.a (sym c.if-not-interrupts.ensures)) (of_act _ _ _ _ _ _ _ _ _ c.nothing.ensures)

pub returns-in_err-data_interrupt : goal.returns-in_err-data_interrupt
returns-in_err-data_interrupt g c =
    handed _ _ _ _ _ _ _ _ _ c.from_residual.ensures.1
    (first_stopped _ _ _ c.args.line c.args.a _ _ _ _ _ (sym c.if-not-interrupts.ensures) c.in_err-data_interrupt.ensures)

pub attentions-requires-clause-sound : goal.attentions-requires-clause-sound
attentions-requires-clause-sound g c = sound_behind _ _ _ c.args.line c.args.a _ _ _ _ _ c.requires.sound c.in_ok-data_interrupt.ensures

pub returns-in_err-attentions : goal.returns-in_err-attentions
returns-in_err-attentions g c =
    handed _ _ _ _ _ _ _ _ _ c.from_residual-in_err-attentions.ensures.1
    (second_stopped _ _ _ c.args.line c.args.a _ _ _ _ _ _ _ (sym c.if-not-interrupts.ensures) c.in_ok-data_interrupt.ensures c.in_err-attentions.ensures)

pub start_adapter-requires-clause-sound : goal.start_adapter-requires-clause-sound
start_adapter-requires-clause-sound g c =
    sound_behind _ _ _ c.args.line c.args.a _ _ _ _ _ (sound_behind _ _ _ c.args.line c.args.a _ _ _ _ _ c.requires.sound c.in_ok-data_interrupt.ensures) c.in_ok-attentions.ensures

pub returns : goal.returns
returns g c =
    attends_all _ _ _ c.args.line c.args.a _ _ _ _ _ _ _ _ _ (sym c.if-not-interrupts.ensures) c.in_ok-data_interrupt.ensures c.in_ok-attentions.ensures c.start_adapter.ensures
