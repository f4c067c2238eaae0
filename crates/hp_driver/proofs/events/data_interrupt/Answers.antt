use Rattle.std.proofs.Common.{sym, subst}
use Rattle.driver_machine.specs.World.{World}
use Rattle.hp_driver.specs.Free.{IsFree}
use Rattle.hp_driver.proofs.Begins.{interrupt_free}
use Rattle.hp_driver.proofs.Exits.{as_acts, handed}
use Rattle.hp_core.proofs.Serving.{served_less, served_some}
use Rattle.hp_driver.proofs.Parts.{is_busy, interrupt_may, interrupts, deed_then, deed_stopped, sound_then}
use Rattle.hp_driver.proofs.events.data_interrupt.Goals as goal

pub act-requires-clause-may : goal.act-requires-clause-may
act-requires-clause-may g c =
    interrupt_may _ c.args.a _ c.requires.sound (is_busy _ c.args.a c.requires.sound c.requires.adapter (sym c.if-not-has_completed.ensures)) c.transferring-u.ensures.unit
    c.args.line _ (sym c.if-not-has_completed.ensures) c.id_in_hand-id.ensures

pub returns-in_err-act : goal.returns-in_err-act
returns-in_err-act g c =
    let busy = is_busy _ c.args.a c.requires.sound c.requires.adapter (sym c.if-not-has_completed.ensures) in
    handed _ _ _ _ _ _ _ _ _ c.from_residual.ensures.1
    (as_acts _ _ _ _ _ _ _ _ _ _ (interrupts _ c.args.a _ c.requires.sound busy c.transferring-u.ensures.unit c.args.line (sym c.if-not-has_completed.ensures))
    (deed_stopped _ _ _ c.args.line _ _ _ _ _ _ _ _ (served_some _ c.args.a _ c.requires.sound busy c.transferring-u.ensures.unit) c.id_in_hand-id.ensures c.in_err-act.ensures))

pub due-requires-clause-sound : goal.due-requires-clause-sound
due-requires-clause-sound g c =
    sound_then _ _ _ _ _ _ _ _ _ c.requires.sound
    (interrupt_may _ c.args.a _ c.requires.sound (is_busy _ c.args.a c.requires.sound c.requires.adapter (sym c.if-not-has_completed.ensures)) c.transferring-u.ensures.unit
    c.args.line _ (sym c.if-not-has_completed.ensures) c.id_in_hand-id.ensures)
    c.in_ok-act.ensures

pub returns : goal.returns
returns g c =
    let busy = is_busy _ c.args.a c.requires.sound c.requires.adapter (sym c.if-not-has_completed.ensures) in
    as_acts _ _ _ _ _ _ _ _ _ _ (interrupts _ c.args.a _ c.requires.sound busy c.transferring-u.ensures.unit c.args.line (sym c.if-not-has_completed.ensures))
    (deed_then _ _ _ c.args.line _ _ _ _ _ _ _ _ _ _ (served_some _ c.args.a _ c.requires.sound busy c.transferring-u.ensures.unit) c.id_in_hand-id.ensures c.in_ok-act.ensures c.due.ensures)

pub transferring-u-requires : goal.transferring-u-requires
transferring-u-requires g c = record {
  sound = c.requires.sound;
  adapter = c.requires.adapter;
  busy = is_busy c.args.core.now.world c.args.a c.requires.sound c.requires.adapter (sym c.if-not-has_completed.ensures);
}

pub id_in_hand-id-requires : goal.id_in_hand-id-requires
id_in_hand-id-requires g c =
    let busy = is_busy c.args.core.now.world c.args.a c.requires.sound c.requires.adapter (sym c.if-not-has_completed.ensures) in
    record {
      sound = c.requires.sound;
      unit = served_less c.args.core.now.world c.args.a c.transferring-u.result c.requires.sound busy c.transferring-u.ensures.unit;
      some = served_some c.args.core.now.world c.args.a c.transferring-u.result c.requires.sound busy c.transferring-u.ensures.unit;
    }

pub due-requires-clause-unit : goal.due-requires-clause-unit
due-requires-clause-unit g c =
    let busy = is_busy c.args.core.now.world c.args.a c.requires.sound c.requires.adapter (sym c.if-not-has_completed.ensures) in
    served_less c.args.core.now.world c.args.a c.transferring-u.result c.requires.sound busy c.transferring-u.ensures.unit

pub due-requires-clause-free : goal.due-requires-clause-free
due-requires-clause-free g c =
    let busy = is_busy c.args.core.now.world c.args.a c.requires.sound c.requires.adapter (sym c.if-not-has_completed.ensures) in
    let less = served_less c.args.core.now.world c.args.a c.transferring-u.result c.requires.sound busy c.transferring-u.ensures.unit in
    subst (λ (w : World). IsFree w c.transferring-u.result) (sym c.in_ok-act.ensures.world)
    (interrupt_free c.args.core.now.world c.args.line c.transferring-u.result c.id_in_hand-id.result c.requires.sound less _ _)
