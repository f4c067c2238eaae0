use Rattle.std.proofs.Common.{ap, sym, subst, ◌∙◌, ℕ}
use Rattle.driver_machine.specs.World.{World, UnitView, unit_on}
use Rattle.driver_machine.specs.Acts as deed
use Rattle.driver_machine.specs.Acts.{Of}
use Rattle.driver_machine.specs.Events.{begun, steps_taken}
use Rattle.driver_machine.specs.Guards.{Allowed}
use Rattle.hp_driver.specs.Free.{IsFree}
use Rattle.hp_driver.proofs.Facts.{unit_there}
use Rattle.hp_driver.proofs.Begins.{attention_free}
use Rattle.hp_driver.proofs.Exits.{as_acts, handed}
use Rattle.hp_driver.proofs.Parts.{unit_less, raised_some, attention_may, attends, deed_then, deed_stopped, sound_then}
use Rattle.hp_driver.proofs.events.attention.Goals as goal

pub returns-in_err-act : goal.returns-in_err-act
returns-in_err-act g c =
    let up = sym (c.if-not-is_raised.ensures ∙ ap (λ (v : UnitView). v.drive.attention) c.unit-unit.ensures) in
    let less = unit_less c.args.a c.args.drive c.requires.adapter c.requires.drive in
    handed _ _ _ _ _ _ _ _ _ c.from_residual.ensures.1
    (as_acts _ _ _ _ _ _ _ _ _ _
    (ap (λ (n : ℕ). begun c.args.line (unit_on c.args.a c.args.drive) (deed.Attn n) c.args.core.now.world) (c.steps_taken-taken.ensures ∙ ap steps_taken (c.phase.ensures ∙ ap (λ (v : UnitView). v.phase) c.unit-unit.ensures))
    ∙ attends c.args.core.now.world c.args.line c.args.a c.args.drive up)
    (deed_stopped _ _ _ c.args.line _ _ _ _ _ _ _ _ (raised_some _ _ c.requires.sound less up) c.id_in_hand-id.ensures c.in_err-act.ensures))

pub due-requires-clause-sound : goal.due-requires-clause-sound
due-requires-clause-sound g c =
    let up = sym (c.if-not-is_raised.ensures ∙ ap (λ (v : UnitView). v.drive.attention) c.unit-unit.ensures) in
    let less = unit_less c.args.a c.args.drive c.requires.adapter c.requires.drive in
    sound_then _ _ _ _ _ _ _ _ _ c.requires.sound
    (subst (λ (n : ℕ). Allowed c.args.core.now.world (Of c.args.line (unit_on c.args.a c.args.drive) c.id_in_hand-id.result (deed.Attn n)))
    (sym (c.steps_taken-taken.ensures ∙ ap steps_taken (c.phase.ensures ∙ ap (λ (v : UnitView). v.phase) c.unit-unit.ensures)))
    (attention_may _ _ c.requires.sound less up c.args.line c.id_in_hand-id.result c.id_in_hand-id.ensures))
    c.in_ok-act.ensures

pub returns : goal.returns
returns g c =
    let up = sym (c.if-not-is_raised.ensures ∙ ap (λ (v : UnitView). v.drive.attention) c.unit-unit.ensures) in
    let less = unit_less c.args.a c.args.drive c.requires.adapter c.requires.drive in
    as_acts _ _ _ _ _ _ _ _ _ _
    (ap (λ (n : ℕ). begun c.args.line (unit_on c.args.a c.args.drive) (deed.Attn n) c.args.core.now.world) (c.steps_taken-taken.ensures ∙ ap steps_taken (c.phase.ensures ∙ ap (λ (v : UnitView). v.phase) c.unit-unit.ensures))
    ∙ attends c.args.core.now.world c.args.line c.args.a c.args.drive up)
    (deed_then _ _ _ c.args.line _ _ _ _ _ _ _ _ _ _ (raised_some _ _ c.requires.sound less up) c.id_in_hand-id.ensures c.in_ok-act.ensures c.due.ensures)

pub unit-unit-requires : goal.unit-unit-requires
unit-unit-requires g c = unit_there c.args.core.now.world (unit_on c.args.a c.args.drive) c.requires.sound (unit_less c.args.a c.args.drive c.requires.adapter c.requires.drive)

pub id_in_hand-id-requires : goal.id_in_hand-id-requires
id_in_hand-id-requires g c =
    let up = sym (c.if-not-is_raised.ensures ∙ ap (λ (v : UnitView). v.drive.attention) c.unit-unit.ensures) in
    let less = unit_less c.args.a c.args.drive c.requires.adapter c.requires.drive in
    record { sound = c.requires.sound; unit = less; some = raised_some c.args.core.now.world (unit_on c.args.a c.args.drive) c.requires.sound less up }

pub act-requires : goal.act-requires
act-requires g c =
    let up = sym (c.if-not-is_raised.ensures ∙ ap (λ (v : UnitView). v.drive.attention) c.unit-unit.ensures) in
    let less = unit_less c.args.a c.args.drive c.requires.adapter c.requires.drive in
    record {
      sound = c.requires.sound;
      may = subst (λ (n : ℕ). Allowed c.args.core.now.world (Of c.args.line (unit_on c.args.a c.args.drive) c.id_in_hand-id.result (deed.Attn n)))
          (sym (c.steps_taken-taken.ensures ∙ ap steps_taken (c.phase.ensures ∙ ap (λ (v : UnitView). v.phase) c.unit-unit.ensures)))
          (attention_may c.args.core.now.world (unit_on c.args.a c.args.drive) c.requires.sound less up c.args.line c.id_in_hand-id.result c.id_in_hand-id.ensures);
    }

pub due-requires-clause-unit : goal.due-requires-clause-unit
due-requires-clause-unit g c = unit_less c.args.a c.args.drive c.requires.adapter c.requires.drive

pub due-requires-clause-free : goal.due-requires-clause-free
due-requires-clause-free g c =
    let less = unit_less c.args.a c.args.drive c.requires.adapter c.requires.drive in
    subst (λ (w : World). IsFree w (unit_on c.args.a c.args.drive)) (sym c.in_ok-act.ensures.world)
    (attention_free c.args.core.now.world c.args.line (unit_on c.args.a c.args.drive) c.id_in_hand-id.result c.requires.sound less c.steps_taken-taken.result)
