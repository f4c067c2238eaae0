use Rattle.std.proofs.Common.{ap, sym, ◌∙◌}
use Rattle.hp_core.specs.Asked.{Asked}
use Rattle.driver_machine.specs.World.{UnitView}
use Rattle.driver_machine.specs.Events.{can_arrive}
use Rattle.hp_driver.proofs.Joined.{of_act}
use Rattle.hp_driver.proofs.Exits.{as_acts}
use Rattle.hp_driver.proofs.Parts.{arrives, no_arrival}
use Rattle.hp_driver.proofs.events.arrive.Goals as goal

pub returns-then-not-is_positioning : goal.returns-then-not-is_positioning
returns-then-not-is_positioning g c =
    as_acts _ _ _ _ _ _ _ _ _ _ (no_arrival _ c.args.line c.args.u (sym (c.if-not-is_positioning.ensures ∙ ap (λ (v : UnitView). can_arrive v) c.unit.ensures))) (of_act _ _ _ _ _ _ _ _ _ c.nothing.ensures)

pub returns : goal.returns
returns g c =
    as_acts _ _ _ _ _ _ _ _ _ _
    (arrives _ c.args.line c.args.u _ (sym (c.if-not-is_positioning.ensures ∙ ap (λ (v : UnitView). can_arrive v) c.unit.ensures)) c.in-Some.ensures.some (ap (λ (asked : Asked). asked.id) c.in-Some.ensures.asked))
    (of_act _ _ _ _ _ _ _ _ _ c.act.ensures)
