use Rattle.std.proofs.Common.{◌<◌, false, sym, ap, ◌∙◌, subst}
use Rattle.pack_geometry.specs.declared.DriveKind.{DriveKind}
use Rattle.pack_geometry.specs.declared.Place.{Place}
use Rattle.pack_geometry.specs.Geometry.{block_count, place_at}
use Rattle.trace_replay.specs.declared.seek_engine.Position.{Position}
use Rattle.driver_machine.specs.Acts.{Search}
use Rattle.driver_machine.specs.Due.{start_by, sensed}
use Rattle.hp_core.specs.Asked.{Asked}
use Rattle.hp_core.proofs.Deeds.{look_below}
use Rattle.hp_driver.proofs.One.{start_as, ready_as}
use Rattle.hp_driver.proofs.starts.start.Goals as goal

pub place_of-target-requires : goal.place_of-target-requires
place_of-target-requires c =
    subst (λ (k : DriveKind). c.args.asked.first < block_count k) (sym c.kind.ensures)
    (subst (λ (a : Asked). a.first < block_count c.args.unit.now.drive.kind) (sym c.requires.hand.is) c.requires.hand.below)

pub position-requires-clause-here : goal.position-requires-clause-here
position-requires-clause-here c = c.requires.hand.drive.cylinder

pub position-requires-clause-look : goal.position-requires-clause-look
position-requires-clause-look c = look_below _ _ _ c.requires.hand.drive.look_ahead c.requires.hand.drive.sector

pub returns-in-Ready : goal.returns-in-Ready
returns-in-Ready c = λ h a is. let v = c.args.unit.now in
    sym (ready_as v h _ _ (c.place_of-target.ensures.place ∙ ap (λ (k : DriveKind). place_at k c.args.asked.first) c.kind.ensures ∙ ap (λ (x : Asked). place_at v.drive.kind x.first) is)
    c.position.ensures c.in-Ready.is)

pub returns-in-Search : goal.returns-in-Search
returns-in-Search c = λ h a is. let v = c.args.unit.now in
    let at = c.place_of-target.ensures.place ∙ ap (λ (k : DriveKind). place_at k c.args.asked.first) c.kind.ensures ∙ ap (λ (x : Asked). place_at v.drive.kind x.first) is in
    c.sensed.ensures h a
    ∙ sym (start_as v h _ _ at c.position.ensures ∙ ap (λ (p : Position). start_by p v h) c.in-Search.is ∙ ap (λ (t : Place). sensed false v (Search t c.in-Search.sector)) (sym at))
