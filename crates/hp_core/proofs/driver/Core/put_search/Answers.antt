use Rattle.std.proofs.Common.{◌≡◌, ◌∙◌, true, Some, sym, ap, subst}
use Rattle.std.specs.Prelude.{slice_set}
use Rattle.transfer_engine.specs.declared.job.Job.{Job}
use Rattle.driver_machine.specs.Acts.{going_to, searching}
use Rattle.driver_machine.specs.World.{UnitView, unit_at}
use Rattle.hardware_table.specs.Drive.{is_ready}
use Rattle.hp_core.proofs.Units.{of_unit, unit_inside}
use Rattle.hp_units.proofs.Rows.{others_at}
use Rattle.transfer_engine.specs.State.{IsJob, begun}
use Rattle.driver_machine.specs.declared.Phase.TheVariants as phase
use Rattle.hp_core.proofs.Scenes.{by_unit}
use Rattle.hp_core.proofs.Deeds.{there, search_can, search_narrow, is_job, hand_there}
use Rattle.hp_core.proofs.driver.Core.put_search.Goals as goal

pub job-job-requires-clause-unit : goal.job-job-requires-clause-unit
job-job-requires-clause-unit c = there _ c.args.line _ _ c.requires.sound c.requires.may.0

pub job-job-requires-clause-some : goal.job-job-requires-clause-some
job-job-requires-clause-some c = c.requires.may.0.some

pub job-job-requires-clause-there : goal.job-job-requires-clause-there
job-job-requires-clause-there c = hand_there _ c.args.line _ _ c.requires.sound c.requires.may.0

pub search-requires-clause-cylinder : goal.search-requires-clause-cylinder
search-requires-clause-cylinder c = (search_narrow _ c.args.line _ _ c.requires.sound _ _ c.requires.may).cylinder

pub search-requires-clause-track : goal.search-requires-clause-track
search-requires-clause-track c = (search_narrow _ c.args.line _ _ c.requires.sound _ _ c.requires.may).track

pub search-requires-clause-sector : goal.search-requires-clause-sector
search-requires-clause-sector c = (search_narrow _ c.args.line _ _ c.requires.sound _ _ c.requires.may).sector

pub search-requires-clause-job : goal.search-requires-clause-job
search-requires-clause-job c = subst IsJob (sym c.job-job.ensures) (is_job _ c.args.line _ _ c.requires.sound c.requires.may.0)

pub search-requires-clause-ready : goal.search-requires-clause-ready
search-requires-clause-ready c = of_unit _ _ _ _ _ _ c.self.view_is c.from.ensures (there _ c.args.line _ _ c.requires.sound c.requires.may.0) c.index_mut.ensures.value (λ (v : UnitView). is_ready v.drive.work ≡ true) (search_can _ c.args.line _ _ c.requires.sound _ _ c.requires.may).ready

pub search-requires-clause-online : goal.search-requires-clause-online
search-requires-clause-online c = of_unit _ _ _ _ _ _ c.self.view_is c.from.ensures (there _ c.args.line _ _ c.requires.sound c.requires.may.0) c.index_mut.ensures.value (λ (v : UnitView). v.drive.online ≡ true) (search_can _ c.args.line _ _ c.requires.sound _ _ c.requires.may).online

pub noted-self-inside-requires-clause-others : goal.noted-self-inside-requires-clause-others
noted-self-inside-requires-clause-others c =
    others_at c.self.inside.row c.from.result c.args.u c.self.inside.units.items c.as_slice.result.now c.search.new.self c.from.ensures c.as_slice.ensures.value c.self.invariant.positions

pub returns : goal.returns
returns c = by_unit _ _ _ _ _ c.requires.may.0 (unit_inside _ _ _ _ _ _ c.self.view_is c.from.ensures (there _ c.args.line _ _ c.requires.sound c.requires.may.0) c.index_mut.ensures.value _ (λ (v : UnitView). record (going_to (phase.Positioning 0) (searching c.args.target c.args.sector) v) { transfer = Some (begun c.job-job.result) }) c.search.ensures
    ∙ ap (λ (j : Job). record c.args.self.now { world = record c.args.self.now.world { units = slice_set c.args.self.now.world.units c.args.u (record (going_to (phase.Positioning 0) (searching c.args.target c.args.sector) (unit_at c.args.self.now.world c.args.u)) { transfer = Some (begun j) }) } }) c.job-job.ensures)
