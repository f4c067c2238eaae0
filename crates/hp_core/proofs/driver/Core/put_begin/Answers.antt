use Rattle.std.proofs.Common.{◌∙◌, ◌<◌, Some, length, sym, ap, subst}
use Rattle.std.specs.Prelude.{slice_set}
use Rattle.transfer_engine.specs.declared.job.Job.{Job}
use Rattle.driver_machine.specs.Acts.{waits_too}
use Rattle.driver_machine.specs.Events.{can_arrive}
use Rattle.driver_machine.specs.World.{UnitView, AdapterView, unit_at, adapter_at, adapter_of}
use Rattle.hp_core.proofs.Places.{adapter_here, unit_channel}
use Rattle.hp_core.proofs.Units.{row_still}
use Rattle.transfer_engine.specs.State.{IsJob, begun}
use Rattle.driver_machine.specs.declared.Phase.TheVariants as phase
use Rattle.hp_core.specs.State.{State}
use Rattle.hp_core.proofs.Scenes.{by_adapter}
use Rattle.hp_core.proofs.Deeds.{there, adapter_there, hand_there, is_job, ready_room}
use Rattle.hp_core.proofs.driver.Core.put_begin.Goals as goal

pub job-job-requires-clause-unit : goal.job-job-requires-clause-unit
job-job-requires-clause-unit c = there _ c.args.line _ _ c.requires.sound c.requires.may.0

pub job-job-requires-clause-some : goal.job-job-requires-clause-some
job-job-requires-clause-some c = c.requires.may.0.some

pub job-job-requires-clause-there : goal.job-job-requires-clause-there
job-job-requires-clause-there c = hand_there _ c.args.line _ _ c.requires.sound c.requires.may.0

pub begin-requires : goal.begin-requires
begin-requires c = record { job = subst IsJob (sym c.job-job.ensures) (is_job _ c.args.line _ _ c.requires.sound c.requires.may.0) }

pub invariant_of-self : goal.invariant_of-self
invariant_of-self c = record { positions = row_still _ _ _ _ _ _ c.self.view_is c.from.ensures (there _ c.args.line _ _ c.requires.sound c.requires.may.0) c.index_mut.ensures.value _ _ c.self.invariant.positions (ap can_arrive c.begin.ensures); room = c.self.invariant.room }

pub returns : goal.returns
returns c = by_adapter _ _ _ _ _ _ c.requires.may.0 (unit_channel _ _ _ _ _ _ _ (λ (v : UnitView). record v { phase = phase.Queued; transfer = Some (begun c.job-job.result) }) _ _ _ _ (waits_too c.args.u) c.self.view_is c.from.ensures (there _ c.args.line _ _ c.requires.sound c.requires.may.0) c.index_mut.ensures.value c.begin.ensures c.from-2.ensures (adapter_there _ c.args.line _ _ c.requires.sound c.requires.may.0) c.index_mut-2.ensures.value c.wait.ensures
    ∙ ap (λ (j : Job). record c.args.self.now { world = record c.args.self.now.world { units = slice_set c.args.self.now.world.units c.args.u (record (unit_at c.args.self.now.world c.args.u) { phase = phase.Queued; transfer = Some (begun j) }); adapters = slice_set c.args.self.now.world.adapters (adapter_of c.args.u) (waits_too c.args.u (adapter_at c.args.self.now.world (adapter_of c.args.u))) } }) c.job-job.ensures)

pub wait-requires : goal.wait-requires
wait-requires c = record {
  room = subst (λ (v : AdapterView). length v.queue < 32)
      (sym (adapter_here _ _ c.args.self.now.world _ _ c.from-2.ensures (ap (λ (s : State). s.world.adapters) c.self.view_is) (adapter_there _ c.args.line _ _ c.requires.sound c.requires.may.0) c.index_mut-2.ensures.value))
      (ready_room _ c.args.line _ _ c.requires.sound _ c.requires.may);
}
