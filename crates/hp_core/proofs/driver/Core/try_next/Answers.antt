use Rattle.std.proofs.Common.{◌≡◌, sym, ap, ◌∙◌}
use Rattle.hardware_table.specs.Adapter.{AdapterState}
use Rattle.hardware_table.specs.Drive.{DriveState}
use Rattle.hardware_table.specs.declared.Work.TheVariants.{Transfer}
use Rattle.drive_model.specs.Move.{has_read}
use Rattle.driver_machine.specs.Events.{can_arrive}
use Rattle.driver_machine.specs.World.{UnitView, unit_at, adapter_at, adapter_of}
use Rattle.hp_core.proofs.Places.{adapter_state}
use Rattle.hp_core.proofs.Rooms.{room_kept}
use Rattle.hp_core.proofs.Steps.{bench_put, may_here, step_work}
use Rattle.hp_core.proofs.Units.{row_still, unit_here}
use Rattle.hp_core.proofs.driver.Core.try_next.Given.{Over}
use Rattle.hp_core.proofs.driver.Core.try_next.Goals as goal

-- the adapter is that of the unit, and the drive is its own
adapter_is : (g : Over) (c : goal.After-self-2-1 g) → c.channel.inside.adapter ≡ (adapter_at c.args.self.now.world (adapter_of c.args.u)).state
adapter_is g c = adapter_state _ _ _ _ _ _ c.self.view_is c.from.ensures c.requires.there.adapter c.index_mut-channel.ensures.value c.channel.view_is

drive_is : (g : Over) (c : goal.After-self-2-1 g) → c.unit.inside.drive ≡ (unit_at c.args.self.now.world c.args.u).drive
drive_is g c =
    ap (λ (v : UnitView). v.drive) (c.unit.view_is ∙ unit_here _ _ _ _ _ _ c.self.view_is c.from-2.ensures c.requires.there.unit c.index_mut-unit.ensures.value)

pub step-requires : goal.step-requires
step-requires g c = record {
  unit = c.requires.there.small;
  may = may_here _ _ _ _ _ _ _ c.self.view_is (adapter_state _ _ _ _ _ _ c.self.view_is c.from.ensures c.requires.there.adapter c.index_mut-channel.ensures.value c.channel.view_is)
      (ap (λ (v : UnitView). v.drive) (c.unit.view_is ∙ unit_here _ _ _ _ _ _ c.self.view_is c.from-2.ensures c.requires.there.unit c.index_mut-unit.ensures.value)) c.requires.may;
}

pub invariant_of-self : goal.invariant_of-self
invariant_of-self g c =
    let moves : c.unit.inside.drive.work ≡ Transfer c.channel.inside.adapter.write =
    ap (λ (d : DriveState). d.work) (drive_is g c) ∙ c.requires.may.is.transfer ∙ ap (λ (a : AdapterState). Transfer a.write) (sym (adapter_is g c)) in
    let still = step_work c.step.result c.channel.inside.adapter c.unit.inside.drive c.step.new.drive c.channel.inside.adapter.write moves c.step.ensures.steps.drive in
    record {
      positions = row_still _ _ _ _ _ _ c.self.view_is c.from-2.ensures c.requires.there.unit c.index_mut-unit.ensures.value _ _ c.self.invariant.positions (still ∙ ap can_arrive c.unit.view_is);
      room = room_kept (has_read c.unit.inside.drive c.step.result) c.self.inside.slots c.step.new.self _ _ c.self.inside.answers.made c.self.inside.answers.most c.step.ensures.steps.store c.self.invariant.room;
    }

pub returns : goal.returns
returns g c = record {
  bench = record { adapter = c.step.new.adapter; drive = c.step.new.drive; book = c.step.new.book; store = c.step.new.self };
  steps = rw (← c.requires.slot, ← adapter_is g c, ← drive_is g c, ← c.self.view_is) c.step.ensures;
  state = bench_put _ _ _ _ _ _ _ _ _ _ _ _ _ _ c.self.view_is c.from-2.ensures c.requires.there.unit c.index_mut-unit.ensures.value c.unit.view_is
      c.from.ensures c.requires.there.adapter c.index_mut-channel.ensures.value c.channel.view_is;
}
