use Rattle.std.proofs.Common.{◌≡◌, ◌+◌, ◌<◌, drop, length, sym, ap, ◌∙◌, arith}
use Rattle.std.specs.Prelude.{slice_set}
use Rattle.std.proofs.lemmas.List.{length-set, length-replicate}
use Rattle.driver_machine.specs.World.{UnitView, no_unit, new_unit, set_up}
use Rattle.hp_units.specs.Setups.{setup_of, setups_of}
use Rattle.hp_core.proofs.Starting.{one_more, unit_small, all_set}
use Rattle.hp_core.proofs.start.units_of.Goals as goal

pub put-requires : goal.put-requires
put-requires c =
    let small : c.setup-item.result.unit < 32 =
    unit_small c.args.setups.now c.loop-setup.setup-index c.setup-item.result c.requires.small c.loop-setup-test.true c.setup-item.is in
    let size = c.loop-setup.invariant.size in
    omega (arith, small, size)

pub loop-setup-init : goal.loop-setup-init
loop-setup-init c = record {
  all = ap (set_up (setups_of c.args.setups.now)) c.in_ok-units.ensures;
  size = ap length c.in_ok-units.ensures ∙ length-replicate 32 no_unit;
}

-- the unit stands at its place
put : (c : goal.After-put) → c.put.new.units.items ≡ slice_set c.loop-setup.units.items c.setup-item.result.unit (new_unit (setup_of c.setup-item.result))
put c = c.put.ensures ∙ ap (λ (v : UnitView). slice_set c.loop-setup.units.items c.setup-item.result.unit v) c.in_ok-unit.ensures

pub loop-setup-preserved : goal.loop-setup-preserved
loop-setup-preserved c = record {
  all =
      ap (set_up (setups_of (drop (c.loop-setup.setup-index + 1) c.args.setups.now))) (put c)
      ∙ sym (one_more c.args.setups.now c.loop-setup.setup-index c.setup-item.result c.loop-setup.units.items c.loop-setup-test.true c.setup-item.is)
      ∙ c.loop-setup.invariant.all;
  size = ap length (put c) ∙ length-set c.loop-setup.units.items c.setup-item.result.unit (new_unit (setup_of c.setup-item.result)) ∙ c.loop-setup.invariant.size;
}

pub returns : goal.returns
returns c = all_set c.args.setups.now c.loop-setup.setup-index c.loop-setup.units.items _ c.loop-setup-test.false c.loop-setup.invariant.all
