use Rattle.std.proofs.Common.{None, ap, sym, ◌∙◌}
use Rattle.std.specs.Prelude.{is_some}
use Rattle.request_slots.proofs.RoomLaws.{inside-slot, got-slot, all_slots-changed}
use Rattle.request_slots.proofs.slot.take_slot.Goals as goal

pub remove-requires : goal.remove-requires
remove-requires c = ap is_some (got-slot c.args.slots.now c.args.number c.requires) ∙ c.requires

pub returns-clause-slot : goal.returns-clause-slot
returns-clause-slot c = sym (got-slot c.args.slots.now c.args.number c.requires) ∙ c.remove.ensures.value

pub returns-clause-rest : goal.returns-clause-rest
returns-clause-rest c =
    all_slots-changed c.args.slots.now c.remove.new.self c.args.number None c.remove.ensures.updates c.remove.ensures.capacity (inside-slot c.args.slots.now c.args.number c.requires)
