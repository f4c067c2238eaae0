use Rattle.std.proofs.Common.{ap, sym, ◌∙◌}
use Rattle.std.specs.Prelude.{is_some}
use Rattle.request_slots.proofs.RoomLaws.{got-slot}
use Rattle.request_slots.proofs.slot.slot_at.Goals as goal

pub index-requires : goal.index-requires
index-requires c = ap is_some (got-slot c.args.slots.now c.args.number c.requires) ∙ c.requires

pub returns : goal.returns
returns c = sym (got-slot c.args.slots.now c.args.number c.requires) ∙ c.index.ensures
