use Rattle.std.proofs.Common.{IsSome, Some, true, refl, ap, sym, ◌∙◌}
use Rattle.std.specs.Prelude.{is_some}
use Rattle.slab.specs.Slab.{get}
use Rattle.slab.proofs.SlabLemmas.{Updates-with_value}
use Rattle.request_slots.specs.declared.slot.Slot.{Slot}
use Rattle.request_slots.proofs.RoomLaws.{inside-slot, got-slot, all_slots-changed}
use Rattle.request_slots.proofs.slot.end_slot.Goals as goal

pub index_mut-requires : goal.index_mut-requires
index_mut-requires c = ap is_some (got-slot c.args.slots.now c.args.number c.requires) ∙ c.requires

pub returns : goal.returns
returns c =
    let there : IsSome (get c.args.slots.now c.args.number) = ap is_some (got-slot c.args.slots.now c.args.number c.requires) ∙ c.requires in
    let ended : Slot = record c.index_mut.result.now { ended = true } in (
      c.index_mut.result.now,
      sym (got-slot c.args.slots.now c.args.number c.requires) ∙ c.index_mut.ensures.value,
      all_slots-changed c.args.slots.now _ c.args.number (Some ended) (Updates-with_value c.args.slots.now c.args.number ended there) refl (inside-slot c.args.slots.now c.args.number c.requires),
    )
