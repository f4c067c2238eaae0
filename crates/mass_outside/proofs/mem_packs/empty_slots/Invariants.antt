use Rattle.std.proofs.Common.{◌≡◌, length}
use Rattle.mass_outside.specs.Slots.{AllEmpty}
use Rattle.mass_outside.proofs.mem_packs.empty_slots.Given as goal

abbrev pub invariant-loop : goal.invariant-loop
invariant-loop l = record {
  len : length l.slots.items ≡ l.counter;
  empty : AllEmpty l.slots.items;
}
