use Rattle.std.proofs.Common.{◌≡◌, take}
use Rattle.mass_outside.proofs.mem_packs.copies_of.Given as goal

-- the slots so far
abbrev pub invariant-loop-slot : goal.invariant-loop-slot
invariant-loop-slot l = l.made.items ≡ take l.slot-index l.slots
