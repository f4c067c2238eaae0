use Rattle.std.proofs.Common.{ap, ◌∙◌, ◌<◌, subst}
use Rattle.main_memory.specs.Bytes.{filled}
use Rattle.request_slots.specs.Stored.{loan_of, all_slots}
use Rattle.request_slots.proofs.HolderLaws.{stands, driver_has, lent_at, same_count}
use Rattle.request_slots.proofs.StoreLaws.{block_seen}
use Rattle.request_slots.proofs.slots.Slots.block.Goals as goal

pub returns : goal.returns
returns c =
    c.fetch.ensures.block ∙ ap (filled 512) (block_seen c.self.inside.memory c.args.slot c.args.k c.self.invariant c.self.view_is c.slot_at.ensures (ap loan_of c.in-Driver.is) c.requires.inside)

pub slot_at-requires : goal.slot_at-requires
slot_at-requires c = stands c.self.inside.memory (all_slots c.self.inside.slots) c.args.slot c.self.view_is c.requires.there

pub unreachable-requires : goal.unreachable-requires
unreachable-requires c = driver_has c.self.inside.memory (all_slots c.self.inside.slots) c.args.slot c.slot_at.result.now c.in_default.field-0 c.self.view_is c.slot_at.ensures c.requires.cpu c.in_default.is

pub fetch-requires-clause-lent : goal.fetch-requires-clause-lent
fetch-requires-clause-lent c = lent_at c.self.inside.memory (all_slots c.self.inside.slots) c.args.slot c.slot_at.result.now c.in-Driver.buffer c.self.invariant c.slot_at.ensures (ap loan_of c.in-Driver.is)

pub fetch-requires-clause-inside : goal.fetch-requires-clause-inside
fetch-requires-clause-inside c =
    subst (λ n. c.args.k < n) (same_count c.self.inside.memory (all_slots c.self.inside.slots) c.args.slot c.slot_at.result.now c.in-Driver.buffer c.self.view_is c.slot_at.ensures (ap loan_of c.in-Driver.is)) c.requires.inside
