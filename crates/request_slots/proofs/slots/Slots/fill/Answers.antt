use Rattle.std.proofs.Common.{IfSome, subst, ap, ◌<◌}
use Rattle.main_memory.specs.Bytes.{IsFill}
use Rattle.request_slots.specs.Stored.{loan_of, all_slots}
use Rattle.request_slots.proofs.HolderLaws.{stands, driver_has, lent_at, same_count}
use Rattle.request_slots.proofs.StoreLaws.{block_seen}
use Rattle.request_slots.proofs.slots.Slots.fill.Goals as goal

pub returns : goal.returns
returns c =
    subst (λ bytes. IfSome c.fill.result (λ byte. IsFill byte bytes))
    (block_seen c.self.inside.memory c.args.slot c.args.k c.self.invariant c.self.view_is c.slot_at.ensures (ap loan_of c.in-Driver.is) c.requires.inside)
    c.fill.ensures.block

pub slot_at-requires : goal.slot_at-requires
slot_at-requires c = stands c.self.inside.memory (all_slots c.self.inside.slots) c.args.slot c.self.view_is c.requires.there

pub unreachable-requires : goal.unreachable-requires
unreachable-requires c = driver_has c.self.inside.memory (all_slots c.self.inside.slots) c.args.slot c.slot_at.result.now c.in_default.field-0 c.self.view_is c.slot_at.ensures c.requires.cpu c.in_default.is

pub fill-requires-clause-lent : goal.fill-requires-clause-lent
fill-requires-clause-lent c = lent_at c.self.inside.memory (all_slots c.self.inside.slots) c.args.slot c.slot_at.result.now c.in-Driver.buffer c.self.invariant c.slot_at.ensures (ap loan_of c.in-Driver.is)

pub fill-requires-clause-inside : goal.fill-requires-clause-inside
fill-requires-clause-inside c =
    subst (λ n. c.args.k < n) (same_count c.self.inside.memory (all_slots c.self.inside.slots) c.args.slot c.slot_at.result.now c.in-Driver.buffer c.self.view_is c.slot_at.ensures (ap loan_of c.in-Driver.is)) c.requires.inside
