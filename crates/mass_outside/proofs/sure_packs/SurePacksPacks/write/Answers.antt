use Rattle.std.proofs.Common.{◌≡◌, IsTrue, false, Some, refl, ap, ◌∙◌, subst, set}
use Rattle.std.specs.Prelude.{slice_get}
use Rattle.mass_outside.specs.Slots.{SlotView}
use Rattle.mass_outside.specs.Sure.{SureView, SureWrote}
use Rattle.mass_outside.proofs.MemoryLaws.{slot_at, room_at, no_room_at, held_written}
use Rattle.mass_outside.proofs.sure_packs.SurePacksPacks.write.Goals as goal

pub returns-clause-ok : goal.returns-clause-ok
returns-clause-ok c = λ t.
    let same = ap (λ (p : SureView). p.slots) c.self.view_is in
    held_written c.self.inside.slots.items c.args.self.now.slots c.args.unit c.args.block c.args.from.now c.index_mut.result.now c.write.new.self same
    (slot_at c.self.inside.slots.items _ c.args.unit c.index_mut.result.now same c.self.invariant c.requires c.index_mut.ensures.value) c.write.ensures

pub returns-clause-inside : goal.returns-clause-inside
returns-clause-inside c = λ e.
    let slots = c.self.inside.slots.items in
    let there : slice_get slots c.args.unit ≡ Some c.index_mut.result.now = slot_at slots slots c.args.unit c.index_mut.result.now refl c.self.invariant c.requires c.index_mut.ensures.value in
    subst (λ (old : SureView). SureWrote old c.args.unit c.args.block c.args.from.now (record { slots = set slots c.args.unit c.write.new.self; tells = c.self.inside.tells })) c.self.view_is
    (c.index_mut.result.now, there, ap (λ (slot : SlotView). record { slots = set slots c.args.unit slot; tells = c.self.inside.tells }) c.write.ensures)

pub returns-clause-outside : goal.returns-clause-outside
returns-clause-outside c = λ e.
    let same = ap (λ (p : SureView). p.slots) c.self.view_is in
    let room = room_at c.args.self.now.slots c.args.unit c.args.block c.index.result.now (slot_at c.self.inside.slots.items _ c.args.unit c.index.result.now same c.self.invariant c.requires c.index.ensures) c.if-not-has.ensures in
    absurd (cc (room ∙ e))

pub returns-clause-never_again : goal.returns-clause-never_again
returns-clause-never_again c = λ t. subst (λ (p : SureView). IsTrue p.tells) c.self.view_is t

pub returns-then-not-has-clause-inside : goal.returns-then-not-has-clause-inside
returns-then-not-has-clause-inside c = λ e.
    let same = ap (λ (p : SureView). p.slots) c.self.view_is in
    let room = no_room_at c.args.self.now.slots c.args.unit c.args.block c.index.result.now (slot_at c.self.inside.slots.items _ c.args.unit c.index.result.now same c.self.invariant c.requires c.index.ensures) c.if-not-has.ensures in
    absurd (cc (room ∙ e))

pub returns-then-not-has-clause-outside : goal.returns-then-not-has-clause-outside
returns-then-not-has-clause-outside c = λ _. ap (λ (p : SureView). record p { tells = false }) c.self.view_is
