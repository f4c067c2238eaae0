use Rattle.std.proofs.Common.{◌≡◌, ℕ, Some, false, refl, ap, ◌∙◌, subst, set}
use Rattle.std.specs.Prelude.{slice_get, if◌then◌else◌}
use Rattle.mass_outside.specs.Slots.{SlotView, slot_marked}
use Rattle.mass_outside.specs.Memory.{MemView, AfterMark}
use Rattle.outside_traits.specs.Causes.{next}
use Rattle.outside_traits.specs.declared.traits.PackCall.TheVariants as call
use Rattle.mass_outside.specs.declared.mem_packs.PackOp.TheVariants.{SetMark}
use Rattle.mass_outside.proofs.MemoryLaws.{slot_at, room_at, held_marked, listed_of, none_of, mark_byte}
use Rattle.mass_outside.proofs.mem_packs.MemPacksPacks.set_mark.Goals as goal

pub returns-clause-ok : goal.returns-clause-ok
returns-clause-ok c =
    held_marked c.self.inside.slots.items c.args.self.now.slots c.args.unit c.args.block c.args.on c.index_mut.result.now c.set_mark.new.self (ap (λ (m : MemView). m.slots) c.self.view_is)
    (slot_at c.self.inside.slots.items c.args.self.now.slots c.args.unit c.index_mut.result.now (ap (λ (m : MemView). m.slots) c.self.view_is) c.self.invariant c.requires c.index_mut.ensures.value) (c.set_mark.ensures ∙ ap (λ (n : ℕ). slot_marked c.index_mut.result.now c.args.block n) (c.from.ensures ∙ mark_byte c.args.on))

pub returns-clause-exact : goal.returns-clause-exact
returns-clause-exact c =
    none_of _ _ (listed_of c.as_slice.result.now c.args.self.now.fail SetMark c.saturating_add-self-inside.result (next c.args.self.now.set_marks) false (c.as_slice.ensures.value ∙ ap (λ (m : MemView). m.fail) c.self.view_is)
    (c.saturating_add-self-inside.ensures ∙ ap (λ (m : MemView). next m.set_marks) c.self.view_is) c.if-is_listed.ensures)
    (room_at c.args.self.now.slots c.args.unit c.args.block c.index.result.now (slot_at c.self.inside.slots.items c.args.self.now.slots c.args.unit c.index.result.now (ap (λ (m : MemView). m.slots) c.self.view_is) c.self.invariant c.requires c.index.ensures) c.if-not-has.ensures)

pub returns-clause-done : goal.returns-clause-done
returns-clause-done c =
    let slots = c.self.inside.slots.items in
    let seen : MemView = record { slots = c.self.inside.slots.items; fail = c.self.inside.fail.items; lengths = c.self.inside.lengths; reads = c.self.inside.reads; writes = c.self.inside.writes; markeds = c.self.inside.markeds; set_marks = c.self.inside.set_marks; faults = c.self.inside.faults; failed_at = c.self.inside.failed_at } in
    let there : slice_get slots c.args.unit ≡ Some c.index_mut.result.now = slot_at slots slots c.args.unit c.index_mut.result.now refl c.self.invariant c.requires c.index_mut.ensures.value in
    subst (λ (old : MemView). AfterMark old c.args.unit c.args.block c.args.on (record seen { slots = set slots c.args.unit c.set_mark.new.self; set_marks = c.saturating_add-self-inside.result })) c.self.view_is (
      c.index_mut.result.now,
      there,
      ap (λ (slot : SlotView). record seen { slots = set slots c.args.unit slot; set_marks = c.saturating_add-self-inside.result }) (c.set_mark.ensures ∙ ap (λ (n : ℕ). slot_marked c.index_mut.result.now c.args.block n) (c.from.ensures ∙ mark_byte c.args.on))
          ∙ ap (λ (n : ℕ). record seen { slots = set slots c.args.unit (slot_marked c.index_mut.result.now c.args.block (if c.args.on then 1 else 0)); set_marks = n }) c.saturating_add-self-inside.ensures,
    )

pub returns-then-is_listed-clause-failed : goal.returns-then-is_listed-clause-failed
returns-then-is_listed-clause-failed c =
    let seen : MemView = record { slots = c.self.inside.slots.items; fail = c.self.inside.fail.items; lengths = c.self.inside.lengths; reads = c.self.inside.reads; writes = c.self.inside.writes; markeds = c.self.inside.markeds; set_marks = c.self.inside.set_marks; faults = c.self.inside.faults; failed_at = c.self.inside.failed_at } in
    c.failed.ensures
    ∙ ap (λ (n : ℕ). record seen { set_marks = n; faults = next c.self.inside.faults; failed_at = call.Block c.args.unit c.args.block }) c.saturating_add-self-inside.ensures
    ∙ ap (λ (m : MemView). record m { set_marks = next m.set_marks; faults = next m.faults; failed_at = call.Block c.args.unit c.args.block }) c.self.view_is

pub returns-then-not-has-clause-failed : goal.returns-then-not-has-clause-failed
returns-then-not-has-clause-failed c =
    let seen : MemView = record { slots = c.self.inside.slots.items; fail = c.self.inside.fail.items; lengths = c.self.inside.lengths; reads = c.self.inside.reads; writes = c.self.inside.writes; markeds = c.self.inside.markeds; set_marks = c.self.inside.set_marks; faults = c.self.inside.faults; failed_at = c.self.inside.failed_at } in
    c.failed-then-not-has.ensures
    ∙ ap (λ (n : ℕ). record seen { set_marks = n; faults = next c.self.inside.faults; failed_at = call.Block c.args.unit c.args.block }) c.saturating_add-self-inside.ensures
    ∙ ap (λ (m : MemView). record m { set_marks = next m.set_marks; faults = next m.faults; failed_at = call.Block c.args.unit c.args.block }) c.self.view_is
