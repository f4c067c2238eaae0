use Rattle.std.proofs.Common.{◌≡◌, ◌<◌, ℕ, sym, ap, ◌∙◌, subst}
use Rattle.std.proofs.lemmas.List.{length-set}
use Rattle.driver_laws.specs.rules.Entries.{State, entry_of, changed_in_front}
use Rattle.std.specs.Prelude.{is_some, slice_set, true, false}
use Rattle.buffer_cache.specs.declared.entry.Key.{Key}
use Rattle.buffer_cache.specs.Views.{state_of, IsKept}
use Rattle.buffer_cache.proofs.Orders.{found_of, none_of, kept_promoted, kept_as_it_is, slot_in, changed_some, changed_none, is_entry, no_entry}
use Rattle.buffer_cache.proofs.slots.Cache.change.Goals as goal

abbrev key : ℕ → ℕ → Key
key unit block = record { unit = unit; block = block }

pub invariant_of-self : goal.invariant_of-self
invariant_of-self c = subst (λ z. IsKept z c.self.inside.slots.items) (sym c.find.ensures.order)
    (kept_as_it_is (key c.args.unit c.args.block) c.self.inside.order c.self.inside.slots.items c.self.invariant
    (none_of (key c.args.unit c.args.block) c.self.inside.order.entries (sym c.find.ensures.slot ∙ c.in_default.is)))

pub returns-in_default-clause-found : goal.returns-in_default-clause-found
returns-in_default-clause-found c = subst (λ (s : State). false ≡ is_some (entry_of c.args.unit c.args.block s.entries)) c.self.view_is
    (no_entry (key c.args.unit c.args.block) c.self.inside.order.entries c.self.inside.slots.items
    (none_of (key c.args.unit c.args.block) c.self.inside.order.entries (sym c.find.ensures.slot ∙ c.in_default.is)))

pub returns-in_default-clause-changes : goal.returns-in_default-clause-changes
returns-in_default-clause-changes c = subst (λ z. state_of z c.self.inside.slots.items c.self.inside.refused ≡ changed_in_front c.args.unit c.args.block c.args.from.now c.args.self.now) (sym c.find.ensures.order)
    (changed_none (key c.args.unit c.args.block) c.self.inside.order c.self.inside.slots.items c.self.inside.refused c.args.from.now
    (none_of (key c.args.unit c.args.block) c.self.inside.order.entries (sym c.find.ensures.slot ∙ c.in_default.is)) ∙ ap (changed_in_front c.args.unit c.args.block c.args.from.now) c.self.view_is)

pub index_mut-requires : goal.index_mut-requires
index_mut-requires c = subst (λ n. c.in-Some.slot < n) (sym c.self.inside.slots.ok.0)
    (slot_in (key c.args.unit c.args.block) c.self.inside.order c.self.inside.slots.items c.in-Some.slot c.self.invariant c.find.ensures.few
    (found_of (key c.args.unit c.args.block) c.self.inside.order.entries c.in-Some.slot (sym c.find.ensures.slot ∙ c.in-Some.is)))

pub invariant_of-self-2 : goal.invariant_of-self-2
invariant_of-self-2 c = subst (λ z. IsKept z (slice_set c.self.inside.slots.items c.in-Some.slot (record { bytes = c.args.from.now; changed = true }))) (sym c.find.ensures.order)
    (kept_promoted (key c.args.unit c.args.block) c.self.inside.order c.self.inside.slots.items (slice_set c.self.inside.slots.items c.in-Some.slot (record { bytes = c.args.from.now; changed = true })) c.in-Some.slot
    c.self.invariant (length-set c.self.inside.slots.items c.in-Some.slot (record { bytes = c.args.from.now; changed = true }))
    (found_of (key c.args.unit c.args.block) c.self.inside.order.entries c.in-Some.slot (sym c.find.ensures.slot ∙ c.in-Some.is)))

pub returns-clause-found : goal.returns-clause-found
returns-clause-found c = subst (λ (s : State). true ≡ is_some (entry_of c.args.unit c.args.block s.entries)) c.self.view_is
    (is_entry (key c.args.unit c.args.block) c.self.inside.order.entries c.self.inside.slots.items c.in-Some.slot
    (found_of (key c.args.unit c.args.block) c.self.inside.order.entries c.in-Some.slot (sym c.find.ensures.slot ∙ c.in-Some.is)))

pub returns-clause-changes : goal.returns-clause-changes
returns-clause-changes c =
    let found = found_of (key c.args.unit c.args.block) c.self.inside.order.entries c.in-Some.slot (sym c.find.ensures.slot ∙ c.in-Some.is) in
    subst (λ z. state_of z (slice_set c.self.inside.slots.items c.in-Some.slot (record { bytes = c.args.from.now; changed = true })) c.self.inside.refused ≡ changed_in_front c.args.unit c.args.block c.args.from.now c.args.self.now)
    (sym c.find.ensures.order)
    (changed_some (key c.args.unit c.args.block) c.self.inside.order c.self.inside.slots.items c.self.inside.refused c.in-Some.slot c.args.from.now c.self.invariant
    (slot_in (key c.args.unit c.args.block) c.self.inside.order c.self.inside.slots.items c.in-Some.slot c.self.invariant c.find.ensures.few found) found
    ∙ ap (changed_in_front c.args.unit c.args.block c.args.from.now) c.self.view_is)
