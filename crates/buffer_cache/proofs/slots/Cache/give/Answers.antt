use Rattle.std.proofs.Common.{◌≡◌, ◌<◌, ℕ, refl, sym, ap, ◌∙◌, subst}
use Rattle.std.proofs.lemmas.List.{get_or_default}
use Rattle.driver_laws.specs.rules.Entries.{State, entry_of, fronted}
use Rattle.std.specs.Prelude.{is_some, true, false}
use Rattle.buffer_cache.specs.declared.entry.Key.{Key}
use Rattle.buffer_cache.specs.declared.entry.Held.{Held}
use Rattle.buffer_cache.specs.Views.{nothing, state_of, IsKept, bytes_over}
use Rattle.buffer_cache.proofs.Orders.{found_of, none_of, kept_promoted, kept_as_it_is, slot_in, fronted_some, fronted_none, is_entry, no_entry, gives_some, gives_none}
use Rattle.buffer_cache.proofs.slots.Cache.give.Goals as goal

abbrev key : ℕ → ℕ → Key
key unit block = record { unit = unit; block = block }

pub invariant_of-self : goal.invariant_of-self
invariant_of-self c = subst (λ z. IsKept z c.self.inside.slots.items) (sym c.find.ensures.order)
    (kept_as_it_is (key c.args.unit c.args.block) c.self.inside.order c.self.inside.slots.items c.self.invariant
    (none_of (key c.args.unit c.args.block) c.self.inside.order.entries (sym c.find.ensures.slot ∙ c.in_default.is)))

pub returns-in_default-clause-found : goal.returns-in_default-clause-found
returns-in_default-clause-found c = subst (λ (s : State). false ≡ is_some (entry_of c.args.unit c.args.block s.entries)) c.self.view_is
    (no_entry (key c.args.unit c.args.block) c.self.inside.order.entries c.self.inside.slots.items
    (none_of (key c.args.unit c.args.block) c.self.inside.order.entries (sym c.find.ensures.slot ∙ c.in_default.is)))

pub returns-in_default-clause-fronts : goal.returns-in_default-clause-fronts
returns-in_default-clause-fronts c = subst (λ z. state_of z c.self.inside.slots.items c.self.inside.refused ≡ fronted c.args.unit c.args.block c.args.self.now) (sym c.find.ensures.order)
    (fronted_none (key c.args.unit c.args.block) c.self.inside.order c.self.inside.slots.items c.self.inside.refused
    (none_of (key c.args.unit c.args.block) c.self.inside.order.entries (sym c.find.ensures.slot ∙ c.in_default.is)) ∙ ap (fronted c.args.unit c.args.block) c.self.view_is)

pub returns-in_default-clause-gives : goal.returns-in_default-clause-gives
returns-in_default-clause-gives c = subst (λ (s : State). c.args.into.now ≡ bytes_over (entry_of c.args.unit c.args.block s.entries) c.args.into.now) c.self.view_is
    (gives_none (key c.args.unit c.args.block) c.self.inside.order.entries c.self.inside.slots.items c.args.into.now
    (none_of (key c.args.unit c.args.block) c.self.inside.order.entries (sym c.find.ensures.slot ∙ c.in_default.is)))

pub index-requires : goal.index-requires
index-requires c = subst (λ n. c.in-Some.slot < n) (sym c.self.inside.slots.ok.0)
    (slot_in (key c.args.unit c.args.block) c.self.inside.order c.self.inside.slots.items c.in-Some.slot c.self.invariant c.find.ensures.few
    (found_of (key c.args.unit c.args.block) c.self.inside.order.entries c.in-Some.slot (sym c.find.ensures.slot ∙ c.in-Some.is)))

pub invariant_of-self-2 : goal.invariant_of-self-2
invariant_of-self-2 c = subst (λ z. IsKept z c.self.inside.slots.items) (sym c.find.ensures.order)
    (kept_promoted (key c.args.unit c.args.block) c.self.inside.order c.self.inside.slots.items c.self.inside.slots.items c.in-Some.slot c.self.invariant refl
    (found_of (key c.args.unit c.args.block) c.self.inside.order.entries c.in-Some.slot (sym c.find.ensures.slot ∙ c.in-Some.is)))

pub returns-clause-found : goal.returns-clause-found
returns-clause-found c = subst (λ (s : State). true ≡ is_some (entry_of c.args.unit c.args.block s.entries)) c.self.view_is
    (is_entry (key c.args.unit c.args.block) c.self.inside.order.entries c.self.inside.slots.items c.in-Some.slot
    (found_of (key c.args.unit c.args.block) c.self.inside.order.entries c.in-Some.slot (sym c.find.ensures.slot ∙ c.in-Some.is)))

pub returns-clause-fronts : goal.returns-clause-fronts
returns-clause-fronts c = subst (λ z. state_of z c.self.inside.slots.items c.self.inside.refused ≡ fronted c.args.unit c.args.block c.args.self.now) (sym c.find.ensures.order)
    (fronted_some (key c.args.unit c.args.block) c.self.inside.order c.self.inside.slots.items c.self.inside.refused c.in-Some.slot
    (found_of (key c.args.unit c.args.block) c.self.inside.order.entries c.in-Some.slot (sym c.find.ensures.slot ∙ c.in-Some.is)) ∙ ap (fronted c.args.unit c.args.block) c.self.view_is)

pub returns-clause-gives : goal.returns-clause-gives
returns-clause-gives c =
    let found = found_of (key c.args.unit c.args.block) c.self.inside.order.entries c.in-Some.slot (sym c.find.ensures.slot ∙ c.in-Some.is) in
    ap (λ (h : Held). h.bytes) (c.index.ensures
    ∙ get_or_default c.self.inside.slots.items c.in-Some.slot c.index.result.now nothing (slot_in (key c.args.unit c.args.block) c.self.inside.order c.self.inside.slots.items c.in-Some.slot c.self.invariant c.find.ensures.few found))
    ∙ gives_some (key c.args.unit c.args.block) c.self.inside.order.entries c.self.inside.slots.items c.in-Some.slot c.args.into.now found
    ∙ ap (λ (s : State). bytes_over (entry_of c.args.unit c.args.block s.entries) c.args.into.now) c.self.view_is
