use Rattle.std.proofs.Common.{◌≡◌, ◌<◌, sym, ap, ◌∙◌, subst}
use Rattle.std.specs.Prelude.{false, option_map}
use Rattle.std.specs.Map.Iter.{deref_pair}
use Rattle.std.proofs.lemmas.List.{get_or_default}
use Rattle.driver_laws.specs.rules.Entries.{State, last_unchanged}
use Rattle.buffer_cache.specs.declared.entry.Held.{Held}
use Rattle.buffer_cache.specs.Views.{nothing, entries_of}
use Rattle.buffer_cache.proofs.Orders.{last_in, last_unchanged_of, none_last}
use Rattle.buffer_cache.proofs.slots.Cache.last_is_written.Goals as goal

abbrev written : State → State
written s = record s { entries = last_unchanged s.entries }

pub index_mut-requires : goal.index_mut-requires
index_mut-requires c = subst (λ n. c.in-Some.slot.now < n) (sym c.self.inside.slots.ok.0)
    (last_in c.self.inside.order c.self.inside.slots.items (c.in-Some.field-0-0.now, c.in-Some.slot.now) c.self.invariant c.len-count.ensures.valid.1
    (sym c.peek_lru.ensures ∙ ap (option_map deref_pair) c.in-Some.is))

pub returns-in-Some : goal.returns-in-Some
returns-in-Some c =
    let is = sym c.peek_lru.ensures ∙ ap (option_map deref_pair) c.in-Some.is in
    let lt = last_in c.self.inside.order c.self.inside.slots.items (c.in-Some.field-0-0.now, c.in-Some.slot.now) c.self.invariant c.len-count.ensures.valid.1 is in
    ap (λ z. record { entries = z; capacity = c.self.inside.order.cap; refused = c.self.inside.refused })
    (last_unchanged_of c.self.inside.order c.self.inside.slots.items (c.in-Some.field-0-0.now, c.in-Some.slot.now) (record { bytes = c.index_mut.result.now.bytes; changed = false }) c.self.invariant
    c.len-count.ensures.valid.1 is
    (ap (λ (h : Held). record { bytes = h.bytes; changed = false }) (c.index_mut.ensures.value ∙ get_or_default c.self.inside.slots.items c.in-Some.slot.now c.index_mut.result.now nothing lt)))
    ∙ ap written c.self.view_is

pub returns-in_default : goal.returns-in_default
returns-in_default c =
    let none = none_last c.self.inside.order.entries (sym c.peek_lru.ensures ∙ ap (option_map deref_pair) c.in_default.is) in
    subst (λ (s : State). s ≡ written s) c.self.view_is
    (ap (λ z. record { entries = entries_of z c.self.inside.slots.items; capacity = c.self.inside.order.cap; refused = c.self.inside.refused }) none
    ∙ sym (ap (λ z. record { entries = last_unchanged (entries_of z c.self.inside.slots.items); capacity = c.self.inside.order.cap; refused = c.self.inside.refused }) none))
