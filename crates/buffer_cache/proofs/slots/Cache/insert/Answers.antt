use Rattle.std.proofs.Common.{◌≡◌, ◌<◌, ◌-◌, ℕ, ◌∷◌, length, take, sym, ap, ◌∙◌, subst}
use Rattle.std.specs.Prelude.{slice_set, false, None}
use Rattle.lru.specs.LruCache.{lru_cache}
use Rattle.driver_laws.specs.rules.Entries.{State, entry_of, put}
use Rattle.driver_laws.specs.rules.Calls.{entry}
use Rattle.buffer_cache.specs.declared.entry.Key.{Key}
use Rattle.buffer_cache.specs.Views.{state_of, entries_of, IsKept}
use Rattle.buffer_cache.proofs.Orders.{takes_slot, new_entries, new_key, ok_of}
use Rattle.buffer_cache.proofs.slots.Cache.insert.Goals as goal

abbrev key : ℕ → ℕ → Key
key unit block = record { unit = unit; block = block }

pub index_mut-requires : goal.index_mut-requires
index_mut-requires c =
    let takes = takes_slot (key c.args.unit c.args.block) c.self.inside.order c.self.inside.slots.items (record { bytes = c.args.bytes.now; changed = c.args.changed }) c.self.invariant
    c.next_slot-slot.ensures.few c.next_slot-slot.ensures.some in
    subst (λ n. c.next_slot-slot.result < n) (sym c.self.inside.slots.ok.0) (subst (λ n. n < length c.self.inside.slots.items) (sym c.next_slot-slot.ensures.slot) takes.inside)

pub invariant_of-self-2 : goal.invariant_of-self-2
invariant_of-self-2 c =
    let takes = takes_slot (key c.args.unit c.args.block) c.self.inside.order c.self.inside.slots.items (record { bytes = c.args.bytes.now; changed = c.args.changed }) c.self.invariant
    c.next_slot-slot.ensures.few c.next_slot-slot.ensures.some in
    let none = new_key (key c.args.unit c.args.block) c.self.inside.order.entries c.self.inside.slots.items (subst (λ (s : State). entry_of c.args.unit c.args.block s.entries ≡ None) (sym c.self.view_is) c.requires.new) in
    let order : c.push.new.self ≡ lru_cache ((key c.args.unit c.args.block, c.next_slot-slot.result) ∷ take (c.self.inside.order.cap - 1) c.self.inside.order.entries) c.self.inside.order.cap =
    ok_of c.push.result _ (sym c.is_err.ensures.value ∙ c.if-is_err.false) c.push.ensures.entries
    ∙ ap (λ z. lru_cache z c.self.inside.order.cap) (new_entries (key c.args.unit c.args.block) c.self.inside.order c.next_slot-slot.result none) in
    subst (λ z. IsKept z (slice_set c.self.inside.slots.items c.next_slot-slot.result (record { bytes = c.args.bytes.now; changed = c.args.changed }))) (sym order)
    (subst (λ n. IsKept (lru_cache ((key c.args.unit c.args.block, n) ∷ take (c.self.inside.order.cap - 1) c.self.inside.order.entries) c.self.inside.order.cap)
    (slice_set c.self.inside.slots.items n (record { bytes = c.args.bytes.now; changed = c.args.changed }))) (sym c.next_slot-slot.ensures.slot) takes.kept)

pub returns : goal.returns
returns c =
    let takes = takes_slot (key c.args.unit c.args.block) c.self.inside.order c.self.inside.slots.items (record { bytes = c.args.bytes.now; changed = c.args.changed }) c.self.invariant
    c.next_slot-slot.ensures.few c.next_slot-slot.ensures.some in
    let none = new_key (key c.args.unit c.args.block) c.self.inside.order.entries c.self.inside.slots.items (subst (λ (s : State). entry_of c.args.unit c.args.block s.entries ≡ None) (sym c.self.view_is) c.requires.new) in
    let order : c.push.new.self ≡ lru_cache ((key c.args.unit c.args.block, c.next_slot-slot.result) ∷ take (c.self.inside.order.cap - 1) c.self.inside.order.entries) c.self.inside.order.cap =
    ok_of c.push.result _ (sym c.is_err.ensures.value ∙ c.if-is_err.false) c.push.ensures.entries
    ∙ ap (λ z. lru_cache z c.self.inside.order.cap) (new_entries (key c.args.unit c.args.block) c.self.inside.order c.next_slot-slot.result none) in
    ap (λ z. state_of z (slice_set c.self.inside.slots.items c.next_slot-slot.result (record { bytes = c.args.bytes.now; changed = c.args.changed })) c.self.inside.refused) order
    ∙ ap (λ z. record { entries = z; capacity = c.self.inside.order.cap; refused = c.self.inside.refused })
    (subst (λ n. entries_of ((key c.args.unit c.args.block, n) ∷ take (c.self.inside.order.cap - 1) c.self.inside.order.entries)
    (slice_set c.self.inside.slots.items n (record { bytes = c.args.bytes.now; changed = c.args.changed }))
    ≡ entry c.args.unit c.args.block c.args.bytes.now c.args.changed ∷ take (c.self.inside.order.cap - 1) (entries_of c.self.inside.order.entries c.self.inside.slots.items))
    (sym c.next_slot-slot.ensures.slot) takes.entries)
    ∙ ap (put false (entry c.args.unit c.args.block c.args.bytes.now c.args.changed)) c.self.view_is
