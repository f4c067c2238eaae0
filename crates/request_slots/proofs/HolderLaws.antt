-- Laws of holders: who has the buffer of a request that is seen, and what buffer it is.
use Rattle.std.proofs.Common.{◌≡◌, ℕ, ◌<◌, Bool, true, false, List, length, Option, None, Some, IsSome, is_some, sym, ap, ◌∙◌, subst, arith}
use Rattle.std.specs.Option.{option_map}
use Rattle.std.proofs.lemmas.List.{length-map}
use Rattle.main_memory.specs.Blocks.{Loan}
use Rattle.main_memory.specs.Memory.{Memory, IsLent}
use Rattle.driver_machine.specs.World.{Held, count_of}
use Rattle.request_slots.specs.declared.slot.Holder.TheVariants.{Driver, Adapter}
use Rattle.request_slots.specs.declared.slot.Slot.{Slot}
use Rattle.request_slots.specs.Requests.{slot_at, held_at}
use Rattle.request_slots.specs.Stored.{loan_of, is_on_bus, slot_in, held_of, as_seen, IsKept}
use Rattle.request_slots.proofs.SlotLaws.{slot_at-as_seen, is_some-as_seen, held_at-as_seen, loan_at}

-- it stands in its slot
pub stands : (m : Memory) (slots : List (Option Slot)) {seen : List (Option Held)} (p : ℕ) → as_seen m slots ≡ seen → IsSome (slot_at seen p)
    → IsSome (slot_in slots p)
stands m slots p view there = is_some-as_seen m slots p ∙ ap (λ (ps : List (Option Held)). is_some (slot_at ps p)) view ∙ there

-- its buffer is on the bus where the adapter has it
on_bus_at : (m : Memory) (slots : List (Option Slot)) {seen : List (Option Held)} (p : ℕ) (slot : Slot) → as_seen m slots ≡ seen → slot_in slots p ≡ Some slot
    → (held_at seen p).on_bus ≡ is_on_bus slot.buffer
on_bus_at m slots p slot view here =
    sym (ap (λ (ps : List (Option Held)). (held_at ps p).on_bus) view) ∙ ap (λ (h : Held). h.on_bus) (held_at-as_seen m slots p slot here)

differ : (b : Bool) → b ≡ true → b ≡ false → ⊥
differ b on off = cc

pub driver_has : (m : Memory) (slots : List (Option Slot)) {seen : List (Option Held)} (p : ℕ) (slot : Slot) (buffer : Loan) → as_seen m slots ≡ seen
    → slot_in slots p ≡ Some slot → (held_at seen p).on_bus ≡ false → slot.buffer ≡ Adapter buffer → ⊥
driver_has m slots {seen} p slot buffer view here off has =
    differ (held_at seen p).on_bus (on_bus_at m slots p slot view here ∙ ap is_on_bus has) off

pub adapter_has : (m : Memory) (slots : List (Option Slot)) {seen : List (Option Held)} (p : ℕ) (slot : Slot) (buffer : Loan) → as_seen m slots ≡ seen
    → slot_in slots p ≡ Some slot → (held_at seen p).on_bus ≡ true → slot.buffer ≡ Driver buffer → ⊥
adapter_has m slots {seen} p slot buffer view here on has =
    differ (held_at seen p).on_bus on (on_bus_at m slots p slot view here ∙ ap is_on_bus has)

-- the memory lent it
pub lent_at : (m : Memory) (slots : List (Option Slot)) (p : ℕ) (slot : Slot) (loan : Loan) → IsKept m slots → slot_in slots p ≡ Some slot
    → loan_of slot.buffer ≡ loan → IsLent m loan
lent_at m slots p slot loan kept here has = subst (IsLent m) has (kept.lent p slot here)

-- it has the blocks of the request
pub same_count : (m : Memory) (slots : List (Option Slot)) {seen : List (Option Held)} (p : ℕ) (slot : Slot) (loan : Loan) → as_seen m slots ≡ seen
    → slot_in slots p ≡ Some slot → loan_of slot.buffer ≡ loan → count_of (held_at seen p) ≡ loan.count
same_count m slots p slot loan view here has = ap (λ (l : Loan). l.count) (loan_at m slots p slot view here ∙ has)

-- a slot that is free shows none
pub free_at : (m : Memory) (slots : List (Option Slot)) {seen : List (Option Held)} (p : ℕ) → as_seen m slots ≡ seen → slot_in slots p ≡ None → slot_at seen p ≡ None
free_at m slots p view none =
    sym (ap (λ (ps : List (Option Held)). slot_at ps p) view) ∙ slot_at-as_seen m slots p ∙ ap (option_map (held_of m)) none

pub seen_within : (m : Memory) (slots : List (Option Slot)) {seen : List (Option Held)} (p : ℕ) → as_seen m slots ≡ seen → p < length slots → p < length seen
seen_within m slots p view inside = omega (arith, inside, ap length view, length-map slots (option_map (held_of m)))
