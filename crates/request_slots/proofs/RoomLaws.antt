-- Laws of all slots for which a slab has room: what they are, what a change of one of them leaves, and how many have a request.
use Rattle.std.proofs.Common.{◌≡◌, ℕ, zero, suc, ◌<◌, ◌≤◌, List, [], ◌∷◌, length, get_or, set, replicate, Option, None, Some, IsSome, is_some, count_by, cond, refl, sym, ap, ◌∙◌, inl, inr, arith}
use Rattle.std.proofs.lemmas.List.{get_or-set_same, get_or-set_other, length-set, same_lists}
use Rattle.std.proofs.lemmas.List.Sums.{sum_by-cons, count_by-le-length}
use Rattle.std.proofs.lemmas.Bool.{cases_eq, false≢true}
use Rattle.std.proofs.lemmas.Option.{none-some}
use Rattle.slab.specs.Slab.{Slab, get, slab_len, Updates}
use Rattle.main_memory.specs.Memory.{Memory}
use Rattle.driver_machine.specs.World.{Held}
use Rattle.request_slots.specs.declared.slot.Slot.{Slot}
use Rattle.request_slots.specs.Requests.{HasFree}
use Rattle.request_slots.specs.Stored.{slot_in, filled_up, all_slots, as_seen}
use Rattle.request_slots.proofs.SlotLaws.{slot_within, none_in, within}

pub length-filled_up : {T : Type 0} (n : ℕ) (slots : List (Option T)) → length (filled_up n slots) ≡ n
unfolding filled_up
length-filled_up zero slots = refl
length-filled_up (suc n) [] = ap suc (length-filled_up n [])
length-filled_up (suc n) (slot ∷ slots) = ap suc (length-filled_up n slots)

pub filled_up-none : {T : Type 0} (n : ℕ) → filled_up {T = T} n [] ≡ replicate n None
unfolding filled_up
filled_up-none zero = refl
filled_up-none {T} (suc n) = ap (λ (slots : List (Option T)). None ∷ slots) (filled_up-none n)

-- below the room each slot is the slab's
pub get_or-filled_up : {T : Type 0} (n : ℕ) (slots : List (Option T)) (p : ℕ) (d : Option T) → p < n → get_or (filled_up n slots) p d ≡ get_or slots p None
unfolding filled_up
get_or-filled_up zero slots p d inside = absurd (omega arith)
get_or-filled_up (suc n) [] zero d inside = refl
get_or-filled_up (suc n) [] (suc p) d inside = get_or-filled_up n [] p d (omega arith)
get_or-filled_up (suc n) (slot ∷ slots) zero d inside = refl
get_or-filled_up (suc n) (slot ∷ slots) (suc p) d inside = get_or-filled_up n slots p d (omega arith)

pub get-slot : (s : Slab Slot) (p : ℕ) → p < s.capacity → get s p ≡ slot_in (all_slots s) p
get-slot s p inside = sym (get_or-filled_up s.capacity s.slots p None inside)

-- a slot that has a request is the slab's
pub inside-slot : (s : Slab Slot) (p : ℕ) → IsSome (slot_in (all_slots s) p) → p < s.capacity
inside-slot s p there = by (slot_in (all_slots s) p) refl there
  where
    by : (o : Option Slot) → slot_in (all_slots s) p ≡ o → IsSome o → p < s.capacity
    by None is none = absurd (false≢true none)
    by (Some slot) is some = omega (arith, slot_within (all_slots s) p slot is, length-filled_up s.capacity s.slots)

pub got-slot : (s : Slab Slot) (p : ℕ) → IsSome (slot_in (all_slots s) p) → get s p ≡ slot_in (all_slots s) p
got-slot s p there = get-slot s p (inside-slot s p there)

-- ONE SLOT IS CHANGED
pub all_slots-changed : (old new : Slab Slot) (p : ℕ) (o : Option Slot) → Updates old new p o → new.capacity ≡ old.capacity → p < old.capacity
    → all_slots new ≡ set (all_slots old) p o
all_slots-changed old new p o updates same inside =
    let size_new : length (all_slots new) ≡ old.capacity = length-filled_up new.capacity new.slots ∙ same in
    let size_old : length (set (all_slots old) p o) ≡ old.capacity = length-set (all_slots old) p o ∙ length-filled_up old.capacity old.slots in
    same_lists (all_slots new) (set (all_slots old) p o) (size_new ∙ sym size_old)
    (λ q d lt. at q d (omega (arith, lt, size_new)))
  where
    at : (q : ℕ) (d : Option Slot) → q < old.capacity → get_or (all_slots new) q d ≡ get_or (set (all_slots old) p o) q d
    at q d lt =
        get_or-filled_up new.capacity new.slots q d (omega (arith, lt, same))
        ∙ elim (cases_eq q p) [
          | inl e ↦ ap (get new) e ∙ updates.changed
              ∙ sym (ap (λ (r : ℕ). get_or (set (all_slots old) p o) r d) e ∙ get_or-set_same (all_slots old) p o d (omega (arith, inside, length-filled_up old.capacity old.slots)))
          | inr ne ↦ updates.others q ne
              ∙ sym (get_or-set_other (all_slots old) p q o d ne ∙ get_or-filled_up old.capacity old.slots q d lt)
        ]

-- WHERE ONE IS FREE fewer have a request than there is room for
fewer : {T : Type 0} (slots : List (Option T)) (n p : ℕ) → length slots ≤ n → p < n → get_or slots p None ≡ None → count_by is_some slots < n
fewer [] n p size inside free = omega (arith, inside)
fewer (None ∷ slots) n zero size inside free = omega (arith, size, count_by-le-length is_some slots, sum_by-cons (λ o. cond (is_some o) 1 0) None slots)
fewer (Some x ∷ slots) n zero size inside free = absurd (none-some x (sym free))
fewer (None ∷ slots) zero (suc p) size inside free = absurd (omega (arith, inside))
fewer (None ∷ slots) (suc n) (suc p) size inside free = omega (arith, fewer slots n p (omega (arith, size)) (omega (arith, inside)) free, sum_by-cons (λ o. cond (is_some o) 1 0) None slots)
fewer (Some x ∷ slots) zero (suc p) size inside free = absurd (omega (arith, inside))
fewer (Some x ∷ slots) (suc n) (suc p) size inside free = omega (arith, fewer slots n p (omega (arith, size)) (omega (arith, inside)) free, sum_by-cons (λ o. cond (is_some o) 1 0) (Some x) slots)

pub has_room : (m : Memory) (s : Slab Slot) {seen : List (Option Held)} → as_seen m (all_slots s) ≡ seen → length s.slots ≤ s.capacity → HasFree seen → slab_len s < s.capacity
has_room m s {seen} view size (p, inside, none) =
    let within_room : p < s.capacity = omega (arith, within m (all_slots s) p view inside, length-filled_up s.capacity s.slots) in
    fewer s.slots s.capacity p size within_room (get-slot s p within_room ∙ none_in m (all_slots s) p view none)
