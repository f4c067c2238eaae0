-- How many slots have a request, after one slot changed; a slot that is free; and requests that have not ended.
use Rattle.std.proofs.Common.{◌≡◌, ℕ, zero, suc, ◌+◌, ◌≤◌, Bool, true, false, List, [], ◌∷◌, Option, Some, None, refl, ap, subst, arith, ◌∙◌}
use Rattle.std.specs.Prelude.{slice_index_or, slice_set, ◌<◌, length}
use Rattle.std.specs.Option.{option_map_or}
use Rattle.std.proofs.lemmas.Option.{none-some}
use Rattle.driver_machine.specs.declared.Made.{Made}
use Rattle.driver_machine.specs.World.{Held, frames_of, World, slot_at}
use Rattle.driver_machine.specs.Acts.{freed}
use Rattle.driver_machine.specs.Sound.{Among, slots_made, frames_by, frames_used, Sound}
use Rattle.request_slots.specs.Requests.{frames_lent}
use Rattle.driver_laws.specs.answers.Counts.{in_use}

-- ONE SLOT is put: at most one request more, none more where one stood there, and none more where it is emptied.
pub one_more : (slots : List (Option Held)) (p : ℕ) (h : Held) → in_use (slice_set slots p (Some h)) ≤ in_use slots + 1
one_more [] p h = omega arith
one_more (None ∷ slots) zero h = omega arith
one_more (Some g ∷ slots) zero h = omega arith
one_more (None ∷ slots) (suc p) h = one_more slots p h
one_more (Some g ∷ slots) (suc p) h = omega (arith, one_more slots p h)

pub same_many : (slots : List (Option Held)) (p : ℕ) (g h : Held) → slice_index_or slots p None ≡ Some g
    → in_use (slice_set slots p (Some h)) ≤ in_use slots
same_many [] p g h is = omega arith
same_many (None ∷ slots) zero g h is = absurd (none-some g is)
same_many (Some f ∷ slots) zero g h is = omega arith
same_many (None ∷ slots) (suc p) g h is = same_many slots p g h is
same_many (Some f ∷ slots) (suc p) g h is = omega (arith, same_many slots p g h is)

none_more : (slots : List (Option Held)) (p : ℕ) → in_use (slice_set slots p None) ≤ in_use slots
none_more [] p = omega arith
none_more (None ∷ slots) zero = omega arith
none_more (Some g ∷ slots) zero = omega arith
none_more (None ∷ slots) (suc p) = none_more slots p
none_more (Some g ∷ slots) (suc p) = omega (arith, none_more slots p)

freed_at : (o : Option ℕ) (slots : List (Option Held)) → in_use (option_map_or (λ (p : ℕ). slice_set slots p None) o slots) ≤ in_use slots
freed_at None slots = omega arith
freed_at (Some p) slots = none_more slots p

pub freed_few : (answers : List Made) (slots : List (Option Held)) → in_use (freed answers slots) ≤ in_use slots
freed_few [] slots = omega arith
freed_few (made ∷ rest) slots = freed_at made.slot slots

-- A FREE SLOT
pub free_where_room : (slots : List (Option Held)) → in_use slots < length slots
    → (p : ℕ) × (p < length slots) × (slice_index_or slots p None ≡ None)
free_where_room [] room = absurd (omega (arith, room))
free_where_room (None ∷ slots) room = (0, omega arith, refl)
free_where_room (Some h ∷ slots) room =
    let rest = free_where_room slots (omega (arith, room)) in
    (suc rest.0, omega (arith, rest.1), rest.2)

-- NO ANSWER WAITS
pub none_ended : (w : World) → Sound w → w.answers ≡ [] → (p : ℕ) (h : Held) → slot_at w p ≡ Some h → h.ended ≡ false
none_ended w sound none p h is = by h.ended refl
  where
    by : (b : Bool) → h.ended ≡ b → h.ended ≡ false
    by true over = absurd (subst (λ (answers : List Made). Among p (slots_made answers)) none ((sound.each_slot p h is).made over))
    by false going = going

AreGoingOn : List (Option Held) → Type 0
AreGoingOn slots = (p : ℕ) (h : Held) → slice_index_or slots p None ≡ Some h → h.ended ≡ false

used_are_lent : (slots : List (Option Held)) → AreGoingOn slots → frames_used slots ≡ frames_lent slots
unfolding AreGoingOn
used_are_lent [] going = refl
used_are_lent (None ∷ slots) going = used_are_lent slots (λ p h is. going (suc p) h is)
used_are_lent (Some h ∷ slots) going =
    ap (λ (b : Bool). frames_by b h + frames_used slots) (going 0 h refl)
    ∙ ap (λ (n : ℕ). frames_of h + n) (used_are_lent slots (λ p g is. going (suc p) g is))

-- and so the frames that outstanding requests need are all that are lent.
pub all_lent_are_needed : (w : World) → Sound w → w.answers ≡ [] → w.frames ≡ frames_lent w.slots
unfolding AreGoingOn
all_lent_are_needed w sound none = sound.frames ∙ used_are_lent w.slots (none_ended w sound none)
