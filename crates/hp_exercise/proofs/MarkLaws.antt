-- A mark and a write leave the room of each unit as it was.
use Rattle.std.proofs.Common.{◌≡◌, ℕ, zero, suc, ◌<◌, nat_lt, not, Bool, true, false, IsTrue, List, [], ◌∷◌, Option, None, Some, Result, Ok, Err, refl, sym, ap, subst, arith, ◌∙◌}
use Rattle.std.specs.Prelude.{slice_get, slice_set, if◌then◌else◌, OnOk}
use Rattle.std.proofs.lemmas.Option.{same_Some}
use Rattle.mass_outside.specs.Memory.{is_outside}
use Rattle.mass_outside.specs.Slots.{SlotView, blocks_in, slot_marked, slot_written}
use Rattle.mass_outside.specs.Sure.{SureView, sure_held, SureMarked, SureWrote}
use Rattle.outside_traits.specs.declared.traits.PackCall.{PackCall}
use Rattle.outside_traits.specs.declared.traits.StoreFailed.{StoreFailed}
use Rattle.pack_geometry.specs.Pack.{Pack, with_written}
use Rattle.hp_exercise.specs.declared.packs.Outside.{Outside}
use Rattle.hp_exercise.specs.Room.{HasRoom, RoomView, held_on, room_on, with_outside}

set_rooms : (slots : List SlotView) (unit : ℕ) (slot new : SlotView) (x : ℕ) → slice_get slots unit ≡ Some slot → new.blocks ≡ slot.blocks
    → blocks_in (slice_get (slice_set slots unit new) x) ≡ blocks_in (slice_get slots x)
set_rooms [] unit slot new x is same = refl
set_rooms (s ∷ slots) zero slot new zero is same = same ∙ ap (λ (t : SlotView). t.blocks) (sym (same_Some s slot is))
set_rooms (s ∷ slots) zero slot new (suc x) is same = refl
set_rooms (s ∷ slots) (suc unit) slot new zero is same = refl
set_rooms (s ∷ slots) (suc unit) slot new (suc x) is same = set_rooms slots unit slot new x is same

has_room_set : (old new : SureView) (unit : ℕ) (slot other : SlotView) → HasRoom old → slice_get old.slots unit ≡ Some slot → other.blocks ≡ slot.blocks
    → new ≡ record old { slots = slice_set old.slots unit other } → HasRoom new
has_room_set old new unit slot other has is same after = subst HasRoom (sym after) (record {
  rooms = λ x less. set_rooms old.slots unit slot other x is same ∙ has.rooms x less;
  tells = has.tells;
})

pub has_room_marked : (old new : SureView) (unit block : ℕ) (on : Bool) → HasRoom old → SureMarked old unit block on new → HasRoom new
has_room_marked old new unit block on has (slot, is, after) = has_room_set old new unit slot (slot_marked slot block (if on then 1 else 0)) has is refl after

pub has_room_written : (old new : SureView) (unit block : ℕ) (bytes : List ℕ) → HasRoom old → SureWrote old unit block bytes new → HasRoom new
has_room_written old new unit block bytes has (slot, is, after) = has_room_set old new unit slot (slot_written slot block bytes) has is refl after

not_outside : (block blocks : ℕ) → block < blocks → not (nat_lt block blocks) ≡ false
not_outside block blocks less = grind (arith, less)

pub inside_room : (packs : SureView) (unit block : ℕ) → HasRoom packs → unit < 32 → block < room_on unit → is_outside packs.slots unit block ≡ false
inside_room packs unit block has small less =
    not_outside block (blocks_in (slice_get packs.slots unit)) (subst (λ (n : ℕ). block < n) (sym (has.rooms unit small)) less)

-- a write that is inside is one to what the packs hold
pub held_written : (result : Result (Unit {0}) StoreFailed) (packs new : SureView) (outside : Option Outside) (call : PackCall) (now : RoomView) (unit block : ℕ) (bytes : List ℕ)
    → record { packs = packs; outside = outside; failed_at = call } ≡ now → outside ≡ None → HasRoom new
    → OnOk result (IsTrue new.tells → sure_held new ≡ with_written (sure_held packs) unit block bytes)
    → OnOk result (IsTrue true → with_outside outside (sure_held new) ≡ with_written (held_on now) unit block bytes)
held_written (Ok done) packs new outside call now unit block bytes view none has ok = λ t.
    let inside : (held : ℕ → Pack) → with_outside outside held ≡ held = λ held. ap (λ (o : Option Outside). with_outside o held) none in
    inside (sure_held new) ∙ ok has.tells
    ∙ ap (λ (held : ℕ → Pack). with_written held unit block bytes) (sym (inside (sure_held packs)) ∙ ap held_on view)
held_written (Err failed) packs new outside call now unit block bytes view none has ok = tt
