-- The transfer under way at an adapter: for whom it is, and what the move of its next sector is.
use Rattle.std.proofs.Common.{◌≡◌, ℕ, ◌<◌, Bool, true, false, [], ◌∷◌, length, refl, sym, ap, ◌∙◌, subst}
use Rattle.std.specs.Prelude.{not, ◌&&◌}
use Rattle.hardware_table.specs.Adapter.{next_block}
use Rattle.driver_machine.specs.World.{World, adapter_of, drive_of, unit_of, unit_at, adapter_at, held_in, slot_in_hand}
use Rattle.driver_machine.specs.Acts as deed
use Rattle.driver_machine.specs.Acts.{Of, Nothing, Deed, Tried}
use Rattle.driver_machine.specs.Events.{in_hand, or_nothing, move_acts, can_move}
use Rattle.driver_machine.specs.Guards.{InHand, IsBusyFor}
use Rattle.driver_machine.specs.Sound.{Sound}
use Rattle.driver_machine.proofs.DueFacts.{false_true}
use Rattle.driver_laws.proofs.invariant.Deeds.{in_hand_is}
use Rattle.driver_laws.proofs.invariant.Due.{in_hand_one}
use Rattle.driver_laws.proofs.invariant.Calls.{IsServing, serving}

-- A DEED for the request in hand, with its id
pub hand_acts : (w : World) (line u id : ℕ) (d : Deed) → 0 < length (unit_at w u).queue → id ≡ (held_in w (slot_in_hand (unit_at w u))).id
    → Of line u id d ∷ [] ≡ in_hand line u d w
hand_acts w line u id d some is = ap (λ (n : ℕ). Of line u n d ∷ []) is ∙ sym (in_hand_one line u d w some)

pub hand_is : (w : World) (u id : ℕ) → Sound w → u < 32 → 0 < length (unit_at w u).queue → id ≡ (held_in w (slot_in_hand (unit_at w u))).id → InHand w u id
hand_is w u id sound less some is = subst (λ (n : ℕ). InHand w u n) (sym is) (in_hand_is w u sound less some)

-- the unit for which it transfers
module _ (w : World) (a u : ℕ) (sound : Sound w) (busy : (adapter_at w a).state.busy ≡ true) (is : u ≡ unit_of w a) where
  serves : IsServing w a
  serves = serving w a sound busy

  pub served_less : u < 32
  served_less = subst (λ (x : ℕ). x < 32) (sym is) serves.unit

  pub served_some : 0 < length (unit_at w u).queue
  served_some = subst (λ (x : ℕ). 0 < length (unit_at w x).queue) (sym is) serves.some

  pub served_its : adapter_of u ≡ a
  served_its = ap adapter_of is ∙ serves.its

  pub served_for : (done : Bool) → (adapter_at w a).state.completion ≡ done → IsBusyFor (adapter_at w (adapter_of u)).state (drive_of u) done
  served_for done completion =
      subst (λ (b : ℕ). IsBusyFor (adapter_at w b).state (drive_of u) done) (sym served_its)
      (record { busy = busy; drive = serves.drive ∙ ap drive_of (sym is); completion = completion })

  -- MOVE
  pub moves : (line id : ℕ) (tried : Tried) → can_move (adapter_at w a) ≡ true → id ≡ (held_in w (slot_in_hand (unit_at w u))).id
      → Of line u id (deed.Sector (next_block (adapter_at w (adapter_of u)).state) tried) ∷ [] ≡ move_acts line a tried w
  moves line id tried can named =
      hand_acts w line u id (deed.Sector (next_block (adapter_at w (adapter_of u)).state) tried) served_some named
      ∙ ap (λ (b : ℕ). in_hand line u (deed.Sector (next_block (adapter_at w b).state) tried) w) served_its
      ∙ ap (λ (x : ℕ). in_hand line x (deed.Sector (next_block (adapter_at w a).state) tried) w) is
      ∙ sym (ap (λ (b : Bool). or_nothing b line (in_hand line (unit_of w a) (deed.Sector (next_block (adapter_at w a).state) tried)) w) can)

pub can_move_is : (w : World) (a : ℕ) → can_move (adapter_at w a) ≡ true → ((adapter_at w a).state.busy ≡ true) × ((adapter_at w a).state.completion ≡ false)
can_move_is w a can = both (adapter_at w a).state.busy (adapter_at w a).state.completion can
  where
    both : (a b : Bool) → a && not b ≡ true → (a ≡ true) × (b ≡ false)
    both true true e = absurd (false_true e)
    both true false e = (refl, refl)
    both false true e = absurd (false_true e)
    both false false e = absurd (false_true e)

pub no_move : (w : World) (line a : ℕ) (tried : Tried) → can_move (adapter_at w a) ≡ false → Nothing line ∷ [] ≡ move_acts line a tried w
no_move w line a tried can =
    sym (ap (λ (b : Bool). or_nothing b line (in_hand line (unit_of w a) (deed.Sector (next_block (adapter_at w a).state) tried)) w) can)
