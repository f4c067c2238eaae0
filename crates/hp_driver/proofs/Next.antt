-- What is due at a unit, and what it leaves.
use Rattle.std.proofs.Common.{◌≡◌, ℕ, ◌<◌, ◌≤◌, List, [], ◌∷◌, length, Option, Some, None, refl, sym, ap, ◌∙◌, subst, arith}
use Rattle.disksort.specs.declared.Waiter.{Waiter}
use Rattle.driver_machine.specs.World.{World, unit_at}
use Rattle.driver_machine.specs.Acts.{Act, Of, Deed, scene_of, after}
use Rattle.driver_machine.specs.Due.{next_of}
use Rattle.driver_machine.specs.Events.{in_hand, in_hand_by, due_by, next_acts}
use Rattle.driver_machine.specs.Guards.{Allowed}
use Rattle.driver_machine.specs.Sound.{Sound}
use Rattle.driver_laws.proofs.invariant.Sound.{sound_after}
use Rattle.driver_laws.proofs.invariant.Deeds.{Doing, Done, outstanding, in_hand_is, may_come, due_done}
use Rattle.driver_laws.proofs.invariant.Due.{in_hand_one}
use Rattle.hp_driver.specs.Free.{IsFree}
use Rattle.hp_driver.specs.Hand.{hand_at}

-- A DEED THAT IS DUE may come, is what the unit has next, and leaves its adapter free where the next one wants it so.
module _ (w : World) (line u id : ℕ) (d : Deed) (named : id ≡ (hand_at w u).id) (some : 0 < length (unit_at w u).queue) where
  pub in_hand_are : in_hand line u d w ≡ Of line u id d ∷ []
  in_hand_are = in_hand_one line u d w some ∙ ap (λ (i : ℕ). Of line u i d ∷ []) (sym named)

  pub may_next : Sound w → u < 32 → IsFree w u → next_of (unit_at w u) (hand_at w u) ≡ Some d → Allowed w (Of line u id d)
  may_next sound lt free next =
      subst (λ (i : ℕ). Allowed w (Of line u i d)) (sym named)
      (in_hand_is w u sound lt some, may_come u d (scene_of w u) next free)

  pub next_are : next_of (unit_at w u) (hand_at w u) ≡ Some d → next_acts line u w ≡ Of line u id d ∷ []
  next_are next = ap (λ (found : Option Deed). due_by found line u w) next ∙ in_hand_are

  pub next_free : Sound w → u < 32 → IsFree w u → next_of (unit_at w u) (hand_at w u) ≡ Some d → IsFree (after w (Of line u id d)) u
  next_free sound lt free next =
      let doing : Doing ⊥ u (outstanding w) w = record { sound = sound; free = free; others = λ e. absurd e; few = least (outstanding w) } in
      let done : Done ⊥ line u (outstanding w) d w = due_done sound_after ⊥ line u (outstanding w) d w lt some next doing in
      subst (λ (i : ℕ). IsFree (after w (Of line u i d)) u) (sym named) done.doing.free
    where
      least : (n : ℕ) → n ≤ n
      least n = omega arith

-- WHERE NOTHING IS DUE: no request is in hand, or the unit waits for an event
none_by : (w : World) (line u : ℕ) (found : Option Deed) → (unit_at w u).queue ≡ [] → due_by found line u w ≡ []
none_by w line u None none = refl
none_by w line u (Some d) none = ap (λ (queue : List Waiter). in_hand_by queue line u d w) none

pub none_waiting : (w : World) (line u : ℕ) → (unit_at w u).queue ≡ [] → next_acts line u w ≡ []
none_waiting w line u none = none_by w line u (next_of (unit_at w u) (hand_at w u)) none

pub none_next : (w : World) (line u : ℕ) → next_of (unit_at w u) (hand_at w u) ≡ None → next_acts line u w ≡ []
none_next w line u next = ap (λ (found : Option Deed). due_by found line u w) next

pub some_acts : (acts : List Act) (act : Act) → acts ≡ act ∷ [] → acts ≡ [] → ⊥
some_acts acts act is none = absurd (cc)
