-- The deed that is due at a unit is done, and what holds then.
use Rattle.std.proofs.Common.{◌≡◌, ℕ, ◌<◌, Bool, List, [], ◌∷◌, length, Option, Some, None, sym, ap, subst}
use Rattle.std.specs.Prelude.{Result, Ok, Err, IfOk}
use Rattle.hp_core.specs.Asked.{Asked}
use Rattle.hp_core.specs.Requests.{asked_of}
use Rattle.hp_core.specs.Deeds.{deed_in}
use Rattle.hp_core.specs.declared.deed.Deed.{Deed as Named}
use Rattle.hardware_table.specs.Adapter.{AdapterState}
use Rattle.driver_machine.specs.World.{World, UnitView, Held, unit_at, adapter_at, adapter_of}
use Rattle.driver_machine.specs.Acts.{Act, Of, Deed, after}
use Rattle.driver_machine.specs.Due.{next_of}
use Rattle.driver_machine.specs.Events.{next_acts}
use Rattle.driver_machine.specs.Guards.{Allowed}
use Rattle.driver_machine.specs.Sound.{Sound}
use Rattle.hp_core.specs.Passes.{Stop}
use Rattle.hp_core.specs.State.{State}
use Rattle.hp_driver.specs.Done.{DoesActs}
use Rattle.hp_driver.specs.Free.{IsFree}
use Rattle.hp_driver.specs.Hand.{hand_at}
use Rattle.hp_driver.proofs.Joined.{said, failed, all_done}
use Rattle.hp_driver.proofs.Next.{may_next, next_are, next_free, none_next, some_acts}

-- a deed is due for the request in hand, and its adapter is free where it has to be
pub record IsDueHere (w : World) (u id : ℕ) (d : Deed) : Type 0 where
  pub sound : Sound w
  pub unit : u < 32
  pub free : IsFree w u
  pub some : 0 < length (unit_at w u).queue
  pub named : id ≡ (hand_at w u).id
  pub next : next_of (unit_at w u) (hand_at w u) ≡ Some d

pub due_here : (w : World) (u : ℕ) (asked : Asked) (deed : Named) (v : UnitView) → Sound w → u < 32 → IsFree w u → 0 < length (unit_at w u).queue
    → asked ≡ asked_of (hand_at w u) → v ≡ unit_at w u → ((h : Held) (a : AdapterState) → asked ≡ asked_of h → Some (deed_in deed v h a) ≡ next_of v h)
    → IsDueHere w u asked.id (deed_in deed (unit_at w u) (hand_at w u) (adapter_at w (adapter_of u)).state)
due_here w u asked deed v sound lt free some is here due = record {
  sound = sound;
  unit = lt;
  free = free;
  some = some;
  named = ap (λ (a : Asked). a.id) is;
  next = sym (subst (λ (x : UnitView). Some (deed_in deed x (hand_at w u) (adapter_at w (adapter_of u)).state) ≡ next_of x (hand_at w u)) here (due (hand_at w u) (adapter_at w (adapter_of u)).state is));
}

pub none_here : (w : World) (line u : ℕ) (asked : Asked) (v : UnitView) → asked ≡ asked_of (hand_at w u) → v ≡ unit_at w u
    → ((h : Held) (a : AdapterState) → asked ≡ asked_of h → ◌≡◌ {A = Option Deed} None (next_of v h)) → next_acts line u w ≡ []
none_here w line u asked v is here due =
    none_next w line u (sym (subst (λ (x : UnitView). ◌≡◌ {A = Option Deed} None (next_of x (hand_at w u))) here (due (hand_at w u) (adapter_at w (adapter_of u)).state is)))

pub may_here : (w : World) (line u id : ℕ) (d : Deed) → IsDueHere w u id d → Allowed w (Of line u id d)
may_here w line u id d is = may_next w line u id d is.named is.some is.sound is.unit is.free is.next

pub acts_here : (w : World) (line u id : ℕ) (d : Deed) → IsDueHere w u id d → next_acts line u w ≡ Of line u id d ∷ []
acts_here w line u id d is = next_are w line u id d is.named is.some is.next

module _ {O : Type 0} (tells : O → Bool) (taken : O → List ℕ) (faults : O → ℕ) (trace trace' : O) (old new : State) (line u id : ℕ) (d : Deed) where
  pub stopped_here : (stop : Stop) → IsDueHere old.world u id d → DoesActs {A = Unit {0}} tells taken faults trace trace' old new (Err stop) (Of line u id d ∷ [])
      → DoesActs {A = Bool} tells taken faults trace trace' old new (Err stop) (next_acts line u old.world)
  stopped_here stop is does =
      subst (λ (acts : List Act). DoesActs {A = Bool} tells taken faults trace trace' old new (Err stop) acts) (sym (acts_here old.world line u id d is))
      (failed tells taken faults trace trace' old new stop (Of line u id d ∷ []) does)

  pub done_here : (x : Unit {0}) (y : Bool) → IsDueHere old.world u id d → DoesActs {A = Unit {0}} tells taken faults trace trace' old new (Ok x) (Of line u id d ∷ [])
      → DoesActs {A = Bool} tells taken faults trace trace' old new (Ok y) (next_acts line u old.world)
  done_here x y is does =
      subst (λ (acts : List Act). DoesActs {A = Bool} tells taken faults trace trace' old new (Ok y) acts) (sym (acts_here old.world line u id d is))
      (said tells taken faults trace trace' old new x y (Of line u id d ∷ []) does)

  pub some_here : IsDueHere old.world u id d → next_acts line u old.world ≡ [] → ⊥
  some_here is none = some_acts (next_acts line u old.world) (Of line u id d) (acts_here old.world line u id d is) none

  pub sound_here : (x : Unit {0}) → IsDueHere old.world u id d → DoesActs {A = Unit {0}} tells taken faults trace trace' old new (Ok x) (Of line u id d ∷ []) → Sound new.world
  sound_here x is does = (all_done tells taken faults trace trace' old new x (Of line u id d ∷ []) is.sound does).sound

  pub free_here : (x : Unit {0}) → IsDueHere old.world u id d → DoesActs {A = Unit {0}} tells taken faults trace trace' old new (Ok x) (Of line u id d ∷ []) → IsFree new.world u
  free_here x is does =
      subst (λ (w : World). IsFree w u) (sym (all_done tells taken faults trace trace' old new x (Of line u id d ∷ []) is.sound does).world)
      (next_free old.world line u id d is.named is.some is.sound is.unit is.free is.next)

-- the same of any one act
module _ {O A : Type 0} (tells : O → Bool) (taken : O → List ℕ) (faults : O → ℕ) (trace trace' : O) (old new : State) (act : Act) (sound : Sound old.world) where
  pub sound_if : (result : Result A Stop) → DoesActs tells taken faults trace trace' old new result (act ∷ []) → IfOk result (λ _. Sound new.world)
  sound_if (Ok x) does = (all_done tells taken faults trace trace' old new x (act ∷ []) sound does).sound
  sound_if (Err stop) does = tt

  pub free_if : (u : ℕ) (result : Result A Stop) → IsFree (after old.world act) u → DoesActs tells taken faults trace trace' old new result (act ∷ [])
      → IfOk result (λ _. IsFree new.world u)
  free_if u (Ok x) free does =
      subst (λ (w : World). IsFree w u) (sym (all_done tells taken faults trace trace' old new x (act ∷ []) sound does).world) free
  free_if u (Err stop) free does = tt
