-- What a call did, handed on: under another name of its acts, or by the exit of a `?`.
use Rattle.std.proofs.Common.{◌≡◌, ℕ, Bool, true, false, List, ◌∷◌, inl, refl, sym, subst, ◌<◌}
use Rattle.std.specs.Prelude.{Result, Ok, Err, IfOk}
use Rattle.std.specs.Result.{IsErrAnd}
use Rattle.driver_machine.specs.declared.Phase.TheVariants.{Queued}
use Rattle.driver_machine.specs.World.{World, adapter_of, unit_at, adapter_at, held_in, slot_in_hand}
use Rattle.driver_machine.specs.Acts.{Act}
use Rattle.driver_machine.specs.Due.{command_of}
use Rattle.driver_machine.specs.Events.{in_hand, due_acts, choose_acts}
use Rattle.driver_machine.specs.Sound.{Sound, Among}
use Rattle.hp_core.specs.Passes.{Stop}
use Rattle.hp_core.specs.State.{State}
use Rattle.hp_driver.specs.Done.{DoesActs}
use Rattle.hp_driver.proofs.Joined.{said, failed, then_part, stopped_part}
use Rattle.hp_driver.proofs.Parts.{chooses}

pub as_acts : {O A : Type 0} (tells : O → Bool) (taken : O → List ℕ) (faults : O → ℕ) (trace trace' : O) (old new : State) (result : Result A Stop) (acts other : List Act) → acts ≡ other
    → DoesActs tells taken faults trace trace' old new result acts → DoesActs tells taken faults trace trace' old new result other
as_acts tells taken faults trace trace' old new result acts other is does = subst (λ (xs : List Act). DoesActs tells taken faults trace trace' old new result xs) is does

pub handed : {O A : Type 0} (tells : O → Bool) (taken : O → List ℕ) (faults : O → ℕ) (trace trace' : O) (old new : State) (result : Result A Stop) {stop : Stop} (acts : List Act)
    → IsErrAnd result (λ x. x ≡ stop) → DoesActs {A = A} tells taken faults trace trace' old new (Err stop) acts → DoesActs tells taken faults trace trace' old new result acts
handed tells taken faults trace trace' old new (Ok x) acts is does = absurd is
handed {A = A} tells taken faults trace trace' old new (Err x) acts is does = subst (λ (e : Stop). DoesActs {A = A} tells taken faults trace trace' old new (Err e) acts) (sym is) does

-- so nothing is asked of what an Ok leaves
pub err_if : {A : Type 0} (Q : A → Type 0) (result : Result A Stop) (stop : Stop) → IsErrAnd result (λ x. x ≡ stop) → IfOk result Q
err_if Q (Ok value) stop is = absurd is
err_if Q (Err other) stop is = tt

-- THE FIRST UNIT that waits for an adapter
pub waits_is : (w : World) (a u : ℕ) (rest : List ℕ) → Sound w → a < 4 → (adapter_at w a).queue ≡ u ∷ rest → (u < 32) × (adapter_of u ≡ a) × ((unit_at w u).phase ≡ Queued)
waits_is w a u rest sound less first = (sound.each_adapter a less).waits u (subst (Among u) (sym first) (inl refl))

module _ {O : Type 0} (tells : O → Bool) (taken : O → List ℕ) (faults : O → ℕ) (line a u : ℕ) (rest : List ℕ) (t : O) (s : State) (busy : (adapter_at s.world a).state.busy ≡ false)
    (first : (adapter_at s.world a).queue ≡ u ∷ rest) where
  pub choice_stopped : (t1 : O) (s1 : State) (stop : Stop)
      → DoesActs {A = Unit {0}} tells taken faults t t1 s s1 (Err stop) (in_hand line u (command_of (unit_at s.world u) (held_in s.world (slot_in_hand (unit_at s.world u)))) s.world)
      → DoesActs {A = Bool} tells taken faults t t1 s s1 (Err stop) (choose_acts line a s.world)
  choice_stopped t1 s1 stop does =
      as_acts tells taken faults t t1 s s1 (Err stop) _ (choose_acts line a s.world) (chooses s.world line a u rest busy first)
      (stopped_part tells taken faults t t1 s s1 stop _ (due_acts line u) does)

  pub due_stopped : (t1 t2 : O) (s1 s2 : State) (stop : Stop)
      → DoesActs {A = Unit {0}} tells taken faults t t1 s s1 (Ok tt) (in_hand line u (command_of (unit_at s.world u) (held_in s.world (slot_in_hand (unit_at s.world u)))) s.world)
      → DoesActs {A = Unit {0}} tells taken faults t1 t2 s1 s2 (Err stop) (due_acts line u s1.world) → DoesActs {A = Bool} tells taken faults t t2 s s2 (Err stop) (choose_acts line a s.world)
  due_stopped t1 t2 s1 s2 stop does later =
      as_acts tells taken faults t t2 s s2 (Err stop) _ (choose_acts line a s.world) (chooses s.world line a u rest busy first)
      (then_part tells taken faults t t1 t2 s s1 s2 tt (Err stop) _ (due_acts line u) does (failed tells taken faults t1 t2 s1 s2 stop (due_acts line u s1.world) later))

  pub chosen : (t1 t2 : O) (s1 s2 : State)
      → DoesActs {A = Unit {0}} tells taken faults t t1 s s1 (Ok tt) (in_hand line u (command_of (unit_at s.world u) (held_in s.world (slot_in_hand (unit_at s.world u)))) s.world)
      → DoesActs {A = Unit {0}} tells taken faults t1 t2 s1 s2 (Ok tt) (due_acts line u s1.world) → DoesActs {A = Bool} tells taken faults t t2 s s2 (Ok true) (choose_acts line a s.world)
  chosen t1 t2 s1 s2 does later =
      as_acts tells taken faults t t2 s s2 (Ok true) _ (choose_acts line a s.world) (chooses s.world line a u rest busy first)
      (then_part tells taken faults t t1 t2 s s1 s2 tt (Ok true) _ (due_acts line u) does (said tells taken faults t1 t2 s1 s2 tt true (due_acts line u s1.world) later))
