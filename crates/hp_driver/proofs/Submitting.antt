-- A request joins, and what is due behind it is done.
use Rattle.std.proofs.Common.{◌≡◌, ℕ, ◌/◌, Bool, List, [], ◌∷◌, sym, ap, subst}
use Rattle.std.specs.Prelude.{Result, Ok, Err}
use Rattle.std.specs.Result.{IsErrAnd}
use Rattle.driver_machine.specs.World.{adapter_of}
use Rattle.driver_machine.specs.Acts.{Submit}
use Rattle.driver_machine.specs.Events.{and_then, due_acts, adapter_start}
use Rattle.driver_machine.specs.Sound.{Sound, AtWork}
use Rattle.hp_core.specs.Asked.{Asked}
use Rattle.driver_laws.proofs.invariant.Sound.{sound_after}
use Rattle.hp_core.specs.Passes.{Stop}
use Rattle.hp_core.specs.State.{State}
use Rattle.hp_core.specs.Joins.{Joins}
use Rattle.hp_driver.specs.Done.{DoesActs}
use Rattle.driver_laws.proofs.invariant.Calls.{join_free}
use Rattle.hp_driver.specs.Free.{IsFree}
use Rattle.hp_driver.specs.Submissions.{Submits}
use Rattle.hp_driver.proofs.Joined.{of_silent, then_part, stopped_part}
use Rattle.hp_driver.proofs.Exits.{as_acts, handed}

-- A REQUEST JOINS where no task is due
module _ (line slot : ℕ) (asked : Asked) (bytes : List ℕ) (old mid : State) (j : Joins line slot asked bytes old mid) where
  its_unit : j.held.unit ≡ asked.unit
  its_unit = ap (λ (a : Asked). a.unit) j.is.same

  pub join_sound : Sound old.world → Sound mid.world
  join_sound sound = subst Sound (sym j.does.world) (sound_after old.world (Submit line slot j.held) sound j.may)

  pub join_frees : Sound old.world → AtWork old.world → IsFree mid.world asked.unit
  join_frees sound at =
      subst (IsFree mid.world) its_unit
      (subst (λ w. IsFree w j.held.unit) (sym j.does.world) (join_free old.world line slot j.held sound at j.may.unit.unit))

  module _ {O : Type 0} (tells : O → Bool) (taken : O → List ℕ) (faults : O → ℕ) (t t1 : O) (s1 : State) where
    pub submits : (t2 : O) (s2 : State) (result : Result (Unit {0}) Stop) → DoesActs {A = Unit {0}} tells taken faults t t1 mid s1 (Ok tt) (due_acts line asked.unit mid.world)
        → DoesActs tells taken faults t1 t2 s1 s2 result (adapter_start line (asked.unit / 8) s1.world) → Submits tells taken faults t t2 old s2 result line asked bytes
    submits t2 s2 result due start = record {
      slot = slot;
      held = j.held;
      is = j.is;
      may = j.may;
      does = then_part tells taken faults t t t2 old mid s2 tt result (Submit line slot j.held ∷ []) (and_then (due_acts line j.held.unit) (adapter_start line (adapter_of j.held.unit)))
          (of_silent {A = Unit {0}} tells taken faults t old mid tt (Submit line slot j.held) j.does)
          (then_part tells taken faults t t1 t2 mid s1 s2 tt result (due_acts line j.held.unit mid.world) (adapter_start line (adapter_of j.held.unit))
          (as_acts tells taken faults t t1 mid s1 (Ok tt) _ _ (ap (λ (u : ℕ). due_acts line u mid.world) (sym its_unit)) due)
          (as_acts tells taken faults t1 t2 s1 s2 result _ _ (ap (λ (u : ℕ). adapter_start line (adapter_of u) s1.world) (sym its_unit)) start));
    }

    pub submit_stopped : (result : Result (Unit {0}) Stop) {stop : Stop} → IsErrAnd result (λ x. x ≡ stop)
        → DoesActs {A = Unit {0}} tells taken faults t t1 mid s1 (Err stop) (due_acts line asked.unit mid.world) → Submits tells taken faults t t1 old s1 result line asked bytes
    submit_stopped result {stop} is due = record {
      slot = slot;
      held = j.held;
      is = j.is;
      may = j.may;
      does = handed tells taken faults t t1 old s1 result _ is
          (then_part tells taken faults t t t1 old mid s1 tt (Err stop) (Submit line slot j.held ∷ []) (and_then (due_acts line j.held.unit) (adapter_start line (adapter_of j.held.unit)))
          (of_silent {A = Unit {0}} tells taken faults t old mid tt (Submit line slot j.held) j.does)
          (stopped_part tells taken faults t t1 mid s1 stop (due_acts line j.held.unit mid.world) (adapter_start line (adapter_of j.held.unit))
          (as_acts tells taken faults t t1 mid s1 (Err stop) _ _ (ap (λ (u : ℕ). due_acts line u mid.world) (sym its_unit)) due)));
    }
