-- An interrupt is delivered: the data interrupt, the attentions, and the adapter's start, one behind the other.
use Rattle.std.proofs.Common.{◌≡◌, ℕ, Bool, true, List, subst}
use Rattle.std.specs.Prelude.{Result, Ok, Err}
use Rattle.driver_machine.specs.World.{adapter_at}
use Rattle.driver_machine.specs.Acts.{Act}
use Rattle.driver_machine.specs.Events.{and_then, each, drives, data_interrupt, attention, adapter_start, can_attend, attend_acts}
use Rattle.driver_machine.specs.Sound.{Sound}
use Rattle.hp_core.specs.Passes.{Stop}
use Rattle.hp_core.specs.State.{State}
use Rattle.hp_driver.specs.Done.{DoesActs}
use Rattle.hp_driver.proofs.Joined.{then_part, stopped_part, all_done}
use Rattle.hp_driver.proofs.Parts.{pending}

module _ {O : Type 0} (tells : O → Bool) (taken : O → List ℕ) (faults : O → ℕ) (line a : ℕ) where
  pub attends_all : (t t1 t2 t3 : O) (s s1 s2 s3 : State) (result : Result (Unit {0}) Stop) → can_attend (adapter_at s.world a) ≡ true
      → DoesActs {A = Unit {0}} tells taken faults t t1 s s1 (Ok tt) (data_interrupt line a s.world)
      → DoesActs {A = Unit {0}} tells taken faults t1 t2 s1 s2 (Ok tt) (each (attention line a) drives s1.world)
      → DoesActs tells taken faults t2 t3 s2 s3 result (adapter_start line a s2.world) → DoesActs tells taken faults t t3 s s3 result (attend_acts line a s.world)
  attends_all t t1 t2 t3 s s1 s2 s3 result can first second third =
      subst (λ (acts : List Act). DoesActs tells taken faults t t3 s s3 result acts) (pending s.world line a can)
      (then_part tells taken faults t t1 t3 s s1 s3 tt result (data_interrupt line a s.world) (and_then (each (attention line a) drives) (adapter_start line a)) first
      (then_part tells taken faults t1 t2 t3 s1 s2 s3 tt result (each (attention line a) drives s1.world) (adapter_start line a) second third))

  pub first_stopped : (t t1 : O) (s s1 : State) (stop : Stop) → can_attend (adapter_at s.world a) ≡ true
      → DoesActs {A = Unit {0}} tells taken faults t t1 s s1 (Err stop) (data_interrupt line a s.world)
      → DoesActs {A = Unit {0}} tells taken faults t t1 s s1 (Err stop) (attend_acts line a s.world)
  first_stopped t t1 s s1 stop can first =
      subst (λ (acts : List Act). DoesActs {A = Unit {0}} tells taken faults t t1 s s1 (Err stop) acts) (pending s.world line a can)
      (stopped_part tells taken faults t t1 s s1 stop (data_interrupt line a s.world) (and_then (each (attention line a) drives) (adapter_start line a)) first)

  pub second_stopped : (t t1 t2 : O) (s s1 s2 : State) (stop : Stop) → can_attend (adapter_at s.world a) ≡ true
      → DoesActs {A = Unit {0}} tells taken faults t t1 s s1 (Ok tt) (data_interrupt line a s.world)
      → DoesActs {A = Unit {0}} tells taken faults t1 t2 s1 s2 (Err stop) (each (attention line a) drives s1.world)
      → DoesActs {A = Unit {0}} tells taken faults t t2 s s2 (Err stop) (attend_acts line a s.world)
  second_stopped t t1 t2 s s1 s2 stop can first second =
      subst (λ (acts : List Act). DoesActs {A = Unit {0}} tells taken faults t t2 s s2 (Err stop) acts) (pending s.world line a can)
      (then_part tells taken faults t t1 t2 s s1 s2 tt (Err stop) (data_interrupt line a s.world) (and_then (each (attention line a) drives) (adapter_start line a)) first
      (stopped_part tells taken faults t1 t2 s1 s2 stop (each (attention line a) drives s1.world) (adapter_start line a) second))

  pub sound_behind : (t t1 : O) (s s1 : State) (acts : List Act) → Sound s.world → DoesActs {A = Unit {0}} tells taken faults t t1 s s1 (Ok tt) acts → Sound s1.world
  sound_behind t t1 s s1 acts sound first = (all_done tells taken faults t t1 s s1 tt acts sound first).sound
