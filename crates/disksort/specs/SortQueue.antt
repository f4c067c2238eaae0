-- What contracts see of a sorted queue.
use Rattle.std.specs.Prelude.{◌≡◌, ℕ, ◌<◌, ◌≤◌, true, false, List, ◌++◌, length}
use Rattle.std.specs.List.{AllByRecursion}
use Rattle.disksort.specs.declared.Waiter.{Waiter}
use Rattle.disksort.specs.Buckets.{RunView, IsRun, Once, spelled}
use Rattle.trace_replay.specs.requests.ServiceOrder.{IsInOrder}

-- those that wait, in service order; how many can, and how many cylinders the pack has
pub record Queue : Type 0 where
  pub waiting : List Waiter
  pub capacity : ℕ
  pub cylinders : ℕ

abbrev pub cylinder_of : Waiter → ℕ
cylinder_of waiter = waiter.cylinder

-- those that wait: the first run, and then the second
abbrev pub waiting_in : RunView → RunView → List ℕ → ℕ → ℕ → List Waiter
waiting_in first second behind capacity cylinders = spelled capacity first behind cylinders ++ spelled capacity second behind cylinders

-- What the buckets keep: both runs are linked, and what they spell is in service order. No number waits twice, and each
-- is below the capacity. The second run is of cylinders below those of the first, and is empty where the first one is.
pub record IsKept (first second : RunView) (behind : List ℕ) (count capacity cylinders : ℕ) : Type 0 where
  pub first_run : IsRun capacity first behind cylinders
  pub second_run : IsRun capacity second behind cylinders
  pub numbers : length behind ≡ capacity
  pub small : capacity ≤ 65536
  pub few : cylinders ≤ 1024
  pub counted : count ≡ length (waiting_in first second behind capacity cylinders)
  pub fits : count ≤ capacity
  pub inside : AllByRecursion (λ w. w.number < capacity) (waiting_in first second behind capacity cylinders)
  pub once : Once (waiting_in first second behind capacity cylinders)
  pub order : IsInOrder cylinder_of (waiting_in first second behind capacity cylinders)
  pub swept : (c d : ℕ) → second.marked c ≡ true → first.marked d ≡ true → c < d
  pub begun : ((d : ℕ) → first.marked d ≡ false) → (c : ℕ) → second.marked c ≡ false
