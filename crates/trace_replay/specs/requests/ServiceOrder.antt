-- The order in which a unit serves the requests that wait at it.
--
-- The arm sweeps from low cylinders to high ones, and then begins again. A request that joins an empty queue has sweep 0. Any other
-- request has the sweep of the head, or the next sweep if its cylinder is below the head's. The queue is the list of the requests
-- that wait, sorted by sweep, then by cylinder, then by order of joining.
use Rattle.std.specs.Prelude.{◌≡◌, ℕ, ◌+◌, ◌==◌, nat_lt, Bool, not, if◌then◌else◌, List, [], ◌∷◌, ◌++◌, map, filter, drop, length}

-- one that waits, and how many had joined before it
pub record Waiting (A : Type 0) : Type 0 where
  pub request : A
  pub sweep : ℕ
  pub cylinder : ℕ
  pub ticket : ℕ

-- by sweep; in one sweep by cylinder; at one cylinder by order of joining
abbrev pub is_before : {A : Type 0} → Waiting A → Waiting A → Bool
is_before x y =
    if x.sweep == y.sweep
    then (if x.cylinder == y.cylinder then nat_lt x.ticket y.ticket else nat_lt x.cylinder y.cylinder)
    else nat_lt x.sweep y.sweep

-- a sort of the whole list
abbrev pub put : {A : Type 0} → Waiting A → List (Waiting A) → List (Waiting A)
put x [] = x ∷ []
put x (y ∷ ys) = if is_before y x then y ∷ put x ys else x ∷ y ∷ ys

abbrev pub service_order : {A : Type 0} → List (Waiting A) → List (Waiting A)
service_order [] = []
service_order (x ∷ xs) = put x (service_order xs)

-- those that wait at a unit, in service order, and how many have joined so far
pub record Service (A : Type 0) : Type 0 where
  pub waiting : List (Waiting A)
  pub joined : ℕ

abbrev pub empty_service : {A : Type 0} → Service A
empty_service = record { waiting = []; joined = 0 }

-- the sweep of one that joins at this cylinder
abbrev pub sweep_for : {A : Type 0} → ℕ → List (Waiting A) → ℕ
sweep_for cylinder [] = 0
sweep_for cylinder (head ∷ _) = if nat_lt cylinder head.cylinder then head.sweep + 1 else head.sweep

-- a request joins, and the head leaves
abbrev pub after_join : {A : Type 0} → (A → ℕ) → A → Service A → Service A
after_join cylinder_of x service = record {
  waiting = service_order (record {
    request = x;
    sweep = sweep_for (cylinder_of x) service.waiting;
    cylinder = cylinder_of x;
    ticket = service.joined;
  } ∷ service.waiting);
  joined = service.joined + 1;
}

abbrev pub after_leave : {A : Type 0} → Service A → Service A
after_leave service = record service { waiting = drop 1 service.waiting }

-- the queue: the requests alone
abbrev pub queue_of : {A : Type 0} → Service A → List A
queue_of service = map (λ x. x.request) service.waiting

-- A queue in service order tells its own sweeps, counted from the head's: those below the head's cylinder are one sweep
-- later. Tickets are counted along it, since at one cylinder of one sweep it is in order of joining.
abbrev pub waiting_from : {A : Type 0} → (A → ℕ) → ℕ → ℕ → List A → List (Waiting A)
waiting_from cylinder_of head ticket [] = []
waiting_from cylinder_of head ticket (x ∷ xs) = record {
  request = x;
  sweep = if nat_lt (cylinder_of x) head then 1 else 0;
  cylinder = cylinder_of x;
  ticket = ticket;
} ∷ waiting_from cylinder_of head (ticket + 1) xs

abbrev pub service_of : {A : Type 0} → (A → ℕ) → List A → Service A
service_of cylinder_of [] = empty_service
service_of cylinder_of (x ∷ xs) = record {
  waiting = waiting_from cylinder_of (cylinder_of x) 0 (x ∷ xs);
  joined = length (x ∷ xs);
}

-- a queue in service order: to sort it changes nothing
abbrev pub IsInOrder : {A : Type 0} → (A → ℕ) → List A → Type 0
IsInOrder cylinder_of queue = service_order (service_of cylinder_of queue).waiting ≡ (service_of cylinder_of queue).waiting

-- the queue with one more
unfoldable pub queue_with : {A : Type 0} → (A → ℕ) → A → List A → List A
queue_with cylinder_of x queue = queue_of (after_join cylinder_of x (service_of cylinder_of queue))

-- The same as two ascending runs: those not below the head's cylinder, and then those below it. One that joins goes into
-- its run, behind those of equal cylinder.
abbrev pub first_run : {A : Type 0} → (A → ℕ) → ℕ → List A → List A
first_run cylinder_of head queue = filter (λ x. not (nat_lt (cylinder_of x) head)) queue

abbrev pub second_run : {A : Type 0} → (A → ℕ) → ℕ → List A → List A
second_run cylinder_of head queue = filter (λ x. nat_lt (cylinder_of x) head) queue

abbrev pub put_behind : {A : Type 0} → (A → ℕ) → A → List A → List A
put_behind cylinder_of x [] = x ∷ []
put_behind cylinder_of x (y ∷ ys) = if nat_lt (cylinder_of x) (cylinder_of y) then x ∷ y ∷ ys else y ∷ put_behind cylinder_of x ys

abbrev pub put_in_run : {A : Type 0} → (A → ℕ) → ℕ → A → List A → List A
put_in_run cylinder_of head x queue =
    if nat_lt (cylinder_of x) head
    then first_run cylinder_of head queue ++ put_behind cylinder_of x (second_run cylinder_of head queue)
    else put_behind cylinder_of x (first_run cylinder_of head queue) ++ second_run cylinder_of head queue

abbrev pub in_runs : {A : Type 0} → (A → ℕ) → A → List A → List A
in_runs cylinder_of x [] = x ∷ []
in_runs cylinder_of x (y ∷ ys) = put_in_run cylinder_of (cylinder_of y) x (y ∷ ys)
