-- A request joins the queue of its unit, as the replay and the machine keep it.
use Rattle.std.proofs.Common.{◌≡◌, ℕ, suc, List, [], ◌∷◌, map, refl, sym, subst, arith, rules}
use Rattle.std.specs.Prelude.{Contains}
use Rattle.std.specs.List.{AllByRecursion}
use Rattle.pack_geometry.specs.declared.DriveKind.{DriveKind}
use Rattle.disksort.specs.declared.Waiter.{Waiter}
use Rattle.trace_replay.specs.requests.ServiceOrder.{Waiting, Service, after_join, queue_with, IsInOrder}
use Rattle.trace_replay.proofs.requests.ServiceOrderRuns.{IsService, put_in, inserted, queue_with-inserted, queue_of-after_join}
use Rattle.trace_replay.specs.requests.Requests.{Request}
use Rattle.trace_replay.specs.Service.{cylinder_of}
use Rattle.driver_machine.specs.World.{Held}
use Rattle.driver_machine.specs.Guards.{IsHeldFor}
use Rattle.driver_laws.specs.shown.Shows.{Match}

pub each_of : {A : Type 0} (P : A → Type 0) (xs : List A) → ((x : A) → Contains xs x → P x) → AllByRecursion P xs
each_of P [] all = tt
each_of P (x ∷ xs) all =
    (all x (0, omega arith, refl), each_of P xs (λ y c. all y (suc c.0, omega (arith, c.1), c.2)))

-- the queue stays, where the slot of each that waits does
pub match_same : (held held' : ℕ → Held) (kind : DriveKind) (queue : List Waiter) (waiting : List (Waiting Request))
    → AllByRecursion (λ (x : Waiter). held x.number ≡ held' x.number) queue → Match held kind queue waiting → Match held' kind queue waiting
match_same held held' kind [] [] same match = tt
match_same held held' kind [] (y ∷ ys) same match = absurd match
match_same held held' kind (x ∷ xs) [] same match = absurd match
match_same held held' kind (x ∷ xs) (y ∷ ys) same match =
    (record { request = subst (IsHeldFor kind y.request) same.0 match.0.request; cylinder = match.0.cylinder }, match_same held held' kind xs ys same.1 match.1)

-- THE REQUESTS that wait, without their sweeps and tickets
pub record IsFor (held : ℕ → Held) (kind : DriveKind) (x : Waiter) (r : Request) : Type 0 where
  pub request : IsHeldFor kind r (held x.number)
  pub cylinder : cylinder_of kind r ≡ x.cylinder

abbrev pub MatchRequests : (ℕ → Held) → DriveKind → List Waiter → List Request → Type 0
MatchRequests held kind [] [] = Unit {0}
MatchRequests held kind (x ∷ xs) (r ∷ rs) = IsFor held kind x r × MatchRequests held kind xs rs
MatchRequests held kind xs rs = ⊥

pub requests_of : (held : ℕ → Held) (kind : DriveKind) (queue : List Waiter) (waiting : List (Waiting Request)) → Match held kind queue waiting
    → MatchRequests held kind queue (map (λ (w : Waiting Request). w.request) waiting)
requests_of held kind [] [] match = tt
requests_of held kind [] (y ∷ ys) match = absurd match
requests_of held kind (x ∷ xs) [] match = absurd match
requests_of held kind (x ∷ xs) (y ∷ ys) match =
    (record { request = match.0.request; cylinder = match.0.cylinder }, requests_of held kind xs ys match.1)

pub waiting_of : (held : ℕ → Held) (kind : DriveKind) (queue : List Waiter) (waiting : List (Waiting Request))
    → MatchRequests held kind queue (map (λ (w : Waiting Request). w.request) waiting) → Match held kind queue waiting
waiting_of held kind [] [] match = tt
waiting_of held kind [] (y ∷ ys) match = absurd match
waiting_of held kind (x ∷ xs) [] match = absurd match
waiting_of held kind (x ∷ xs) (y ∷ ys) match =
    (record { request = match.0.request; cylinder = match.0.cylinder }, waiting_of held kind xs ys match.1)

put_matches : (held : ℕ → Held) (kind : DriveKind) (head : ℕ) (x : Waiter) (r : Request) (xs : List Waiter) (rs : List Request) → IsFor held kind x r
    → MatchRequests held kind xs rs
    → MatchRequests held kind (put_in (λ (y : Waiter). y.cylinder) head x xs) (put_in (cylinder_of kind) head r rs)
put_matches held kind head x r [] [] is match = (is, tt)
put_matches held kind head x r [] (q ∷ rs) is match = absurd match
put_matches held kind head x r (y ∷ ys) [] is match = absurd match
put_matches held kind head x r (y ∷ ys) (q ∷ rs) is match = search (rules, put_matches held kind head x r ys rs is match.1)

inserted_matches : (held : ℕ → Held) (kind : DriveKind) (x : Waiter) (r : Request) (xs : List Waiter) (rs : List Request) → IsFor held kind x r
    → MatchRequests held kind xs rs → MatchRequests held kind (inserted (λ (y : Waiter). y.cylinder) x xs) (inserted (cylinder_of kind) r rs)
inserted_matches held kind x r [] [] is match = (is, tt)
inserted_matches held kind x r [] (q ∷ rs) is match = absurd match
inserted_matches held kind x r (y ∷ ys) [] is match = absurd match
inserted_matches held kind x r (y ∷ ys) (q ∷ rs) is match = (
  match.0,
  subst (λ c. MatchRequests held kind (put_in (λ (z : Waiter). z.cylinder) y.cylinder x ys) (put_in (cylinder_of kind) c r rs))
      (sym match.0.cylinder) (put_matches held kind y.cylinder x r ys rs is match.1),
)

-- A REQUEST JOINS on both sides.
pub match_joined : (held : ℕ → Held) (kind : DriveKind) (x : Waiter) (r : Request) (queue : List Waiter) (service : Service Request)
    → IsInOrder (λ (y : Waiter). y.cylinder) queue → IsService (cylinder_of kind) service → IsFor held kind x r
    → Match held kind queue service.waiting
    → Match held kind (queue_with (λ (y : Waiter). y.cylinder) x queue) (after_join (cylinder_of kind) r service).waiting
match_joined held kind x r queue service order sorted is match = search (rules, waiting_of, queue_with-inserted, inserted, queue_of-after_join, inserted_matches, requests_of)
