-- The service order as two ascending runs: what an insertion behind all that are served before makes of a sorted queue.
use Rattle.std.proofs.Common.{◌≡◌, ℕ, ◌+◌, ◌<◌, ◌≤◌, nat_lt, Bool, true, false, not, ◌&&◌, ◌||◌, if◌then◌else◌, List, [], ◌∷◌, map, drop, length, refl, sym, ◌∙◌, ap, subst, arith}
use Rattle.std.proofs.lemmas.Bool.{cond_both, cond-true, cond-false}
use Rattle.std.proofs.lemmas.Bool.Decides.{nat_tests}
use Rattle.std.specs.List.{AllByRecursion}
use Rattle.trace_replay.specs.requests.ServiceOrder.{Waiting, is_before, put, service_order, Service, empty_service, sweep_for, after_join, after_leave, queue_of, waiting_from, service_of, queue_with, IsInOrder}

-- what holds of each element
pub each_weaker : {A : Type 0} (P Q : A → Type 0) → ((x : A) → P x → Q x) → (xs : List A) → AllByRecursion P xs → AllByRecursion Q xs
each_weaker P Q f [] h = tt
each_weaker P Q f (x ∷ xs) h = (f x h.0, each_weaker P Q f xs h.1)

pub each_both : {A : Type 0} (P Q R : A → Type 0) → ((x : A) → P x → Q x → R x) → (xs : List A) → AllByRecursion P xs → AllByRecursion Q xs → AllByRecursion R xs
each_both P Q R f [] h k = tt
each_both P Q R f (x ∷ xs) h k = (f x h.0 k.0, each_both P Q R f xs h.1 k.1)

pub each-put : {A : Type 0} (P : Waiting A → Type 0) (x : Waiting A) (ys : List (Waiting A)) → P x → AllByRecursion P ys → AllByRecursion P (put x ys)
each-put P x [] p h = (p, tt)
each-put P x (y ∷ ys) p h =
    cond_both (is_before y x) (y ∷ put x ys) (x ∷ y ∷ ys) (AllByRecursion P) (λ _. (h.0, each-put P x ys p h.1)) (λ _. (p, h))

-- the key's order
pub before_asymmetric : {A : Type 0} (x y : Waiting A) → is_before x y ≡ true → is_before y x ≡ false
before_asymmetric x y h = grind (arith, nat_tests)

pub not_before_along : {A : Type 0} (x y z : Waiting A) → is_before y x ≡ false → is_before z y ≡ false → is_before z x ≡ false
not_before_along x y z h k = grind (arith, nat_tests)

-- each comes no later than those behind it
abbrev pub Ascends : {A : Type 0} → List (Waiting A) → Type 0
Ascends [] = Unit {0}
Ascends (x ∷ xs) = AllByRecursion (λ y. is_before y x ≡ false) xs × Ascends xs

pub put-ascends : {A : Type 0} (x : Waiting A) (ys : List (Waiting A)) → Ascends ys → Ascends (put x ys)
put-ascends x [] h = (tt, tt)
put-ascends x (y ∷ ys) h =
    cond_both (is_before y x) (y ∷ put x ys) (x ∷ y ∷ ys) Ascends
    (λ e. (each-put _ x ys (before_asymmetric y x e) h.0, put-ascends x ys h.1))
    (λ e. ((e, each_weaker _ _ (λ z k. not_before_along x y z e k) ys h.0), h))

pub service_order-ascends : {A : Type 0} (xs : List (Waiting A)) → Ascends (service_order xs)
service_order-ascends [] = tt
service_order-ascends (x ∷ xs) = put-ascends x (service_order xs) (service_order-ascends xs)

-- a list that ascends is its own sort
pub put-first : {A : Type 0} (x : Waiting A) (ys : List (Waiting A)) → AllByRecursion (λ y. is_before y x ≡ false) ys → put x ys ≡ x ∷ ys
put-first x [] h = refl
put-first x (y ∷ ys) h = cond-false _ _ _ h.0

pub service_order-same : {A : Type 0} (xs : List (Waiting A)) → Ascends xs → service_order xs ≡ xs
service_order-same [] h = refl
service_order-same (x ∷ xs) h = ap (put x) (service_order-same xs h.1) ∙ put-first x xs h.0

-- Seen from the head, whether one that joins at x is served before one that waits at y.
abbrev pub goes_before : ℕ → ℕ → ℕ → Bool
goes_before head x y = if nat_lt x head then nat_lt y head && nat_lt x y else nat_lt y head || nat_lt x y

-- one insertion, behind all that are served before
abbrev pub put_in : {A : Type 0} → (A → ℕ) → ℕ → A → List A → List A
put_in c head x [] = x ∷ []
put_in c head x (y ∷ ys) = if goes_before head (c x) (c y) then x ∷ y ∷ ys else y ∷ put_in c head x ys

abbrev pub inserted : {A : Type 0} → (A → ℕ) → A → List A → List A
inserted c x [] = x ∷ []
inserted c x (y ∷ ys) = y ∷ put_in c (c y) x ys

-- One that waits behind a head at cylinder h with sweep s, where t have joined.
pub record IsPlaced {A : Type 0} (c : A → ℕ) (h s t : ℕ) (y : Waiting A) : Type 0 where
  pub same : c y.request ≡ y.cylinder
  pub sweep : y.sweep ≡ (if nat_lt y.cylinder h then s + 1 else s)
  pub ticket : y.ticket < t

abbrev pub ArePlaced : {A : Type 0} → (A → ℕ) → ℕ → List (Waiting A) → Type 0
ArePlaced c t [] = Unit {0}
ArePlaced c t (x ∷ xs) = AllByRecursion (IsPlaced c x.cylinder x.sweep t) (x ∷ xs)

pub record IsService {A : Type 0} (c : A → ℕ) (service : Service A) : Type 0 where
  pub placed : ArePlaced c service.joined service.waiting
  pub ascends : Ascends service.waiting

pub empty-is : {A : Type 0} (c : A → ℕ) → IsService c (empty_service {A = A})
empty-is c = record { placed = tt; ascends = tt }

-- the one that joins
abbrev pub newcomer : {A : Type 0} → (A → ℕ) → A → ℕ → List (Waiting A) → Waiting A
newcomer c x t waiting = record { request = x; sweep = sweep_for (c x) waiting; cylinder = c x; ticket = t }

placed-later : {A : Type 0} (c : A → ℕ) (h s t : ℕ) (y : Waiting A) → IsPlaced c h s t y → IsPlaced c h s (t + 1) y
placed-later c h s t y p = record { same = p.same; sweep = p.sweep; ticket = omega arith }

not_below : (n s : ℕ) → s ≡ (if nat_lt n n then s + 1 else s)
not_below n s = grind (arith, nat_tests)

first-stays : {A : Type 0} (c : A → ℕ) (x : A) (t : ℕ) (y : Waiting A) (ys : List (Waiting A)) → IsPlaced c y.cylinder y.sweep t y
    → is_before y (newcomer c x t (y ∷ ys)) ≡ true
first-stays c x t y ys p = grind (arith, nat_tests)

join-placed : {A : Type 0} (c : A → ℕ) (x : A) (t : ℕ) (ys : List (Waiting A)) → ArePlaced c t ys
    → ArePlaced c (t + 1) (put (newcomer c x t ys) ys)
join-placed c x t [] h = (record { same = refl; sweep = not_below (c x) 0; ticket = omega arith }, tt)
join-placed c x t (y ∷ ys) h =
    let n = newcomer c x t (y ∷ ys) in
    let e : put n (y ∷ ys) ≡ y ∷ put n ys = cond-true _ _ _ (first-stays c x t y ys h.0) in
    let new : IsPlaced c y.cylinder y.sweep (t + 1) n = record { same = refl; sweep = refl; ticket = omega arith } in
    subst (ArePlaced c (t + 1)) (sym e)
    (placed-later c _ _ t y h.0, each-put _ n ys new (each_weaker _ _ (λ z p. placed-later c _ _ t z p) ys h.1))

pub after_join-waiting : {A : Type 0} (c : A → ℕ) (x : A) (s : Service A) → IsService c s
    → (after_join c x s).waiting ≡ put (newcomer c x s.joined s.waiting) s.waiting
after_join-waiting c x s h = ap (put (newcomer c x s.joined s.waiting)) (service_order-same s.waiting h.ascends)

pub after_join-is : {A : Type 0} (c : A → ℕ) (x : A) (s : Service A) → IsService c s → IsService c (after_join c x s)
after_join-is c x s h = record {
  placed = subst (ArePlaced c (s.joined + 1)) (sym (after_join-waiting c x s h)) (join-placed c x s.joined s.waiting h.placed);
  ascends = service_order-ascends (newcomer c x s.joined s.waiting ∷ s.waiting);
}

-- the head leaves
leave-sweep : {A : Type 0} (c : A → ℕ) (t : ℕ) (x y z : Waiting A) → IsPlaced c x.cylinder x.sweep t y → IsPlaced c x.cylinder x.sweep t z
    → is_before y x ≡ false → is_before z y ≡ false → z.sweep ≡ (if nat_lt z.cylinder y.cylinder then y.sweep + 1 else y.sweep)
leave-sweep c t x y z p q h k = grind (arith, nat_tests)

leave-placed : {A : Type 0} (c : A → ℕ) (t : ℕ) (xs : List (Waiting A)) → ArePlaced c t xs → Ascends xs → ArePlaced c t (drop 1 xs)
leave-placed c t [] h a = tt
leave-placed c t (x ∷ []) h a = tt
leave-placed c t (x ∷ y ∷ ys) h a = (
  record { same = h.1.0.same; sweep = not_below y.cylinder y.sweep; ticket = h.1.0.ticket },
  each_both _ _ (IsPlaced c y.cylinder y.sweep t)
      (λ z p k. record { same = p.same; sweep = leave-sweep c t x y z h.1.0 p a.0.0 k; ticket = p.ticket }) ys h.1.1 a.1.0,
)

leave-ascends : {A : Type 0} (xs : List (Waiting A)) → Ascends xs → Ascends (drop 1 xs)
leave-ascends [] h = tt
leave-ascends (x ∷ xs) h = h.1

pub after_leave-is : {A : Type 0} (c : A → ℕ) (s : Service A) → IsService c s → IsService c (after_leave s)
after_leave-is c s h = record { placed = leave-placed c s.joined s.waiting h.placed h.ascends; ascends = leave-ascends s.waiting h.ascends }

-- what an insertion makes of the requests
before-runs : {A : Type 0} (c : A → ℕ) (h s t : ℕ) (n y : Waiting A) → IsPlaced c h s t y → c n.request ≡ n.cylinder
    → n.sweep ≡ (if nat_lt n.cylinder h then s + 1 else s) → t ≤ n.ticket
    → goes_before h (c n.request) (c y.request) ≡ not (is_before y n)
before-runs c h s t n y p same sweep ticket = rw (same, p.same) (grind (arith, nat_tests))

by_test : {A : Type 0} (b g : Bool) (n y : Waiting A) (ys : List (Waiting A)) (zs : List A) → g ≡ not b → map (λ w. w.request) (put n ys) ≡ zs
    → map (λ w. w.request) (if b then y ∷ put n ys else n ∷ y ∷ ys) ≡ (if g then n.request ∷ y.request ∷ map (λ w. w.request) ys else y.request ∷ zs)
by_test true g n y ys zs e h = rw e (ap (λ l. y.request ∷ l) h)
by_test false g n y ys zs e h = rw e refl

pub map-put : {A : Type 0} (c : A → ℕ) (h s t : ℕ) (n : Waiting A) → c n.request ≡ n.cylinder
    → n.sweep ≡ (if nat_lt n.cylinder h then s + 1 else s) → t ≤ n.ticket → (ys : List (Waiting A)) → AllByRecursion (IsPlaced c h s t) ys
    → map (λ w. w.request) (put n ys) ≡ put_in c h n.request (map (λ w. w.request) ys)
map-put c h s t n same sweep ticket [] all = refl
map-put c h s t n same sweep ticket (y ∷ ys) all =
    by_test (is_before y n) (goes_before h (c n.request) (c y.request)) n y ys _ (before-runs c h s t n y all.0 same sweep ticket)
    (map-put c h s t n same sweep ticket ys all.1)

join-runs : {A : Type 0} (c : A → ℕ) (x : A) (t : ℕ) (ys : List (Waiting A)) → ArePlaced c t ys
    → map (λ w. w.request) (put (newcomer c x t ys) ys) ≡ inserted c x (map (λ w. w.request) ys)
join-runs c x t [] h = refl
join-runs c x t (y ∷ ys) h =
    let n = newcomer c x t (y ∷ ys) in
    let e : put n (y ∷ ys) ≡ y ∷ put n ys = cond-true _ _ _ (first-stays c x t y ys h.0) in
    ap (map (λ w. w.request)) e ∙
    ap (λ l. y.request ∷ l)
    (map-put c y.cylinder y.sweep t n refl refl (omega arith) ys h.1 ∙ ap (λ k. put_in c k x (map (λ w. w.request) ys)) (sym h.0.same))

pub queue_of-after_join : {A : Type 0} (c : A → ℕ) (x : A) (s : Service A) → IsService c s → queue_of (after_join c x s) ≡ inserted c x (queue_of s)
queue_of-after_join c x s h =
    ap (map (λ w. w.request)) (after_join-waiting c x s h) ∙ join-runs c x s.joined s.waiting h.placed

pub queue_of-after_leave : {A : Type 0} (s : Service A) → queue_of (after_leave s) ≡ drop 1 (queue_of s)
queue_of-after_leave s = at s.waiting where
  at : {A : Type 0} (ws : List (Waiting A)) → map (λ w. w.request) (drop 1 ws) ≡ drop 1 (map (λ w. w.request) ws)
  at [] = refl
  at (w ∷ ws) = refl

-- a queue, with its sweeps counted from the head's
waiting_from-placed : {A : Type 0} (c : A → ℕ) (h k t : ℕ) (q : List A) → k + length q ≤ t → AllByRecursion (IsPlaced c h 0 t) (waiting_from c h k q)
waiting_from-placed c h k t [] le = tt
waiting_from-placed c h k t (x ∷ xs) le =
    (record { same = refl; sweep = refl; ticket = omega arith }, waiting_from-placed c h (k + 1) t xs (omega arith))

service_of-placed : {A : Type 0} (c : A → ℕ) (q : List A) → ArePlaced c (service_of c q).joined (service_of c q).waiting
service_of-placed c [] = tt
service_of-placed c (x ∷ xs) =
    subst (λ s. AllByRecursion (IsPlaced c (c x) s (length (x ∷ xs))) (waiting_from c (c x) 0 (x ∷ xs))) (not_below (c x) 0)
    (waiting_from-placed c (c x) 0 (length (x ∷ xs)) (x ∷ xs) (omega arith))

map-waiting_from : {A : Type 0} (c : A → ℕ) (h k : ℕ) (q : List A) → map (λ w. w.request) (waiting_from c h k q) ≡ q
map-waiting_from c h k [] = refl
map-waiting_from c h k (x ∷ xs) = ap (λ l. x ∷ l) (map-waiting_from c h (k + 1) xs)

pub queue_of-service_of : {A : Type 0} (c : A → ℕ) (q : List A) → queue_of (service_of c q) ≡ q
queue_of-service_of c [] = refl
queue_of-service_of c (x ∷ xs) = map-waiting_from c (c x) 0 (x ∷ xs)

-- the same order, with the sweeps counted anew
abbrev pub counted : {A : Type 0} → (A → ℕ) → ℕ → ℕ → A → Waiting A
counted c h k x = record { request = x; sweep = if nat_lt (c x) h then 1 else 0; cylinder = c x; ticket = k }

counted-behind : {A : Type 0} (c : A → ℕ) (h s t j k : ℕ) (x y : Waiting A) → IsPlaced c h s t x → IsPlaced c h s t y → is_before y x ≡ false → k < j
    → is_before (counted c h j y.request) (counted c h k x.request) ≡ false
counted-behind c h s t j k x y p q e lt = rw (p.same, q.same) (grind (arith, nat_tests))

counted-all : {A : Type 0} (c : A → ℕ) (h s t j k : ℕ) (x : Waiting A) → IsPlaced c h s t x → k < j → (ys : List (Waiting A))
    → AllByRecursion (IsPlaced c h s t) ys → AllByRecursion (λ y. is_before y x ≡ false) ys
    → AllByRecursion (λ y. is_before y (counted c h k x.request) ≡ false) (waiting_from c h j (map (λ w. w.request) ys))
counted-all c h s t j k x p lt [] all up = tt
counted-all c h s t j k x p lt (y ∷ ys) all up =
    (counted-behind c h s t j k x y p all.0 up.0 lt, counted-all c h s t (j + 1) k x p (omega arith) ys all.1 up.1)

counted-ascends : {A : Type 0} (c : A → ℕ) (h s t k : ℕ) (ys : List (Waiting A)) → AllByRecursion (IsPlaced c h s t) ys → Ascends ys
    → Ascends (waiting_from c h k (map (λ w. w.request) ys))
counted-ascends c h s t k [] all up = tt
counted-ascends c h s t k (y ∷ ys) all up =
    (counted-all c h s t (k + 1) k y all.0 (omega arith) ys all.1 up.0, counted-ascends c h s t (k + 1) ys all.1 up.1)

service_of-ascends : {A : Type 0} (c : A → ℕ) (t : ℕ) (ys : List (Waiting A)) → ArePlaced c t ys → Ascends ys
    → Ascends (service_of c (map (λ w. w.request) ys)).waiting
service_of-ascends c t [] all up = tt
service_of-ascends c t (y ∷ ys) all up =
    subst (λ h. Ascends (waiting_from c h 0 (y.request ∷ map (λ w. w.request) ys))) (sym all.0.same)
    (counted-ascends c y.cylinder y.sweep t 0 (y ∷ ys) all up)

-- the queue of a service tells all that the order needs
pub service_of-queue_of-is : {A : Type 0} (c : A → ℕ) (s : Service A) → IsService c s → IsService c (service_of c (queue_of s))
service_of-queue_of-is c s h = record { placed = service_of-placed c (queue_of s); ascends = service_of-ascends c s.joined s.waiting h.placed h.ascends }

pub service_of-is : {A : Type 0} (c : A → ℕ) (q : List A) → IsInOrder c q → IsService c (service_of c q)
service_of-is c q h = record {
  placed = service_of-placed c q;
  ascends = subst Ascends h (service_order-ascends (service_of c q).waiting);
}

-- none goes before one that stands in front of it
abbrev pub AreRuns : {A : Type 0} → (A → ℕ) → ℕ → List A → Type 0
AreRuns c h [] = Unit {0}
AreRuns c h (x ∷ xs) = AllByRecursion (λ y. goes_before h (c y) (c x) ≡ false) xs × AreRuns c h xs

runs-behind : {A : Type 0} (c : A → ℕ) (h s t : ℕ) (x y : Waiting A) → IsPlaced c h s t x → IsPlaced c h s t y → is_before y x ≡ false
    → goes_before h (c y.request) (c x.request) ≡ false
runs-behind c h s t x y p q e = rw (p.same, q.same) (grind (arith, nat_tests))

runs-all : {A : Type 0} (c : A → ℕ) (h s t : ℕ) (x : Waiting A) → IsPlaced c h s t x → (ys : List (Waiting A))
    → AllByRecursion (IsPlaced c h s t) ys → AllByRecursion (λ y. is_before y x ≡ false) ys
    → AllByRecursion (λ y. goes_before h (c y) (c x.request) ≡ false) (map (λ w. w.request) ys)
runs-all c h s t x p [] all up = tt
runs-all c h s t x p (y ∷ ys) all up = (runs-behind c h s t x y p all.0 up.0, runs-all c h s t x p ys all.1 up.1)

runs-ascend : {A : Type 0} (c : A → ℕ) (h s t : ℕ) (ys : List (Waiting A)) → AllByRecursion (IsPlaced c h s t) ys → Ascends ys
    → AreRuns c h (map (λ w. w.request) ys)
runs-ascend c h s t [] all up = tt
runs-ascend c h s t (y ∷ ys) all up = (runs-all c h s t y all.0 ys all.1 up.0, runs-ascend c h s t ys all.1 up.1)

pub are_runs : {A : Type 0} (c : A → ℕ) (x : A) (xs : List A) → IsInOrder c (x ∷ xs) → AreRuns c (c x) (x ∷ xs)
are_runs c x xs h =
    let is : IsService c (service_of c (x ∷ xs)) = service_of-is c (x ∷ xs) h in
    let w : Waiting _ = counted c (c x) 0 x in
    subst (AreRuns c (c x)) (queue_of-service_of c (x ∷ xs))
    (runs-ascend c (c x) w.sweep (length (x ∷ xs)) (service_of c (x ∷ xs)).waiting is.placed is.ascends)

pub queue_with-inserted : {A : Type 0} (c : A → ℕ) (x : A) (q : List A) → IsInOrder c q → queue_with c x q ≡ inserted c x q
unfolding queue_with
queue_with-inserted c x q h =
    queue_of-after_join c x (service_of c q) (service_of-is c q h) ∙ ap (inserted c x) (queue_of-service_of c q)

-- The law: what joins and leaves a service, joins and leaves its queue.
pub queue_of-in_order : {A : Type 0} (c : A → ℕ) (s : Service A) → IsService c s → IsInOrder c (queue_of s)
queue_of-in_order c s h = service_order-same _ (service_of-queue_of-is c s h).ascends

pub queue_with-in_order : {A : Type 0} (c : A → ℕ) (x : A) (q : List A) → IsInOrder c q → IsInOrder c (queue_with c x q)
unfolding queue_with
queue_with-in_order c x q h = queue_of-in_order c (after_join c x (service_of c q)) (after_join-is c x (service_of c q) (service_of-is c q h))

pub drop-in_order : {A : Type 0} (c : A → ℕ) (q : List A) → IsInOrder c q → IsInOrder c (drop 1 q)
drop-in_order c q h =
    subst (IsInOrder c) (queue_of-after_leave (service_of c q) ∙ ap (drop 1) (queue_of-service_of c q))
    (queue_of-in_order c (after_leave (service_of c q)) (after_leave-is c (service_of c q) (service_of-is c q h)))

pub empty-in_order : {A : Type 0} (c : A → ℕ) → IsInOrder {A = A} c []
empty-in_order c = refl
