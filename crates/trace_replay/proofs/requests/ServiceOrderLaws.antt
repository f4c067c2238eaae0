-- Laws of the service order: the sort, the two runs, and how a queue with one more looks.
use Rattle.std.proofs.Common.{◌≡◌, ℕ, ◌+◌, nat_lt, Bool, true, false, not, ◌&&◌, ◌||◌, cond, List, [], ◌∷◌, ◌++◌, length, refl, sym, ◌∙◌, ap, subst, arith}
use Rattle.std.proofs.lemmas.Bool.{cond_both, cond-true, cond-false}
use Rattle.std.proofs.lemmas.Bool.Decides.{nat_tests}
use Rattle.std.proofs.lemmas.List.Sorted.{IsPermutation-refl, IsPermutation-cons, IsPermutation-trans, IsPermutation-middle, IsPermutation-map, length_permutation, All-permutation}
use Rattle.std.proofs.lemmas.List.Elements.{All-cons}
use Rattle.std.specs.List.{All, AllByRecursion}
use Rattle.std.specs.List.Sorted.{IsPermutation}
use Rattle.trace_replay.specs.requests.ServiceOrder.{Waiting, is_before, put, service_order, after_join, queue_of, service_of, queue_with, IsInOrder, first_run, second_run, put_behind, put_in_run, in_runs}
use Rattle.trace_replay.proofs.requests.ServiceOrderRuns.{goes_before, put_in, inserted, AreRuns, are_runs, newcomer, queue_with-inserted, queue_of-service_of}

-- the sort: the same elements, and in order
put-permutation : {A : Type 0} (x : Waiting A) (ys : List (Waiting A)) → IsPermutation (x ∷ ys) (put x ys)
put-permutation x [] = IsPermutation-refl (x ∷ [])
put-permutation x (y ∷ ys) =
    cond_both (is_before y x) (y ∷ put x ys) (x ∷ y ∷ ys) (IsPermutation (x ∷ y ∷ ys))
    (λ _. IsPermutation-trans (x ∷ y ∷ ys) (y ∷ x ∷ ys) (y ∷ put x ys) (IsPermutation-middle (x ∷ []) y ys)
    (IsPermutation-cons y (x ∷ ys) (put x ys) (put-permutation x ys)))
    (λ _. IsPermutation-refl (x ∷ y ∷ ys))

pub service_order-permutation : {A : Type 0} (xs : List (Waiting A)) → IsPermutation xs (service_order xs)
service_order-permutation [] = IsPermutation-refl []
service_order-permutation (x ∷ xs) =
    IsPermutation-trans (x ∷ xs) (x ∷ service_order xs) (put x (service_order xs))
    (IsPermutation-cons x xs (service_order xs) (service_order-permutation xs)) (put-permutation x (service_order xs))

-- a queue with one more holds those of the queue and the one
pub queue_with-permutation : {A : Type 0} (c : A → ℕ) (x : A) (q : List A) → IsPermutation (x ∷ q) (queue_with c x q)
unfolding queue_with
queue_with-permutation c x q =
    let s = service_of c q in
    subst (λ l. IsPermutation (x ∷ l) (queue_of (after_join c x s))) (queue_of-service_of c q)
    (IsPermutation-map (λ w. w.request) (newcomer c x s.joined s.waiting ∷ s.waiting) (after_join c x s).waiting
    (service_order-permutation (newcomer c x s.joined s.waiting ∷ s.waiting)))

pub length-queue_with : {A : Type 0} (c : A → ℕ) (x : A) (q : List A) → length (queue_with c x q) ≡ length q + 1
length-queue_with c x q = omega (arith, length_permutation (x ∷ q) (queue_with c x q) (queue_with-permutation c x q))

pub All-queue_with : {A : Type 0} (P : A → Type 0) (c : A → ℕ) (x : A) (q : List A) → P x → All P q → All P (queue_with c x q)
All-queue_with P c x q p all = All-permutation P (x ∷ q) (queue_with c x q) (queue_with-permutation c x q) (All-cons P x q p all)

pub queue_with-empty : {A : Type 0} (c : A → ℕ) (x : A) → queue_with c x [] ≡ x ∷ []
unfolding queue_with
queue_with-empty c x = refl

-- the head of a queue stays its head
pub queue_with-head : {A : Type 0} (c : A → ℕ) (x y : A) (ys : List A) → IsInOrder c (y ∷ ys) → queue_with c x (y ∷ ys) ≡ y ∷ put_in c (c y) x ys
queue_with-head c x y ys h = queue_with-inserted c x (y ∷ ys) h

-- the two runs
below-behind : (h y z : ℕ) → goes_before h z y ≡ false → nat_lt y h ≡ true → nat_lt z h ≡ true
below-behind h y z e k = grind (arith, nat_tests)

below-all : {A : Type 0} (c : A → ℕ) (h : ℕ) (y : A) (zs : List A) → AllByRecursion (λ z. goes_before h (c z) (c y) ≡ false) zs → nat_lt (c y) h ≡ true
    → AllByRecursion (λ z. nat_lt (c z) h ≡ true) zs
below-all c h y [] all e = tt
below-all c h y (z ∷ zs) all e = (below-behind h (c y) (c z) all.0 e, below-all c h y zs all.1 e)

first-none : {A : Type 0} (c : A → ℕ) (h : ℕ) (zs : List A) → AllByRecursion (λ z. nat_lt (c z) h ≡ true) zs → first_run c h zs ≡ []
first-none c h [] all = refl
first-none c h (z ∷ zs) all = cond-false _ _ _ (ap not all.0) ∙ first-none c h zs all.1

second-all : {A : Type 0} (c : A → ℕ) (h : ℕ) (zs : List A) → AllByRecursion (λ z. nat_lt (c z) h ≡ true) zs → second_run c h zs ≡ zs
second-all c h [] all = refl
second-all c h (z ∷ zs) all = cond-true _ _ _ all.0 ∙ ap (λ l. z ∷ l) (second-all c h zs all.1)

join-step : {A : Type 0} (b : Bool) (y : A) (ys F S : List A) → (b ≡ true → F ≡ []) → (b ≡ true → S ≡ ys) → F ++ S ≡ ys
    → cond (not b) (y ∷ F) F ++ cond b (y ∷ S) S ≡ y ∷ ys
join-step true y ys F S f s fs = rw (f refl, s refl) refl
join-step false y ys F S f s fs = ap (λ l. y ∷ l) fs

pub runs-joined : {A : Type 0} (c : A → ℕ) (h : ℕ) (ys : List A) → AreRuns c h ys → first_run c h ys ++ second_run c h ys ≡ ys
runs-joined c h [] runs = refl
runs-joined c h (y ∷ ys) runs =
    join-step (nat_lt (c y) h) y ys (first_run c h ys) (second_run c h ys) (λ e. first-none c h ys (below-all c h y ys runs.0 e))
    (λ e. second-all c h ys (below-all c h y ys runs.0 e)) (runs-joined c h ys runs.1)

put-step : {A : Type 0} (a b t : Bool) (x y : A) (ys F S PF PS PI : List A) → (b ≡ true → F ≡ []) → (b ≡ true → S ≡ ys) → F ++ S ≡ ys
    → (b ≡ true → PF ≡ x ∷ []) → PI ≡ cond a (F ++ PS) (PF ++ S)
    → cond (cond a (b && t) (b || t)) (x ∷ y ∷ ys) (y ∷ PI)
    ≡ cond a (cond (not b) (y ∷ F) F ++ cond b (cond t (x ∷ y ∷ S) (y ∷ PS)) PS) (cond (not b) (cond t (x ∷ y ∷ F) (y ∷ PF)) PF ++ cond b (y ∷ S) S)
put-step true true true x y ys F S PF PS PI f s fs pf e = rw (f refl, s refl) refl
put-step true true false x y ys F S PF PS PI f s fs pf e = rw (e, f refl) refl
put-step true false t x y ys F S PF PS PI f s fs pf e = rw e refl
put-step false true t x y ys F S PF PS PI f s fs pf e = rw (pf refl, s refl) refl
put-step false false true x y ys F S PF PS PI f s fs pf e = ap (λ l. x ∷ y ∷ l) (sym fs)
put-step false false false x y ys F S PF PS PI f s fs pf e = rw e refl

put_behind-cond : {A : Type 0} (c : A → ℕ) (b : Bool) (x y : A) (ys : List A)
    → put_behind c x (cond b (y ∷ ys) ys) ≡ cond b (cond (nat_lt (c x) (c y)) (x ∷ y ∷ ys) (y ∷ put_behind c x ys)) (put_behind c x ys)
put_behind-cond c true x y ys = refl
put_behind-cond c false x y ys = refl

pub put_in-runs : {A : Type 0} (c : A → ℕ) (h : ℕ) (x : A) (ys : List A) → AreRuns c h ys → put_in c h x ys ≡ put_in_run c h x ys
put_in-runs c h x [] runs = sym (cond_same (nat_lt (c x) h) (x ∷ [])) where
  cond_same : {A : Type 0} (b : Bool) (l : List A) → cond b l l ≡ l
  cond_same true l = refl
  cond_same false l = refl
put_in-runs c h x (y ∷ ys) runs =
    let all : nat_lt (c y) h ≡ true → AllByRecursion (λ z. nat_lt (c z) h ≡ true) ys = λ e. below-all c h y ys runs.0 e in
    put-step (nat_lt (c x) h) (nat_lt (c y) h) (nat_lt (c x) (c y)) x y ys (first_run c h ys) (second_run c h ys)
    (put_behind c x (first_run c h ys)) (put_behind c x (second_run c h ys)) (put_in c h x ys) (λ e. first-none c h ys (all e))
    (λ e. second-all c h ys (all e)) (runs-joined c h ys runs.1) (λ e. ap (put_behind c x) (first-none c h ys (all e)))
    (put_in-runs c h x ys runs.1) ∙
    sym
    (ap (λ l. cond (nat_lt (c x) h) (first_run c h (y ∷ ys) ++ l) (put_behind c x (first_run c h (y ∷ ys)) ++ second_run c h (y ∷ ys)))
    (put_behind-cond c (nat_lt (c y) h) x y (second_run c h ys)) ∙
    ap (λ l. cond (nat_lt (c x) h) (first_run c h (y ∷ ys) ++ cond (nat_lt (c y) h) (cond (nat_lt (c x) (c y)) (x ∷ y ∷ second_run c h ys) (y ∷ put_behind c x (second_run c h ys))) (put_behind c x (second_run c h ys))) (l ++ second_run c h (y ∷ ys)))
    (put_behind-cond c (not (nat_lt (c y) h)) x y (first_run c h ys)))

not_first : (n x : ℕ) → goes_before n x n ≡ false
not_first n x = grind (arith, nat_tests)

pub inserted-runs : {A : Type 0} (c : A → ℕ) (x : A) (q : List A) → IsInOrder c q → inserted c x q ≡ in_runs c x q
inserted-runs c x [] h = refl
inserted-runs c x (y ∷ ys) h = sym (cond-false _ _ _ (not_first (c y) (c x))) ∙ put_in-runs c (c y) x (y ∷ ys) (are_runs c y ys h)

pub queue_with-runs : {A : Type 0} (c : A → ℕ) (x : A) (q : List A) → IsInOrder c q → queue_with c x q ≡ in_runs c x q
queue_with-runs c x q h = queue_with-inserted c x q h ∙ inserted-runs c x q h
