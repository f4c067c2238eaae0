-- Where one that joins goes in two runs that stand one behind the other.
use Rattle.std.proofs.Common.{◌≡◌, ℕ, ◌<◌, ◌≤◌, true, false, not, List, [], ◌∷◌, ◌++◌, refl, sym, ◌∙◌, ap}
use Rattle.std.proofs.lemmas.Bool.{cond-true, cond-false, lt-ltb, le-ltb}
use Rattle.disksort.specs.declared.Waiter.{Waiter}
use Rattle.disksort.specs.SortQueue.{cylinder_of}
use Rattle.disksort.proofs.Spells.{Each}
use Rattle.trace_replay.specs.requests.ServiceOrder.{IsInOrder, queue_with, first_run, second_run, put_behind, put_in_run, in_runs}
use Rattle.trace_replay.proofs.requests.ServiceOrderLaws.{queue_with-runs, queue_with-empty}

first-of : (h : ℕ) (F S : List Waiter) → Each (λ w. h ≤ w.cylinder) F → Each (λ w. w.cylinder < h) S → first_run cylinder_of h (F ++ S) ≡ F
first-of h [] [] f s = refl
first-of h [] (w ∷ S) f s = cond-false _ _ _ (ap not (lt-ltb w.cylinder h s.0)) ∙ first-of h [] S f s.1
first-of h (w ∷ F) S f s = cond-true _ _ _ (ap not (le-ltb w.cylinder h f.0)) ∙ ap (λ l. w ∷ l) (first-of h F S f.1 s)

second-of : (h : ℕ) (F S : List Waiter) → Each (λ w. h ≤ w.cylinder) F → Each (λ w. w.cylinder < h) S → second_run cylinder_of h (F ++ S) ≡ S
second-of h [] [] f s = refl
second-of h [] (w ∷ S) f s = cond-true _ _ _ (lt-ltb w.cylinder h s.0) ∙ ap (λ l. w ∷ l) (second-of h [] S f s.1)
second-of h (w ∷ F) S f s = cond-false _ _ _ (le-ltb w.cylinder h f.0) ∙ second-of h F S f.1 s

in-runs : (x y : Waiter) (queue ys : List Waiter) → queue ≡ y ∷ ys → in_runs cylinder_of x queue ≡ put_in_run cylinder_of y.cylinder x queue
in-runs x y queue ys e = ap (in_runs cylinder_of x) e ∙ ap (put_in_run cylinder_of y.cylinder x) (sym e)

pub join-second : (F S ys : List Waiter) (x y : Waiter) → F ++ S ≡ y ∷ ys → Each (λ w. y.cylinder ≤ w.cylinder) F → Each (λ w. w.cylinder < y.cylinder) S
    → IsInOrder cylinder_of (F ++ S) → x.cylinder < y.cylinder → queue_with cylinder_of x (F ++ S) ≡ F ++ put_behind cylinder_of x S
join-second F S ys x y e f s order lt =
    queue_with-runs cylinder_of x (F ++ S) order ∙ in-runs x y (F ++ S) ys e ∙ cond-true _ _ _ (lt-ltb x.cylinder y.cylinder lt)
    ∙ ap (λ l. l ++ put_behind cylinder_of x (second_run cylinder_of y.cylinder (F ++ S))) (first-of y.cylinder F S f s)
    ∙ ap (λ l. F ++ put_behind cylinder_of x l) (second-of y.cylinder F S f s)

pub join-first : (F S ys : List Waiter) (x y : Waiter) → F ++ S ≡ y ∷ ys → Each (λ w. y.cylinder ≤ w.cylinder) F → Each (λ w. w.cylinder < y.cylinder) S
    → IsInOrder cylinder_of (F ++ S) → y.cylinder ≤ x.cylinder → queue_with cylinder_of x (F ++ S) ≡ put_behind cylinder_of x F ++ S
join-first F S ys x y e f s order le =
    queue_with-runs cylinder_of x (F ++ S) order ∙ in-runs x y (F ++ S) ys e ∙ cond-false _ _ _ (le-ltb x.cylinder y.cylinder le)
    ∙ ap (λ l. put_behind cylinder_of x l ++ second_run cylinder_of y.cylinder (F ++ S)) (first-of y.cylinder F S f s)
    ∙ ap (λ l. put_behind cylinder_of x F ++ l) (second-of y.cylinder F S f s)

pub join-empty : (F S : List Waiter) (x : Waiter) → F ≡ [] → S ≡ [] → queue_with cylinder_of x (F ++ S) ≡ put_behind cylinder_of x F ++ S
join-empty F S x f s =
    ap (λ l. queue_with cylinder_of x (l ++ S)) f ∙ ap (λ l. queue_with cylinder_of x l) s ∙ queue_with-empty cylinder_of x
    ∙ sym (ap (λ l. put_behind cylinder_of x l ++ S) f ∙ ap (λ l. (x ∷ []) ++ l) s)
