-- Numbers of a list, queues in service order, and lists of which one element changed.
use Rattle.std.proofs.Common.{◌≡◌, ◌≢◌, ◌⊎◌, inl, inr, ℕ, zero, suc, ◌<◌, List, [], ◌∷◌, ◌++◌, drop, length, map, set, get_or, refl, sym, ap, ◌∙◌, subst, arith, rules}
use Rattle.std.specs.Prelude.{Contains, slice_index_or}
use Rattle.std.proofs.lemmas.Bool.{cond_both}
use Rattle.disksort.specs.declared.Waiter.{Waiter}
use Rattle.trace_replay.specs.requests.ServiceOrder.{IsInOrder, queue_with}
use Rattle.trace_replay.proofs.requests.ServiceOrderRuns.{goes_before, put_in, inserted, queue_with-inserted}
use Rattle.driver_machine.specs.Sound.{Among, Once, slots_of}
pub use Rattle.driver_laws.proofs.invariant.Lists.{once_push as Once-push}

-- NUMBERS of a list
pub Among-left : (x : ℕ) (xs : List ℕ) (u : ℕ) → Among x xs → Among x (xs ++ u ∷ [])
Among-left x [] u m = absurd m
Among-left x (y ∷ ys) u (inl e) = inl e
Among-left x (y ∷ ys) u (inr m) = inr (Among-left x ys u m)

pub Among-last : (u : ℕ) (xs : List ℕ) → Among u (xs ++ u ∷ [])
Among-last u [] = inl refl
Among-last u (y ∷ ys) = inr (Among-last u ys)

-- WHAT IS IN A LIST
contained_at : {A : Type 0} (f : A → ℕ) (xs : List A) (x : A) (k : ℕ) → k < length xs → slice_index_or xs k x ≡ x → Among (f x) (map f xs)
contained_at f [] x k lt e = absurd (omega (arith, lt))
contained_at f (y ∷ ys) x zero lt e = inl (ap f (sym e))
contained_at f (y ∷ ys) x (suc k) lt e = inr (contained_at f ys x k (omega (arith, lt)) e)

pub Among-contained : {A : Type 0} (f : A → ℕ) (xs : List A) (x : A) → Contains xs x → Among (f x) (map f xs)
Among-contained f xs x c = contained_at f xs x c.0 c.1 c.2

pub Contains-none : {A : Type 0} (x : A) → Contains [] x → ⊥
Contains-none x c = omega (arith, c.1)

pub Contains-first : {A : Type 0} (x : A) (xs : List A) → Contains (x ∷ xs) x
Contains-first x xs = (0, omega arith, refl)

pub Contains-later : {A : Type 0} (x y : A) (xs : List A) → Contains xs x → Contains (y ∷ xs) x
Contains-later x y xs c = (suc c.0, omega (arith, c.1), c.2)

contains_by : {A : Type 0} (x y : A) (xs : List A) (k : ℕ) → k < length (y ∷ xs) → slice_index_or (y ∷ xs) k x ≡ x → (y ≡ x) ⊎ Contains xs x
contains_by x y xs zero lt e = inl e
contains_by x y xs (suc k) lt e = inr (k, omega (arith, lt), e)

pub Contains-cases : {A : Type 0} (x y : A) (xs : List A) → Contains (y ∷ xs) x → (y ≡ x) ⊎ Contains xs x
Contains-cases x y xs c = contains_by x y xs c.0 c.1 c.2

pub Contains-drop : {A : Type 0} (x : A) (xs : List A) → Contains (drop 1 xs) x → Contains xs x
Contains-drop x [] c = c
Contains-drop x (y ∷ ys) c = Contains-later x y ys c

-- THE HEAD of a queue
abbrev pub number_of : Waiter → ℕ
number_of x = x.number

abbrev pub cylinder_of : Waiter → ℕ
cylinder_of x = x.cylinder

abbrev pub head_of : List Waiter → Waiter
head_of queue = slice_index_or queue 0 (record { number = 0; cylinder = 0 })

pub contains_head : (queue : List Waiter) → 0 < length queue → Contains queue (head_of queue)
contains_head [] some = absurd (omega (arith, some))
contains_head (x ∷ queue) some = Contains-first x queue

pub contained_among : (queue : List Waiter) (n : ℕ) → Among n (slots_of queue) → (x : Waiter) × Contains queue x × (x.number ≡ n)
contained_among [] n m = absurd m
contained_among (x ∷ queue) n (inl same) = (x, Contains-first x queue, sym same)
contained_among (x ∷ queue) n (inr m) = let found = contained_among queue n m in (found.0, Contains-later found.0 x queue found.1, found.2)

pub not_head : (queue : List Waiter) (x : Waiter) → Once (slots_of queue) → Contains (drop 1 queue) x → x.number ≢ (head_of queue).number
not_head [] x once c same = Contains-none x c
not_head (y ∷ queue) x once c same = once.0 (subst (λ (n : ℕ). Among n (slots_of queue)) same (Among-contained number_of queue x c))

pub Once-drop : (queue : List Waiter) → Once (slots_of queue) → Once (slots_of (drop 1 queue))
Once-drop [] once = tt
Once-drop (x ∷ queue) once = once.1

pub Among-behind : (queue : List Waiter) (n : ℕ) → n ≢ (head_of queue).number → Among n (slots_of queue) → Among n (slots_of (drop 1 queue))
Among-behind queue n h0 h1 = first_of (search rules, grind arith)

-- A QUEUE WITH ONE MORE
abbrev with_one : Waiter → List Waiter → List Waiter
with_one x queue = queue_with (λ (y : Waiter). y.cylinder) x queue

abbrev put_at : ℕ → Waiter → List Waiter → List Waiter
put_at h x queue = put_in (λ (y : Waiter). y.cylinder) h x queue

put_contained : (h : ℕ) (x y : Waiter) (queue : List Waiter) → Contains (put_at h x queue) y → (x ≡ y) ⊎ Contains queue y
put_contained h x y [] c = Contains-cases y x [] c
put_contained h x y (z ∷ queue) c =
    cond_both (goes_before h x.cylinder z.cylinder) (x ∷ z ∷ queue) (z ∷ put_at h x queue) (λ (l : List Waiter). Contains l y → (x ≡ y) ⊎ Contains (z ∷ queue) y)
    (λ e c. Contains-cases y x (z ∷ queue) c)
    (λ e c. elim (Contains-cases y z (put_at h x queue) c) [
      | inl same ↦ inr (subst (λ (k : Waiter). Contains (z ∷ queue) k) same (Contains-first z queue))
      | inr later ↦ elim (put_contained h x y queue later) [ inl mine ↦ inl mine | inr old ↦ inr (Contains-later y z queue old) ]
    ]) c

behind : (m n k : ℕ) (ys zs : List ℕ) → (Among n (m ∷ ys) → Among n zs) → Among n (m ∷ k ∷ ys) → Among n (k ∷ zs)
behind m n k ys zs h0 h1 = first_of (search rules, grind arith)

in_front : (m n k : ℕ) (ys zs : List ℕ) → (Among n zs → Among n (m ∷ ys)) → Among n (k ∷ zs) → Among n (m ∷ k ∷ ys)
in_front m n k ys zs rest (inl first) = inr (inl first)
in_front m n k ys zs rest (inr later) = elim (rest later) [ inl mine ↦ inl mine | inr old ↦ inr (inr old) ]

put_among : (h : ℕ) (x : Waiter) (n : ℕ) (queue : List Waiter) → Among n (x.number ∷ slots_of queue) → Among n (slots_of (put_at h x queue))
put_among h x n [] m = m
put_among h x n (z ∷ queue) m =
    cond_both (goes_before h x.cylinder z.cylinder) (x ∷ z ∷ queue) (z ∷ put_at h x queue) (λ (l : List Waiter). Among n (slots_of l))
    (λ e. m) (λ e. behind x.number n z.number (slots_of queue) (slots_of (put_at h x queue)) (put_among h x n queue) m)

put_was : (h : ℕ) (x : Waiter) (n : ℕ) (queue : List Waiter) → Among n (slots_of (put_at h x queue)) → Among n (x.number ∷ slots_of queue)
put_was h x n [] m = m
put_was h x n (z ∷ queue) m =
    cond_both (goes_before h x.cylinder z.cylinder) (x ∷ z ∷ queue) (z ∷ put_at h x queue)
    (λ (l : List Waiter). Among n (slots_of l) → Among n (x.number ∷ z.number ∷ slots_of queue)) (λ e m. m)
    (λ e m. in_front x.number n z.number (slots_of queue) (slots_of (put_at h x queue)) (put_was h x n queue) m) m

put_once : (h : ℕ) (x : Waiter) (queue : List Waiter) → (Among x.number (slots_of queue) → ⊥) → Once (slots_of queue) → Once (slots_of (put_at h x queue))
put_once h x [] new once = ((λ m. m), tt)
put_once h x (z ∷ queue) new once =
    cond_both (goes_before h x.cylinder z.cylinder) (x ∷ z ∷ queue) (z ∷ put_at h x queue) (λ (l : List Waiter). Once (slots_of l))
    (λ e. (new, once))
    (λ e. ((λ m. elim (put_was h x z.number queue m) [ inl mine ↦ new (inl (sym mine)) | inr old ↦ once.0 old ]), put_once h x queue (λ m. new (inr m)) once.1))

-- one queue with one more holds what holds of every insertion
module _ (x : Waiter) (queue : List Waiter) (order : IsInOrder cylinder_of queue) where
  is_inserted : with_one x queue ≡ inserted (λ (y : Waiter). y.cylinder) x queue
  is_inserted = queue_with-inserted (λ (y : Waiter). y.cylinder) x queue order

  pub with_contained : (y : Waiter) → Contains (with_one x queue) y → (x ≡ y) ⊎ Contains queue y
  with_contained y c = at queue (subst (λ (l : List Waiter). Contains l y) is_inserted c)
    where
      at : (l : List Waiter) → Contains (inserted (λ (y : Waiter). y.cylinder) x l) y → (x ≡ y) ⊎ Contains l y
      at [] c = Contains-cases y x [] c
      at (z ∷ l) c = elim (Contains-cases y z (put_at z.cylinder x l) c) [
        | inl same ↦ inr (subst (λ (k : Waiter). Contains (z ∷ l) k) same (Contains-first z l))
        | inr later ↦ elim (put_contained z.cylinder x y l later) [ inl mine ↦ inl mine | inr old ↦ inr (Contains-later y z l old) ]
      ]

  pub with_among : (n : ℕ) → Among n (x.number ∷ slots_of queue) → Among n (slots_of (with_one x queue))
  with_among n m = subst (λ (l : List Waiter). Among n (slots_of l)) (sym is_inserted) (at queue m)
    where
      at : (l : List Waiter) → Among n (x.number ∷ slots_of l) → Among n (slots_of (inserted (λ (y : Waiter). y.cylinder) x l))
      at [] m = m
      at (z ∷ l) m = behind x.number n z.number (slots_of l) (slots_of (put_at z.cylinder x l)) (put_among z.cylinder x n l) m

  pub with_once : (Among x.number (slots_of queue) → ⊥) → Once (slots_of queue) → Once (slots_of (with_one x queue))
  with_once new once = subst (λ (l : List Waiter). Once (slots_of l)) (sym is_inserted) (at queue new once)
    where
      at : (l : List Waiter) → (Among x.number (slots_of l) → ⊥) → Once (slots_of l) → Once (slots_of (inserted (λ (y : Waiter). y.cylinder) x l))
      at [] new once = ((λ m. m), tt)
      at (z ∷ l) new once =
          ((λ m. elim (put_was z.cylinder x z.number l m) [ inl mine ↦ new (inl (sym mine)) | inr old ↦ once.0 old ]), put_once z.cylinder x l (λ m. new (inr m)) once.1)

  pub with_head : 0 < length queue → head_of (with_one x queue) ≡ head_of queue
  with_head some = ap head_of is_inserted ∙ at queue some
    where
      at : (l : List Waiter) → 0 < length l → head_of (inserted (λ (y : Waiter). y.cylinder) x l) ≡ head_of l
      at [] some = absurd (omega (arith, some))
      at (z ∷ l) some = refl

-- ONE ELEMENT of a list has changed, or none, and the list is as long as before.
pub record Put {A : Type 0} (xs ys : List A) (i : ℕ) (x d : A) : Type 0 where
  pub size : length ys ≡ length xs
  pub here : get_or ys i d ≡ x
  pub others : (j : ℕ) → j ≢ i → get_or ys j d ≡ get_or xs j d

pub put_set : {A : Type 0} (xs : List A) (i : ℕ) (x d : A) → i < length xs → Put xs (set xs i x) i x d
put_set xs i x d lt = first_of (search rules, grind arith)

pub put_none : {A : Type 0} (xs : List A) (i : ℕ) (d : A) → Put xs xs i (get_or xs i d) d
put_none xs i d = record { size = refl; here = refl; others = λ j ne. refl }
