-- No number waits twice: what that says of the buckets, and that it stays.
use Rattle.std.proofs.Common.{◌≢◌, ℕ, ◌<◌, List, [], ◌∷◌, ◌++◌, sym, subst}
use Rattle.std.proofs.lemmas.Bool.{cond_both}
use Rattle.disksort.specs.declared.Waiter.{Waiter}
use Rattle.disksort.specs.SortQueue.{cylinder_of}
use Rattle.disksort.specs.Buckets.{at_cylinder, spell, Once}
use Rattle.disksort.proofs.Chains.{Distinct}
use Rattle.disksort.proofs.Spells.{Each, each-append, each-front, each-back, above, spell-split, of_numbers}
use Rattle.trace_replay.specs.requests.ServiceOrder.{IsInOrder, queue_with}
use Rattle.trace_replay.proofs.requests.ServiceOrderRuns.{goes_before, put_in, inserted, queue_with-inserted}

-- each of these has another number than each of those
abbrev pub Apart : List Waiter → List Waiter → Type 0
Apart xs ys = Each (λ x. Each (λ y. x.number ≢ y.number) ys) xs

pub once-front : (xs ys : List Waiter) → Once (xs ++ ys) → Once xs
once-front [] ys h = tt
once-front (x ∷ xs) ys h = (each-front _ xs ys h.0, once-front xs ys h.1)

pub once-back : (xs ys : List Waiter) → Once (xs ++ ys) → Once ys
once-back [] ys h = h
once-back (x ∷ xs) ys h = once-back xs ys h.1

pub once-apart : (xs ys : List Waiter) → Once (xs ++ ys) → Apart xs ys
once-apart [] ys h = tt
once-apart (x ∷ xs) ys h = (each-back _ xs ys h.0, once-apart xs ys h.1)

once-join : (xs ys : List Waiter) → Once xs → Once ys → Apart xs ys → Once (xs ++ ys)
once-join [] ys h k a = k
once-join (x ∷ xs) ys h k a = (each-append _ xs ys h.0 a.0, once-join xs ys h.1 k a.1)

none-apart : (ys : List Waiter) → Apart ys []
none-apart [] = tt
none-apart (y ∷ ys) = (tt, none-apart ys)

one-more-apart : (x : Waiter) (xs ys : List Waiter) → Each (λ y. x.number ≢ y.number) ys → Apart ys xs → Apart ys (x ∷ xs)
one-more-apart x xs [] h k = tt
one-more-apart x xs (y ∷ ys) h k = (((λ e. h.0 (sym e)), k.0), one-more-apart x xs ys h.1 k.1)

pub apart-swapped : (xs ys : List Waiter) → Apart xs ys → Apart ys xs
apart-swapped [] ys a = none-apart ys
apart-swapped (x ∷ xs) ys a = one-more-apart x xs ys a.0 (apart-swapped xs ys a.1)

pub once-swapped : (xs ys : List Waiter) → Once (xs ++ ys) → Once (ys ++ xs)
once-swapped xs ys h = once-join ys xs (once-back xs ys h) (once-front xs ys h) (apart-swapped xs ys (once-apart xs ys h))

pub once-distinct : (c : ℕ) (ns : List ℕ) → Once (at_cylinder c ns) → Distinct ns
once-distinct c [] h = tt
once-distinct c (n ∷ ns) h = (of_numbers (λ m. n ≢ m) c ns h.0, once-distinct c ns h.1)

-- a bucket, and all the rest
pub record IsAlone (B : ℕ → List ℕ) (other : List Waiter) (c k : ℕ) : Type 0 where
  pub distinct : Distinct (B c)
  pub low : Apart (at_cylinder c (B c)) (spell B c)
  pub high : Apart (at_cylinder c (B c)) (above B c k)
  pub rest : Apart (at_cylinder c (B c)) other

pub alone : (B : ℕ → List ℕ) (other : List Waiter) (c k : ℕ) → c < k → Once (spell B k ++ other) → IsAlone B other c k
alone B other c k lt h =
    let own : List Waiter = at_cylinder c (B c) in
    let run : Once (spell B c ++ (own ++ above B c k)) = subst Once (spell-split B c k lt) (once-front (spell B k) other h) in
    let back : Once (own ++ above B c k) = once-back (spell B c) (own ++ above B c k) run in
    let from : Apart (spell B c ++ (own ++ above B c k)) other = subst (λ l. Apart l other) (spell-split B c k lt) (once-apart (spell B k) other h) in
    record {
      distinct = once-distinct c (B c) (once-front own (above B c k) back);
      low = apart-swapped (spell B c) own (apart-front (spell B c) own (above B c k) (once-apart (spell B c) (own ++ above B c k) run));
      high = once-apart own (above B c k) back;
      rest = each-front _ own (above B c k) (each-back _ (spell B c) (own ++ above B c k) from);
    }
  where
    apart-front : (xs ys zs : List Waiter) → Apart xs (ys ++ zs) → Apart xs ys
    apart-front [] ys zs a = tt
    apart-front (x ∷ xs) ys zs a = (each-front _ ys zs a.0, apart-front xs ys zs a.1)

-- it stays where one of another number joins
each-put_in : (P : Waiter → Type 0) (h : ℕ) (x : Waiter) (ys : List Waiter) → P x → Each P ys → Each P (put_in cylinder_of h x ys)
each-put_in P h x [] p all = (p, tt)
each-put_in P h x (y ∷ ys) p all =
    cond_both (goes_before h x.cylinder y.cylinder) (x ∷ y ∷ ys) (y ∷ put_in cylinder_of h x ys) (Each P) (λ e. (p, all))
    (λ e. (all.0, each-put_in P h x ys p all.1))

once-put_in : (h : ℕ) (x : Waiter) (ys : List Waiter) → Each (λ y. x.number ≢ y.number) ys → Once ys → Once (put_in cylinder_of h x ys)
once-put_in h x [] other once = (tt, tt)
once-put_in h x (y ∷ ys) other once =
    cond_both (goes_before h x.cylinder y.cylinder) (x ∷ y ∷ ys) (y ∷ put_in cylinder_of h x ys) Once (λ e. (other, once))
    (λ e. (each-put_in (λ z. y.number ≢ z.number) h x ys (λ s. other.0 (sym s)) once.0, once-put_in h x ys other.1 once.1))

pub once-queue_with : (x : Waiter) (queue : List Waiter) → IsInOrder cylinder_of queue → Each (λ y. x.number ≢ y.number) queue → Once queue
    → Once (queue_with cylinder_of x queue)
once-queue_with x queue order other once = subst Once (sym (queue_with-inserted cylinder_of x queue order)) (at queue other once)
  where
    at : (queue : List Waiter) → Each (λ y. x.number ≢ y.number) queue → Once queue → Once (inserted cylinder_of x queue)
    at [] other once = (tt, tt)
    at (y ∷ ys) other once =
        (each-put_in (λ z. y.number ≢ z.number) y.cylinder x ys (λ s. other.0 (sym s)) once.0, once-put_in y.cylinder x ys other.1 once.1)

pub each-queue_with : (P : Waiter → Type 0) (x : Waiter) (queue : List Waiter) → IsInOrder cylinder_of queue → P x → Each P queue → Each P (queue_with cylinder_of x queue)
each-queue_with P x queue order p all = subst (Each P) (sym (queue_with-inserted cylinder_of x queue order)) (at queue all)
  where
    at : (queue : List Waiter) → Each P queue → Each P (inserted cylinder_of x queue)
    at [] all = (p, tt)
    at (y ∷ ys) all = (all.0, each-put_in P y.cylinder x ys p all.1)
