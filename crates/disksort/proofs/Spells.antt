-- What buckets spell: one bucket between those below it and those above it.
use Rattle.std.proofs.Common.{◌≡◌, ◌≢◌, ℕ, ◌<◌, ◌≤◌, nat_lt, Bool, true, false, List, [], ◌∷◌, ◌++◌, length, zero, suc, refl, sym, ◌∙◌, ap, subst, arith, append_assoc, append-nil}
use Rattle.std.specs.Prelude.{if◌then◌else◌}
use Rattle.std.specs.List.{AllByRecursion}
use Rattle.std.proofs.lemmas.Bool.{cond_both, cond-true, cond-false, lt-ltb, le-ltb, ltb-true, ltb-false}
use Rattle.disksort.specs.declared.Waiter.{Waiter}
use Rattle.disksort.specs.SortQueue.{cylinder_of}
use Rattle.disksort.specs.Buckets.{at_cylinder, spell}
use Rattle.trace_replay.specs.requests.ServiceOrder.{put_behind}

abbrev pub Each : (Waiter → Type 0) → List Waiter → Type 0
Each = AllByRecursion

pub each-append : (P : Waiter → Type 0) (xs ys : List Waiter) → Each P xs → Each P ys → Each P (xs ++ ys)
each-append P [] ys h k = k
each-append P (x ∷ xs) ys h k = (h.0, each-append P xs ys h.1 k)

pub each-front : (P : Waiter → Type 0) (xs ys : List Waiter) → Each P (xs ++ ys) → Each P xs
each-front P [] ys h = tt
each-front P (x ∷ xs) ys h = (h.0, each-front P xs ys h.1)

pub each-back : (P : Waiter → Type 0) (xs ys : List Waiter) → Each P (xs ++ ys) → Each P ys
each-back P [] ys h = h
each-back P (x ∷ xs) ys h = each-back P xs ys h.1

pub each-weaker : (P Q : Waiter → Type 0) → ((w : Waiter) → P w → Q w) → (ws : List Waiter) → Each P ws → Each Q ws
each-weaker P Q f [] h = tt
each-weaker P Q f (w ∷ ws) h = (f w h.0, each-weaker P Q f ws h.1)

pub each-cylinder : (P : Waiter → Type 0) (c : ℕ) (ns : List ℕ) → ((n : ℕ) → P (record { number = n; cylinder = c })) → Each P (at_cylinder c ns)
each-cylinder P c [] f = tt
each-cylinder P c (n ∷ ns) f = (f n, each-cylinder P c ns f)

pub at_cylinder-append : (c : ℕ) (ns ms : List ℕ) → at_cylinder c (ns ++ ms) ≡ at_cylinder c ns ++ at_cylinder c ms
at_cylinder-append c [] ms = refl
at_cylinder-append c (n ∷ ns) ms = ap (λ l. record { number = n; cylinder = c } ∷ l) (at_cylinder-append c ns ms)

pub length-at_cylinder : (c : ℕ) (ns : List ℕ) → length (at_cylinder c ns) ≡ length ns
length-at_cylinder c [] = refl
length-at_cylinder c (n ∷ ns) = ap suc (length-at_cylinder c ns)

-- those above a cylinder and below a bound
unfoldable pub above : (ℕ → List ℕ) → ℕ → ℕ → List Waiter
above buckets c zero = []
above buckets c (suc k) = if nat_lt c k then above buckets c k ++ at_cylinder k (buckets k) else []

pub spell-split : (buckets : ℕ → List ℕ) (c k : ℕ) → c < k
    → spell buckets k ≡ spell buckets c ++ (at_cylinder c (buckets c) ++ above buckets c k)
unfolding spell above
spell-split buckets c zero lt = absurd (omega arith)
spell-split buckets c (suc k) lt =
    let here : List Waiter = at_cylinder k (buckets k) in
    cond_both (nat_lt c k) (above buckets c k ++ here) []
    (λ a. spell buckets k ++ here ≡ spell buckets c ++ (at_cylinder c (buckets c) ++ a))
    (λ e. ap (λ l. l ++ here) (spell-split buckets c k (ltb-true c k e))
    ∙ append_assoc (spell buckets c) (at_cylinder c (buckets c) ++ above buckets c k) here
    ∙ ap (λ l. spell buckets c ++ l) (append_assoc (at_cylinder c (buckets c)) (above buckets c k) here))
    (λ e. let le : k ≤ c = ltb-false c k e in
    let same : k ≡ c = omega arith in
    subst (λ j. spell buckets k ++ here ≡ spell buckets j ++ (at_cylinder j (buckets j) ++ [])) same (ap (λ l. spell buckets k ++ l) (sym (append-nil here))))

pub spell-same : (A B : ℕ → List ℕ) (k : ℕ) → ((i : ℕ) → i < k → A i ≡ B i) → spell A k ≡ spell B k
unfolding spell
spell-same A B zero h = refl
spell-same A B (suc k) h =
    ap (λ l. l ++ at_cylinder k (A k)) (spell-same A B k (λ i lt. h i (omega arith))) ∙
    ap (λ ns. spell B k ++ at_cylinder k ns) (h k (omega arith))

if-same : (b : Bool) (x y z : List Waiter) → (b ≡ true → x ≡ y) → (if b then x else z) ≡ (if b then y else z)
if-same true x y z h = h refl
if-same false x y z h = refl

pub above-same : (A B : ℕ → List ℕ) (c k : ℕ) → ((i : ℕ) → c < i → i < k → A i ≡ B i) → above A c k ≡ above B c k
unfolding above
above-same A B c zero h = refl
above-same A B c (suc k) h =
    if-same (nat_lt c k) _ _ _
    (λ e. ap (λ l. l ++ at_cylinder k (A k)) (above-same A B c k (λ i lo lt. h i lo (omega arith))) ∙
    ap (λ ns. above B c k ++ at_cylinder k ns) (h k (ltb-true c k e) (omega arith)))

pub spell-below : (B : ℕ → List ℕ) (k : ℕ) → Each (λ w. w.cylinder < k) (spell B k)
unfolding spell
spell-below B zero = tt
spell-below B (suc k) =
    each-append (λ w. w.cylinder < suc k) (spell B k) (at_cylinder k (B k))
    (each-weaker (λ w. w.cylinder < k) (λ w. w.cylinder < suc k) (λ w lt. omega arith) (spell B k) (spell-below B k))
    (each-cylinder (λ w. w.cylinder < suc k) k (B k) (λ n. omega arith))

pub above-above : (B : ℕ → List ℕ) (c k : ℕ) → Each (λ w. c < w.cylinder) (above B c k)
unfolding above
above-above B c zero = tt
above-above B c (suc k) =
    cond_both (nat_lt c k) (above B c k ++ at_cylinder k (B k)) [] (Each (λ w. c < w.cylinder))
    (λ e. each-append (λ w. c < w.cylinder) (above B c k) (at_cylinder k (B k)) (above-above B c k)
    (each-cylinder (λ w. c < w.cylinder) k (B k) (λ n. ltb-true c k e)))
    (λ e. tt)

none-each : (P : Waiter → Type 0) (c : ℕ) (ns : List ℕ) → ns ≡ [] → Each P (at_cylinder c ns)
none-each P c ns e = subst (λ l. Each P (at_cylinder c l)) (sym e) tt

pub spell-from : (B : ℕ → List ℕ) (h k : ℕ) → ((i : ℕ) → i < h → B i ≡ []) → Each (λ w. h ≤ w.cylinder) (spell B k)
unfolding spell
spell-from B h zero none = tt
spell-from B h (suc k) none =
    each-append (λ w. h ≤ w.cylinder) (spell B k) (at_cylinder k (B k)) (spell-from B h k none) (here (nat_lt k h) refl)
  where
    here : (b : Bool) → nat_lt k h ≡ b → Each (λ w. h ≤ w.cylinder) (at_cylinder k (B k))
    here true e = none-each _ k (B k) (none k (ltb-true k h e))
    here false e = each-cylinder _ k (B k) (λ n. ltb-false k h e)

pub spell-until : (B : ℕ → List ℕ) (h k : ℕ) → ((i : ℕ) → h ≤ i → B i ≡ []) → Each (λ w. w.cylinder < h) (spell B k)
unfolding spell
spell-until B h zero none = tt
spell-until B h (suc k) none =
    each-append (λ w. w.cylinder < h) (spell B k) (at_cylinder k (B k)) (spell-until B h k none) (here (nat_lt k h) refl)
  where
    here : (b : Bool) → nat_lt k h ≡ b → Each (λ w. w.cylinder < h) (at_cylinder k (B k))
    here true e = each-cylinder _ k (B k) (λ n. ltb-true k h e)
    here false e = none-each _ k (B k) (none k (ltb-false k h e))

pub spell-empty : (B : ℕ → List ℕ) (k : ℕ) → ((i : ℕ) → i < k → B i ≡ []) → spell B k ≡ []
unfolding spell
spell-empty B zero none = refl
spell-empty B (suc k) none =
    ap (λ l. l ++ at_cylinder k (B k)) (spell-empty B k (λ i lt. none i (omega arith))) ∙ ap (at_cylinder k) (none k (omega arith))

-- what holds of all that is spelled holds of each bucket
pub spell-at : (P : Waiter → Type 0) (B : ℕ → List ℕ) (k i : ℕ) → i < k → Each P (spell B k) → Each P (at_cylinder i (B i))
spell-at P B k i lt h =
    let both : Each P (spell B i ++ (at_cylinder i (B i) ++ above B i k)) = subst (Each P) (spell-split B i k lt) h in
    each-front P (at_cylinder i (B i)) (above B i k) (each-back P (spell B i) _ both)

pub above-at : (P : Waiter → Type 0) (B : ℕ → List ℕ) (c k i : ℕ) → c < i → i < k → Each P (above B c k) → Each P (at_cylinder i (B i))
unfolding above
above-at P B c zero i lo lt h = absurd (omega arith)
above-at P B c (suc k) i lo lt h =
    let both : Each P (above B c k ++ at_cylinder k (B k)) =
    subst (Each P) (cond-true (nat_lt c k) (above B c k ++ at_cylinder k (B k)) [] (lt-ltb c k (omega arith))) h in
    at (nat_lt i k) refl (λ e. above-at P B c k i lo (ltb-true i k e) (each-front P (above B c k) _ both)) (each-back P (above B c k) _ both)
  where
    at : (b : Bool) → nat_lt i k ≡ b → (nat_lt i k ≡ true → Each P (at_cylinder i (B i))) → Each P (at_cylinder k (B k)) → Each P (at_cylinder i (B i))
    at true e f last = f e
    at false e f last = let le : k ≤ i = ltb-false i k e in let same : k ≡ i = omega arith in subst (λ j. Each P (at_cylinder j (B j))) same last

pub of_numbers : (Q : ℕ → Type 0) (c : ℕ) (ns : List ℕ) → Each (λ w. Q w.number) (at_cylinder c ns) → AllByRecursion Q ns
of_numbers Q c [] h = tt
of_numbers Q c (n ∷ ns) h = (h.0, of_numbers Q c ns h.1)

-- one that joins behind those of no higher cylinder
pub put_behind-at : (x : Waiter) (P Q : List Waiter) → Each (λ w. w.cylinder ≤ x.cylinder) P → Each (λ w. x.cylinder < w.cylinder) Q
    → put_behind cylinder_of x (P ++ Q) ≡ P ++ x ∷ Q
put_behind-at x [] [] h k = refl
put_behind-at x [] (q ∷ qs) h k = cond-true _ _ _ (lt-ltb x.cylinder q.cylinder k.0)
put_behind-at x (p ∷ ps) Q h k = cond-false _ _ _ (le-ltb x.cylinder p.cylinder h.0) ∙ ap (λ l. p ∷ l) (put_behind-at x ps Q h.1 k)

-- one more number in one bucket
pub spell-put : (A B : ℕ → List ℕ) (c k n : ℕ) → c < k → ((i : ℕ) → i ≢ c → i < k → B i ≡ A i) → B c ≡ A c ++ n ∷ []
    → spell B k ≡ put_behind cylinder_of (record { number = n; cylinder = c }) (spell A k)
spell-put A B c k n lt same here =
    let x : Waiter = record { number = n; cylinder = c } in
    let low : List Waiter = spell A c in
    let own : List Waiter = at_cylinder c (A c) in
    let high : List Waiter = above A c k in
    let below : spell B c ≡ low = spell-same B A c (λ i l. same i (omega arith) (omega arith)) in
    let over : above B c k ≡ high = above-same B A c k (λ i lo l. same i (omega arith) l) in
    let mid : at_cylinder c (B c) ≡ own ++ x ∷ [] = ap (at_cylinder c) here ∙ at_cylinder-append c (A c) (n ∷ []) in
    let P : Each (λ w. w.cylinder ≤ c) (low ++ own) = each-append (λ w. w.cylinder ≤ c) low own
    (each-weaker (λ w. w.cylinder < c) (λ w. w.cylinder ≤ c) (λ w l. omega arith) low (spell-below A c)) (each-cylinder (λ w. w.cylinder ≤ c) c (A c) (λ m. omega arith)) in
    spell-split B c k lt ∙ ap (λ l. l ++ (at_cylinder c (B c) ++ above B c k)) below ∙ ap (λ l. low ++ (l ++ above B c k)) mid
    ∙ ap (λ l. low ++ ((own ++ x ∷ []) ++ l)) over ∙ ap (λ l. low ++ l) (append_assoc own (x ∷ []) high) ∙ sym (append_assoc low own (x ∷ high))
    ∙ sym (put_behind-at x (low ++ own) high P (above-above A c k))
    ∙ ap (put_behind cylinder_of x) (append_assoc low own high ∙ sym (spell-split A c k lt))

-- the first number leaves the lowest bucket
pub spell-take : (A B : ℕ → List ℕ) (c k n : ℕ) (ns : List ℕ) → c < k → ((i : ℕ) → i < c → A i ≡ []) → A c ≡ n ∷ ns → B c ≡ ns
    → ((i : ℕ) → i ≢ c → i < k → B i ≡ A i) → spell A k ≡ record { number = n; cylinder = c } ∷ spell B k
spell-take A B c k n ns lt none own rest same =
    let x : Waiter = record { number = n; cylinder = c } in
    let low : spell A c ≡ [] = spell-empty A c (λ i l. none i l) in
    let below : spell B c ≡ spell A c = spell-same B A c (λ i l. same i (omega arith) (omega arith)) in
    let over : above B c k ≡ above A c k = above-same B A c k (λ i lo l. same i (omega arith) l) in
    let other : spell B k ≡ at_cylinder c ns ++ above A c k = spell-split B c k lt
    ∙ ap (λ l. l ++ (at_cylinder c (B c) ++ above B c k)) (below ∙ low) ∙ ap (λ l. at_cylinder c l ++ above B c k) rest
    ∙ ap (λ l. at_cylinder c ns ++ l) over in
    spell-split A c k lt ∙ ap (λ l. l ++ (at_cylinder c (A c) ++ above A c k)) low ∙ ap (λ l. at_cylinder c l ++ above A c k) own
    ∙ ap (λ l. x ∷ l) (sym other)
