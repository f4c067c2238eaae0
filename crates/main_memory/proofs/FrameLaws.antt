-- Laws of ascending lists of frames.
use Rattle.std.proofs.Common.{◌≡◌, ◌≢◌, ℕ, zero, suc, ◌+◌, ◌<◌, ◌≤◌, ◌==◌, nat_lt, Bool, true, false, List, [], ◌∷◌, length, drop, get_or, refl, sym, ap, ◌∙◌, arith}
use Rattle.std.proofs.Common.{subst, drop-cons, add-one}
use Rattle.std.proofs.Math.ListN.{drop_of_length-le}
use Rattle.std.proofs.lemmas.Bool.{ltb-true, ltb-false, eqb-true, eqb-false, lt-ltb, true≢false}
use Rattle.std.proofs.lemmas.Bool.Decides.{nat_tests}
use Rattle.std.specs.List.Sorted.{IsStrictlyIncreasing}
use Rattle.main_memory.specs.Frames.{kept, with_frame, with_frames}

-- a value for each answer of a test
pub by_test : {X : Type 0} → (b : Bool) → (b ≡ true → X) → (b ≡ false → X) → X
by_test true on off = on refl
by_test false on off = off refl

-- tests that agree keep the same numbers
pub kept-agree : (p q : ℕ → Bool) (from n : ℕ) → ((k : ℕ) → from ≤ k → k < from + n → p k ≡ q k) → kept p from n ≡ kept q from n
unfolding kept
kept-agree p q from zero same = refl
kept-agree p q from (suc n) same =
    let here : p from ≡ q from = same from (omega arith) (omega arith) in
    let rest : kept p (suc from) n ≡ kept q (suc from) n = kept-agree p q (suc from) n (λ k low high. same k (omega arith) (omega arith)) in
    rw (here, rest) refl

-- a test that keeps nothing
pub kept-none : (p : ℕ → Bool) (from n : ℕ) → ((k : ℕ) → from ≤ k → k < from + n → p k ≡ false) → kept p from n ≡ []
unfolding kept
kept-none p from zero none = refl
kept-none p from (suc n) none =
    let here : p from ≡ false = none from (omega arith) (omega arith) in
    let rest : kept p (suc from) n ≡ [] = kept-none p (suc from) n (λ k low high. none k (omega arith) (omega arith)) in
    rw (here, rest) refl

-- one step of the walk
kept-on : (p : ℕ → Bool) (from n : ℕ) → p from ≡ true → kept p from (suc n) ≡ from ∷ kept p (suc from) n
unfolding kept
kept-on p from n on = rw on refl

kept-off : (p : ℕ → Bool) (from n : ℕ) → p from ≡ false → kept p from (suc n) ≡ kept p (suc from) n
unfolding kept
kept-off p from n off = rw off refl

first_is : (p : ℕ → Bool) (from f : ℕ) → from ≤ f → ((k : ℕ) → k < f → p k ≡ false) → p from ≡ true → f ≡ from
first_is p from f above low on = by_test (nat_lt from f) (λ lt. absurd (true≢false (sym on ∙ low from (ltb-true from f lt)))) (λ ge. omega (arith, ltb-false from f ge))

-- the lowest number that passes comes first, and the others are those that pass a test that it fails
pub kept-lowest : (p q : ℕ → Bool) (from n f : ℕ) → from ≤ f → f < from + n → ((k : ℕ) → k < f → p k ≡ false) → p f ≡ true
    → ((k : ℕ) → k ≢ f → k < from + n → q k ≡ p k) → q f ≡ false → kept p from n ≡ f ∷ kept q from n
kept-lowest p q from zero f above below low hit others out = absurd (omega arith)
kept-lowest p q from (suc n) f above below low hit others out =
    by_test (p from)
    (λ on.
    let same : f ≡ from = first_is p from f above low on in
    let out_here : q from ≡ false = ap q (sym same) ∙ out in
    let rest : kept q (suc from) n ≡ kept p (suc from) n = kept-agree q p (suc from) n (λ k low_k high. others k (omega arith) (omega arith)) in
    kept-on p from n on ∙ ap (λ xs. from ∷ xs) (sym rest ∙ sym (kept-off q from n out_here)) ∙ ap (λ x. x ∷ kept q from (suc n)) (sym same))
    (λ off.
    let ne : f ≢ from = λ e. true≢false (sym hit ∙ ap p e ∙ off) in
    let q_off : q from ≡ false = others from (λ e. ne (sym e)) (omega arith) ∙ off in
    kept-off p from n off
    ∙ kept-lowest p q (suc from) n f (omega arith) (omega arith) low hit (λ k k_ne high. others k k_ne (omega arith)) out
    ∙ ap (λ xs. f ∷ xs) (sym (kept-off q from n q_off)))

-- what is kept lies in the range and passes
pub record IsKept (p : ℕ → Bool) (from n k : ℕ) : Type 0 where
  pub above : from ≤ k
  pub below : k < from + n
  pub on : p k ≡ true

members_wider : (p : ℕ → Bool) (from n k : ℕ) → IsKept p (suc from) n k → IsKept p from (suc n) k
members_wider p from n k is = record { above = omega (arith, is.above); below = omega (arith, is.below); on = is.on }

members_off : (p : ℕ → Bool) (from n i : ℕ) → p from ≡ false → ((j : ℕ) → j < length (kept p (suc from) n) → IsKept p (suc from) n (get_or (kept p (suc from) n) j 0))
    → i < length (kept p from (suc n)) → IsKept p from (suc n) (get_or (kept p from (suc n)) i 0)
members_off p from n i off rest inside =
    let e : kept p from (suc n) ≡ kept p (suc from) n = kept-off p from n off in
    let small : i < length (kept p (suc from) n) = subst (λ (xs : List ℕ). i < length xs) e inside in
    subst (λ (xs : List ℕ). IsKept p from (suc n) (get_or xs i 0)) (sym e) (members_wider p from n _ (rest i small))

members_cons : (p : ℕ → Bool) (from n i : ℕ) → p from ≡ true → ((j : ℕ) → j < length (kept p (suc from) n) → IsKept p (suc from) n (get_or (kept p (suc from) n) j 0))
    → i < length (from ∷ kept p (suc from) n) → IsKept p from (suc n) (get_or (from ∷ kept p (suc from) n) i 0)
members_cons p from n zero on rest inside = record { above = omega arith; below = omega arith; on = on }
members_cons p from n (suc i) on rest inside = members_wider p from n _ (rest i (omega arith))

members_on : (p : ℕ → Bool) (from n i : ℕ) → p from ≡ true → ((j : ℕ) → j < length (kept p (suc from) n) → IsKept p (suc from) n (get_or (kept p (suc from) n) j 0))
    → i < length (kept p from (suc n)) → IsKept p from (suc n) (get_or (kept p from (suc n)) i 0)
members_on p from n i on rest inside =
    let e : kept p from (suc n) ≡ from ∷ kept p (suc from) n = kept-on p from n on in
    subst (λ (xs : List ℕ). IsKept p from (suc n) (get_or xs i 0)) (sym e)
    (members_cons p from n i on rest (subst (λ (xs : List ℕ). i < length xs) e inside))

pub kept-members : (p : ℕ → Bool) (from n i : ℕ) → i < length (kept p from n) → IsKept p from n (get_or (kept p from n) i 0)
unfolding kept
kept-members p from zero i inside = absurd (omega arith)
kept-members p from (suc n) i inside =
    by_test (p from) (λ on. members_on p from n i on (kept-members p (suc from) n) inside) (λ off. members_off p from n i off (kept-members p (suc from) n) inside)

ascending_nil : (p : ℕ → Bool) (from : ℕ) → IsStrictlyIncreasing (kept p from zero)
unfolding kept
ascending_nil p from = λ k inside. absurd (omega arith)

ascending_next : (x : ℕ) (xs : List ℕ) → ((i : ℕ) → i < length xs → suc x ≤ get_or xs i 0) → IsStrictlyIncreasing xs → (k : ℕ) → k < length xs → get_or (x ∷ xs) k 0 < get_or xs k 0
ascending_next x xs above up zero inside = above 0 inside
ascending_next x xs above up (suc k) inside =
    let e : k + 1 ≡ suc k = omega arith in
    subst (λ (j : ℕ). get_or xs k 0 < get_or xs j 0) e (up k (omega arith))

ascending_cons : (x : ℕ) (xs : List ℕ) → ((i : ℕ) → i < length xs → suc x ≤ get_or xs i 0) → IsStrictlyIncreasing xs → IsStrictlyIncreasing (x ∷ xs)
ascending_cons x xs above up = λ k inside.
    let e : suc k ≡ k + 1 = omega arith in
    subst (λ (j : ℕ). get_or (x ∷ xs) k 0 < get_or (x ∷ xs) j 0) e (ascending_next x xs above up k (omega arith))

-- what is kept is in ascending order
pub kept-ascending : (p : ℕ → Bool) (from n : ℕ) → IsStrictlyIncreasing (kept p from n)
kept-ascending p from zero = ascending_nil p from
kept-ascending p from (suc n) =
    by_test (p from)
    (λ on. subst IsStrictlyIncreasing (sym (kept-on p from n on)) (ascending_cons from (kept p (suc from) n) (λ i inside. (kept-members p (suc from) n i inside).above) (kept-ascending p (suc from) n)))
    (λ off. subst IsStrictlyIncreasing (sym (kept-off p from n off)) (kept-ascending p (suc from) n))

-- one number at its place before all others
with_frame-front : (f : ℕ) (xs : List ℕ) → ((i : ℕ) → i < length xs → f < get_or xs i 0) → with_frame f xs ≡ f ∷ xs
unfolding with_frame
with_frame-front f [] above = refl
with_frame-front f (x ∷ xs) above = let lt : f < x = above 0 (omega arith) in let e : nat_lt f x ≡ true = lt-ltb f x lt in rw e refl

with_frame-same : (f : ℕ) (xs : List ℕ) → with_frame f (f ∷ xs) ≡ f ∷ xs
unfolding with_frame
with_frame-same f xs = grind (arith, nat_tests)

with_frame-later : (f x : ℕ) (xs : List ℕ) → x < f → with_frame f (x ∷ xs) ≡ x ∷ with_frame f xs
unfolding with_frame
with_frame-later f x xs lt = grind (arith, nat_tests)

insert_here : (p q : ℕ → Bool) (from n f : ℕ) → from ≡ f → ((k : ℕ) → k ≢ f → k < from + suc n → q k ≡ p k) → q f ≡ true → kept q from (suc n) ≡ with_frame f (kept p from (suc n))
insert_here p q from n f same others on =
    let on_here : q from ≡ true = ap q same ∙ on in
    let agree : kept q (suc from) n ≡ kept p (suc from) n = kept-agree q p (suc from) n (λ k low high. others k (omega arith) (omega arith)) in
    let all : List ℕ = kept p (suc from) n in
    let front : with_frame f all ≡ f ∷ all = with_frame-front f all (λ i inside. omega (arith, (kept-members p (suc from) n i inside).above)) in
    kept-on q from n on_here ∙ ap (λ xs. from ∷ xs) agree ∙ ap (λ x. x ∷ all) same
    ∙ by_test (p from)
    (λ was. sym (ap (with_frame f) (kept-on p from n was ∙ ap (λ x. x ∷ all) same) ∙ with_frame-same f all))
    (λ was. sym (ap (with_frame f) (kept-off p from n was) ∙ front))

insert_later : (p q : ℕ → Bool) (from n f : ℕ) → from ≢ f → ((k : ℕ) → k ≢ f → k < from + suc n → q k ≡ p k)
    → (suc from ≤ f → kept q (suc from) n ≡ with_frame f (kept p (suc from) n)) → from ≤ f → kept q from (suc n) ≡ with_frame f (kept p from (suc n))
insert_later p q from n f ne others rest above =
    let stays : q from ≡ p from = others from ne (omega arith) in
    let lt : from < f = omega arith in
    by_test (p from)
    (λ on. kept-on q from n (stays ∙ on) ∙ ap (λ xs. from ∷ xs) (rest (omega arith)) ∙ sym (ap (with_frame f) (kept-on p from n on) ∙ with_frame-later f from (kept p (suc from) n) lt))
    (λ off. kept-off q from n (stays ∙ off) ∙ rest (omega arith) ∙ sym (ap (with_frame f) (kept-off p from n off)))

-- a number that now passes comes to its place
pub kept-insert : (p q : ℕ → Bool) (from n f : ℕ) → from ≤ f → f < from + n → ((k : ℕ) → k ≢ f → k < from + n → q k ≡ p k) → q f ≡ true
    → kept q from n ≡ with_frame f (kept p from n)
kept-insert p q from zero f above below others on = absurd (omega arith)
kept-insert p q from (suc n) f above below others on =
    by_test (from == f)
    (λ here. insert_here p q from n f (eqb-true from f here) others on)
    (λ there. insert_later p q from n f (eqb-false from f there) others
    (λ bound. kept-insert p q (suc from) n f bound (omega arith) (λ k ne high. others k ne (omega arith)) on) above)

-- frames put back one by one
pub with_frames-step : (frames xs ys : List ℕ) (i : ℕ) → i < length frames → with_frame (get_or frames i 0) xs ≡ ys → with_frames (drop i frames) xs ≡ with_frames (drop (i + 1) frames) ys
unfolding with_frames
with_frames-step frames xs ys i inside e = rw (drop-cons frames i 0, add-one) (ap (with_frames (drop (suc i) frames)) e)

pub with_frames-done : (frames xs : List ℕ) (i : ℕ) → length frames ≤ i → with_frames (drop i frames) xs ≡ xs
unfolding with_frames
with_frames-done frames xs i past = rw (drop_of_length-le frames past) refl

-- a test that everything passes keeps everything
pub length-kept_all : (from n : ℕ) → length (kept (λ _. true) from n) ≡ n
unfolding kept
length-kept_all from zero = refl
length-kept_all from (suc n) = omega (arith, length-kept_all (suc from) n)
