-- What a number that joins behind the last of its cylinder changes, in its run and in the other one.
use Rattle.std.proofs.Common.{◌≡◌, ◌≢◌, ℕ, ◌+◌, ◌<◌, ◌≤◌, Bool, true, false, List, [], ◌∷◌, ◌++◌, length, set, refl, sym, ◌∙◌, ap, subst, arith, get_or-set_same, get_or-set_other, length-set, inl, inr}
use Rattle.std.specs.Prelude.{◌⊎◌, slice_index}
use Rattle.std.specs.List.{AllByRecursion}
use Rattle.std.proofs.lemmas.Bool.{cond-true, cond-false}
use Rattle.std.proofs.lemmas.List.{length-append}
use Rattle.disksort.specs.Buckets.{RunView, IsRun, IsLinked, Leads, bucket, with_bit, appended, behind_appended}
use Rattle.disksort.proofs.Chains.{Distinct, leads-frame, leads-more, bucket-none, bucket-same, bucket-is}
use Rattle.disksort.proofs.Takes.{with_bit-here, with_bit-other, here-or}

pub record IsAppended (capacity : ℕ) (run new : RunView) (behind later : List ℕ) (c cylinders n : ℕ) : Type 0 where
  pub own : bucket capacity new later c ≡ bucket capacity run behind c ++ n ∷ []
  pub same : (i : ℕ) → i ≢ c → bucket capacity new later i ≡ bucket capacity run behind i
  pub is : IsRun capacity new later cylinders
  pub on : new.marked c ≡ true
  pub marks : (i : ℕ) → new.marked i ≡ true → (i ≡ c) ⊎ (run.marked i ≡ true)

-- a run in which the number behind some number that is not in it changes
pub record IsFramed (capacity : ℕ) (run : RunView) (behind later : List ℕ) (cylinders : ℕ) : Type 0 where
  pub same : (i : ℕ) → bucket capacity run later i ≡ bucket capacity run behind i
  pub is : IsRun capacity run later cylinders

frame-list : (capacity : ℕ) (run : RunView) (behind : List ℕ) (l n i : ℕ) (numbers : List ℕ) → run.marked i ≡ true
    → IsLinked behind numbers (slice_index run.firsts i) (slice_index run.lasts i) → AllByRecursion (λ z. l ≢ z) numbers → Distinct numbers → length numbers ≤ capacity
    → (bucket capacity run (set behind l n) i ≡ numbers) × IsLinked (set behind l n) numbers (slice_index run.firsts i) (slice_index run.lasts i)
frame-list capacity run behind l n i [] on linked apart once le = absurd linked
frame-list capacity run behind l n i (x ∷ xs) on linked apart once le =
    let leads : Leads (set behind l n) x xs (slice_index run.lasts i) = leads-frame behind l n x xs (slice_index run.lasts i) apart linked.1 in
    (bucket-is capacity run (set behind l n) i x xs on linked.0 leads once le, (linked.0, leads))

-- one bucket that has no such number
pub frame-one : (capacity : ℕ) (run : RunView) (behind : List ℕ) (l n i cylinders : ℕ) → IsRun capacity run behind cylinders
    → (run.marked i ≡ true → AllByRecursion (λ z. l ≢ z) (bucket capacity run behind i) × Distinct (bucket capacity run behind i) × (length (bucket capacity run behind i) ≤ capacity))
    → (bucket capacity run (set behind l n) i ≡ bucket capacity run behind i)
    × (run.marked i ≡ true → IsLinked (set behind l n) (bucket capacity run (set behind l n) i) (slice_index run.firsts i) (slice_index run.lasts i))
frame-one capacity run behind l n i cylinders is all = at (run.marked i) refl
  where
    at : (b : Bool) → run.marked i ≡ b → (bucket capacity run (set behind l n) i ≡ bucket capacity run behind i)
        × (run.marked i ≡ true → IsLinked (set behind l n) (bucket capacity run (set behind l n) i) (slice_index run.firsts i) (slice_index run.lasts i))
    at true on =
        let h = all on in
        let f = frame-list capacity run behind l n i (bucket capacity run behind i) on (is.linked i on) h.0 h.1 h.2 in
        (f.0, λ m. subst (λ k. IsLinked (set behind l n) k (slice_index run.firsts i) (slice_index run.lasts i)) (sym f.0) f.1)
    at false off =
        (bucket-none capacity run (set behind l n) i off ∙ sym (bucket-none capacity run behind i off), λ m. absurd (not-both (run.marked i) m off))
      where
        not-both : (b : Bool) → b ≡ true → b ≡ false → ⊥
        not-both b t f = cc

distinct-more : (xs : List ℕ) (n : ℕ) → Distinct xs → AllByRecursion (λ z. z ≢ n) xs → Distinct (xs ++ n ∷ [])
distinct-more [] n once other = (tt, tt)
distinct-more (x ∷ xs) n once other = (all-more (λ z. x ≢ z) xs n once.0 other.0, distinct-more xs n once.1 other.1)
  where
    all-more : (P : ℕ → Type 0) (xs : List ℕ) (n : ℕ) → AllByRecursion P xs → P n → AllByRecursion P (xs ++ n ∷ [])
    all-more P [] n h p = (p, tt)
    all-more P (x ∷ xs) n h p = (h.0, all-more P xs n h.1 p)

-- what a bucket must be for the number behind one that it does not have to change
abbrev pub IsFree : ℕ → List ℕ → ℕ → Type 0
IsFree capacity numbers l = AllByRecursion (λ z. l ≢ z) numbers × Distinct numbers × (length numbers ≤ capacity)

-- behind the last of its cylinder
append-list : (capacity : ℕ) (run : RunView) (behind : List ℕ) (c cylinders n : ℕ) (numbers : List ℕ) → IsRun capacity run behind cylinders → run.marked c ≡ true
    → c < length run.lasts → slice_index run.lasts c < length behind → IsLinked behind numbers (slice_index run.firsts c) (slice_index run.lasts c) → Distinct numbers
    → AllByRecursion (λ z. z ≢ n) numbers → length numbers + 1 ≤ capacity
    → let new = record run { lasts = set run.lasts c n } in let later = set behind (slice_index run.lasts c) n in
    (bucket capacity new later c ≡ numbers ++ n ∷ []) × IsLinked later (numbers ++ n ∷ []) (slice_index run.firsts c) (slice_index new.lasts c)
append-list capacity run behind c cylinders n [] is on there lt linked once other room = absurd linked
append-list capacity run behind c cylinders n (x ∷ xs) is on there lt linked once other room =
    let l : ℕ = slice_index run.lasts c in
    let new : RunView = record run { lasts = set run.lasts c n } in
    let last : slice_index new.lasts c ≡ n = get_or-set_same run.lasts c n 0 there in
    let leads : Leads (set behind l n) x (xs ++ n ∷ []) (slice_index new.lasts c) =
    subst (λ m. Leads (set behind l n) x (xs ++ n ∷ []) m) (sym last) (leads-more behind n x xs l once lt linked.1) in
    let size : length (x ∷ xs ++ n ∷ []) ≤ capacity = omega (arith, room, length-append (x ∷ xs) (n ∷ [])) in
    (bucket-is capacity new (set behind l n) c x (xs ++ n ∷ []) on linked.0 leads (distinct-more (x ∷ xs) n once other) size, (linked.0, leads))

append-behind : (capacity : ℕ) (run : RunView) (behind : List ℕ) (c cylinders n : ℕ) → IsRun capacity run behind cylinders → run.marked c ≡ true
    → slice_index run.lasts c < length behind → Distinct (bucket capacity run behind c) → AllByRecursion (λ z. z ≢ n) (bucket capacity run behind c)
    → length (bucket capacity run behind c) + 1 ≤ capacity
    → ((i : ℕ) → i ≢ c → run.marked i ≡ true → IsFree capacity (bucket capacity run behind i) (slice_index run.lasts c))
    → IsAppended capacity run (record run { lasts = set run.lasts c n }) behind (set behind (slice_index run.lasts c) n) c cylinders n
append-behind capacity run behind c cylinders n is on lt once other room free =
    let l : ℕ = slice_index run.lasts c in
    let new : RunView = record run { lasts = set run.lasts c n } in
    let later : List ℕ = set behind l n in
    let there : c < length run.lasts = omega (arith, is.inside c on, is.lasts) in
    let mine = append-list capacity run behind c cylinders n (bucket capacity run behind c) is on there lt (is.linked c on) once other room in
    let last-other : (i : ℕ) → i ≢ c → slice_index new.lasts i ≡ slice_index run.lasts i = λ i ne. get_or-set_other run.lasts c i n 0 ne in
    let framed : (i : ℕ) → i ≢ c → bucket capacity new later i ≡ bucket capacity run later i = λ i ne. bucket-same capacity run new later i refl refl (last-other i ne) in
    record {
      own = mine.0;
      same = λ i ne. framed i ne ∙ (frame-one capacity run behind l n i cylinders is (free i ne)).0;
      is = record {
        firsts = is.firsts;
        lasts = length-set run.lasts c n ∙ is.lasts;
        inside = is.inside;
        linked = λ i m. here-or (IsLinked later (bucket capacity new later i) (slice_index run.firsts i) (slice_index new.lasts i)) i c
            (λ e. subst (λ j. IsLinked later (bucket capacity new later j) (slice_index run.firsts j) (slice_index new.lasts j)) (sym e)
            (subst (λ k. IsLinked later k (slice_index run.firsts c) (slice_index new.lasts c)) (sym mine.0) mine.1))
            (λ ne. subst (λ k. IsLinked later k (slice_index run.firsts i) (slice_index new.lasts i)) (sym (framed i ne))
            (subst (λ z. IsLinked later (bucket capacity run later i) (slice_index run.firsts i) z) (sym (last-other i ne))
            ((frame-one capacity run behind l n i cylinders is (free i ne)).1 m)));
      };
      on = on;
      marks = λ i m. inr m;
    }

-- the first of its cylinder
append-first : (capacity : ℕ) (run : RunView) (behind : List ℕ) (c cylinders n : ℕ) → IsRun capacity run behind cylinders → run.marked c ≡ false → c < cylinders → 1 ≤ capacity
    → IsAppended capacity run (record { firsts = set run.firsts c n; lasts = set run.lasts c n; marked = with_bit run.marked c true }) behind behind c cylinders n
append-first capacity run behind c cylinders n is off there room =
    let new : RunView = record { firsts = set run.firsts c n; lasts = set run.lasts c n; marked = with_bit run.marked c true } in
    let on : new.marked c ≡ true = with_bit-here run.marked c true in
    let first : slice_index new.firsts c ≡ n = get_or-set_same run.firsts c n 0 (omega (arith, is.firsts)) in
    let last : slice_index new.lasts c ≡ n = get_or-set_same run.lasts c n 0 (omega (arith, is.lasts)) in
    let own : bucket capacity new behind c ≡ n ∷ [] = bucket-is capacity new behind c n [] on (sym first) (sym last) (tt, tt) room in
    let first-other : (i : ℕ) → i ≢ c → slice_index new.firsts i ≡ slice_index run.firsts i = λ i ne. get_or-set_other run.firsts c i n 0 ne in
    let last-other : (i : ℕ) → i ≢ c → slice_index new.lasts i ≡ slice_index run.lasts i = λ i ne. get_or-set_other run.lasts c i n 0 ne in
    let same : (i : ℕ) → i ≢ c → bucket capacity new behind i ≡ bucket capacity run behind i =
    λ i ne. bucket-same capacity run new behind i (with_bit-other run.marked c i true ne) (first-other i ne) (last-other i ne) in
    record {
      own = own ∙ ap (λ l. l ++ n ∷ []) (sym (bucket-none capacity run behind c off));
      same = same;
      is = record {
        firsts = length-set run.firsts c n ∙ is.firsts;
        lasts = length-set run.lasts c n ∙ is.lasts;
        inside = λ i m. here-or (i < cylinders) i c (λ e. omega arith) (λ ne. is.inside i (sym (with_bit-other run.marked c i true ne) ∙ m));
        linked = λ i m. here-or (IsLinked behind (bucket capacity new behind i) (slice_index new.firsts i) (slice_index new.lasts i)) i c
            (λ e. subst (λ j. IsLinked behind (bucket capacity new behind j) (slice_index new.firsts j) (slice_index new.lasts j)) (sym e)
            (subst (λ k. IsLinked behind k (slice_index new.firsts c) (slice_index new.lasts c)) (sym own) (sym first, sym last)))
            (λ ne. subst (λ k. IsLinked behind k (slice_index new.firsts i) (slice_index new.lasts i)) (sym (same i ne))
            (subst (λ f. IsLinked behind (bucket capacity run behind i) f (slice_index new.lasts i)) (sym (first-other i ne))
            (subst (λ z. IsLinked behind (bucket capacity run behind i) (slice_index run.firsts i) z) (sym (last-other i ne))
            (is.linked i (sym (with_bit-other run.marked c i true ne) ∙ m)))));
      };
      on = on;
      marks = λ i m. here-or ((i ≡ c) ⊎ (run.marked i ≡ true)) i c inl (λ ne. inr (sym (with_bit-other run.marked c i true ne) ∙ m));
    }

-- the other run
pub frame-all : (capacity : ℕ) (run : RunView) (behind : List ℕ) (l n cylinders : ℕ) → IsRun capacity run behind cylinders
    → ((i : ℕ) → run.marked i ≡ true → IsFree capacity (bucket capacity run behind i) l) → IsFramed capacity run behind (set behind l n) cylinders
frame-all capacity run behind l n cylinders is free = record {
  same = λ i. (frame-one capacity run behind l n i cylinders is (free i)).0;
  is = record {
    firsts = is.firsts;
    lasts = is.lasts;
    inside = is.inside;
    linked = λ i m. (frame-one capacity run behind l n i cylinders is (free i)).1 m;
  };
}

-- both, by whether one waits at the cylinder
pub append-both : (capacity : ℕ) (run other : RunView) (behind : List ℕ) (c cylinders n : ℕ) → IsRun capacity run behind cylinders → IsRun capacity other behind cylinders
    → c < cylinders → 1 ≤ capacity
    → (run.marked c ≡ true → (slice_index run.lasts c < length behind) × Distinct (bucket capacity run behind c)
    × AllByRecursion (λ z. z ≢ n) (bucket capacity run behind c) × (length (bucket capacity run behind c) + 1 ≤ capacity))
    → ((i : ℕ) → run.marked c ≡ true → i ≢ c → run.marked i ≡ true → IsFree capacity (bucket capacity run behind i) (slice_index run.lasts c))
    → ((i : ℕ) → run.marked c ≡ true → other.marked i ≡ true → IsFree capacity (bucket capacity other behind i) (slice_index run.lasts c))
    → IsAppended capacity run (appended run n c) behind (behind_appended run behind n c) c cylinders n
    × IsFramed capacity other behind (behind_appended run behind n c) cylinders
append-both capacity run other behind c cylinders n is rest there room last free apart = at (run.marked c) refl
  where
    Both : RunView → List ℕ → Type 0
    Both new later = IsAppended capacity run new behind later c cylinders n × IsFramed capacity other behind later cylinders

    at : (b : Bool) → run.marked c ≡ b → Both (appended run n c) (behind_appended run behind n c)
    at true on =
        let l : ℕ = slice_index run.lasts c in
        let h = last on in
        subst (λ r. Both r (behind_appended run behind n c)) (sym (cond-true _ _ _ on))
        (subst (Both (record run { lasts = set run.lasts c n })) (sym (cond-true _ _ _ on)) (
          append-behind capacity run behind c cylinders n is on h.0 h.1 h.2 h.3 (λ i ne m. free i on ne m),
          frame-all capacity other behind l n cylinders rest (λ i m. apart i on m),
        ))
    at false off =
        subst (λ r. Both r (behind_appended run behind n c)) (sym (cond-false _ _ _ off))
        (subst (Both (record { firsts = set run.firsts c n; lasts = set run.lasts c n; marked = with_bit run.marked c true })) (sym (cond-false _ _ _ off))
        (append-first capacity run behind c cylinders n is off there room, record { same = λ i. refl; is = rest }))
