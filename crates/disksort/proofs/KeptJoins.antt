-- What one that joins keeps.
use Rattle.std.proofs.Common.{◌≡◌, ◌≢◌, ℕ, ◌+◌, ◌<◌, ◌≤◌, nat_lt, Bool, true, false, List, [], ◌∷◌, ◌++◌, length, refl, sym, ◌∙◌, ap, subst, arith, inl, inr, set, length-set}
use Rattle.std.specs.Prelude.{◌⊎◌, slice_index, if◌then◌else◌}
use Rattle.std.proofs.lemmas.Bool.Decides.{nat_tests}
use Rattle.std.specs.List.{AllByRecursion}
use Rattle.std.proofs.lemmas.List.{length-append}
use Rattle.std.proofs.lemmas.Bool.{false_from_ne_true}
use Rattle.disksort.specs.declared.Waiter.{Waiter}
use Rattle.disksort.specs.Buckets.{RunView, IsRun, IsLowest, Once, bucket, at_cylinder, spell, spelled, appended, behind_appended}
use Rattle.disksort.specs.SortQueue.{IsKept, cylinder_of, waiting_in}
use Rattle.disksort.proofs.Chains.{bucket-none, linked-last}
use Rattle.disksort.proofs.Spells.{Each, each-front, each-back, above, spell-same, spell-from, spell-until, spell-at, above-at, of_numbers, spell-put}
use Rattle.disksort.proofs.Onces.{Apart, alone, once-swapped, once-queue_with, each-queue_with}
use Rattle.disksort.proofs.Appends.{IsAppended, IsFramed, IsFree, append-both}
use Rattle.disksort.proofs.Joins.{join-first, join-second, join-empty}
use Rattle.disksort.proofs.Kept.{leaving, kept-of, size-at, side, spelled-none}
use Rattle.trace_replay.specs.requests.ServiceOrder.{queue_with, put_behind}
use Rattle.trace_replay.proofs.requests.ServiceOrderRuns.{queue_with-in_order}
use Rattle.trace_replay.proofs.requests.ServiceOrderLaws.{length-queue_with}
use Rattle.disksort.proofs.Takes.{not-both}

-- a run into which a number may go at a cylinder, beside the other run
pub record IsReady (capacity : ℕ) (run other : RunView) (behind : List ℕ) (c cylinders n : ℕ) : Type 0 where
  pub is : IsRun capacity run behind cylinders
  pub rest : IsRun capacity other behind cylinders
  pub numbers : length behind ≡ capacity
  pub once : Once (spelled capacity run behind cylinders ++ spelled capacity other behind cylinders)
  pub inside : Each (λ w. w.number < capacity) (spelled capacity run behind cylinders)
  pub absent : Each (λ w. w.number ≢ n) (spelled capacity run behind cylinders)
  pub room : length (spelled capacity run behind cylinders) + length (spelled capacity other behind cylinders) + 1 ≤ capacity
  pub there : c < cylinders

module _ (capacity : ℕ) (run other : RunView) (behind : List ℕ) (c cylinders n : ℕ) (r : IsReady capacity run other behind c cylinders n) where
  abbrev B : ℕ → List ℕ
  B = bucket capacity run behind

  abbrev O : ℕ → List ℕ
  O = bucket capacity other behind

  abbrev l : ℕ
  l = slice_index run.lasts c

  -- the last number of the cylinder is another than all of these
  last-apart : run.marked c ≡ true → (ws : List Waiter) → Apart (at_cylinder c (B c)) ws → Each (λ w. l ≢ w.number) ws
  last-apart on ws apart =
      linked-last (λ z. Each (λ w. z ≢ w.number) ws) behind (B c) (slice_index run.firsts c) l (r.is.linked c on)
      (of_numbers (λ z. Each (λ w. z ≢ w.number) ws) c (B c) apart)

  last-inside : run.marked c ≡ true → l < length behind
  last-inside on =
      let below : l < capacity = linked-last (λ z. z < capacity) behind (B c) (slice_index run.firsts c) l (r.is.linked c on)
      (of_numbers (λ z. z < capacity) c (B c) (spell-at (λ w. w.number < capacity) B cylinders c r.there r.inside)) in
      omega (arith, below, r.numbers)

  own-free : (i : ℕ) → run.marked c ≡ true → i ≢ c → run.marked i ≡ true → IsFree capacity (B i) l
  own-free i on ne m =
      let lt : i < cylinders = r.is.inside i m in
      let whole = alone B (spell O cylinders) c cylinders r.there r.once in
      let size = size-at B cylinders i lt in (
        side (AllByRecursion (λ z. l ≢ z) (B i)) i c ne
            (λ low. of_numbers (λ z. l ≢ z) i (B i) (spell-at (λ w. l ≢ w.number) B c i low (last-apart on (spell B c) whole.low)))
            (λ high. of_numbers (λ z. l ≢ z) i (B i) (above-at (λ w. l ≢ w.number) B c cylinders i high lt (last-apart on (above B c cylinders) whole.high))),
        (alone B (spell O cylinders) i cylinders lt r.once).distinct,
        omega (arith, size, r.room),
      )

  other-free : (i : ℕ) → run.marked c ≡ true → other.marked i ≡ true → IsFree capacity (O i) l
  other-free i on m =
      let lt : i < cylinders = r.rest.inside i m in
      let whole = alone B (spell O cylinders) c cylinders r.there r.once in
      let size = size-at O cylinders i lt in (
        of_numbers (λ z. l ≢ z) i (O i) (spell-at (λ w. l ≢ w.number) O cylinders i lt (last-apart on (spell O cylinders) whole.rest)),
        (alone O (spell B cylinders) i cylinders lt (once-swapped (spell B cylinders) (spell O cylinders) r.once)).distinct,
        omega (arith, size, r.room),
      )

  pub both : IsAppended capacity run (appended run n c) behind (behind_appended run behind n c) c cylinders n
      × IsFramed capacity other behind (behind_appended run behind n c) cylinders
  both =
      let size = size-at B cylinders c r.there in
      append-both capacity run other behind c cylinders n r.is r.rest r.there (omega (arith, r.room))
      (λ on. (
        last-inside on,
        (alone B (spell O cylinders) c cylinders r.there r.once).distinct,
        of_numbers (λ z. z ≢ n) c (B c) (spell-at (λ w. w.number ≢ n) B cylinders c r.there r.absent),
        omega (arith, size, r.room),
      )) own-free other-free

-- what the two runs spell then
run-after : (capacity : ℕ) (run new : RunView) (behind later : List ℕ) (c cylinders n : ℕ) → c < cylinders → IsAppended capacity run new behind later c cylinders n
    → spelled capacity new later cylinders ≡ put_behind cylinder_of (record { number = n; cylinder = c }) (spelled capacity run behind cylinders)
run-after capacity run new behind later c cylinders n lt a =
    spell-put (bucket capacity run behind) (bucket capacity new later) c cylinders n lt (λ i ne l. a.same i ne) a.own

other-after : (capacity : ℕ) (run : RunView) (behind later : List ℕ) (cylinders : ℕ) → IsFramed capacity run behind later cylinders
    → spelled capacity run later cylinders ≡ spelled capacity run behind cylinders
other-after capacity run behind later cylinders f = spell-same (bucket capacity run later) (bucket capacity run behind) cylinders (λ i lt. f.same i)

first-from : (first second : RunView) (behind : List ℕ) (capacity cylinders h : ℕ) → IsLowest first.marked h
    → Each (λ w. h ≤ w.cylinder) (spelled capacity first behind cylinders)
first-from first second behind capacity cylinders h lowest =
    spell-from (bucket capacity first behind) h cylinders (λ i lt. bucket-none capacity first behind i (lowest.below i lt))

second-until : (first second : RunView) (behind : List ℕ) (count capacity cylinders h : ℕ) → IsKept first second behind count capacity cylinders → IsLowest first.marked h
    → Each (λ w. w.cylinder < h) (spelled capacity second behind cylinders)
second-until first second behind count capacity cylinders h kept lowest =
    spell-until (bucket capacity second behind) h cylinders
    (λ i le. bucket-none capacity second behind i (false_from_ne_true (second.marked i) (λ on. let lt : i < h = kept.swept i h on lowest.on in absurd (omega arith))))

-- into the second run
pub ready-second : (first second : RunView) (behind : List ℕ) (count capacity cylinders n c : ℕ) → IsKept first second behind count capacity cylinders → c < cylinders
    → count < capacity → Each (λ w. w.number ≢ n) (waiting_in first second behind capacity cylinders) → IsReady capacity second first behind c cylinders n
ready-second first second behind count capacity cylinders n c kept lt room absent =
    let F : List Waiter = spelled capacity first behind cylinders in
    let S : List Waiter = spelled capacity second behind cylinders in
    record {
      is = kept.second_run;
      rest = kept.first_run;
      numbers = kept.numbers;
      once = once-swapped F S kept.once;
      inside = each-back (λ w. w.number < capacity) F S kept.inside;
      absent = each-back (λ w. w.number ≢ n) F S absent;
      room = omega (arith, length-append F S, kept.counted);
      there = lt;
    }

pub ready-first : (first second : RunView) (behind : List ℕ) (count capacity cylinders n c : ℕ) → IsKept first second behind count capacity cylinders → c < cylinders
    → count < capacity → Each (λ w. w.number ≢ n) (waiting_in first second behind capacity cylinders) → IsReady capacity first second behind c cylinders n
ready-first first second behind count capacity cylinders n c kept lt room absent =
    let F : List Waiter = spelled capacity first behind cylinders in
    let S : List Waiter = spelled capacity second behind cylinders in
    record {
      is = kept.first_run;
      rest = kept.second_run;
      numbers = kept.numbers;
      once = kept.once;
      inside = each-front (λ w. w.number < capacity) F S kept.inside;
      absent = each-front (λ w. w.number ≢ n) F S absent;
      room = omega (arith, length-append F S, kept.counted);
      there = lt;
    }

pub last-ready : (capacity : ℕ) (run other : RunView) (behind : List ℕ) (c cylinders n : ℕ) → IsReady capacity run other behind c cylinders n
    → run.marked c ≡ true → slice_index run.lasts c < length behind
last-ready capacity run other behind c cylinders n r on = last-inside capacity run other behind c cylinders n r on

flipped : (n : ℕ) (ws : List Waiter) → Each (λ w. w.number ≢ n) ws → Each (λ w. n ≢ w.number) ws
flipped n [] h = tt
flipped n (w ∷ ws) h = ((λ e. h.0 (sym e)), flipped n ws h.1)

-- the queue of one more, that buckets spell
kept-more : (first second new one : RunView) (behind later : List ℕ) (count capacity cylinders n c : ℕ) → IsKept first second behind count capacity cylinders
    → Each (λ w. w.number ≢ n) (waiting_in first second behind capacity cylinders) → n < capacity → count < capacity
    → waiting_in new one later capacity cylinders ≡ queue_with cylinder_of (record { number = n; cylinder = c }) (waiting_in first second behind capacity cylinders)
    → IsRun capacity new later cylinders → IsRun capacity one later cylinders → length later ≡ capacity
    → ((a d : ℕ) → one.marked a ≡ true → new.marked d ≡ true → a < d) → (((d : ℕ) → new.marked d ≡ false) → (a : ℕ) → one.marked a ≡ false)
    → IsKept new one later (count + 1) capacity cylinders
kept-more first second new one behind later count capacity cylinders n c kept absent inside room e f s size swept begun =
    let x : Waiter = record { number = n; cylinder = c } in
    let W : List Waiter = waiting_in first second behind capacity cylinders in
    kept-of new one later (count + 1) capacity cylinders (queue_with cylinder_of x W) e f s size kept.small kept.few
    (omega (arith, kept.counted, length-queue_with cylinder_of x W)) (omega arith)
    (each-queue_with (λ w. w.number < capacity) x W kept.order inside kept.inside) (once-queue_with x W kept.order (flipped n W absent) kept.once)
    (queue_with-in_order cylinder_of x W kept.order) swept begun

length-later : (run : RunView) (behind : List ℕ) (n c : ℕ) → length (behind_appended run behind n c) ≡ length behind
length-later run behind n c = at (run.marked c)
  where
    at : (b : Bool) → length (if b then set behind (slice_index run.lasts c) n else behind) ≡ length behind
    at true = length-set behind (slice_index run.lasts c) n
    at false = refl

-- the queue afterwards, and what it keeps
pub record IsJoined (first second new one : RunView) (behind later : List ℕ) (count capacity cylinders n c : ℕ) : Type 0 where
  pub queue : waiting_in new one later capacity cylinders
      ≡ queue_with cylinder_of (record { number = n; cylinder = c }) (waiting_in first second behind capacity cylinders)
  pub kept : IsKept new one later (count + 1) capacity cylinders

into-second : (first second : RunView) (behind : List ℕ) (count capacity cylinders n c h : ℕ) → IsKept first second behind count capacity cylinders
    → IsLowest first.marked h → c < h → c < cylinders → n < capacity → count < capacity → Each (λ w. w.number ≢ n) (waiting_in first second behind capacity cylinders)
    → IsJoined first second first (appended second n c) behind (behind_appended second behind n c) count capacity cylinders n c
into-second first second behind count capacity cylinders n c h kept lowest lt there inside room absent =
    let r = ready-second first second behind count capacity cylinders n c kept there room absent in
    let b = both capacity second first behind c cylinders n r in
    let x : Waiter = record { number = n; cylinder = c } in
    let F : List Waiter = spelled capacity first behind cylinders in
    let S : List Waiter = spelled capacity second behind cylinders in
    let new : RunView = appended second n c in
    let later : List ℕ = behind_appended second behind n c in
    let head = leaving first second behind count capacity cylinders h kept lowest in
    let queue : waiting_in first new later capacity cylinders ≡ queue_with cylinder_of x (F ++ S) =
    ap (λ l. l ++ spelled capacity new later cylinders) (other-after capacity first behind later cylinders b.1)
    ∙ ap (λ l. F ++ l) (run-after capacity second new behind later c cylinders n there b.0)
    ∙ sym (join-second F S _ x (record { number = slice_index first.firsts h; cylinder = h }) head.queue (first-from first second behind capacity cylinders h lowest)
    (second-until first second behind count capacity cylinders h kept lowest) kept.order lt) in
    record {
      queue = queue;
      kept =
          kept-more first second first new behind later count capacity cylinders n c kept absent inside room queue b.1.is b.0.is (length-later second behind n c ∙ kept.numbers)
          (λ a d two one. swept a d (b.0.marks a two) one) (λ none. absurd (not-both (first.marked h) lowest.on (none h)));
    }
  where
    swept : (a d : ℕ) → (a ≡ c) ⊎ (second.marked a ≡ true) → first.marked d ≡ true → a < d
    swept a d (inl e) one = at (nat_lt d h) refl
      where
        at : (b : Bool) → nat_lt d h ≡ b → a < d
        at true t = let l : d < h = grind (arith, nat_tests) in absurd (not-both (first.marked d) one (lowest.below d l))
        at false t = let le : h ≤ d = grind (arith, nat_tests) in omega (arith, e)
    swept a d (inr two) one = kept.swept a d two one

into-first : (first second : RunView) (behind : List ℕ) (count capacity cylinders n c : ℕ) → IsKept first second behind count capacity cylinders
    → ((d : ℕ) → first.marked d ≡ false) ⊎ ((h : ℕ) × IsLowest first.marked h × (h ≤ c)) → c < cylinders → n < capacity → count < capacity
    → Each (λ w. w.number ≢ n) (waiting_in first second behind capacity cylinders)
    → IsJoined first second (appended first n c) second behind (behind_appended first behind n c) count capacity cylinders n c
into-first first second behind count capacity cylinders n c kept where_ there inside room absent =
    let r = ready-first first second behind count capacity cylinders n c kept there room absent in
    let b = both capacity first second behind c cylinders n r in
    let x : Waiter = record { number = n; cylinder = c } in
    let F : List Waiter = spelled capacity first behind cylinders in
    let S : List Waiter = spelled capacity second behind cylinders in
    let new : RunView = appended first n c in
    let later : List ℕ = behind_appended first behind n c in
    let queue : waiting_in new second later capacity cylinders ≡ queue_with cylinder_of x (F ++ S) =
    ap (λ l. l ++ spelled capacity second later cylinders) (run-after capacity first new behind later c cylinders n there b.0)
    ∙ ap (λ l. put_behind cylinder_of x F ++ l) (other-after capacity second behind later cylinders b.1) ∙ sym (joins where_) in
    record {
      queue = queue;
      kept =
          kept-more first second new second behind later count capacity cylinders n c kept absent inside room queue b.0.is b.1.is (length-later first behind n c ∙ kept.numbers)
          (λ a d two one. swept a d two (b.0.marks d one) where_) (λ none. absurd (not-both (new.marked c) b.0.on (none c)));
    }
  where
    joins : ((d : ℕ) → first.marked d ≡ false) ⊎ ((h : ℕ) × IsLowest first.marked h × (h ≤ c))
        → queue_with cylinder_of (record { number = n; cylinder = c }) (spelled capacity first behind cylinders ++ spelled capacity second behind cylinders)
        ≡ put_behind cylinder_of (record { number = n; cylinder = c }) (spelled capacity first behind cylinders) ++ spelled capacity second behind cylinders
    joins (inl none) =
        join-empty (spelled capacity first behind cylinders) (spelled capacity second behind cylinders) (record { number = n; cylinder = c })
        (spelled-none capacity first behind cylinders none) (spelled-none capacity second behind cylinders (kept.begun none))
    joins (inr p) =
        join-first (spelled capacity first behind cylinders) (spelled capacity second behind cylinders) _ (record { number = n; cylinder = c })
        (record { number = slice_index first.firsts p.0; cylinder = p.0 }) (leaving first second behind count capacity cylinders p.0 kept p.1).queue
        (first-from first second behind capacity cylinders p.0 p.1) (second-until first second behind count capacity cylinders p.0 kept p.1) kept.order p.2

    swept : (a d : ℕ) → second.marked a ≡ true → (d ≡ c) ⊎ (first.marked d ≡ true) → ((d : ℕ) → first.marked d ≡ false) ⊎ ((h : ℕ) × IsLowest first.marked h × (h ≤ c)) → a < d
    swept a d two (inl e) (inl none) = absurd (not-both (second.marked a) two (kept.begun none a))
    swept a d two (inl e) (inr p) = let lt : a < p.0 = kept.swept a p.0 two p.1.on in omega (arith, lt, e, p.2)
    swept a d two (inr one) w = kept.swept a d two one

pub joined-second : (first second new : RunView) (behind later : List ℕ) (count capacity cylinders n c h : ℕ) → IsKept first second behind count capacity cylinders
    → IsLowest first.marked h → c < h → c < cylinders → n < capacity → count < capacity → Each (λ w. w.number ≢ n) (waiting_in first second behind capacity cylinders)
    → new ≡ appended second n c → later ≡ behind_appended second behind n c → IsJoined first second first new behind later count capacity cylinders n c
joined-second first second new behind later count capacity cylinders n c h kept lowest lt there inside room absent e f =
    subst (λ r. IsJoined first second first r behind later count capacity cylinders n c) (sym e)
    (subst (λ z. IsJoined first second first (appended second n c) behind z count capacity cylinders n c) (sym f)
    (into-second first second behind count capacity cylinders n c h kept lowest lt there inside room absent))

pub joined-first : (first second new : RunView) (behind later : List ℕ) (count capacity cylinders n c : ℕ) → IsKept first second behind count capacity cylinders
    → ((d : ℕ) → first.marked d ≡ false) ⊎ ((h : ℕ) × IsLowest first.marked h × (h ≤ c)) → c < cylinders → n < capacity → count < capacity
    → Each (λ w. w.number ≢ n) (waiting_in first second behind capacity cylinders)
    → new ≡ appended first n c → later ≡ behind_appended first behind n c → IsJoined first second new second behind later count capacity cylinders n c
joined-first first second new behind later count capacity cylinders n c kept w there inside room absent e f =
    subst (λ r. IsJoined first second r second behind later count capacity cylinders n c) (sym e)
    (subst (λ z. IsJoined first second (appended first n c) second behind z count capacity cylinders n c) (sym f)
    (into-first first second behind count capacity cylinders n c kept w there inside room absent))
