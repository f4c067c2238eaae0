-- What one that joins and one that leaves keep.
use Rattle.std.proofs.Common.{◌≡◌, ◌≢◌, ℕ, ◌-◌, ◌<◌, ◌≤◌, nat_lt, Bool, true, false, List, [], ◌∷◌, ◌++◌, drop, length, suc, refl, sym, ◌∙◌, ap, subst, arith, append-nil}
use Rattle.std.specs.Prelude.{slice_index, slice_get, Some}
use Rattle.std.specs.List.{All, AllByRecursion}
use Rattle.std.proofs.lemmas.List.{length-append}
use Rattle.std.proofs.lemmas.Bool.Decides.{nat_tests}
use Rattle.disksort.specs.declared.Waiter.{Waiter}
use Rattle.disksort.specs.Buckets.{RunView, IsRun, IsLowest, Once, bucket, at_cylinder, spell, spelled, without_first}
use Rattle.disksort.specs.SortQueue.{IsKept, cylinder_of, waiting_in}
use Rattle.disksort.proofs.Chains.{bucket-none, linked-first}
use Rattle.disksort.proofs.Spells.{Each, each-front, each-back, above, spell-split, spell-empty, spell-at, of_numbers, length-at_cylinder, spell-take}
use Rattle.disksort.proofs.Onces.{alone}
use Rattle.disksort.proofs.Takes.{taken, not-both}
use Rattle.disksort.proofs.Walks.{get-front}
use Rattle.trace_replay.specs.requests.ServiceOrder.{IsInOrder}
use Rattle.trace_replay.proofs.requests.ServiceOrderRuns.{drop-in_order}

pub from_all : (P : Waiter → Type 0) (ws : List Waiter) → All P ws → Each P ws
from_all P [] h = tt
from_all P (w ∷ ws) h = (h 0 w (omega arith), from_all P ws (λ k d lt. h (suc k) d (omega arith)))

pub side : (A : Type 0) (i c : ℕ) → i ≢ c → (i < c → A) → (c < i → A) → A
side A i c ne f g = at (nat_lt i c) refl
  where
    at : (b : Bool) → nat_lt i c ≡ b → A
    at true e = f (grind (arith, nat_tests))
    at false e = let le : c ≤ i = grind (arith, nat_tests) in g (omega arith)

pub size-at : (B : ℕ → List ℕ) (k i : ℕ) → i < k → length (B i) ≤ length (spell B k)
size-at B k i lt =
    omega (
      arith,
      ap (λ (l : List Waiter). length l) (spell-split B i k lt),
      length-append (spell B i) (at_cylinder i (B i) ++ above B i k),
      length-append (at_cylinder i (B i)) (above B i k),
      length-at_cylinder i (B i),
    )

-- a queue that buckets spell
pub kept-of : (first second : RunView) (behind : List ℕ) (count capacity cylinders : ℕ) (queue : List Waiter) → waiting_in first second behind capacity cylinders ≡ queue
    → IsRun capacity first behind cylinders → IsRun capacity second behind cylinders → length behind ≡ capacity → capacity ≤ 65536 → cylinders ≤ 1024
    → count ≡ length queue → count ≤ capacity → Each (λ w. w.number < capacity) queue → Once queue → IsInOrder cylinder_of queue
    → ((c d : ℕ) → second.marked c ≡ true → first.marked d ≡ true → c < d) → (((d : ℕ) → first.marked d ≡ false) → (c : ℕ) → second.marked c ≡ false)
    → IsKept first second behind count capacity cylinders
kept-of first second behind count capacity cylinders queue e one two numbers small few counted fits inside once order swept begun = record {
  first_run = one;
  second_run = two;
  numbers = numbers;
  small = small;
  few = few;
  counted = counted ∙ ap (λ (l : List Waiter). length l) (sym e);
  fits = fits;
  inside = subst (AllByRecursion (λ w. w.number < capacity)) (sym e) inside;
  once = subst Once (sym e) once;
  order = subst (IsInOrder cylinder_of) (sym e) order;
  swept = swept;
  begun = begun;
}

pub spelled-none : (capacity : ℕ) (run : RunView) (behind : List ℕ) (cylinders : ℕ) → ((c : ℕ) → run.marked c ≡ false) → spelled capacity run behind cylinders ≡ []
spelled-none capacity run behind cylinders none = spell-empty (bucket capacity run behind) cylinders (λ i lt. bucket-none capacity run behind i (none i))

none-run : (capacity : ℕ) (run : RunView) (behind : List ℕ) (cylinders : ℕ) → length run.firsts ≡ cylinders → length run.lasts ≡ cylinders
    → ((c : ℕ) → run.marked c ≡ false) → IsRun capacity run behind cylinders
none-run capacity run behind cylinders f l none = record {
  firsts = f;
  lasts = l;
  inside = λ c on. absurd (not-both (run.marked c) on (none c));
  linked = λ c on. absurd (not-both (run.marked c) on (none c));
}

pub waiting-none : (first second : RunView) (behind : List ℕ) (capacity cylinders : ℕ) → ((c : ℕ) → first.marked c ≡ false) → ((c : ℕ) → second.marked c ≡ false)
    → waiting_in first second behind capacity cylinders ≡ []
waiting-none first second behind capacity cylinders f s =
    ap (λ l. l ++ spelled capacity second behind cylinders) (spelled-none capacity first behind cylinders f) ∙ spelled-none capacity second behind cylinders s

pub kept-new : (first second : RunView) (behind : List ℕ) (capacity cylinders : ℕ) → length first.firsts ≡ cylinders → length first.lasts ≡ cylinders
    → length second.firsts ≡ cylinders → length second.lasts ≡ cylinders → ((c : ℕ) → first.marked c ≡ false) → ((c : ℕ) → second.marked c ≡ false)
    → length behind ≡ capacity → capacity ≤ 65536 → cylinders ≤ 1024 → IsKept first second behind 0 capacity cylinders
kept-new first second behind capacity cylinders ff fl sf sl f s numbers small few =
    kept-of first second behind 0 capacity cylinders [] (waiting-none first second behind capacity cylinders f s) (none-run capacity first behind cylinders ff fl f)
    (none-run capacity second behind cylinders sf sl s) numbers small few refl (omega arith) tt tt refl
    (λ c d on m. absurd (not-both (second.marked c) on (s c))) (λ h c. s c)

-- where none waits in the first run, none waits
pub empty-queue : (first second : RunView) (behind : List ℕ) (count capacity cylinders : ℕ) → IsKept first second behind count capacity cylinders
    → ((c : ℕ) → first.marked c ≡ false) → waiting_in first second behind capacity cylinders ≡ []
empty-queue first second behind count capacity cylinders kept none = waiting-none first second behind capacity cylinders none (kept.begun none)

-- the head, and what it leaves
pub record IsLeaving (first second : RunView) (behind : List ℕ) (capacity cylinders c : ℕ) : Type 0 where
  pub queue : waiting_in first second behind capacity cylinders
      ≡ record { number = slice_index first.firsts c; cylinder = c } ∷ waiting_in (without_first first behind c) second behind capacity cylinders
  pub is : IsRun capacity (without_first first behind c) behind cylinders
  pub marks : (i : ℕ) → (without_first first behind c).marked i ≡ true → first.marked i ≡ true

pub leaving : (first second : RunView) (behind : List ℕ) (count capacity cylinders c : ℕ) → IsKept first second behind count capacity cylinders
    → IsLowest first.marked c → IsLeaving first second behind capacity cylinders c
leaving first second behind count capacity cylinders c kept lowest =
    let A : ℕ → List ℕ = bucket capacity first behind in
    let lt : c < cylinders = kept.first_run.inside c lowest.on in
    let S : List Waiter = spelled capacity second behind cylinders in
    let whole = alone A S c cylinders lt kept.once in
    let size : length (A c) ≤ capacity = omega (arith, size-at A cylinders c lt, length-append (spell A cylinders) S, kept.counted, kept.fits) in
    let t = taken capacity first behind c cylinders kept.first_run lowest.on whole.distinct size in
    record {
      queue = ap (λ l. l ++ S)
          (spell-take A (bucket capacity (without_first first behind c) behind) c cylinders (slice_index first.firsts c) t.0 lt
          (λ i l. bucket-none capacity first behind i (lowest.below i l)) t.1.own t.1.rest (λ i ne l. t.1.same i ne));
      is = t.1.is;
      marks = t.1.marks;
    }

pub first-inside : (first second : RunView) (behind : List ℕ) (count capacity cylinders c : ℕ) → IsKept first second behind count capacity cylinders
    → IsLowest first.marked c → slice_index first.firsts c < length behind
first-inside first second behind count capacity cylinders c kept lowest =
    let B : ℕ → List ℕ = bucket capacity first behind in
    let lt : c < cylinders = kept.first_run.inside c lowest.on in
    let below : slice_index first.firsts c < capacity =
    linked-first (λ n. n < capacity) behind (B c) (slice_index first.firsts c) (slice_index first.lasts c) (kept.first_run.linked c lowest.on)
    (of_numbers (λ n. n < capacity) c (B c)
    (spell-at (λ w. w.number < capacity) B cylinders c lt (each-front (λ w. w.number < capacity) (spell B cylinders) (spelled capacity second behind cylinders) kept.inside))) in
    omega (arith, below, kept.numbers)

pub kept-left : (first second : RunView) (behind : List ℕ) (count capacity cylinders c d : ℕ) → IsKept first second behind count capacity cylinders
    → IsLowest first.marked c → (without_first first behind c).marked d ≡ true → IsKept (without_first first behind c) second behind (count - 1) capacity cylinders
kept-left first second behind count capacity cylinders c d kept lowest on =
    let l = leaving first second behind count capacity cylinders c kept lowest in
    let new : RunView = without_first first behind c in
    let rest : List Waiter = waiting_in new second behind capacity cylinders in
    kept-of new second behind (count - 1) capacity cylinders rest refl l.is kept.second_run kept.numbers kept.small kept.few
    (omega (arith, kept.counted, ap (λ (q : List Waiter). length q) l.queue)) (omega (arith, kept.fits)) (subst (Each (λ w. w.number < capacity)) l.queue kept.inside).1
    (subst Once l.queue kept.once).1 (subst (λ q. IsInOrder cylinder_of (drop 1 q)) l.queue (drop-in_order cylinder_of _ kept.order))
    (λ a b two one. kept.swept a b two (l.marks b one)) (λ none. absurd (not-both (new.marked d) on (none d)))

runs-swapped : (first second : RunView) (behind : List ℕ) (capacity cylinders : ℕ) → ((c : ℕ) → first.marked c ≡ false)
    → waiting_in second first behind capacity cylinders ≡ waiting_in first second behind capacity cylinders
runs-swapped first second behind capacity cylinders none =
    let S : List Waiter = spelled capacity second behind cylinders in
    let F : spelled capacity first behind cylinders ≡ [] = spelled-none capacity first behind cylinders none in
    ap (λ l. S ++ l) F ∙ append-nil S ∙ sym (ap (λ l. l ++ S) F)

pub kept-swapped : (first second : RunView) (behind : List ℕ) (count capacity cylinders c : ℕ) → IsKept first second behind count capacity cylinders
    → IsLowest first.marked c → ((d : ℕ) → (without_first first behind c).marked d ≡ false)
    → IsKept second (without_first first behind c) behind (count - 1) capacity cylinders
kept-swapped first second behind count capacity cylinders c kept lowest none =
    let l = leaving first second behind count capacity cylinders c kept lowest in
    let new : RunView = without_first first behind c in
    let rest : List Waiter = waiting_in new second behind capacity cylinders in
    kept-of second new behind (count - 1) capacity cylinders rest (runs-swapped new second behind capacity cylinders none) kept.second_run l.is kept.numbers kept.small kept.few
    (omega (arith, kept.counted, ap (λ (q : List Waiter). length q) l.queue)) (omega (arith, kept.fits)) (subst (Each (λ w. w.number < capacity)) l.queue kept.inside).1
    (subst Once l.queue kept.once).1 (subst (λ q. IsInOrder cylinder_of (drop 1 q)) l.queue (drop-in_order cylinder_of _ kept.order))
    (λ a b two one. absurd (not-both (new.marked a) two (none a))) (λ h a. none a)

pub queue-swapped : (first second : RunView) (behind : List ℕ) (count capacity cylinders c : ℕ) → IsKept first second behind count capacity cylinders
    → IsLowest first.marked c → ((d : ℕ) → (without_first first behind c).marked d ≡ false)
    → waiting_in second (without_first first behind c) behind capacity cylinders ≡ drop 1 (waiting_in first second behind capacity cylinders)
queue-swapped first second behind count capacity cylinders c kept lowest none =
    let l = leaving first second behind count capacity cylinders c kept lowest in
    runs-swapped (without_first first behind c) second behind capacity cylinders none ∙ sym (ap (drop 1) l.queue)

-- the same of a run that is known to be the one without its first number, and of exchanged ones
pub left-kept : (first second new : RunView) (behind : List ℕ) (count capacity cylinders c d : ℕ) → IsKept first second behind count capacity cylinders
    → IsLowest first.marked c → new ≡ without_first first behind c → new.marked d ≡ true → IsKept new second behind (count - 1) capacity cylinders
left-kept first second new behind count capacity cylinders c d kept lowest e on =
    subst (λ r. IsKept r second behind (count - 1) capacity cylinders) (sym e)
    (kept-left first second behind count capacity cylinders c d kept lowest (subst (λ (r : RunView). r.marked d ≡ true) e on))

pub left-queue : (first second new : RunView) (behind : List ℕ) (count capacity cylinders c : ℕ) → IsKept first second behind count capacity cylinders
    → IsLowest first.marked c → new ≡ without_first first behind c
    → waiting_in new second behind capacity cylinders ≡ drop 1 (waiting_in first second behind capacity cylinders)
left-queue first second new behind count capacity cylinders c kept lowest e =
    ap (λ r. waiting_in r second behind capacity cylinders) e ∙ sym (ap (drop 1) (leaving first second behind count capacity cylinders c kept lowest).queue)

pub swapped-kept : (first second new one two : RunView) (behind : List ℕ) (count capacity cylinders c : ℕ) → IsKept first second behind count capacity cylinders
    → IsLowest first.marked c → new ≡ without_first first behind c → ((d : ℕ) → new.marked d ≡ false) → one ≡ second → two ≡ new
    → IsKept one two behind (count - 1) capacity cylinders
swapped-kept first second new one two behind count capacity cylinders c kept lowest e none f g =
    subst (λ r. IsKept r two behind (count - 1) capacity cylinders) (sym f)
    (subst (λ r. IsKept second r behind (count - 1) capacity cylinders) (sym (g ∙ e))
    (kept-swapped first second behind count capacity cylinders c kept lowest (subst (λ (r : RunView). (d : ℕ) → r.marked d ≡ false) e none)))

pub swapped-queue : (first second new one two : RunView) (behind : List ℕ) (count capacity cylinders c : ℕ) → IsKept first second behind count capacity cylinders
    → IsLowest first.marked c → new ≡ without_first first behind c → ((d : ℕ) → new.marked d ≡ false) → one ≡ second → two ≡ new
    → waiting_in one two behind capacity cylinders ≡ drop 1 (waiting_in first second behind capacity cylinders)
swapped-queue first second new one two behind count capacity cylinders c kept lowest e none f g =
    ap (λ r. waiting_in r two behind capacity cylinders) f ∙ ap (λ r. waiting_in second r behind capacity cylinders) (g ∙ e)
    ∙ queue-swapped first second behind count capacity cylinders c kept lowest (subst (λ (r : RunView). (d : ℕ) → r.marked d ≡ false) e none)

-- the i-th of the queue, by its runs
at-sizes : (run : RunView) (behind b : List ℕ) (capacity cylinders : ℕ) → b ≡ behind → length behind ≡ capacity → length run.firsts ≡ cylinders
    → spelled (length b) run b (length run.firsts) ≡ spelled capacity run behind cylinders
at-sizes run behind b capacity cylinders e size long =
    ap (λ z. spelled (length z) run z (length run.firsts)) e ∙ ap (λ n. spelled n run behind (length run.firsts)) size ∙ ap (λ k. spelled capacity run behind k) long

pub second-inside : (first second : RunView) (behind b : List ℕ) (count capacity cylinders : ℕ) → IsKept first second behind count capacity cylinders → b ≡ behind
    → AllByRecursion (λ w. w.number < length b) (spelled (length b) second b (length second.firsts))
second-inside first second behind b count capacity cylinders kept e =
    let size : length b ≡ capacity = ap (λ (l : List ℕ). length l) e ∙ kept.numbers in
    subst (AllByRecursion (λ w. w.number < length b)) (sym (at-sizes second behind b capacity cylinders e kept.numbers kept.second_run.firsts))
    (subst (λ n. AllByRecursion (λ w. w.number < n) (spelled capacity second behind cylinders)) (sym size)
    (each-back (λ w. w.number < capacity) (spelled capacity first behind cylinders) (spelled capacity second behind cylinders) kept.inside))

pub nth-first : (first second : RunView) (behind b : List ℕ) (count capacity cylinders i : ℕ) (w : Waiter) → IsKept first second behind count capacity cylinders → b ≡ behind
    → slice_get (spelled (length b) first b (length first.firsts)) i ≡ Some w → Some w ≡ slice_get (waiting_in first second behind capacity cylinders) i
nth-first first second behind b count capacity cylinders i w kept e at =
    sym (get-front (spelled capacity first behind cylinders) (spelled capacity second behind cylinders) i w
    (ap (λ l. slice_get l i) (sym (at-sizes first behind b capacity cylinders e kept.numbers kept.first_run.firsts)) ∙ at))
