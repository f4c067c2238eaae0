-- What the first number of a bucket leaves behind.
use Rattle.std.proofs.Common.{◌≡◌, ◌≢◌, ℕ, ◌<◌, ◌≤◌, Bool, true, false, List, [], ◌∷◌, length, set, refl, sym, ◌∙◌, ap, subst, arith, get_or-set_same, get_or-set_other, length-set}
use Rattle.std.specs.Prelude.{◌==◌, slice_index}
use Rattle.std.proofs.lemmas.Bool.{cond-true, cond-false, eq-eqb, ne_eqb}
use Rattle.std.proofs.lemmas.Bool.Decides.{nat_tests}
use Rattle.disksort.specs.Buckets.{RunView, IsRun, IsLinked, Leads, bucket, with_bit, without_first}
use Rattle.disksort.proofs.Chains.{Distinct, of_last, bucket-none, bucket-same, bucket-is}

pub record IsTaken (capacity : ℕ) (run new : RunView) (behind : List ℕ) (c cylinders : ℕ) (ns : List ℕ) : Type 0 where
  pub own : bucket capacity run behind c ≡ slice_index run.firsts c ∷ ns
  pub rest : bucket capacity new behind c ≡ ns
  pub same : (i : ℕ) → i ≢ c → bucket capacity new behind i ≡ bucket capacity run behind i
  pub is : IsRun capacity new behind cylinders
  pub marks : (i : ℕ) → new.marked i ≡ true → run.marked i ≡ true

pub with_bit-here : (marked : ℕ → Bool) (c : ℕ) (on : Bool) → with_bit marked c on c ≡ on
with_bit-here marked c on = cond-true _ _ _ (eq-eqb c c refl)

pub with_bit-other : (marked : ℕ → Bool) (c i : ℕ) (on : Bool) → i ≢ c → with_bit marked c on i ≡ marked i
with_bit-other marked c i on ne = cond-false _ _ _ (ne_eqb i c ne)

-- this cylinder, or another
pub here-or : (A : Type 0) (i c : ℕ) → (i ≡ c → A) → (i ≢ c → A) → A
here-or A i c f g = at (i == c) refl
  where
    at : (b : Bool) → (i == c) ≡ b → A
    at true e = f (grind (arith, nat_tests))
    at false e = g (grind (arith, nat_tests))

pub not-both : (b : Bool) → b ≡ true → b ≡ false → ⊥
not-both b t f = cc

-- the only one of its bucket
taken-one : (capacity : ℕ) (run : RunView) (behind : List ℕ) (c cylinders : ℕ) → IsRun capacity run behind cylinders → run.marked c ≡ true
    → bucket capacity run behind c ≡ slice_index run.firsts c ∷ []
    → IsTaken capacity run (record run { marked = with_bit run.marked c false }) behind c cylinders []
taken-one capacity run behind c cylinders is on own =
    let new : RunView = record run { marked = with_bit run.marked c false } in
    let same : (i : ℕ) → i ≢ c → bucket capacity new behind i ≡ bucket capacity run behind i =
    λ i ne. bucket-same capacity run new behind i (with_bit-other run.marked c i false ne) refl refl in
    let marks : (i : ℕ) → new.marked i ≡ true → run.marked i ≡ true =
    λ i m. here-or (run.marked i ≡ true) i c
    (λ e. absurd (not-both (new.marked i) m (ap new.marked e ∙ with_bit-here run.marked c false))) (λ ne. sym (with_bit-other run.marked c i false ne) ∙ m) in
    record {
      own = own;
      rest = bucket-none capacity new behind c (with_bit-here run.marked c false);
      same = same;
      is = record {
        firsts = is.firsts;
        lasts = is.lasts;
        inside = λ i m. is.inside i (marks i m);
        linked = λ i m. here-or (IsLinked behind (bucket capacity new behind i) (slice_index run.firsts i) (slice_index run.lasts i)) i c
            (λ e. absurd (not-both (new.marked i) m (ap new.marked e ∙ with_bit-here run.marked c false)))
            (λ ne. subst (λ l. IsLinked behind l (slice_index run.firsts i) (slice_index run.lasts i)) (sym (same i ne)) (is.linked i (marks i m)));
      };
      marks = marks;
    }

-- one with others behind it
taken-more : (capacity : ℕ) (run : RunView) (behind : List ℕ) (c cylinders y : ℕ) (ys : List ℕ) → IsRun capacity run behind cylinders → run.marked c ≡ true
    → bucket capacity run behind c ≡ slice_index run.firsts c ∷ y ∷ ys → y ≡ slice_index behind (slice_index run.firsts c)
    → Leads behind y ys (slice_index run.lasts c) → Distinct (y ∷ ys) → length (y ∷ ys) ≤ capacity
    → IsTaken capacity run (record run { firsts = set run.firsts c (slice_index behind (slice_index run.firsts c)) }) behind c cylinders (y ∷ ys)
taken-more capacity run behind c cylinders y ys is on own next leads once le =
    let n : ℕ = slice_index behind (slice_index run.firsts c) in
    let new : RunView = record run { firsts = set run.firsts c n } in
    let there : c < length run.firsts = omega (arith, is.inside c on, is.firsts) in
    let first : slice_index new.firsts c ≡ n = get_or-set_same run.firsts c n 0 there in
    let rest : bucket capacity new behind c ≡ y ∷ ys = bucket-is capacity new behind c y ys on (next ∙ sym first) leads once le in
    let same : (i : ℕ) → i ≢ c → bucket capacity new behind i ≡ bucket capacity run behind i =
    λ i ne. bucket-same capacity run new behind i refl (get_or-set_other run.firsts c i n 0 ne) refl in
    record {
      own = own;
      rest = rest;
      same = same;
      is = record {
        firsts = length-set run.firsts c n ∙ is.firsts;
        lasts = is.lasts;
        inside = is.inside;
        linked = λ i m. here-or (IsLinked behind (bucket capacity new behind i) (slice_index new.firsts i) (slice_index run.lasts i)) i c
            (λ e. subst (λ j. IsLinked behind (bucket capacity new behind j) (slice_index new.firsts j) (slice_index run.lasts j)) (sym e)
            (subst (λ l. IsLinked behind l (slice_index new.firsts c) (slice_index run.lasts c)) (sym rest) (next ∙ sym first, leads)))
            (λ ne. subst (λ l. IsLinked behind l (slice_index new.firsts i) (slice_index run.lasts i)) (sym (same i ne))
            (subst (λ f. IsLinked behind (bucket capacity run behind i) f (slice_index run.lasts i)) (sym (get_or-set_other run.firsts c i n 0 ne)) (is.linked i m)));
      };
      marks = λ i m. m;
    }

by_list : (capacity : ℕ) (run : RunView) (behind : List ℕ) (c cylinders : ℕ) (numbers : List ℕ) → IsRun capacity run behind cylinders → run.marked c ≡ true
    → bucket capacity run behind c ≡ numbers → IsLinked behind numbers (slice_index run.firsts c) (slice_index run.lasts c) → Distinct numbers → length numbers ≤ capacity
    → (ns : List ℕ) × IsTaken capacity run (without_first run behind c) behind c cylinders ns
by_list capacity run behind c cylinders [] is on own linked once le = absurd linked
by_list capacity run behind c cylinders (x ∷ []) is on own linked once le = (
  [],
  subst (λ r. IsTaken capacity run r behind c cylinders []) (sym (cond-true _ _ _ (eq-eqb _ _ (sym linked.0 ∙ linked.1))))
      (taken-one capacity run behind c cylinders is on (own ∙ ap (λ n. n ∷ []) linked.0)),
)
by_list capacity run behind c cylinders (x ∷ y ∷ ys) is on own linked once le =
    let other : slice_index run.firsts c ≢ slice_index run.lasts c =
    λ e. of_last (λ z. x ≢ z) behind y ys (slice_index run.lasts c) once.0 linked.1.1 (linked.0 ∙ e) in (
      y ∷ ys,
      subst (λ r. IsTaken capacity run r behind c cylinders (y ∷ ys)) (sym (cond-false _ _ _ (ne_eqb _ _ other)))
          (taken-more capacity run behind c cylinders y ys is on (own ∙ ap (λ n. n ∷ y ∷ ys) linked.0) (linked.1.0 ∙ ap (slice_index behind) linked.0) linked.1.1 once.1
          (omega arith)),
    )

pub taken : (capacity : ℕ) (run : RunView) (behind : List ℕ) (c cylinders : ℕ) → IsRun capacity run behind cylinders → run.marked c ≡ true
    → Distinct (bucket capacity run behind c) → length (bucket capacity run behind c) ≤ capacity
    → (ns : List ℕ) × IsTaken capacity run (without_first run behind c) behind c cylinders ns
taken capacity run behind c cylinders is on once le = by_list capacity run behind c cylinders (bucket capacity run behind c) is on refl (is.linked c on) once le
