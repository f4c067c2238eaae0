-- A walk along a bucket, and along the buckets of a run.
use Rattle.std.proofs.Common.{◌≡◌, ◌≢◌, ℕ, ◌+◌, ◌-◌, ◌<◌, ◌≤◌, true, List, [], ◌∷◌, ◌++◌, length, zero, suc, refl, sym, ◌∙◌, ap, subst, arith}
use Rattle.std.specs.Prelude.{slice_index, slice_get, Some, None, Option}
use Rattle.std.specs.List.{AllByRecursion}
use Rattle.std.proofs.lemmas.Bool.{cond-true, cond-false, eq-eqb, ne_eqb}
use Rattle.std.proofs.lemmas.List.{length-append}
use Rattle.disksort.specs.declared.Waiter.{Waiter}
use Rattle.disksort.specs.Buckets.{chain, bucket, at_cylinder, spell, IsLinked, IsRun, RunView}
use Rattle.disksort.proofs.Chains.{bucket-marked}
use Rattle.disksort.proofs.Spells.{Each, above, spell-split, spell-at, of_numbers, length-at_cylinder}

-- what is left of a bucket at one of its numbers, where so many are behind the walk
pub record IsWalk (behind whole : List ℕ) (number last fuel done : ℕ) : Type 0 where
  pub linked : IsLinked behind (chain behind fuel number last) number last
  pub inside : AllByRecursion (λ n. n < length behind) (chain behind fuel number last)
  pub size : length whole ≡ done + length (chain behind fuel number last)
  pub get : (i : ℕ) → done ≤ i → slice_get whole i ≡ slice_get (chain behind fuel number last) (i - done)

-- at its last number
chain-one : (behind : List ℕ) (number last fuel : ℕ) → number ≡ last → IsLinked behind (chain behind fuel number last) number last
    → chain behind fuel number last ≡ number ∷ []
unfolding chain
chain-one behind number last zero e linked = absurd linked
chain-one behind number last (suc fuel) e linked = ap (λ l. number ∷ l) (cond-true _ _ _ (eq-eqb number last e))

-- at another
chain-more : (behind : List ℕ) (number last fuel : ℕ) → number ≢ last → IsLinked behind (chain behind (suc fuel) number last) number last
    → chain behind (suc fuel) number last ≡ number ∷ chain behind fuel (slice_index behind number) last
unfolding chain
chain-more behind number last fuel ne linked = ap (λ l. number ∷ l) (cond-false _ _ _ (ne_eqb number last ne))

chain-some : (behind : List ℕ) (number last : ℕ) → IsLinked behind (chain behind zero number last) number last → ⊥
unfolding chain
chain-some behind number last linked = linked

rest-linked : (behind : List ℕ) (number last : ℕ) (rest : List ℕ) → number ≢ last → IsLinked behind (number ∷ rest) number last
    → IsLinked behind rest (slice_index behind number) last
rest-linked behind number last [] ne linked = absurd (ne linked.1)
rest-linked behind number last (y ∷ ys) ne linked = linked.1

pub walk-ends : (behind whole : List ℕ) (number last fuel done : ℕ) → IsWalk behind whole number last fuel done → number ≡ last → length whole ≡ done + 1
walk-ends behind whole number last fuel done walk e = walk.size ∙ ap (λ (l : List ℕ). done + length l) (chain-one behind number last fuel e walk.linked)

pub walk-goes : (behind whole : List ℕ) (number last fuel done : ℕ) → IsWalk behind whole number last fuel done → number ≢ last
    → IsWalk behind whole (slice_index behind number) last (fuel - 1) (done + 1)
walk-goes behind whole number last zero done walk ne = absurd (chain-some behind number last walk.linked)
walk-goes behind whole number last (suc fuel) done walk ne =
    let rest : List ℕ = chain behind fuel (slice_index behind number) last in
    let e : chain behind (suc fuel) number last ≡ number ∷ rest = chain-more behind number last fuel ne walk.linked in
    let less : suc fuel - 1 ≡ fuel = omega arith in
    subst (λ f. IsWalk behind whole (slice_index behind number) last f (done + 1)) (sym less) (record {
      linked = rest-linked behind number last rest ne (subst (λ l. IsLinked behind l number last) e walk.linked);
      inside = (subst (AllByRecursion (λ n. n < length behind)) e walk.inside).1;
      size = walk.size ∙ ap (λ (l : List ℕ). done + length l) e ∙ omega arith;
      get = λ i le. walk.get i (omega arith) ∙ ap (λ l. slice_get l (i - done)) e ∙ next rest (i - done) (i - (done + 1)) (omega arith);
    })
  where
    next : (rest : List ℕ) (j k : ℕ) → j ≡ suc k → slice_get (number ∷ rest) j ≡ slice_get rest k
    next rest j k e = ap (slice_get (number ∷ rest)) e

-- along the buckets
pub get-behind : (xs ys : List Waiter) (k : ℕ) → slice_get (xs ++ ys) (length xs + k) ≡ slice_get ys k
get-behind [] ys k = let e : 0 + k ≡ k = omega arith in ap (slice_get ys) e
get-behind (x ∷ xs) ys k = let e : suc (length xs) + k ≡ suc (length xs + k) = omega arith in ap (slice_get (x ∷ xs ++ ys)) e ∙ get-behind xs ys k

pub get-front : (xs ys : List Waiter) (k : ℕ) (w : Waiter) → slice_get xs k ≡ Some w → slice_get (xs ++ ys) k ≡ Some w
get-front [] ys k w e = cc
get-front (x ∷ xs) ys zero w e = e
get-front (x ∷ xs) ys (suc k) w e = get-front xs ys k w e

get-number : (c : ℕ) (ns : List ℕ) (k n : ℕ) → slice_get ns k ≡ Some n → slice_get (at_cylinder c ns) k ≡ Some (record { number = n; cylinder = c })
get-number c [] k n e = cc
get-number c (m ∷ ns) zero n e = ap (λ (o : Option ℕ). named o) e
  where
    named : Option ℕ → Option Waiter
    named None = None
    named (Some n) = Some (record { number = n; cylinder = c })
get-number c (m ∷ ns) (suc k) n e = get-number c ns k n e

pub spell-get : (B : ℕ → List ℕ) (c k left i n : ℕ) → c < k → i ≡ length (spell B c) + left → slice_get (B c) left ≡ Some n
    → slice_get (spell B k) i ≡ Some (record { number = n; cylinder = c })
spell-get B c k left i n lt e at =
    ap (λ l. slice_get l i) (spell-split B c k lt) ∙ ap (slice_get (spell B c ++ (at_cylinder c (B c) ++ above B c k))) e
    ∙ get-behind (spell B c) (at_cylinder c (B c) ++ above B c k) left
    ∙ get-front (at_cylinder c (B c)) (above B c k) left (record { number = n; cylinder = c }) (get-number c (B c) left n at)

spell-next : (B : ℕ → List ℕ) (c : ℕ) → length (spell B (suc c)) ≡ length (spell B c) + length (B c)
unfolding spell
spell-next B c = length-append (spell B c) (at_cylinder c (B c)) ∙ ap (λ n. length (spell B c) + n) (length-at_cylinder c (B c))

pub spell-size : (B : ℕ → List ℕ) (c : ℕ) → length (spell B (c + 1)) ≡ length (spell B c) + length (B c)
spell-size B c = let e : c + 1 ≡ suc c = omega arith in ap (λ k. length (spell B k)) e ∙ spell-next B c

pub spell-none : (B : ℕ → List ℕ) → length (spell B 0) ≡ 0
unfolding spell
spell-none B = refl

-- the bucket of a marked cylinder can be walked
pub bucket-linked : (capacity : ℕ) (run : RunView) (behind : List ℕ) (cylinders c : ℕ) → IsRun capacity run behind cylinders → run.marked c ≡ true
    → IsLinked behind (chain behind capacity (slice_index run.firsts c) (slice_index run.lasts c)) (slice_index run.firsts c) (slice_index run.lasts c)
bucket-linked capacity run behind cylinders c is on =
    subst (λ l. IsLinked behind l (slice_index run.firsts c) (slice_index run.lasts c)) (bucket-marked capacity run behind c on) (is.linked c on)

pub bucket-inside : (capacity : ℕ) (run : RunView) (behind : List ℕ) (cylinders c size : ℕ) → c < cylinders → run.marked c ≡ true
    → Each (λ w. w.number < size) (spell (bucket capacity run behind) cylinders)
    → AllByRecursion (λ n. n < size) (chain behind capacity (slice_index run.firsts c) (slice_index run.lasts c))
bucket-inside capacity run behind cylinders c size lt on all =
    subst (AllByRecursion (λ n. n < size)) (bucket-marked capacity run behind c on)
    (of_numbers (λ n. n < size) c (bucket capacity run behind c) (spell-at (λ w. w.number < size) (bucket capacity run behind) cylinders c lt all))
