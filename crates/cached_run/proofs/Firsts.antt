-- How many blocks come before the first that can't be used.
use Rattle.std.proofs.Common.{◌≡◌, ℕ, zero, suc, ◌+◌, ◌-◌, ◌<◌, ◌≤◌, List, Option, None, Some, refl, sym, ap, ◌∙◌, subst, arith}
use Rattle.std.specs.Prelude.{IsSome}
use Rattle.driver_laws.specs.rules.Machine.{Blocks}
use Rattle.driver_laws.specs.rules.Requests.{Map}
use Rattle.driver_laws.specs.rules.Waited.{unusable_or, first_unusable}
use Rattle.cached_run.specs.Answers.{usable_of}
use Rattle.cached_run.specs.Leaving.{usable_in, tried_in}
use Rattle.cached_run.specs.Sessions.{tried_of}
use Rattle.cached_run.proofs.Numbers.{behind_none, none_more}

on_some : (block : Option (List ℕ)) (k : ℕ) (later : Option ℕ) → IsSome block → unusable_or block k later ≡ later
on_some None k later some = absurd (search arith)
on_some (Some bytes) k later some = refl

on_none : (block : Option (List ℕ)) (k : ℕ) (later : Option ℕ) → block ≡ None → unusable_or block k later ≡ Some k
on_none None k later none = refl
on_none (Some bytes) k later none = absurd (never none)
  where
    never : Some bytes ≡ None → ⊥
    never e = cc

shift : (k j : ℕ) → k + suc j ≡ suc k + j
shift k j = omega arith

all_from : (left : ℕ) (blocks : Blocks) (first k : ℕ) → ((j : ℕ) → j < left → IsSome (blocks (first + (k + j)))) → first_unusable left blocks first k ≡ None
all_from zero blocks first k usable = refl
all_from (suc left) blocks first k usable =
    on_some (blocks (first + k)) k (first_unusable left blocks first (suc k)) (subst (λ n. IsSome (blocks (first + n))) (none_more k) (usable 0 (omega arith)))
    ∙ all_from left blocks first (suc k) (λ j lt. subst (λ n. IsSome (blocks (first + n))) (shift k j) (usable (suc j) (omega (arith, lt))))

first_from : (left : ℕ) (blocks : Blocks) (first k done : ℕ) → done < left → ((j : ℕ) → j < done → IsSome (blocks (first + (k + j)))) → blocks (first + (k + done)) ≡ None
    → first_unusable left blocks first k ≡ Some (k + done)
first_from zero blocks first k done lt usable none = absurd (omega (arith, lt))
first_from (suc left) blocks first k zero lt usable none =
    on_none (blocks (first + k)) k (first_unusable left blocks first (suc k)) (ap (λ n. blocks (first + n)) (sym (none_more k)) ∙ none) ∙ ap (λ n. Some n) (sym (none_more k))
first_from (suc left) blocks first k (suc done) lt usable none =
    on_some (blocks (first + k)) k (first_unusable left blocks first (suc k)) (subst (λ n. IsSome (blocks (first + n))) (none_more k) (usable 0 (omega arith)))
    ∙ first_from left blocks first (suc k) done (omega (arith, lt)) (λ j below. subst (λ n. IsSome (blocks (first + n))) (shift k j) (usable (suc j) (omega (arith, below))))
    (ap (λ n. blocks (first + n)) (sym (shift k done)) ∙ none)
    ∙ ap (λ n. Some n) (sym (shift k done))

-- all of them,
pub all_usable : (contents : Map) (unit first count : ℕ) → ((j : ℕ) → j < count → IsSome (contents unit (first + j))) → count ≡ usable_in contents unit first count
all_usable contents unit first count usable =
    sym (ap (λ o. usable_of o count) (all_from count (contents unit) first 0 (λ j lt. subst (λ n. IsSome (contents unit (first + n))) (behind_none j) (usable j lt))))

-- or those before this one
pub some_usable : (contents : Map) (unit first count done : ℕ) → done < count → ((j : ℕ) → j < done → IsSome (contents unit (first + j))) → contents unit (first + done) ≡ None → done ≡ usable_in contents unit first count
some_usable contents unit first count done lt usable none =
    sym (ap (λ o. usable_of o count) (first_from count (contents unit) first 0 done lt (λ j below. subst (λ n. IsSome (contents unit (first + n))) (behind_none j) (usable j below))
    (ap (λ n. contents unit (first + n)) (sym (behind_none done)) ∙ none)) ∙ sym (behind_none done))

-- THE SAME of how many are tried
pub all_tried : (contents : Map) (unit first count : ℕ) → ((j : ℕ) → j < count → IsSome (contents unit (first + j))) → count ≡ tried_in contents unit first count
all_tried contents unit first count usable =
    sym (ap (λ o. tried_of o count) (all_from count (contents unit) first 0 (λ j lt. subst (λ n. IsSome (contents unit (first + n))) (behind_none j) (usable j lt))))

pub some_tried : (contents : Map) (unit first count done : ℕ) → done < count → ((j : ℕ) → j < done → IsSome (contents unit (first + j))) → contents unit (first + done) ≡ None
    → done + 1 ≡ tried_in contents unit first count
some_tried contents unit first count done lt usable none =
    sym (ap (λ o. tried_of o count) (first_from count (contents unit) first 0 done lt (λ j below. subst (λ n. IsSome (contents unit (first + n))) (behind_none j) (usable j below))
    (ap (λ n. contents unit (first + n)) (sym (behind_none done)) ∙ none)) ∙ ap (λ n. n + 1) (sym (behind_none done)))

-- so one more is tried than these
pub record IsTriedAt (n k : ℕ) : Type 0 where
  pub more : ℕ
  pub is : n ≡ k + suc more

-- at least these
at_least : (left n : ℕ) (blocks : Blocks) (first k : ℕ) → n ≤ left → ((j : ℕ) → j < n → IsSome (blocks (first + (k + j)))) → k + n ≤ usable_of (first_unusable left blocks first k) (k + left)
at_least zero zero blocks first k le usable = omega arith
at_least zero (suc n) blocks first k le usable = absurd (omega (arith, le))
at_least (suc left) zero blocks first k le usable = by (blocks (first + k)) (at_least left 0 blocks first (suc k) (omega arith) (λ j lt. absurd (omega (arith, lt))))
  where
    by : (block : Option (List ℕ)) → suc k + 0 ≤ usable_of (first_unusable left blocks first (suc k)) (suc k + left) → k + 0 ≤ usable_of (unusable_or block k (first_unusable left blocks first (suc k))) (k + suc left)
    by None rest = omega arith
    by (Some bytes) rest =
        let more : suc k + 0 ≤ usable_of (first_unusable left blocks first (suc k)) (k + suc left) = subst (λ n. suc k + 0 ≤ usable_of (first_unusable left blocks first (suc k)) n) (sym (shift k left)) rest in
        omega (arith, more)
at_least (suc left) (suc n) blocks first k le usable =
    subst (λ o. k + suc n ≤ usable_of o (k + suc left)) (sym (on_some (blocks (first + k)) k (first_unusable left blocks first (suc k)) (subst (λ n. IsSome (blocks (first + n))) (none_more k) (usable 0 (omega arith)))))
    (subst (λ z. z ≤ usable_of (first_unusable left blocks first (suc k)) (k + suc left)) (sym (shift k n))
    (subst (λ z. suc k + n ≤ usable_of (first_unusable left blocks first (suc k)) z) (sym (shift k left))
    (at_least left n blocks first (suc k) (omega (arith, le)) (λ j lt. subst (λ n. IsSome (blocks (first + n))) (shift k j) (usable (suc j) (omega (arith, lt)))))))

pub at_least_usable : (contents : Map) (unit first count n : ℕ) → n ≤ count → ((j : ℕ) → j < n → IsSome (contents unit (first + j))) → n ≤ usable_in contents unit first count
at_least_usable contents unit first count n le usable =
    subst (λ z. n ≤ usable_of (first_unusable count (contents unit) first 0) z) (sym (behind_none count))
    (from_none n (usable_of (first_unusable count (contents unit) first 0) (0 + count))
    (at_least count n (contents unit) first 0 le (λ j lt. subst (λ n. IsSome (contents unit (first + n))) (behind_none j) (usable j lt))))
  where
    from_none : (n m : ℕ) → 0 + n ≤ m → n ≤ m
    from_none n m le = omega (arith, le)

pub tried_at : (contents : Map) (unit first count k : ℕ) → k < count → ((j : ℕ) → j < k → IsSome (contents unit (first + j))) → IsTriedAt (tried_in contents unit first count) k
tried_at contents unit first count k lt usable = by (first_unusable count (contents unit) first 0) (at_least_usable contents unit first count k (omega (arith, lt)) usable)
  where
    by : (o : Option ℕ) → k ≤ usable_of o count → IsTriedAt (tried_of o count) k
    by None le = record { more = count - suc k; is = omega (arith, lt) }
    by (Some d) le = record { more = d - k; is = omega (arith, le) }
