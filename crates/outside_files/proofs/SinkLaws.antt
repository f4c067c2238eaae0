-- What a sink answers, by what its file took.
use Rattle.std.proofs.Common.{◌≡◌, ℕ, ◌<◌, ◌≤◌, false, Result, Ok, Err, sym, ap, ◌∙◌, arith, subst}
use Rattle.std.specs.Prelude.{List, IfOk, is_err, length, take, min, ◌==◌, ◌&&◌, ◌++◌, nat_lt}
use Rattle.std.proofs.lemmas.Bool.Decides.{nat_tests}
use Rattle.std.proofs.lemmas.List.{length-take-le, take-append-le, take_all, take_min}
use Rattle.outside_traits.specs.Causes.{HandsOn}
use Rattle.outside_files.specs.Answers.{takes_nothing}

positive : (n size : ℕ) → 0 < size → false ≡ ((n == 0) && nat_lt 0 size) → 0 < n
positive n size room e = grind (arith, nat_tests)

-- where bytes were there to take, an answer that is no error counts some
pub some_counted : {D E : Type 0} (answer taken : Result ℕ D) (failed : E) (result : Result ℕ E) (before now size : ℕ)
    → is_err taken ≡ takes_nothing answer size → IfOk taken (λ n. answer ≡ Ok n) → HandsOn taken failed result before now → IfOk result (λ n. 0 < size → 0 < n)
some_counted answer (Ok n) failed result before now size exact count h =
    subst (λ r. IfOk r (λ n. 0 < size → 0 < n)) (sym h.0) (λ room. positive n size room (exact ∙ ap (λ a. takes_nothing a size) count))
some_counted answer (Err error) failed result before now size exact count h = subst (λ r. IfOk r (λ n. 0 < size → 0 < n)) (sym h.0) tt

-- a front of 64 bytes that stands before other bytes is what was copied there
pub front_kept : (n : ℕ) (from copied rest : List ℕ) → n ≡ min (length from) 64 → copied ≡ take n from → take n (copied ++ rest) ≡ take 64 from
front_kept n from copied rest e f =
    let le : n ≤ length from = omega (arith, e) in
    let commuted : n ≡ min 64 (length from) = omega (arith, e) in
    let size : length (take n from) ≡ n = length-take-le n from le in
    let enough : n ≤ length (take n from) = omega (arith, size) in
    let few : length (take n from) ≤ n = omega (arith, size) in
    ap (λ l. take n (l ++ rest)) f
    ∙ (take-append-le n (take n from) rest enough ∙ (take_all n (take n from) few ∙ (ap (λ k. take k from) commuted ∙ take_min 64 from)))
