-- The texts of traces and answers, and the counts of a run, refuse these outcomes.
use Rattle.std.proofs.Common.{◌≡◌, ℕ, ◌+◌, ◌-◌, ◌%◌, ◌^◌, ◌<◌, List, [], ◌∷◌, ◌++◌, drop, length, refl, sym, ap, ◌∙◌, arith}
use Rattle.std.specs.Prelude.{codes, decimal, sum}
use Rattle.std.proofs.lemmas.Fmt.{decimal_digit, decimal_nonempty}
use Rattle.std.proofs.lemmas.List.{append_cancel_left, append_cancel_right, append-nil}
use Rattle.std.proofs.lemmas.List.Sums.{sum_by-append}
use Rattle.trace_replay.specs.Text.{spaced}
use Rattle.trace_lines.specs.declared.answers.tally.Tally.{Tally}
use Rattle.promise_rows.specs.Texts.{UnitAndIdSwapped, ErrorWithoutDone, OkCountsReadsAlone, SumThatSaturates}

pub unit_and_id_swapped : UnitAndIdSwapped
unit_and_id_swapped line unit id block small small' differ is =
    differ (same unit id (sym (digit unit (rest id) small) ∙ sym (ap second numbers) ∙ digit id (rest unit) small'))
  where
    rest : ℕ → List ℕ
    rest n = spaced (decimal n ∷ decimal block ∷ codes "clean" ∷ [])

    -- the line without its first word and its end, and then without its first number
    numbers : 32 ∷ decimal id ++ rest unit ≡ 32 ∷ decimal unit ++ rest id
    numbers = append_cancel_left (decimal line) (32 ∷ decimal id ++ rest unit) (32 ∷ decimal unit ++ rest id)
        (append_cancel_right (decimal line ++ (32 ∷ decimal id ++ rest unit)) (decimal line ++ (32 ∷ decimal unit ++ rest id)) (10 ∷ []) (ap (drop 7) is))

    second : List ℕ → ℕ
    second [] = 0
    second (x ∷ []) = 0
    second (x ∷ y ∷ ys) = y

    digit : (n : ℕ) (more : List ℕ) → n < 10 → second (32 ∷ decimal n ++ more) ≡ 48 + n
    digit n more few = ap (λ (word : List ℕ). second (32 ∷ word ++ more)) (decimal_digit n few)

    same : (n m : ℕ) → 48 + n ≡ 48 + m → n ≡ m
    same n m is = omega (arith, is)

pub error_without_done : ErrorWithoutDone
error_without_done cause done small is =
    some (decimal done) (decimal_nonempty done (omega (arith, small))) (append_cancel_left front (decimal done) [] (sym is ∙ sym (append-nil front)))
  where
    front : List ℕ
    front = codes "error " ++ cause ++ codes " done "

    some : (word : List ℕ) → 0 < length word → word ≡ [] → ⊥
    some word more none = grind (arith, more, none)

pub ok_counts_reads_alone : OkCountsReadsAlone
ok_counts_reads_alone requests line id new none counts = differ new.ok none (ap (λ (t : Tally). t.ok) (counts requests [] [] refl))
  where
    differ : (n : ℕ) → n ≡ 0 → n ≡ 1 → ⊥
    differ n none one = omega (arith, none, one)

pub sum_that_saturates : SumThatSaturates
sum_that_saturates requests before said old new is last still counts =
    round (sum said) (sym last ∙ ap (λ (t : Tally). t.sum) is)
    (sym still ∙ ap (λ (t : Tally). t.sum) (counts requests before said is) ∙ ap (λ (n : ℕ). n % 2 ^ 32) (sum_by-append (λ (n : ℕ). n) said (1 ∷ [])))
  where
    round : (n : ℕ) → 2 ^ 32 - 1 ≡ n % 2 ^ 32 → 2 ^ 32 - 1 ≡ (n + 1) % 2 ^ 32 → ⊥
    round n last still = omega (arith, last, still)
