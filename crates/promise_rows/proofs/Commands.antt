-- What is promised of words, statuses, transfers and exercises refuses these outcomes.
use Rattle.std.proofs.Common.{◌≡◌, ℕ, suc, ◌+◌, ◌*◌, ◌^◌, List, [], ◌∷◌, ◌++◌, refl, sym, ap, ◌∙◌, arith}
use Rattle.std.proofs.lemmas.List.{append_cancel_left}
use Rattle.rand_core.specs.Steps.{stream_of}
use Rattle.rand_core.specs.Stream.{Stream, next_u64}
use Rattle.hp_exercise.specs.Exercise.{attend_text, head_text, move_text, step_text, steps_text, words_of}
use Rattle.trace_lines.specs.declared.answers.tally.Tally.{Tally}
use Rattle.promise_rows.specs.Commands.{NumberBeforeItsCommand, TwoRefusalsOfOneStatus, HalfOfTheSource, HalfTheNumberPlayed, SeedFromTheGreatestByteOn}

pub number_before_its_command : NumberBeforeItsCommand
number_before_its_command is = cc is

pub two_refusals_of_one_status : TwoRefusalsOfOneStatus
two_refusals_of_one_status is = omega (arith, is)

pub half_of_the_source : HalfOfTheSource
half_of_the_source w byte left old new tells is all = some (sym is ∙ (all.writes.took.read tells).1)
  where
    some : byte ∷ left ≡ [] → ⊥
    some is = cc is

pub half_the_number_played : HalfTheNumberPlayed
half_the_number_played number says tells said said' taken taken' done differ is = differ (sym is ∙ ap (λ (t : Tally). t.requests) done.exercised.played.is)

-- THE FIRST LETTER of the lines that are drawn: the first line moves, or attends.
abbrev first : List ℕ → ℕ
first [] = 0
first (x ∷ xs) = x

one_step : (n s : ℕ) (words : Stream) → steps_text (suc n) s words ≡ step_text s (next_u64 words).0 ++ steps_text n (s + 1) (next_u64 words).1
unfolding steps_text
one_step n s words = refl

moves : (rest : List ℕ) → first (step_text 0 (next_u64 (words_of 2)).0 ++ rest) ≡ 109
unfolding step_text move_text next_u64 stream_of
moves rest = refl

attends : (rest : List ℕ) → first (step_text 0 (next_u64 (words_of (2 * 2 ^ 56))).0 ++ rest) ≡ 97
unfolding step_text attend_text next_u64 stream_of
attends rest = refl

pub seed_from_the_greatest_byte_on : SeedFromTheGreatestByteOn
seed_from_the_greatest_byte_on is =
    differ (first (steps_text 2048 0 (words_of 2))) (sym (ap first (append_cancel_left head_text _ _ is)) ∙ letter (2 * 2 ^ 56) 97 attends) (letter 2 109 moves)
  where
    letter : (number byte : ℕ) → ((rest : List ℕ) → first (step_text 0 (next_u64 (words_of number)).0 ++ rest) ≡ byte) → first (steps_text 2048 0 (words_of number)) ≡ byte
    letter number byte so = ap first (one_step 2047 0 (words_of number)) ∙ so (steps_text 2047 (0 + 1) (next_u64 (words_of number)).1)

    differ : (n : ℕ) → n ≡ 97 → n ≡ 109 → ⊥
    differ n one other = omega (arith, one, other)
