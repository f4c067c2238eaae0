-- What is counted piece by piece is counted as a whole.
use Rattle.std.proofs.Common.{◌≡◌, ℕ, List, [], ◌∷◌, ◌++◌, refl, sym, subst, ap, ◌∙◌, append-nil, append_assoc}
use Rattle.std.proofs.lemmas.Grind.{flat_map-append}
use Rattle.trace_replay.specs.Moments.{Moment, Answered, Told, End, answers_in}
use Rattle.trace_lines.specs.answers.AnswerText.{said_text, out_text}
use Rattle.trace_lines.specs.answers.Counting.{Counts, CountsAll, tally_by}
use Rattle.trace_lines.specs.declared.answers.tally.Tally.{Tally}

-- nothing more is counted where the tally stays
pub counts_none : (old new : Tally) → new ≡ old → Counts [] [] old new
counts_none old new same requests before said is =
    subst (λ (answers : List Answered). new ≡ tally_by requests answers (said ++ [])) (sym (append-nil before))
    (subst (λ (text : List ℕ). new ≡ tally_by requests before text) (sym (append-nil said)) (same ∙ is))

-- one piece, and then another
pub counts_both : (old mid new : Tally) (a b : List Answered) (x y : List ℕ) → Counts a x old mid → Counts b y mid new → Counts (a ++ b) (x ++ y) old new
counts_both old mid new a b x y first later requests before said is =
    subst (λ (answers : List Answered). new ≡ tally_by requests answers (said ++ (x ++ y))) (append_assoc before a b)
    (subst (λ (text : List ℕ). new ≡ tally_by requests ((before ++ a) ++ b) text) (append_assoc said x y)
    (later requests (before ++ a) (said ++ x) (first requests before said is)))

-- the same piece by other names
pub counts_same : (old new : Tally) (a b : List Answered) (x y : List ℕ) → Counts a x old new → a ≡ b → x ≡ y → Counts b y old new
counts_same old new a b x y counts same same_text =
    subst (λ (answers : List Answered). Counts answers y old new) same (subst (λ (text : List ℕ). Counts a text old new) same_text counts)

-- MOMENTS, one part behind another
answers_in-append : (xs ys : List Moment) → answers_in (xs ++ ys) ≡ answers_in xs ++ answers_in ys
answers_in-append [] ys = refl
answers_in-append (Told line unit id (End answer) ∷ xs) ys =
    ap (λ (rest : List Answered). record { line = line; id = id; answer = answer } ∷ rest) (answers_in-append xs ys)
answers_in-append (m ∷ xs) ys = answers_in-append xs ys

pub counts_more : (old mid new : Tally) (first later : List Moment) → CountsAll first old mid → CountsAll later mid new → CountsAll (first ++ later) old new
counts_more old mid new first later counts more =
    counts_same old new (answers_in first ++ answers_in later) (answers_in (first ++ later)) (out_text first ++ out_text later) (out_text (first ++ later))
    (counts_both old mid new (answers_in first) (answers_in later) (out_text first) (out_text later) counts more)
    (sym (answers_in-append first later)) (sym (flat_map-append said_text first later))
