-- A text says a line exactly where it is read as that line.
use Rattle.std.proofs.Common.{◌≡◌, ℕ, Ok, List, [], ◌∷◌, ◌++◌, refl, sym, ap, ◌∙◌}
use Rattle.std.proofs.lemmas.List.{append_cancel_right}
use Rattle.trace_reader.specs.declared.line.TraceLine.{TraceLine}
use Rattle.trace_reader.specs.declared.line.TraceLine.TheVariants.{Deed, Idle}
use Rattle.trace_reader.specs.Grammar.{Says}
use Rattle.trace_reader.specs.Lines.{IsLine, line_text}
use Rattle.trace_reader.specs.Reading.{line_form, words_of}
use Rattle.trace_reader.proofs.BackLaws.{line_complete, line_whole}
use Rattle.trace_reader.proofs.FormLaws.{line_sound, words_in}
use Rattle.trace_reader.proofs.WordLaws.{joined, text_is, words_joined}

pub text_of_words : (l : TraceLine) → line_text l ≡ joined (words_in l) ++ 10 ∷ []
text_of_words (Deed line u id t) = refl
text_of_words (Idle line) = refl

words_again : (l : TraceLine) → IsLine l → words_of (joined (words_in l)) ≡ words_in l
words_again (Deed line u id t) h = words_joined _ _ (line_whole (Deed line u id t) h)
words_again (Idle line) h = words_joined _ _ (line_whole (Idle line) h)

pub says : (text : List ℕ) (l : TraceLine) → line_form (words_of text) ≡ Ok l → Says text l
says text l e =
    let is = line_sound (words_of text) l e in record {
      is_line = is.is_line;
      spelled = ap (λ (t : List ℕ). t ++ 10 ∷ []) (text_is text ∙ ap joined is.spelled) ∙ sym (text_of_words l);
    }

pub is_said : (text : List ℕ) (l : TraceLine) → Says text l → line_form (words_of text) ≡ Ok l
is_said text l h =
    let is : text ≡ joined (words_in l) = append_cancel_right text (joined (words_in l)) (10 ∷ []) (h.spelled ∙ text_of_words l) in
    ap (λ (t : List ℕ). line_form (words_of t)) is ∙ ap line_form (words_again l h.is_line) ∙ line_complete l h.is_line

-- a text says one line at most
pub one_line : (text : List ℕ) (l k : TraceLine) → Says text l → Says text k → l ≡ k
one_line text l k h g = let a = is_said text l h in let b = is_said text k g in cc
