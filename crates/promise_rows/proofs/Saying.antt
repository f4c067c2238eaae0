-- What is promised of texts that are kept and sent refuses these outcomes.
use Rattle.std.proofs.Common.{◌≡◌, ◌⊎◌, inl, inr, ℕ, IsTrue, List, [], ◌++◌, refl, sym, ap, ◌∙◌}
use Rattle.std.proofs.lemmas.List.{append_assoc}
use Rattle.promise_rows.specs.Saying.{AnswersBeforeLines, TextNotSaid, RestNotSent}
use Rattle.promise_rows.proofs.Stopping.{nothing_more}

pub answers_before_lines : AnswersBeforeLines
answers_before_lines out out' lines lines' result text says tells tells_lines some dropped = elim says.lines_first [
  | inl none ↦ some (none tells)
  | inr all ↦ dropped (all tells_lines)
]

pub text_not_said : TextNotSaid
text_not_said out out' lines lines' text says tells some same =
    some (nothing_more (out.took ++ out.kept) text (sym same ∙ says.whole tells ∙ sym (append_assoc out.took out.kept text)))

pub rest_not_sent : RestNotSent
rest_not_sent sink kept takes fine tells some same = some (nothing_more sink.before kept (sym same ∙ takes.whole fine tells))
