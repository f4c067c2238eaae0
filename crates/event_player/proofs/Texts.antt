-- The answer text of the lines that acts tell is that of their answers.
use Rattle.std.proofs.Common.{◌≡◌, ℕ, List, [], ◌∷◌, ◌++◌, refl, ap}
use Rattle.std.specs.List.{flat_map}
use Rattle.trace_replay.specs.Moments.{Deed, End, Moment, Played, Told, Idle, played, answers_in}
use Rattle.trace_lines.specs.answers.AnswerText.{answer_text, out_text}

told_said : (line unit id : ℕ) (deed : Deed) (ms : List Moment) → out_text ms ≡ flat_map answer_text (answers_in ms)
    → out_text (Told line unit id deed ∷ ms) ≡ flat_map answer_text (answers_in (Told line unit id deed ∷ ms))
told_said line unit id (End answer) ms is = ap (λ (text : List ℕ). answer_text (record { line = line; id = id; answer = answer }) ++ text) is
told_said line unit id other ms is = is

pub said_lines : (ms : List Moment) → played ms ≡ [] → out_text ms ≡ flat_map answer_text (answers_in ms)
said_lines [] none = refl
said_lines (Played line input ∷ ms) none = absurd (cc none)
said_lines (Told line unit id deed ∷ ms) none = told_said line unit id deed ms (said_lines ms none)
said_lines (Idle line ∷ ms) none = said_lines ms none
