-- The text of what is played of a line.
use Rattle.std.proofs.Common.{◌≡◌, ℕ, ◌+◌, ◌<◌, ◌==◌, Bool, true, false, cond, List, ◌∷◌, length, drop, get_or, ap, ◌∙◌}
use Rattle.drive_pictures.specs.Events.{line_of}
use Rattle.run_view.specs.Saids.{Said}
use Rattle.run_view.proofs.SeeLaws.{front}
use Rattle.run_view.specs.Views.{played_text}

split : (plays : List Said) (i : ℕ) (x : Said) → i < length plays → get_or plays i x ≡ x → drop i plays ≡ x ∷ drop (i + 1) plays
split plays i x inside here = front plays i x inside ∙ ap (λ (y : Said). y ∷ drop (i + 1) plays) here

text_by : (line : ℕ) (x : Said) (rest : List Said) (b : Bool) → (line_of x.moment == line) ≡ b → played_text (x ∷ rest) line ≡ cond b x.text (played_text rest line)
text_by line x rest b e = ap (λ (b : Bool). cond b x.text (played_text rest line)) e

pub text_found : (line : ℕ) (plays : List Said) (i : ℕ) (x : Said) → i < length plays → get_or plays i x ≡ x → (line_of x.moment == line) ≡ true → played_text (drop i plays) line ≡ x.text
text_found line plays i x inside here e = ap (λ (ps : List Said). played_text ps line) (split plays i x inside here) ∙ text_by line x (drop (i + 1) plays) true e

pub text_more : (line : ℕ) (plays : List Said) (i : ℕ) (x : Said) → i < length plays → get_or plays i x ≡ x → (line_of x.moment == line) ≡ false
    → played_text (drop i plays) line ≡ played_text (drop (i + 1) plays) line
text_more line plays i x inside here e = ap (λ (ps : List Said). played_text ps line) (split plays i x inside here) ∙ text_by line x (drop (i + 1) plays) false e
