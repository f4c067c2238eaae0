-- A chart, and a line more.
use Rattle.std.proofs.Common.{◌≡◌, ℕ, suc, ◌+◌, ◌<◌, List, [], ◌∷◌, ◌++◌, length, take, get_or, refl, sym, ◌∙◌, ap, arith}
use Rattle.std.proofs.Math.Seq.{take-suc}
use Rattle.std.specs.List.{flat_map}
use Rattle.std.proofs.lemmas.Grind.{flat_map-append}
use Rattle.std.proofs.lemmas.List.{append-nil}
use Rattle.picture_chart.specs.Charts.{ended, text_of, IsChartLine, AreChartLines, IsChart}

lines_more : (lines : List (List ℕ)) (line : List ℕ) → AreChartLines lines → IsChartLine line → AreChartLines (lines ++ line ∷ [])
lines_more [] line are is = (is, tt)
lines_more (x ∷ xs) line are is = (are.0, lines_more xs line are.1 is)

pub empty_chart : IsChart []
empty_chart = record { lines = []; text_is = refl; each = tt }

-- one more
pub chart_more : (text text' line : List ℕ) → IsChart text → IsChartLine line → text' ≡ text ++ ended line → IsChart text'
chart_more text text' line c is e = record {
  lines = c.lines ++ line ∷ [];
  text_is =
      e ∙ ap (λ t. t ++ ended line) c.text_is ∙ ap (λ t. flat_map ended c.lines ++ t) (sym (append-nil (ended line)))
      ∙ sym (flat_map-append ended c.lines (line ∷ []));
  each = lines_more c.lines line c.each is;
}

pub text_of_step : (lines : List (List ℕ)) (i : ℕ) (line text text' : List ℕ) → i < length lines → line ≡ get_or lines i line
    → text ≡ text_of (take i lines) → text' ≡ text ++ ended line → text' ≡ text_of (take (i + 1) lines)
text_of_step lines i line text text' bound is so_far e =
    let n : suc i ≡ i + 1 = omega arith in
    e ∙ ap (λ t. t ++ ended line) so_far ∙ ap (λ t. text_of (take i lines) ++ t) (sym (append-nil (ended line)))
    ∙ sym (flat_map-append ended (take i lines) (line ∷ []))
    ∙ ap (λ x. text_of (take i lines ++ x ∷ [])) is
    ∙ ap text_of (sym (take-suc lines i line bound)) ∙ ap (λ n. text_of (take n lines)) n
