-- The lines of a text, one after another.
use Rattle.std.proofs.Common.{◌≡◌, ℕ, suc, ◌+◌, ◌-◌, ◌<◌, ◌≤◌, List, [], ◌∷◌, ◌++◌, length, map, take, drop, get_or, slice_index_or, arith, sym, ap, ◌∙◌, append-nil}
use Rattle.std.proofs.lemmas.List.{drop-drop, drop-map, get_or-drop, take_more}
use Rattle.script_reader.specs.Stored.{Kept}
use Rattle.run_view.specs.Plays.{line_played, played_as, play_of, names_of, text_at}
use Rattle.run_view.specs.Saids.{Said}
use Rattle.std.proofs.Math.Seq.{drop-nil}
use Rattle.std.specs.List.{flat_map}
use Rattle.std.proofs.lemmas.Grind.{flat_map-append}
use Rattle.script_reader.specs.Lines.{pieces_of, lines_of, without_cr}

-- the text of the line at a place
pub text_here : (text rest : List ℕ) (k : ℕ) → pieces_of rest ≡ drop k (pieces_of text) → slice_index_or (lines_of rest) 0 [] ≡ slice_index_or (lines_of text) k []
text_here text rest k e =
    let same : k + 0 ≡ k = omega arith in
    ap (λ (ps : List (List ℕ)). get_or (map without_cr ps) 0 []) e
    ∙ ap (λ (ls : List (List ℕ)). get_or ls 0 []) (sym (drop-map without_cr k (pieces_of text)))
    ∙ get_or-drop k (lines_of text) 0 []
    ∙ ap (λ (i : ℕ). get_or (lines_of text) i []) same

-- a line is skipped
pub skip_more : (left : ℕ) (line : List ℕ) (whole lines after : List (List ℕ)) → 0 < left → lines ≡ line ∷ after → drop left lines ≡ whole → drop (left - 1) after ≡ whole
skip_more left line whole lines after some is so_far =
    let same : left ≡ suc (left - 1) = omega arith in
    sym (ap (λ (k : ℕ). drop k (line ∷ after)) same) ∙ sym (ap (drop left) is) ∙ so_far

pub skip_end : (left : ℕ) (rest : List ℕ) (whole : List (List ℕ)) → length rest ≡ 0 → drop left (pieces_of rest) ≡ whole → pieces_of rest ≡ whole
skip_end left [] whole none so_far = sym (drop-nil left) ∙ so_far
skip_end left (b ∷ bs) whole none so_far = absurd (omega (arith, none))

pub skip_on : (text rest result : List ℕ) (next number : ℕ) → next ≤ number → pieces_of rest ≡ drop (next - 1) (pieces_of text) → pieces_of result ≡ drop ((number - 1) - (next - 1)) (pieces_of rest)
    → pieces_of result ≡ drop (number - 1) (pieces_of text)
skip_on text rest result next number below e is =
    let same : (next - 1) + ((number - 1) - (next - 1)) ≡ number - 1 = omega arith in
    is ∙ ap (drop ((number - 1) - (next - 1))) e ∙ drop-drop ((number - 1) - (next - 1)) (next - 1) (pieces_of text) ∙ ap (λ (k : ℕ). drop k (pieces_of text)) same

-- A LINE MORE is played
pub played_more : (text : List ℕ) (lines : List Kept) (i : ℕ) (line : Kept) (here : List ℕ) (old new : List Said) → i < length lines → line ≡ get_or lines i line → here ≡ text_at text line.number
    → old ≡ flat_map (line_played text) (take i lines) → new ≡ old ++ played_as (play_of line.statement) (names_of line.statement) line.number here
    → new ≡ flat_map (line_played text) (take (i + 1) lines)
played_more text lines i line here old new inside is at so_far more =
    more
    ∙ ap (λ (t : List ℕ). old ++ played_as (play_of line.statement) (names_of line.statement) line.number t) at
    ∙ ap (λ (ps : List Said). ps ++ line_played text line) so_far
    ∙ ap (λ (l : Kept). flat_map (line_played text) (take i lines) ++ line_played text l) is
    ∙ last_empty (flat_map (line_played text) (take i lines)) (line_played text (get_or lines i line))
    ∙ sym (flat_map-append (line_played text) (take i lines) (get_or lines i line ∷ []))
    ∙ ap (flat_map (line_played text)) (sym (take_more lines i line inside))
  where
    last_empty : (xs ys : List Said) → xs ++ ys ≡ xs ++ (ys ++ [])
    last_empty xs ys = ap (λ (zs : List Said). xs ++ zs) (sym (append-nil ys))
