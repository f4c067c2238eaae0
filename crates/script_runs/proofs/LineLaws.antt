-- The lines of a script up to one of them, and the inputs of lines.
use Rattle.std.proofs.Common.{◌≡◌, ℕ, ◌+◌, ◌<◌, List, [], ◌∷◌, ◌++◌, length, map, take, drop, slice_index_or, refl, sym, ap, ◌∙◌}
use Rattle.std.proofs.lemmas.List.{take_more, take-append-drop, map-append}
use Rattle.script_reader.specs.Stored.{Kept, Stored, seen}
use Rattle.script_reader.specs.Meaning.{line_of, meaning_of}
use Rattle.trace_replay.specs.Script.{Statement, Declares, Plays, Line, Numbered, with_input, inputs_before}

-- THE LINES that stand before one of a script, as they are meant
abbrev pub lines_before : Stored → ℕ → List Line
lines_before s i = map line_of (map (seen s.text) (take i s.lines))

pub lines_more : (s : Stored) (i : ℕ) (line : Kept) → i < length s.lines → line ≡ slice_index_or s.lines i line
    → lines_before s (i + 1) ≡ lines_before s i ++ line_of (seen s.text line) ∷ []
lines_more s i line lt is =
    ap (λ (xs : List Kept). map line_of (map (seen s.text) xs)) (take_more s.lines i line lt ∙ ap (λ (x : Kept). take i s.lines ++ x ∷ []) (sym is))
    ∙ ap (map line_of) (map-append (seen s.text) (take i s.lines) (line ∷ []))
    ∙ map-append line_of (map (seen s.text) (take i s.lines)) (seen s.text line ∷ [])

pub lines_parted : (s : Stored) (i : ℕ) → (meaning_of s).lines ≡ lines_before s i ++ map line_of (map (seen s.text) (drop i s.lines))
lines_parted s i =
    ap (λ (xs : List Kept). map line_of (map (seen s.text) xs)) (sym (take-append-drop i s.lines))
    ∙ ap (map line_of) (map-append (seen s.text) (take i s.lines) (drop i s.lines))
    ∙ map-append line_of (map (seen s.text) (take i s.lines)) (map (seen s.text) (drop i s.lines))

-- THE INPUTS of lines, with those of one more
with_more : (number : ℕ) (statement : Statement) (inputs more : List Numbered) → with_input number statement (inputs ++ more) ≡ with_input number statement inputs ++ more
with_more number (Declares unit kind) inputs more = refl
with_more number (Plays input) inputs more = refl

pub inputs_append : (last : List Numbered) (lines more : List Line) → inputs_before last (lines ++ more) ≡ inputs_before (inputs_before last more) lines
inputs_append last [] more = refl
inputs_append last (line ∷ lines) more = ap (with_input line.number line.statement) (inputs_append last lines more)

pub inputs_end : (inputs more : List Numbered) (lines : List Line) → inputs_before (inputs ++ more) lines ≡ inputs_before inputs lines ++ more
inputs_end inputs more [] = refl
inputs_end inputs more (line ∷ lines) =
    ap (with_input line.number line.statement) (inputs_end inputs more lines) ∙ with_more line.number line.statement (inputs_before inputs lines) more
