-- A line more of a trace that is read a line at a time.
use Rattle.std.proofs.Common.{◌≡◌, ℕ, ◌+◌, ◌<◌, ◌≤◌, ◌==◌, ◌||◌, ◌&&◌, not, Bool, true, false, Result, Ok, Err, List, [], ◌∷◌, ◌++◌, length, refl, sym, ap, ◌∙◌, arith, subst}
use Rattle.std.specs.Prelude.{nat_lt}
use Rattle.std.proofs.lemmas.List.Folds.{list_any-append}
use Rattle.std.proofs.Math.Bool.{or-false}
use Rattle.script_reader.specs.Lines.{pieces_of}
use Rattle.script_reader.specs.Reading.{on}
use Rattle.script_reader.specs.Stored.{Stored}
use Rattle.trace_reader.specs.declared.ended.Ended.{Ended}
use Rattle.trace_reader.specs.declared.fault.TraceFault.TheVariants.{Refused}
use Rattle.trace_reader.specs.declared.fault.TraceKind.{TraceKind}
use Rattle.trace_reader.specs.declared.fault.TraceKind.TheVariants.{Word}
use Rattle.trace_reader.specs.declared.line.TraceLine.{TraceLine}
use Rattle.trace_reader.specs.declared.line.TraceLine.TheVariants.{Deed, Idle}
use Rattle.trace_reader.specs.Asked.{is_of_script}
use Rattle.trace_reader.specs.Ended.{ends as ends_it, has_ended, is_open, is_under_way, KeepsEnd, KeepsEnds}
use Rattle.trace_reader.specs.Grammar.{Says, Spells, Refuses, last_behind, last_number}
use Rattle.trace_reader.specs.Lines.{IsLine, line_number}
use Rattle.trace_reader.specs.Reading.{judged, judged_by, line_form, reading, standing, standing_at, words_of}
use Rattle.trace_reader.specs.SoFar.{Left, HasRead, ReadsOn}
use Rattle.trace_reader.proofs.LineLaws.{says}
use Rattle.trace_reader.proofs.ReadingLaws.{stands_by, goes, stops, ends, spelled, refused}

-- what is kept of the lines before says of a line what they say
open_is : (ended : Ended) (count : ℕ) (before : List TraceLine) (line : TraceLine) → IsLine line → KeepsEnds ended before → is_open ended count line ≡ is_under_way count before line
open_is ended count before (Deed line u id t) is keeps = ap (λ (b : Bool). count == 0 || not b) (keeps u id (below u is.1))
  where
    below : (u : ℕ) → u ≤ 31 → u < 256
    below u small = omega (arith, small)
open_is ended count before (Idle line) is keeps = refl

found_by : (script : Stored) (before : List TraceLine) (ended : Ended) (number : ℕ) (text : List ℕ) (r : Result TraceLine TraceKind) → line_form (words_of text) ≡ r → number ≡ last_number before → KeepsEnds ended before
    → on r (λ line. standing_at script number (is_open ended script.count line) line) (λ no_line. Err Word) ≡ on r (standing script before) (λ no_line. Err Word)
found_by script before ended number text (Ok line) is same keeps =
    ap (λ (m : ℕ). standing_at script m (is_open ended script.count line) line) same
    ∙ ap (λ (b : Bool). standing_at script (last_number before) b line) (open_is ended script.count before line (says text line is).is_line keeps)
found_by script before ended number text (Err kind) is same keeps = refl

-- and so of a text
judged_is : (script : Stored) (before : List TraceLine) (ended : Ended) (number : ℕ) (text : List ℕ) → number ≡ last_number before → KeepsEnds ended before
    → judged_by (λ line. standing_at script number (is_open ended script.count line) line) text ≡ judged script before text
unfolding judged
judged_is script before ended number text same keeps = found_by script before ended number text (line_form (words_of text)) refl same keeps

last_more : (number : ℕ) (before : List TraceLine) (line : TraceLine) → line_number line ≡ last_behind number (before ++ line ∷ [])
last_more number [] line = refl
last_more number (l ∷ before) line = last_more (line_number l) before line

keeps_more : (old new : Ended) (before : List TraceLine) (line : TraceLine) → KeepsEnds old before → KeepsEnd old new line → KeepsEnds new (before ++ line ∷ [])
keeps_more old new before line keeps learns u id small =
    learns u id small ∙ ap (λ (b : Bool). b || ends_it u id line) (keeps u id small) ∙ ap (λ (b : Bool). has_ended before u id || b) (sym (or-false (ends_it u id line)))
    ∙ sym (list_any-append (ends_it u id) before (line ∷ []))

-- what is left of a trace
abbrev pub at : Stored → List ℕ → List ℕ → ℕ → Ended → ℕ → Left
at script bytes rest before ended n = record { script = script; bytes = bytes; texts = pieces_of rest; before = before; ended = ended; number = n }

-- what its next text says
abbrev pub found : Stored → ℕ → Ended → List ℕ → Result TraceLine TraceKind
found script before ended text = judged_by (λ line. standing_at script before (is_open ended script.count line) line) text

pub ends_left : (script : Stored) (bytes rest : List ℕ) (before : ℕ) (ended : Ended) (n : ℕ) → length rest ≡ 0 → (lines : List TraceLine) → HasRead (at script bytes rest before ended n) lines → Spells script bytes lines
ends_left script bytes rest before ended n none lines read =
    spelled script bytes lines read.short (ends script lines n rest (reading script [] 1 (pieces_of bytes)) read.same none)

-- what is found was said
said_by : (script : Stored) (before : ℕ) (ended : Ended) (text : List ℕ) (l : TraceLine) (r : Result TraceLine TraceKind) → line_form (words_of text) ≡ r
    → on r (λ line. standing_at script before (is_open ended script.count line) line) (λ no_line. Err Word) ≡ Ok l → Says text l
said_by script before ended text l (Err kind) is e = absurd (cc)
said_by script before ended text l (Ok k) is e =
    let p = stands_by k l (nat_lt (line_number k) before) (is_of_script script.lines script.count k) (is_open ended script.count k) e in
    subst (λ (l : TraceLine). Says text l) p.3 (says text k is)

pub goes_left : (script : Stored) (bytes rest text after : List ℕ) (before : ℕ) (ended kept : Ended) (n k : ℕ) (line : TraceLine) → pieces_of rest ≡ text ∷ pieces_of after → found script before ended text ≡ Ok line → k ≡ line_number line
    → KeepsEnd ended kept line → ReadsOn (at script bytes rest before ended n) (at script bytes after k kept (n + 1)) line text
goes_left script bytes rest text after before ended kept n k line split is number_is learns = record {
  says = said_by script before ended text line (line_form (words_of text)) refl is;
  texts = split;
  script = refl;
  bytes = refl;
  read = λ lines read. record {
    short = read.short;
    before = number_is ∙ last_more 0 lines line;
    ended = keeps_more ended kept lines line read.ended learns;
    same = goes script lines n rest text after line (reading script [] 1 (pieces_of bytes)) read.same split (sym (judged_is script lines ended before text read.before read.ended) ∙ is);
  };
}

pub stops_left : (script : Stored) (bytes rest text after : List ℕ) (before : ℕ) (ended : Ended) (n : ℕ) (kind : TraceKind) → pieces_of rest ≡ text ∷ pieces_of after → found script before ended text ≡ Err kind
    → (lines : List TraceLine) → HasRead (at script bytes rest before ended n) lines → Refuses script bytes (Refused n kind)
stops_left script bytes rest text after before ended n kind split is lines read =
    refused script bytes (Refused n kind) read.short
    (stops script lines n rest text after kind (reading script [] 1 (pieces_of bytes)) read.same split (sym (judged_is script lines ended before text read.before read.ended) ∙ is))
