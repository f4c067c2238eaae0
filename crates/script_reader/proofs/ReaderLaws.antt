-- One line of a script: what it leaves known, and what is left to read behind it.
use Rattle.std.proofs.Common.{◌≡◌, ℕ, ◌+◌, ◌-◌, ◌≤◌, List, [], ◌∷◌, ◌++◌, length, get_or, take, drop, map, refl, sym, ap, subst, ◌∙◌, arith, Option, None, Some, Result, Ok, Err}
use Rattle.std.specs.Prelude.{slice_range}
use Rattle.std.specs.Option.{option_map}
use Rattle.std.proofs.lemmas.List.{take-take, drop-drop, length-take}
use Rattle.mass_text.specs.Pieces.{pieces}
use Rattle.script_lines.specs.declared.kinds.ScriptKind.{ScriptKind}
use Rattle.script_lines.specs.declared.statement.Span.{Span}
use Rattle.script_lines.specs.declared.statement.Statement.{Statement}
use Rattle.script_lines.specs.declared.dialect.Dialect.{Dialect}
use Rattle.script_lines.specs.Fields.{changed}
use Rattle.script_reader.specs.Grammar.{line_says, more}
use Rattle.script_lines.specs.Known.{Known, Said, Numbered, known_of}
use Rattle.script_lines.specs.Knowing.{Learns, LearnsFrom}
use Rattle.script_reader.specs.Lines.{lines_of, pieces_of, without_cr}
use Rattle.script_reader.specs.Reading.{Refusal, Read, on, reading}
use Rattle.script_reader.specs.Stored.{Kept, seen, digits_at, StoresRead, Stores}
use Rattle.script_lines.specs.Renamed.{read_of}
use Rattle.script_lines.proofs.KnownLaws.{known_more, learns_said}
use Rattle.script_reader.proofs.CarriesLaws.{Carries, line_carries}
use Rattle.script_reader.proofs.StoredLaws.{stands}

-- WHAT A LINE GAVE under the names of what is read
changed_some : {S R : Type 0} (f : S → R) (res : Result (Option S) ScriptKind) (read : R) → changed (option_map f) res ≡ Ok (Some read) → (s : S) × (res ≡ Ok (Some s)) × (f s ≡ read)
changed_some f (Ok None) read e = absurd (cc)
changed_some f (Ok (Some s)) read e = (s, refl, cc)
changed_some f (Err kind) read e = absurd (cc)

changed_none : {S R : Type 0} (f : S → R) (res : Result (Option S) ScriptKind) → changed (option_map f) res ≡ Ok None → res ≡ Ok None
changed_none f (Ok None) e = refl
changed_none f (Ok (Some s)) e = absurd (cc)
changed_none f (Err kind) e = absurd (cc)

changed_err : {S R : Type 0} (f : S → R) (res : Result (Option S) ScriptKind) (kind : ScriptKind) → changed (option_map f) res ≡ Err kind → res ≡ Err kind
changed_err f (Ok s) kind e = absurd (cc)
changed_err f (Err k) kind e = cc

-- PLACES in the text
front_of : (line piece rest : List ℕ) → line ≡ take (length line) piece → piece ≡ take (length piece) rest → length line ≤ length piece → line ≡ take (length line) rest
front_of line piece rest l p le = l ∙ ap (λ (xs : List ℕ). take (length line) xs) p ∙ take-take (length line) (length piece) rest le

-- a front is not longer than what it is a front of
pub front_short : (front whole : List ℕ) → front ≡ take (length front) whole → length front ≤ length whole
front_short front whole e = let size : length front ≡ length (take (length front) whole) = ap (λ (xs : List ℕ). length xs) e in omega (arith, size, length-take (length front) whole)

pub there : (text rest piece line : List ℕ) (start : ℕ) → rest ≡ drop start text → piece ≡ take (length piece) rest → line ≡ take (length line) piece → length line ≤ length piece → slice_range text start (start + length line) ≡ line
there text rest piece line start r p l le =
    let size : (start + length line) - start ≡ length line = omega arith in
    ap (λ (k : ℕ). take k (drop start text)) size ∙ ap (λ (xs : List ℕ). take (length line) xs) (sym r) ∙ sym (front_of line piece rest l p le)

pub behind : (text rest after : List ℕ) → rest ≡ drop (length text - length rest) text → after ≡ drop (length rest - length after) rest → length after ≤ length rest → length rest ≤ length text → after ≡ drop (length text - length after) text
behind text rest after r a short shorter =
    let size : (length text - length rest) + (length rest - length after) ≡ length text - length after = omega (arith, short, shorter) in
    a
    ∙ ap (λ (xs : List ℕ). drop (length rest - length after) xs) r
    ∙ drop-drop (length rest - length after) (length text - length rest) text
    ∙ ap (λ (k : ℕ). drop k text) size

-- ONE LINE of those that are left
pub first_line : (rest piece after line : List ℕ) → pieces_of rest ≡ piece ∷ pieces_of after → line ≡ without_cr piece → lines_of rest ≡ line ∷ lines_of after
first_line rest piece after line p l = ap (λ (ps : List (List ℕ)). map without_cr ps) p ∙ ap (λ (x : List ℕ). x ∷ lines_of after) (sym l)

abbrev step : Dialect → List Numbered → ℕ → List (List ℕ) → Result (Option Said) ScriptKind → Result Read Refusal
step dialect lines n texts res = on res (λ entry. reading dialect (more lines n entry) (n + 1) texts) (λ kind. Err (record { line = n; kind = kind }))

pub passed : (dialect : Dialect) (known : Known) (lines : List Numbered) (n : ℕ) (span : Span) (rest piece after line : List ℕ) (all : Result Read Refusal)
    → reading dialect lines n (lines_of rest) ≡ all → known ≡ known_of lines → pieces_of rest ≡ piece ∷ pieces_of after → line ≡ without_cr piece
    → changed (option_map (read_of span)) (line_says dialect known n line) ≡ Ok None
    → reading dialect lines (n + 1) (lines_of after) ≡ all
passed dialect known lines n span rest piece after line all same k p l e =
    let is : line_says dialect (known_of lines) n line ≡ Ok None = ap (λ (x : Known). line_says dialect x n line) (sym k) ∙ changed_none (read_of span) (line_says dialect known n line) e in
    sym (ap (reading dialect lines n) (first_line rest piece after line p l) ∙ ap (step dialect lines n (lines_of after)) is) ∙ same

-- a line goes behind those that are stored
pub record Goes (dialect : Dialect) (new : Known) (text : List ℕ) (lines : List Kept) (n : ℕ) (after : List ℕ) (all : Result Read Refusal) : Type 0 where
  pub same : reading dialect (map (seen text) lines) n (lines_of after) ≡ all
  pub known : new ≡ known_of (map (seen text) lines)

spoken : (dialect : Dialect) (known new : Known) (text : List ℕ) (lines stored : List Kept) (n : ℕ) (span : Span) (rest piece after line : List ℕ) (read : Statement Span (List ℕ)) (all : Result Read Refusal)
    → reading dialect (map (seen text) lines) n (lines_of rest) ≡ all → known ≡ known_of (map (seen text) lines) → pieces_of rest ≡ piece ∷ pieces_of after → line ≡ without_cr piece
    → changed (option_map (read_of span)) (line_says dialect known n line) ≡ Ok (Some read)
    → slice_range text span.start span.end ≡ line → Learns known new read → StoresRead n read lines stored
    → Goes dialect new text stored (n + 1) after all
spoken dialect known new text lines stored n span rest piece after line read all same k p l e here learns stores =
    let found = changed_some (read_of span) (line_says dialect known n line) read e in
    let s : Said = found.0 in
    let carries : Carries (digits_at text span) s =
    subst (λ (t : List ℕ). Carries (get_or (pieces t) 7 []) s) (sym here) (line_carries dialect known n line s found.1) in
    let is : line_says dialect (known_of (map (seen text) lines)) n line ≡ Ok (Some s) = ap (λ (x : Known). line_says dialect x n line) (sym k) ∙ found.1 in
    let told : Numbered = record { number = n; statement = s } in
    let lines_are : map (seen text) stored ≡ map (seen text) lines ++ told ∷ [] =
    stores text ∙ ap (λ (x : Said). map (seen text) lines ++ record { number = n; statement = x } ∷ []) (stands text span read s found.2 carries) in
    let goes : reading dialect (map (seen text) lines ++ told ∷ []) (n + 1) (lines_of after) ≡ all =
    sym (ap (reading dialect (map (seen text) lines) n) (first_line rest piece after line p l) ∙ ap (step dialect (map (seen text) lines) n (lines_of after)) is) ∙ same in
    let learned : Learns (known_of (map (seen text) lines)) new s =
    learns_said span s (known_of (map (seen text) lines)) new (subst (λ (x : Known). Learns x new (read_of span s)) k (subst (λ (r : Statement Span (List ℕ)). Learns known new r) (sym found.2) learns)) in
    record {
      same = ap (λ (ls : List Numbered). reading dialect ls (n + 1) (lines_of after)) lines_are ∙ goes;
      known = known_more (map (seen text) lines) told new learned ∙ ap (λ (ls : List Numbered). known_of ls) (sym lines_are);
    }

pub gone : (dialect : Dialect) (known new : Known) (text : List ℕ) (lines stored : List Kept) (n : ℕ) (span : Span) (rest piece after line : List ℕ) (read : Option (Statement Span (List ℕ))) (all : Result Read Refusal)
    → reading dialect (map (seen text) lines) n (lines_of rest) ≡ all → known ≡ known_of (map (seen text) lines) → pieces_of rest ≡ piece ∷ pieces_of after → line ≡ without_cr piece
    → changed (option_map (read_of span)) (line_says dialect known n line) ≡ Ok read
    → slice_range text span.start span.end ≡ line → LearnsFrom read known new → Stores n read lines stored
    → Goes dialect new text stored (n + 1) after all
gone dialect known new text lines stored n span rest piece after line None all same k p l e here learns stores = record {
  same =
      ap (λ (ls : List Kept). reading dialect (map (seen text) ls) (n + 1) (lines_of after)) stores
      ∙ passed dialect known (map (seen text) lines) n span rest piece after line all same k p l e;
  known = learns ∙ k ∙ ap (λ (ls : List Kept). known_of (map (seen text) ls)) (sym stores);
}
gone dialect known new text lines stored n span rest piece after line (Some read) all same k p l e here learns stores =
    spoken dialect known new text lines stored n span rest piece after line read all same k p l e here learns stores

-- what is left of a text is read, where none is
pub none_left : (dialect : Dialect) (lines : List Numbered) (number : ℕ) (rest : List ℕ) (found : Result Read Refusal) → length rest ≡ 0
    → reading dialect lines number (lines_of rest) ≡ found → found ≡ Ok (record { lines = lines; next = number })
none_left dialect lines number [] found none is = sym is
none_left dialect lines number (b ∷ bs) found none is = absurd (omega (arith, none))
