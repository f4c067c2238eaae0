-- The lines that bytes spell are numbered upwards.
use Rattle.std.proofs.Common.{◌≡◌, ℕ, ◌+◌, ◌≤◌, List, [], ◌∷◌, ◌++◌, length, map, sym, subst, ◌∙◌, arith, append_assoc, append-nil, Option, None, Some}
use Rattle.script_lines.specs.declared.dialect.Dialect.{Dialect}
use Rattle.script_reader.specs.Grammar.{more, SayTheRest, Spells}
use Rattle.script_lines.specs.Known.{Said, Numbered}
use Rattle.script_reader.specs.Lines.{lines_of}
use Rattle.script_lines.specs.Script.{Line, AreNumbered}
use Rattle.script_reader.specs.Meaning.{line_of}

-- numbers that ascend from a later one on ascend from an earlier one on
ascend_before : (earlier later count : ℕ) (lines : List Line) → earlier ≤ later → AreNumbered later count lines → AreNumbered earlier count lines
ascend_before earlier later count [] le n = omega (arith, le, n)
ascend_before earlier later count (line ∷ lines) le n = (omega (arith, le, n.0), n.1)

-- behind some lines the rest is numbered upwards
record IsRest (lines all : List Numbered) (before count : ℕ) : Type 0 where
  pub rest : List Numbered
  pub is : all ≡ lines ++ rest
  pub numbers : AreNumbered before count (map line_of rest)

with_entry : (lines all : List Numbered) (before count : ℕ) (entry : Option Said) → IsRest (more lines (before + 1) entry) all (before + 1) count → IsRest lines all before count
with_entry lines all before count None r = record {
  rest = r.rest;
  is = r.is;
  numbers = ascend_before before (before + 1) count (map line_of r.rest) (omega arith) r.numbers;
}
with_entry lines all before count (Some s) r =
    let line : Numbered = record { number = before + 1; statement = s } in record {
      rest = line ∷ r.rest;
      is = r.is ∙ append_assoc lines (line ∷ []) r.rest;
      numbers = (omega arith, r.numbers);
    }

rest_numbered : (dialect : Dialect) (lines : List Numbered) (before : ℕ) (texts : List (List ℕ)) (all : List Numbered) → SayTheRest dialect lines (before + 1) texts all → IsRest lines all before (before + length texts)
rest_numbered dialect lines before [] all s = record { rest = []; is = sym s ∙ sym (append-nil lines); numbers = omega arith }
rest_numbered dialect lines before (text ∷ texts) all s =
    let e : before + 1 + length texts ≡ before + length (text ∷ texts) = omega arith in
    let r = rest_numbered dialect (more lines (before + 1) s.0) (before + 1) texts all s.2 in
    with_entry lines all before (before + length (text ∷ texts)) s.0 (subst (λ (k : ℕ). IsRest (more lines (before + 1) s.0) all (before + 1) k) e r)

pub spelled_numbered : (dialect : Dialect) (bytes : List ℕ) (lines : List Numbered) (count : ℕ) → Spells dialect bytes lines count → AreNumbered 0 count (map line_of lines)
spelled_numbered dialect bytes lines count s =
    let r = rest_numbered dialect [] 0 (lines_of bytes) lines s.says in
    let e : 0 + length (lines_of bytes) ≡ length (lines_of bytes) = omega arith in
    let numbers : AreNumbered 0 (0 + length (lines_of bytes)) (map line_of lines) = subst (λ (ls : List Numbered). AreNumbered 0 (0 + length (lines_of bytes)) (map line_of ls)) (sym r.is) r.numbers in
    subst (λ (k : ℕ). AreNumbered 0 k (map line_of lines)) (e ∙ sym s.counted) numbers
