-- The reader's way through a script gives what the grammar says, and nothing else does.
use Rattle.std.proofs.Common.{◌≡◌, ◌⊎◌, inl, inr, ℕ, ◌+◌, ◌<◌, ◌≤◌, List, [], ◌∷◌, ◌++◌, length, refl, sym, ap, ◌∙◌, arith, Option, Result, Ok, Err}
use Rattle.std.specs.Prelude.{nat_lt, if◌then◌else◌}
use Rattle.std.proofs.lemmas.Bool.Decides.{nat_tests}
use Rattle.script_lines.specs.declared.kinds.ScriptKind.{ScriptKind}
use Rattle.script_lines.specs.declared.kinds.ScriptKind.TheVariants.{ScriptLong}
use Rattle.script_reader.specs.declared.fault.ReadFault.{ReadFault}
use Rattle.script_reader.specs.declared.fault.ReadFault.TheVariants.{Memory, Refused}
use Rattle.script_lines.specs.declared.dialect.Dialect.{Dialect}
use Rattle.script_lines.specs.Known.{Said, Numbered, known_of}
use Rattle.script_reader.specs.Lines.{lines_of}
use Rattle.script_reader.specs.Grammar.{line_says, more, SayTheRest, Spells, FirstFault, IsRefused}
use Rattle.script_reader.specs.Reading.{Refusal, Read, on, reading, Finds, Refuses}
use Rattle.script_lines.proofs.Results.{same_Ok, same_Err, err-ok}

-- what comes next gave a value, or a fault
on_ok : {A B C E : Type 0} (res : Result A B) (f : A → Result C E) (g : B → E) (c : C) → on res f (λ b. Err (g b)) ≡ Ok c → (a : A) × (res ≡ Ok a) × (f a ≡ Ok c)
on_ok (Ok a) f g c e = (a, refl, e)
on_ok (Err b) f g c e = absurd (err-ok (g b) c e)

on_err : {A B C E : Type 0} (res : Result A B) (f : A → Result C E) (g : B → E) (r : E) → on res f (λ b. Err (g b)) ≡ Err r → ((b : B) × (res ≡ Err b) × (g b ≡ r)) ⊎ ((a : A) × (res ≡ Ok a) × (f a ≡ Err r))
on_err (Ok a) f g r e = inr (a, refl, e)
on_err (Err b) f g r e = inl (b, refl, same_Err (g b) r e)

either : {A B C : Type 0} → A ⊎ B → (A → C) → (B → C) → C
either (inl a) f g = f a
either (inr b) f g = g b

-- LINES that say the rest are read, and those that are read say the rest.
refusal : ℕ → ScriptKind → Refusal
refusal n kind = record { line = n; kind = kind }

abbrev step : Dialect → List Numbered → ℕ → List (List ℕ) → Result (Option Said) ScriptKind → Result Read Refusal
step dialect lines n texts res = on res (λ entry. reading dialect (more lines n entry) (n + 1) texts) (λ kind. Err (record { line = n; kind = kind }))

pub says_read : (dialect : Dialect) (lines : List Numbered) (n : ℕ) (texts : List (List ℕ)) (all : List Numbered) → SayTheRest dialect lines n texts all → reading dialect lines n texts ≡ Ok (record { lines = all; next = n + length texts })
says_read dialect lines n [] all s =
    let here : n ≡ n + length {A = List ℕ} [] = omega arith in
    ap (λ (ls : List Numbered). Ok (record { lines = ls; next = n })) s ∙ ap (λ (k : ℕ). Ok (record { lines = all; next = k })) here
says_read dialect lines n (text ∷ texts) all s =
    let here : (n + 1) + length texts ≡ n + length (text ∷ texts) = omega arith in
    ap (step dialect lines n texts) s.1
    ∙ says_read dialect (more lines n s.0) (n + 1) texts all s.2
    ∙ ap (λ (k : ℕ). Ok (record { lines = all; next = k })) here

pub read_says : (dialect : Dialect) (lines : List Numbered) (n : ℕ) (texts : List (List ℕ)) (r : Read) → reading dialect lines n texts ≡ Ok r → SayTheRest dialect lines n texts r.lines × (r.next ≡ n + length texts)
read_says dialect lines n [] r e =
    let same : ◌≡◌ {A = Read} (record { lines = lines; next = n }) r = same_Ok _ r e in
    let here : n ≡ n + length {A = List ℕ} [] = omega arith in
    (ap (λ (x : Read). x.lines) same, sym (ap (λ (x : Read). x.next) same) ∙ here)
read_says dialect lines n (text ∷ texts) r e =
    let found = on_ok (line_says dialect (known_of lines) n text) (λ entry. reading dialect (more lines n entry) (n + 1) texts) (λ kind. record { line = n; kind = kind }) r e in
    let rest = read_says dialect (more lines n found.0) (n + 1) texts r found.2 in
    let here : (n + 1) + length texts ≡ n + length (text ∷ texts) = omega arith in
    ((found.0, found.1, rest.0), rest.1 ∙ here)

-- FAULTS. Behind some lines, these texts have a first faulty one.
pub record StopsAt (dialect : Dialect) (lines : List Numbered) (n : ℕ) (texts : List (List ℕ)) (number : ℕ) (kind : ScriptKind) : Type 0 where
  pub before : List (List ℕ)
  pub text : List ℕ
  pub behind : List (List ℕ)
  pub reached : List Numbered
  pub place : texts ≡ before ++ text ∷ behind
  pub good : SayTheRest dialect lines n before reached
  pub number_is : number ≡ n + length before
  pub faulty : line_says dialect (known_of reached) number text ≡ Err kind

stops_here : (dialect : Dialect) (lines : List Numbered) (n : ℕ) (text : List ℕ) (texts : List (List ℕ)) (kind : ScriptKind) (r : Refusal) → line_says dialect (known_of lines) n text ≡ Err kind → ◌≡◌ {A = Refusal} (record { line = n; kind = kind }) r → StopsAt dialect lines n (text ∷ texts) r.line r.kind
stops_here dialect lines n text texts kind r is same =
    let number : n ≡ r.line = ap (λ (x : Refusal). x.line) same in
    let kind_is : kind ≡ r.kind = ap (λ (x : Refusal). x.kind) same in
    let here : n ≡ n + length {A = List ℕ} [] = omega arith in record {
      before = [];
      text = text;
      behind = texts;
      reached = lines;
      place = refl;
      good = refl;
      number_is = sym number ∙ here;
      faulty = ap (λ (k : ℕ). line_says dialect (known_of lines) k text) (sym number) ∙ is ∙ ap (λ (k : ScriptKind). Err k) kind_is;
    }

stops_later : (dialect : Dialect) (lines : List Numbered) (n : ℕ) (text : List ℕ) (texts : List (List ℕ)) (number : ℕ) (kind : ScriptKind) (entry : Option Said) → line_says dialect (known_of lines) n text ≡ Ok entry → StopsAt dialect (more lines n entry) (n + 1) texts number kind → StopsAt dialect lines n (text ∷ texts) number kind
stops_later dialect lines n text texts number kind entry is s =
    let here : (n + 1) + length s.before ≡ n + length (text ∷ s.before) = omega arith in record {
      before = text ∷ s.before;
      text = s.text;
      behind = s.behind;
      reached = s.reached;
      place = ap (λ (ts : List (List ℕ)). text ∷ ts) s.place;
      good = (entry, is, s.good);
      number_is = s.number_is ∙ here;
      faulty = s.faulty;
    }

pub read_stops : (dialect : Dialect) (lines : List Numbered) (n : ℕ) (texts : List (List ℕ)) (r : Refusal) → reading dialect lines n texts ≡ Err r → StopsAt dialect lines n texts r.line r.kind
read_stops dialect lines n [] r e = absurd (err-ok r _ (sym e))
read_stops dialect lines n (text ∷ texts) r e =
    either (on_err (line_says dialect (known_of lines) n text) (λ entry. reading dialect (more lines n entry) (n + 1) texts) (λ kind. record { line = n; kind = kind }) r e)
    (λ at. stops_here dialect lines n text texts at.0 r at.1 at.2)
    (λ at. stops_later dialect lines n text texts r.line r.kind at.0 at.1 (read_stops dialect (more lines n at.0) (n + 1) texts r at.2))

stopped : (dialect : Dialect) (lines : List Numbered) (n : ℕ) (before : List (List ℕ)) (text : List ℕ) (behind : List (List ℕ)) (reached : List Numbered) (number : ℕ) (kind : ScriptKind)
    → SayTheRest dialect lines n before reached → number ≡ n + length before → line_says dialect (known_of reached) number text ≡ Err kind
    → reading dialect lines n (before ++ text ∷ behind) ≡ Err (record { line = number; kind = kind })
stopped dialect lines n [] text behind reached number kind good number_is faulty =
    let here : number ≡ n = omega (arith, number_is) in
    let is : line_says dialect (known_of lines) n text ≡ Err kind =
    ap (λ (ls : List Numbered). line_says dialect (known_of ls) n text) good ∙ ap (λ (k : ℕ). line_says dialect (known_of reached) k text) (sym here) ∙ faulty in
    ap (step dialect lines n behind) is ∙ ap (λ (k : ℕ). Err (record { line = k; kind = kind })) (sym here)
stopped dialect lines n (t ∷ ts) text behind reached number kind good number_is faulty =
    let here : number ≡ (n + 1) + length ts = omega (arith, number_is) in
    ap (step dialect lines n (ts ++ text ∷ behind)) good.1
    ∙ stopped dialect (more lines n good.0) (n + 1) ts text behind reached number kind good.2 here faulty

-- SCRIPTS
-- a whole script
abbrev script_of : Dialect → List ℕ → Result Read Refusal
script_of dialect bytes =
    if nat_lt 16777216 (length bytes) then Err (record { line = 0; kind = ScriptLong }) else reading dialect [] 1 (lines_of bytes)

short_script : (dialect : Dialect) (bytes : List ℕ) → length bytes ≤ 16777216 → script_of dialect bytes ≡ reading dialect [] 1 (lines_of bytes)
short_script dialect bytes short = grind (arith, nat_tests)

long_script : (dialect : Dialect) (bytes : List ℕ) → 16777216 < length bytes → script_of dialect bytes ≡ Err (record { line = 0; kind = ScriptLong })
long_script dialect bytes long = grind (arith, nat_tests)

lengths : (n : ℕ) → (n ≤ 16777216) ⊎ (16777216 < n)
lengths n = grind arith

count_is : (n k : ℕ) → n ≡ k → 1 + n ≡ k + 1
count_is n k e = omega (arith, e)

spells_read : (dialect : Dialect) (bytes : List ℕ) (lines : List Numbered) (count : ℕ) → Spells dialect bytes lines count → script_of dialect bytes ≡ Ok (record { lines = lines; next = count + 1 })
spells_read dialect bytes lines count s =
    let here : 1 + length (lines_of bytes) ≡ count + 1 = count_is (length (lines_of bytes)) count (sym s.counted) in
    short_script dialect bytes s.short ∙ says_read dialect [] 1 (lines_of bytes) lines s.says ∙ ap (λ (k : ℕ). Ok (record { lines = lines; next = k })) here

refused_read : (dialect : Dialect) (bytes : List ℕ) (number : ℕ) (kind : ScriptKind) → IsRefused dialect bytes number kind → script_of dialect bytes ≡ Err (record { line = number; kind = kind })
refused_read dialect bytes number kind (inl long) =
    long_script dialect bytes long.0 ∙ ap (λ (n : ℕ). Err (record { line = n; kind = ScriptLong })) (sym long.1) ∙ ap (λ (k : ScriptKind). Err (record { line = number; kind = k })) (sym long.2)
refused_read dialect bytes number kind (inr (short, f)) =
    let here : number ≡ 1 + length f.before = omega (arith, f.number_is) in
    short_script dialect bytes short
    ∙ ap (reading dialect [] 1) f.place
    ∙ stopped dialect [] 1 f.before f.text f.behind f.lines number kind f.good here f.faulty

-- what was read of a text that is not too long
pub spelled : (dialect : Dialect) (bytes : List ℕ) (lines : List Numbered) (next count : ℕ) → length bytes ≤ 16777216 → reading dialect [] 1 (lines_of bytes) ≡ Ok (record { lines = lines; next = next }) → next ≡ count + 1 → Spells dialect bytes lines count
spelled dialect bytes lines next count short e is =
    let all = read_says dialect [] 1 (lines_of bytes) (record { lines = lines; next = next }) e in record {
      short = short;
      says = all.0;
      counted = omega (arith, all.1, is);
    }

first_fault : (dialect : Dialect) (bytes : List ℕ) (number : ℕ) (kind : ScriptKind) → StopsAt dialect [] 1 (lines_of bytes) number kind → FirstFault dialect (lines_of bytes) number kind
first_fault dialect bytes number kind s =
    let here : number ≡ length s.before + 1 = omega (arith, s.number_is) in record {
      before = s.before;
      text = s.text;
      behind = s.behind;
      lines = s.reached;
      place = s.place;
      good = s.good;
      number_is = here;
      faulty = s.faulty;
    }

pub refused : (dialect : Dialect) (bytes : List ℕ) (fault : ReadFault) → length bytes ≤ 16777216 → Finds fault (reading dialect [] 1 (lines_of bytes)) → Refuses dialect fault bytes
refused dialect bytes Memory short f = tt
refused dialect bytes (Refused line kind) short f = inr (short, first_fault dialect bytes line kind (read_stops dialect [] 1 (lines_of bytes) (record { line = line; kind = kind }) f))

-- THE LAW of the grammar.
one_read : (dialect : Dialect) (bytes : List ℕ) (lines others : List Numbered) (count other : ℕ) → Spells dialect bytes lines count → Spells dialect bytes others other →
    ◌≡◌ {A = Read} (record { lines = lines; next = count + 1 }) (record { lines = others; next = other + 1 })
one_read dialect bytes lines others count other s t = same_Ok _ _ (sym (spells_read dialect bytes lines count s) ∙ spells_read dialect bytes others other t)

less_one : (n k : ℕ) → n + 1 ≡ k + 1 → n ≡ k
less_one n k e = omega (arith, e)

pub one_script : (dialect : Dialect) (bytes : List ℕ) (lines others : List Numbered) (count other : ℕ) → Spells dialect bytes lines count → Spells dialect bytes others other → (lines ≡ others) × (count ≡ other)
one_script dialect bytes lines others count other s t =
    let same = one_read dialect bytes lines others count other s t in
    (ap (λ (x : Read). x.lines) same, less_one count other (ap (λ (x : Read). x.next) same))

pub no_fault : (dialect : Dialect) (bytes : List ℕ) (lines : List Numbered) (count : ℕ) → Spells dialect bytes lines count → (number : ℕ) (kind : ScriptKind) → ¬ IsRefused dialect bytes number kind
no_fault dialect bytes lines count s number kind r = err-ok _ _ (sym (refused_read dialect bytes number kind r) ∙ spells_read dialect bytes lines count s)

one_refusal : (dialect : Dialect) (bytes : List ℕ) (number other : ℕ) (kind kind_other : ScriptKind) → IsRefused dialect bytes number kind → IsRefused dialect bytes other kind_other →
    ◌≡◌ {A = Refusal} (record { line = number; kind = kind }) (record { line = other; kind = kind_other })
one_refusal dialect bytes number other kind kind_other r s = same_Err _ _ (sym (refused_read dialect bytes number kind r) ∙ refused_read dialect bytes other kind_other s)

pub one_fault : (dialect : Dialect) (bytes : List ℕ) (number other : ℕ) (kind kind_other : ScriptKind) → IsRefused dialect bytes number kind → IsRefused dialect bytes other kind_other → (number ≡ other) × (kind ≡ kind_other)
one_fault dialect bytes number other kind kind_other r s =
    let same = one_refusal dialect bytes number other kind kind_other r s in
    (ap (λ (x : Refusal). x.line) same, ap (λ (x : Refusal). x.kind) same)

abbrev IsRead : Dialect → List ℕ → Type 0
IsRead dialect bytes = ((lines : List Numbered) × (count : ℕ) × Spells dialect bytes lines count) ⊎ ((number : ℕ) × (kind : ScriptKind) × IsRefused dialect bytes number kind)

result_cases : {A E : Type 0} (res : Result A E) → ((a : A) × (res ≡ Ok a)) ⊎ ((e : E) × (res ≡ Err e))
result_cases (Ok a) = inl (a, refl)
result_cases (Err e) = inr (e, refl)

read_short : (dialect : Dialect) (bytes : List ℕ) → length bytes ≤ 16777216 → IsRead dialect bytes
read_short dialect bytes short =
    either (result_cases (reading dialect [] 1 (lines_of bytes)))
    (λ at.
    let all = read_says dialect [] 1 (lines_of bytes) at.0 at.1 in inl (at.0.lines, length (lines_of bytes), record { short = short; says = all.0; counted = refl }))
    (λ at. inr (at.0.line, at.0.kind, inr (short, first_fault dialect bytes at.0.line at.0.kind (read_stops dialect [] 1 (lines_of bytes) at.0 at.1))))

pub some : (dialect : Dialect) (bytes : List ℕ) → IsRead dialect bytes
some dialect bytes = either (lengths (length bytes)) (λ short. read_short dialect bytes short) (λ long. inr (0, ScriptLong, inl (long, refl, refl)))
