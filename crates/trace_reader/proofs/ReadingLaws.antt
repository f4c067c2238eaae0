-- What the reader finds, line by line, is what the grammar says.
use Rattle.std.proofs.Common.{◌≡◌, inr, ℕ, ◌+◌, ◌<◌, ◌≤◌, Bool, true, false, cond, Result, Ok, Err, List, [], ◌∷◌, ◌++◌, length, arith, refl, sym, ap, ◌∙◌, append_assoc, append-nil, subst}
use Rattle.std.specs.Prelude.{nat_lt, IfOk, IfErr}
use Rattle.std.proofs.lemmas.Bool.Decides.{nat_tests}
use Rattle.script_reader.specs.Lines.{pieces_of}
use Rattle.script_reader.specs.Reading.{on}
use Rattle.script_reader.specs.Stored.{Stored}
use Rattle.trace_reader.specs.declared.fault.TraceFault.{TraceFault}
use Rattle.trace_reader.specs.declared.fault.TraceFault.TheVariants.{Memory, Refused}
use Rattle.trace_reader.specs.declared.fault.TraceKind.{TraceKind}
use Rattle.trace_reader.specs.declared.fault.TraceKind.TheVariants.{Word, Order, Script, Ended}
use Rattle.trace_reader.specs.declared.line.TraceLine.{TraceLine}
use Rattle.trace_reader.specs.Asked.{is_of_script}
use Rattle.trace_reader.specs.Ended.{is_under_way}
use Rattle.trace_reader.specs.Grammar.{Says, MayStand, IsFaulty, Say, last_number, Spells, Refuses}
use Rattle.trace_reader.specs.Lines.{line_number}
use Rattle.trace_reader.specs.Reading.{Refusal, judged, line_form, reading, standing, words_of}
use Rattle.trace_reader.proofs.LineLaws.{is_said, says}

-- ONE LINE
pub record Stands (script : Stored) (before : List TraceLine) (text : List ℕ) (l : TraceLine) : Type 0 where
  pub says : Says text l
  pub stands : MayStand script before l

less_true : (m n : ℕ) → nat_lt m n ≡ true → m < n
less_true m n e = grind (arith, nat_tests)

less_false : (m n : ℕ) → nat_lt m n ≡ false → n ≤ m
less_false m n e = grind (arith, nat_tests)

pub stands_by : (k l : TraceLine) (low of going : Bool) → cond low (Err Order) (cond of (cond going (Ok k) (Err Ended)) (Err Script)) ≡ Ok l → (low ≡ false) × (of ≡ true) × (going ≡ true) × (k ≡ l)
stands_by k l true of going e = absurd (cc)
stands_by k l false true true e = (refl, refl, refl, cc)
stands_by k l false true false e = absurd (cc)
stands_by k l false false going e = absurd (cc)

ok_by : (script : Stored) (before : List TraceLine) (text : List ℕ) (l : TraceLine) (r : Result TraceLine TraceKind) → line_form (words_of text) ≡ r
    → on r (standing script before) (λ no_line. Err Word) ≡ Ok l → Stands script before text l
ok_by script before text l (Err kind) is e = absurd (cc)
ok_by script before text l (Ok k) is e =
    let p = stands_by k l (nat_lt (line_number k) (last_number before)) (is_of_script script.lines script.count k) (is_under_way script.count before k) e in
    let good : Stands script before text k = record {
      says = says text k is;
      stands = record { ordered = less_false (line_number k) (last_number before) p.0; of_script = p.1; under_way = p.2 };
    } in
    subst (λ (l : TraceLine). Stands script before text l) p.3 good

pub judged_ok : (script : Stored) (before : List TraceLine) (text : List ℕ) (l : TraceLine) → judged script before text ≡ Ok l → Stands script before text l
unfolding judged
judged_ok script before text l e = ok_by script before text l (line_form (words_of text)) refl e

falls_by : (script : Stored) (before : List TraceLine) (text : List ℕ) (k : TraceLine) (kind : TraceKind) (low of going : Bool) → Says text k → nat_lt (line_number k) (last_number before) ≡ low
    → is_of_script script.lines script.count k ≡ of → is_under_way script.count before k ≡ going
    → ◌≡◌ {A = Result TraceLine TraceKind} (cond low (Err Order) (cond of (cond going (Ok k) (Err Ended)) (Err Script))) (Err kind) → IsFaulty script before text kind
falls_by script before text k kind true of going s l o u e =
    let same : Order ≡ kind = cc in
    subst (λ (kind : TraceKind). IsFaulty script before text kind) same (k, s, less_true (line_number k) (last_number before) l)
falls_by script before text k kind false true true s l o u e = absurd (cc)
falls_by script before text k kind false true false s l o u e =
    let same : Ended ≡ kind = cc in
    subst (λ (kind : TraceKind). IsFaulty script before text kind) same (k, s, less_false (line_number k) (last_number before) l, o, u)
falls_by script before text k kind false false going s l o u e =
    let same : Script ≡ kind = cc in
    subst (λ (kind : TraceKind). IsFaulty script before text kind) same (k, s, less_false (line_number k) (last_number before) l, o)

unsaid : (text : List ℕ) (other : TraceKind) → line_form (words_of text) ≡ Err other → (l : TraceLine) → Says text l → ⊥
unsaid text other is l h = let a = is_said text l h in cc

err_by : (script : Stored) (before : List TraceLine) (text : List ℕ) (kind : TraceKind) (r : Result TraceLine TraceKind) → line_form (words_of text) ≡ r
    → on r (standing script before) (λ no_line. Err Word) ≡ Err kind → IsFaulty script before text kind
err_by script before text kind (Ok k) is e =
    falls_by script before text k kind (nat_lt (line_number k) (last_number before)) (is_of_script script.lines script.count k) (is_under_way script.count before k) (says text k is) refl refl refl e
err_by script before text kind (Err other) is e =
    let same : Word ≡ kind = cc in
    subst (λ (kind : TraceKind). IsFaulty script before text kind) same (unsaid text other is)

pub judged_err : (script : Stored) (before : List TraceLine) (text : List ℕ) (kind : TraceKind) → judged script before text ≡ Err kind → IsFaulty script before text kind
unfolding judged
judged_err script before text kind e = err_by script before text kind (line_form (words_of text)) refl e

-- ALL LINES
pub record SaysRest (script : Stored) (lines : List TraceLine) (texts : List (List ℕ)) (all : List TraceLine) : Type 0 where
  pub rest : List TraceLine
  pub all_are : all ≡ lines ++ rest
  pub say : Say script lines texts rest

read_by : (script : Stored) (lines : List TraceLine) (n : ℕ) (text : List ℕ) (texts : List (List ℕ)) (all : List TraceLine) (r : Result TraceLine TraceKind) → judged script lines text ≡ r
    → on r (λ line. reading script (lines ++ line ∷ []) (n + 1) texts) (λ kind. Err (record { line = n; kind = kind })) ≡ Ok all
    → ((line : TraceLine) → reading script (lines ++ line ∷ []) (n + 1) texts ≡ Ok all → SaysRest script (lines ++ line ∷ []) texts all)
    → SaysRest script lines (text ∷ texts) all
read_by script lines n text texts all (Err kind) is e next = absurd (cc)
read_by script lines n text texts all (Ok line) is e next =
    let stand = judged_ok script lines text line is in
    let behind = next line e in record {
      rest = line ∷ behind.rest;
      all_are = behind.all_are ∙ append_assoc lines (line ∷ []) behind.rest;
      say = (stand.says, stand.stands, behind.say);
    }

read_ok : (script : Stored) (lines : List TraceLine) (n : ℕ) (texts : List (List ℕ)) (all : List TraceLine) → reading script lines n texts ≡ Ok all → SaysRest script lines texts all
read_ok script lines n [] all e =
    let same : lines ≡ all = cc in
    record { rest = []; all_are = sym same ∙ sym (append-nil lines); say = tt }
read_ok script lines n (text ∷ texts) all e =
    read_by script lines n text texts all (judged script lines text) refl e (λ line h. read_ok script (lines ++ line ∷ []) (n + 1) texts all h)

-- the first faulty text behind some lines, where the first text has number n
pub record FaultFrom (script : Stored) (before : List TraceLine) (n : ℕ) (texts : List (List ℕ)) (number : ℕ) (kind : TraceKind) : Type 0 where
  pub front : List (List ℕ)
  pub text : List ℕ
  pub behind : List (List ℕ)
  pub lines : List TraceLine
  pub place : texts ≡ front ++ text ∷ behind
  pub good : Say script before front lines
  pub number_is : number ≡ length front + n
  pub faulty : IsFaulty script (before ++ lines) text kind

stopped_by : (script : Stored) (lines : List TraceLine) (n : ℕ) (text : List ℕ) (texts : List (List ℕ)) (refusal : Refusal) (r : Result TraceLine TraceKind) → judged script lines text ≡ r
    → on r (λ line. reading script (lines ++ line ∷ []) (n + 1) texts) (λ kind. Err (record { line = n; kind = kind })) ≡ Err refusal
    → ((line : TraceLine) → reading script (lines ++ line ∷ []) (n + 1) texts ≡ Err refusal → FaultFrom script (lines ++ line ∷ []) (n + 1) texts refusal.line refusal.kind)
    → FaultFrom script lines n (text ∷ texts) refusal.line refusal.kind
stopped_by script lines n text texts refusal (Err kind) is e next =
    let here : FaultFrom script lines n (text ∷ texts) n kind = record {
      front = [];
      text = text;
      behind = texts;
      lines = [];
      place = refl;
      good = tt;
      number_is = omega arith;
      faulty = subst (λ (ls : List TraceLine). IsFaulty script ls text kind) (sym (append-nil lines)) (judged_err script lines text kind is);
    } in
    let found : Refusal = record { line = n; kind = kind } in
    let same : found ≡ refusal = cc in
    subst (λ (r : Refusal). FaultFrom script lines n (text ∷ texts) r.line r.kind) same here
stopped_by script lines n text texts refusal (Ok line) is e next =
    let stand = judged_ok script lines text line is in
    let f = next line e in record {
      front = text ∷ f.front;
      text = f.text;
      behind = f.behind;
      lines = line ∷ f.lines;
      place = ap (λ (ts : List (List ℕ)). text ∷ ts) f.place;
      good = (stand.says, stand.stands, f.good);
      number_is = omega (arith, f.number_is);
      faulty = subst (λ (ls : List TraceLine). IsFaulty script ls f.text refusal.kind) (append_assoc lines (line ∷ []) f.lines) f.faulty;
    }

read_err : (script : Stored) (lines : List TraceLine) (n : ℕ) (texts : List (List ℕ)) (refusal : Refusal) → reading script lines n texts ≡ Err refusal
    → FaultFrom script lines n texts refusal.line refusal.kind
read_err script lines n [] refusal e = absurd (cc)
read_err script lines n (text ∷ texts) refusal e =
    stopped_by script lines n text texts refusal (judged script lines text) refl e (λ line h. read_err script (lines ++ line ∷ []) (n + 1) texts refusal h)

-- THE WHOLE
pub spelled : (script : Stored) (bytes : List ℕ) (lines : List TraceLine) → length bytes ≤ 268435456 → reading script [] 1 (pieces_of bytes) ≡ Ok lines → Spells script bytes lines
spelled script bytes lines short e =
    let r = read_ok script [] 1 (pieces_of bytes) lines e in
    record { short = short; says = subst (λ (ls : List TraceLine). Say script [] (pieces_of bytes) ls) (sym r.all_are) r.say }

-- what a reader refuses is what it found, unless memory ran out
abbrev pub Finds : TraceFault → Result (List TraceLine) Refusal → Type 0
Finds Memory found = Unit {0}
Finds (Refused line kind) found = found ≡ Err (record { line = line; kind = kind })

pub refused : (script : Stored) (bytes : List ℕ) (fault : TraceFault) → length bytes ≤ 268435456 → Finds fault (reading script [] 1 (pieces_of bytes)) → Refuses script bytes fault
refused script bytes Memory short e = tt
refused script bytes (Refused line kind) short e =
    let f = read_err script [] 1 (pieces_of bytes) (record { line = line; kind = kind }) e in
    inr (
      short,
      record {
        before = f.front;
        text = f.text;
        behind = f.behind;
        lines = f.lines;
        place = f.place;
        good = f.good;
        number_is = f.number_is;
        faulty = f.faulty;
      },
    )

-- STEPS OF THE LOOP
pub goes : (script : Stored) (lines : List TraceLine) (n : ℕ) (rest text after : List ℕ) (line : TraceLine) (whole : Result (List TraceLine) Refusal)
    → reading script lines n (pieces_of rest) ≡ whole → pieces_of rest ≡ text ∷ pieces_of after → judged script lines text ≡ Ok line
    → reading script (lines ++ line ∷ []) (n + 1) (pieces_of after) ≡ whole
goes script lines n rest text after line whole e split is =
    let step : reading script lines n (pieces_of rest) ≡ reading script (lines ++ line ∷ []) (n + 1) (pieces_of after) =
    subst (λ (r : Result TraceLine TraceKind). reading script lines n (pieces_of rest)
    ≡ on r (λ line. reading script (lines ++ line ∷ []) (n + 1) (pieces_of after)) (λ kind. Err (record { line = n; kind = kind })))
    is (ap (reading script lines n) split) in
    sym step ∙ e

pub stops : (script : Stored) (lines : List TraceLine) (n : ℕ) (rest text after : List ℕ) (kind : TraceKind) (whole : Result (List TraceLine) Refusal)
    → reading script lines n (pieces_of rest) ≡ whole → pieces_of rest ≡ text ∷ pieces_of after → judged script lines text ≡ Err kind
    → whole ≡ Err (record { line = n; kind = kind })
stops script lines n rest text after kind whole e split is =
    sym e ∙ subst (λ (r : Result TraceLine TraceKind). reading script lines n (pieces_of rest)
    ≡ on r (λ line. reading script (lines ++ line ∷ []) (n + 1) (pieces_of after)) (λ kind. Err (record { line = n; kind = kind })))
    is (ap (reading script lines n) split)

pub ends : (script : Stored) (lines : List TraceLine) (n : ℕ) (rest : List ℕ) (whole : Result (List TraceLine) Refusal)
    → reading script lines n (pieces_of rest) ≡ whole → length rest ≡ 0 → whole ≡ Ok lines
ends script lines n [] whole e none = sym e
ends script lines n (b ∷ bs) whole e none = absurd (omega (arith, none))

-- WHATEVER THE READER GIVES
pub if_ok : {V : Type 0} (items : V → List TraceLine) (script : Stored) (bytes : List ℕ) (r : Result V TraceFault) → length bytes ≤ 268435456
    → IfOk r (λ v. reading script [] 1 (pieces_of bytes) ≡ Ok (items v)) → IfOk r (λ v. Spells script bytes (items v))
if_ok items script bytes (Ok v) short h = spelled script bytes (items v) short h
if_ok items script bytes (Err fault) short h = tt

pub if_err : {V : Type 0} (script : Stored) (bytes : List ℕ) (r : Result V TraceFault) → length bytes ≤ 268435456
    → IfErr r (λ fault. Finds fault (reading script [] 1 (pieces_of bytes))) → IfErr r (λ fault. Refuses script bytes fault)
if_err script bytes (Ok v) short h = tt
if_err script bytes (Err fault) short h = refused script bytes fault short h
