-- Bytes spell one list of lines, or have one first fault.
use Rattle.std.proofs.Common.{◌≡◌, ◌⊎◌, inl, inr, ℕ, ◌+◌, ◌<◌, ◌≤◌, Bool, true, false, cond, Result, Ok, Err, List, [], ◌∷◌, ◌++◌, length, arith, refl, sym, ap, ◌∙◌, append_assoc, append-nil, subst}
use Rattle.std.specs.Prelude.{nat_lt}
use Rattle.std.proofs.lemmas.Bool.{cases_lt}
use Rattle.std.proofs.lemmas.Bool.Decides.{nat_tests}
use Rattle.script_reader.specs.Lines.{pieces_of}
use Rattle.script_reader.specs.Reading.{on}
use Rattle.script_reader.specs.Stored.{Stored}
use Rattle.trace_reader.specs.declared.fault.TraceKind.{TraceKind}
use Rattle.trace_reader.specs.declared.fault.TraceKind.TheVariants.{Word, Order, Script, Ended, Long}
use Rattle.trace_reader.specs.declared.line.TraceLine.{TraceLine}
use Rattle.trace_reader.specs.Asked.{is_of_script}
use Rattle.trace_reader.specs.Ended.{is_under_way}
use Rattle.trace_reader.specs.Grammar.{Says, MayStand, IsFaulty, Say, last_number, Spells, FirstFault, IsRefused}
use Rattle.trace_reader.specs.Lines.{line_number}
use Rattle.trace_reader.specs.Reading.{Refusal, judged, line_form, reading, standing, words_of}
use Rattle.trace_reader.proofs.LineLaws.{is_said, says}
use Rattle.trace_reader.proofs.ReadingLaws.{refused, spelled}
use Rattle.trace_reader.specs.declared.fault.TraceFault.TheVariants.{Refused}

-- ONE LINE
not_less : (m n : ℕ) → n ≤ m → nat_lt m n ≡ false
not_less m n h = grind (arith, nat_tests)

less : (m n : ℕ) → m < n → nat_lt m n ≡ true
less m n h = grind (arith, nat_tests)

judged_by : (script : Stored) (before : List TraceLine) (text : List ℕ) (l : TraceLine) (low of going : Bool) → Says text l → nat_lt (line_number l) (last_number before) ≡ low
    → is_of_script script.lines script.count l ≡ of → is_under_way script.count before l ≡ going
    → judged script before text ≡ cond low (Err Order) (cond of (cond going (Ok l) (Err Ended)) (Err Script))
unfolding judged
judged_by script before text l low of going s e o u = rw (is_said text l s, e, o, u) refl

judged_said : (script : Stored) (before : List TraceLine) (text : List ℕ) (l : TraceLine) → Says text l → MayStand script before l → judged script before text ≡ Ok l
judged_said script before text l s m = judged_by script before text l false true true s (not_less (line_number l) (last_number before) m.ordered) m.of_script m.under_way

none_by : (script : Stored) (before : List TraceLine) (text : List ℕ) (r : Result TraceLine TraceKind) → line_form (words_of text) ≡ r → ((l : TraceLine) → Says text l → ⊥)
    → on r (standing script before) (λ no_line. Err Word) ≡ Err Word
none_by script before text (Ok l) is none = absurd (none l (says text l is))
none_by script before text (Err kind) is none = refl

judged_none : (script : Stored) (before : List TraceLine) (text : List ℕ) → ((l : TraceLine) → Says text l → ⊥) → judged script before text ≡ Err Word
unfolding judged
judged_none script before text none = none_by script before text (line_form (words_of text)) refl none

judged_faulty : (script : Stored) (before : List TraceLine) (text : List ℕ) (kind : TraceKind) → IsFaulty script before text kind → judged script before text ≡ Err kind
judged_faulty script before text Word f = judged_none script before text f
judged_faulty script before text Order f =
    judged_by script before text f.0 true (is_of_script script.lines script.count f.0) (is_under_way script.count before f.0) f.1 (less (line_number f.0) (last_number before) f.2) refl refl
judged_faulty script before text Script f =
    judged_by script before text f.0 false false (is_under_way script.count before f.0) f.1 (not_less (line_number f.0) (last_number before) f.2) f.3 refl
judged_faulty script before text Ended f = judged_by script before text f.0 false true false f.1 (not_less (line_number f.0) (last_number before) f.2) f.3 f.4
judged_faulty script before text Long f = absurd f

-- ALL LINES
reading_through : (script : Stored) (lines : List TraceLine) (n : ℕ) (texts more : List (List ℕ)) (rest : List TraceLine) → Say script lines texts rest
    → reading script lines n (texts ++ more) ≡ reading script (lines ++ rest) (n + length texts) more
reading_through script lines n [] more [] s =
    let same : n ≡ n + 0 = omega arith in
    ap (λ (ls : List TraceLine). reading script ls n more) (sym (append-nil lines)) ∙ ap (λ (k : ℕ). reading script (lines ++ []) k more) same
reading_through script lines n [] more (l ∷ ls) s = absurd s
reading_through script lines n (text ∷ texts) more [] s = absurd s
reading_through script lines n (text ∷ texts) more (l ∷ ls) s =
    let count : (n + 1) + length texts ≡ n + length (text ∷ texts) = omega arith in
    let step : reading script lines n (text ∷ texts ++ more) ≡ reading script (lines ++ l ∷ []) (n + 1) (texts ++ more) =
    ap (λ (r : Result TraceLine TraceKind). on r (λ line. reading script (lines ++ line ∷ []) (n + 1) (texts ++ more)) (λ kind. Err (record { line = n; kind = kind })))
    (judged_said script lines text l s.0 s.1) in
    step ∙ reading_through script (lines ++ l ∷ []) (n + 1) texts more ls s.2
    ∙ ap (λ (all : List TraceLine). reading script all ((n + 1) + length texts) more) (append_assoc lines (l ∷ []) ls)
    ∙ ap (λ (k : ℕ). reading script (lines ++ l ∷ ls) k more) count

all_read : (script : Stored) (texts : List (List ℕ)) (lines : List TraceLine) → Say script [] texts lines → reading script [] 1 texts ≡ Ok lines
all_read script texts lines s = ap (reading script [] 1) (sym (append-nil texts)) ∙ reading_through script [] 1 texts [] lines s

fault_read : (script : Stored) (texts : List (List ℕ)) (number : ℕ) (kind : TraceKind) → FirstFault script texts number kind
    → reading script [] 1 texts ≡ Err (record { line = number; kind = kind })
fault_read script texts number kind f =
    let n : ℕ = 1 + length f.before in
    let count : n ≡ number = omega (arith, f.number_is) in
    let found : reading script [] 1 texts ≡ Err (record { line = n; kind = kind }) =
    ap (reading script [] 1) f.place ∙ reading_through script [] 1 f.before (f.text ∷ f.behind) f.lines f.good
    ∙ ap (λ (r : Result TraceLine TraceKind). on r (λ line. reading script (f.lines ++ line ∷ []) (n + 1) f.behind) (λ kind. Err (record { line = n; kind = kind })))
    (judged_faulty script f.lines f.text kind f.faulty) in
    subst (λ (k : ℕ). reading script [] 1 texts ≡ Err (record { line = k; kind = kind })) count found

-- ONE TRACE OR ONE FAULT
pub one_trace : (script : Stored) (bytes : List ℕ) (lines others : List TraceLine) → Spells script bytes lines → Spells script bytes others → lines ≡ others
one_trace script bytes lines others a b =
    let x = all_read script (pieces_of bytes) lines a.says in
    let y = all_read script (pieces_of bytes) others b.says in
    cc

pub no_fault : (script : Stored) (bytes : List ℕ) (lines : List TraceLine) → Spells script bytes lines → (number : ℕ) (kind : TraceKind) → ¬ IsRefused script bytes number kind
no_fault script bytes lines s number kind (inl long) = omega (arith, long.0, s.short)
no_fault script bytes lines s number kind (inr (short, f)) =
    let x = all_read script (pieces_of bytes) lines s.says in
    let y = fault_read script (pieces_of bytes) number kind f in
    cc

same_refusal : (number other : ℕ) (kind kind_other : TraceKind) (r : Result (List TraceLine) Refusal) → r ≡ Err (record { line = number; kind = kind }) → r ≡ Err (record { line = other; kind = kind_other })
    → (number ≡ other) × (kind ≡ kind_other)
same_refusal number other kind kind_other r x y =
    let a : Refusal = record { line = number; kind = kind } in
    let b : Refusal = record { line = other; kind = kind_other } in
    let e : a ≡ b = cc in
    (ap (λ (r : Refusal). r.line) e, ap (λ (r : Refusal). r.kind) e)

pub one_fault : (script : Stored) (bytes : List ℕ) (number other : ℕ) (kind kind_other : TraceKind) → IsRefused script bytes number kind → IsRefused script bytes other kind_other
    → (number ≡ other) × (kind ≡ kind_other)
one_fault script bytes number other kind kind_other (inl a) (inl b) = (a.1 ∙ sym b.1, a.2 ∙ sym b.2)
one_fault script bytes number other kind kind_other (inl a) (inr b) = absurd (omega (arith, a.0, b.0))
one_fault script bytes number other kind kind_other (inr a) (inl b) = absurd (omega (arith, a.0, b.0))
one_fault script bytes number other kind kind_other (inr a) (inr b) =
    same_refusal number other kind kind_other (reading script [] 1 (pieces_of bytes)) (fault_read script (pieces_of bytes) number kind a.1) (fault_read script (pieces_of bytes) other kind_other b.1)

either_by : (script : Stored) (bytes : List ℕ) (r : Result (List TraceLine) Refusal) → length bytes ≤ 268435456 → reading script [] 1 (pieces_of bytes) ≡ r
    → ((lines : List TraceLine) × Spells script bytes lines) ⊎ ((number : ℕ) × (kind : TraceKind) × IsRefused script bytes number kind)
either_by script bytes (Ok lines) short is = inl (lines, spelled script bytes lines short is)
either_by script bytes (Err found) short is = inr (found.line, found.kind, refused script bytes (Refused found.line found.kind) short is)

pub some : (script : Stored) (bytes : List ℕ) → ((lines : List TraceLine) × Spells script bytes lines) ⊎ ((number : ℕ) × (kind : TraceKind) × IsRefused script bytes number kind)
some script bytes =
    elim (cases_lt 268435456 (length bytes)) [
      | inl long ↦ inr (0, Long, inl (long, refl, refl))
      | inr short ↦ either_by script bytes (reading script [] 1 (pieces_of bytes)) short refl
    ]
