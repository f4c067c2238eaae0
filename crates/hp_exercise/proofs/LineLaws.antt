-- The text of each step is that of its line, and none is long.
use Rattle.std.proofs.Common.{◌≡◌, ℕ, zero, suc, ◌+◌, ◌*◌, ◌/◌, ◌%◌, ◌<◌, ◌≤◌, Bool, true, false, List, [], ◌∷◌, ◌++◌, length, refl, sym, ap, subst, ◌∙◌, arith, append_assoc, append-nil, length-append}
use Rattle.std.specs.Prelude.{if◌then◌else◌, ◌==◌, nat_lt, codes}
use Rattle.std.specs.Fmt.{digits}
use Rattle.std.proofs.lemmas.Fmt.{decimal_digit}
use Rattle.hardware_table.specs.declared.FaultKind.TheVariants.{Opi}
use Rattle.hardware_table.specs.declared.NoiseSpan.TheVariants.{Times}
use Rattle.mass_text.specs.declared.numbers.Radix.TheVariants.{Decimal}
use Rattle.mass_text.proofs.NumberLaws.{length-numeral-le}
use Rattle.rand_core.specs.Stream.{Stream, next_u64}
use Rattle.script_reader.specs.Grammar.{Spells}
use Rattle.script_lines.specs.Known.{Said, verb_of}
use Rattle.script_reader.specs.Printing.{number, fields_of, spaced, line_text, text_of, numbered}
use Rattle.script_lines.specs.Words.{verb_word, all_verbs}
use Rattle.script_lines.specs.declared.statement.Content.TheVariants.{Seq}
use Rattle.script_lines.specs.declared.statement.Statement.TheVariants as says
use Rattle.script_reader.proofs.BackLaws.{read_back}
use Rattle.hp_exercise.specs.Exercise.{unit_of, block_of, place_of, count_of, seq_of, offset_of, times_of, choice_of, field, fault_text, noise_text, write_text, read_text, arrive_text, move_text, attend_text, chosen_text, step_text, steps_text, head_text, words_of, script_text}
use Rattle.hp_exercise.specs.Statements.{request_of, chosen_statement, step_statement, steps_statements, head_statements, script_statements}
use Rattle.hp_exercise.proofs.BoundLaws.{times_bound, count_bound, offset_bound, place_bound}
use Rattle.hp_exercise.proofs.CaseLaws.{step_by}
use Rattle.hp_exercise.proofs.ReadyLaws.{block_bound, seq_bound, script_well}

-- FIELDS with what follows them
abbrev then_text : List (List ℕ) → List ℕ → List ℕ
then_text [] rest = rest
then_text (f ∷ fs) rest = 32 ∷ f ++ then_text fs rest

spaced_then : (fs : List (List ℕ)) (rest : List ℕ) → spaced fs ++ rest ≡ then_text fs rest
spaced_then [] rest = refl
spaced_then (f ∷ fs) rest = ap (λ (xs : List ℕ). 32 ∷ xs) (append_assoc f (spaced fs) rest ∙ ap (λ (xs : List ℕ). f ++ xs) (spaced_then fs rest))

-- a line and its end
ended_line : (said : Said) → line_text said ++ 10 ∷ [] ≡ verb_word (verb_of said) ++ then_text (fields_of said) (10 ∷ [])
ended_line said = append_assoc (verb_word (verb_of said)) (spaced (fields_of said)) (10 ∷ []) ∙ ap (λ (xs : List ℕ). verb_word (verb_of said) ++ xs) (spaced_then (fields_of said) (10 ∷ []))

-- EACH LINE
abbrev IsLine : List ℕ → Said → Type 0
IsLine text said = text ≡ line_text said ++ 10 ∷ []

-- pieces that are put one behind another
abbrev joined : List ℕ → List (List ℕ) → List ℕ
joined text [] = text
joined text (p ∷ ps) = joined (text ++ p) ps

abbrev chain : List (List ℕ) → List ℕ
chain [] = []
chain (p ∷ ps) = p ++ chain ps

joined_is : (text : List ℕ) (ps : List (List ℕ)) → joined text ps ≡ text ++ chain ps
joined_is text [] = sym (append-nil text)
joined_is text (p ∷ ps) = joined_is (text ++ p) ps ∙ append_assoc text p (chain ps)

fault_shape : (u n : List ℕ) → codes "fault" ++ (codes " " ++ u) ++ codes " opi" ++ (codes " " ++ n) ++ codes "\n" ≡ codes "fault" ++ then_text (u ∷ codes "opi" ∷ n ∷ []) (10 ∷ [])
fault_shape u n = ap (λ (xs : List ℕ). codes "fault" ++ 32 ∷ xs) (joined_is u (codes " opi" ∷ (codes " " ++ n) ∷ codes "\n" ∷ []))

fault_line : (w : ℕ) → IsLine (fault_text w) (says.Fault (unit_of w) Opi (times_of w))
unfolding fault_text field
fault_line w = fault_shape (number (unit_of w)) (number (times_of w)) ∙ sym (ended_line (says.Fault (unit_of w) Opi (times_of w)))

drain_line : IsLine (codes "drain\n") says.Drain
drain_line = refl

one_is : number 1 ≡ 49 ∷ []
one_is = decimal_digit 1 (omega arith)

noise_shape : (u b one p q : List ℕ) → one ≡ 49 ∷ [] → codes "noise" ++ (codes " " ++ u) ++ (codes " " ++ b) ++ codes " 1" ++ (codes " " ++ p) ++ (codes " " ++ q) ++ codes "\n" ≡ codes "noise" ++ then_text (u ∷ b ∷ one ∷ p ∷ q ∷ []) (10 ∷ [])
noise_shape u b one p q e =
    ap (λ (xs : List ℕ). codes "noise" ++ 32 ∷ xs) (joined_is u ((codes " " ++ b) ∷ codes " 1" ∷ (codes " " ++ p) ∷ (codes " " ++ q) ∷ codes "\n" ∷ []))
    ∙ ap (λ (x : List ℕ). codes "noise" ++ then_text (u ∷ b ∷ x ∷ p ∷ q ∷ []) (10 ∷ [])) (sym e)

noise_line : (w : ℕ) → IsLine (noise_text w) (says.Noise (unit_of w) (block_of w) (Times 1) (place_of w ∷ (place_of w + 7) ∷ []))
unfolding noise_text field
noise_line w =
    noise_shape (number (unit_of w)) (number (block_of w)) (number 1) (number (place_of w)) (number (place_of w + 7)) one_is
    ∙ sym (ended_line (says.Noise (unit_of w) (block_of w) (Times 1) (place_of w ∷ (place_of w + 7) ∷ [])))

write_shape : (s u b c v o : List ℕ) → codes "write" ++ (codes " " ++ s) ++ (codes " " ++ u) ++ codes " a" ++ (codes " " ++ b) ++ (codes " " ++ c) ++ codes " seq" ++ (codes " " ++ v) ++ codes " off" ++ (codes " " ++ o) ++ codes "\n"
    ≡ codes "write" ++ then_text (s ∷ u ∷ codes "a" ∷ b ∷ c ∷ codes "seq" ∷ v ∷ codes "off" ∷ o ∷ []) (10 ∷ [])
write_shape s u b c v o =
    ap (λ (xs : List ℕ). codes "write" ++ 32 ∷ xs)
    (joined_is s ((codes " " ++ u) ∷ codes " a" ∷ (codes " " ++ b) ∷ (codes " " ++ c) ∷ codes " seq" ∷ (codes " " ++ v) ∷ codes " off" ∷ (codes " " ++ o) ∷ codes "\n" ∷ []))

write_line : (s w : ℕ) → IsLine (write_text s w) (says.Write (request_of s w) (Seq (seq_of w)))
unfolding write_text field
write_line s w =
    write_shape (number s) (number (unit_of w)) (number (block_of w)) (number (count_of w)) (number (seq_of w)) (number (offset_of w))
    ∙ sym (ended_line (says.Write (request_of s w) (Seq (seq_of w))))

read_shape : (s u b c o : List ℕ) → codes "read" ++ (codes " " ++ s) ++ (codes " " ++ u) ++ codes " a" ++ (codes " " ++ b) ++ (codes " " ++ c) ++ codes " off" ++ (codes " " ++ o) ++ codes "\n"
    ≡ codes "read" ++ then_text (s ∷ u ∷ codes "a" ∷ b ∷ c ∷ codes "off" ∷ o ∷ []) (10 ∷ [])
read_shape s u b c o =
    ap (λ (xs : List ℕ). codes "read" ++ 32 ∷ xs)
    (joined_is s ((codes " " ++ u) ∷ codes " a" ∷ (codes " " ++ b) ∷ (codes " " ++ c) ∷ codes " off" ∷ (codes " " ++ o) ∷ codes "\n" ∷ []))

read_line : (s w : ℕ) → IsLine (read_text s w) (says.Read (request_of s w))
unfolding read_text field
read_line s w = read_shape (number s) (number (unit_of w)) (number (block_of w)) (number (count_of w)) (number (offset_of w)) ∙ sym (ended_line (says.Read (request_of s w)))

arrive_line : (w : ℕ) → IsLine (arrive_text w) (says.Arrive (unit_of w))
unfolding arrive_text field
arrive_line w = sym (ended_line (says.Arrive (unit_of w)))

move_line : (w : ℕ) → IsLine (move_text w) (says.Move (unit_of w / 8))
unfolding move_text field
move_line w = sym (ended_line (says.Move (unit_of w / 8)))

attend_line : (w : ℕ) → IsLine (attend_text w) (says.Attend (unit_of w / 8))
unfolding attend_text field
attend_line w = sym (ended_line (says.Attend (unit_of w / 8)))

-- the same choice of texts and of lines
both : (t : Bool) (x y : List ℕ) (a b : Said) → IsLine x a → IsLine y b → IsLine (if t then x else y) (if t then a else b)
both true x y a b e f = e
both false x y a b e f = f

chosen_line : (s w : ℕ) → IsLine (chosen_text s w) (chosen_statement s w)
chosen_line s w =
    let moved : Said = if choice_of w == 6 then says.Move (unit_of w / 8) else says.Attend (unit_of w / 8) in
    let moves : List ℕ = if choice_of w == 6 then move_text w else attend_text w in
    let arrived : Said = if choice_of w == 5 then says.Arrive (unit_of w) else moved in
    let arrives : List ℕ = if choice_of w == 5 then arrive_text w else moves in
    let read : Said = if nat_lt (choice_of w) 5 then says.Read (request_of s w) else arrived in
    let reads : List ℕ = if nat_lt (choice_of w) 5 then read_text s w else arrives in
    both (nat_lt (choice_of w) 3) (write_text s w) reads (says.Write (request_of s w) (Seq (seq_of w))) read (write_line s w)
    (both (nat_lt (choice_of w) 5) (read_text s w) arrives (says.Read (request_of s w)) arrived (read_line s w)
    (both (choice_of w == 5) (arrive_text w) moves (says.Arrive (unit_of w)) moved (arrive_line w)
    (both (choice_of w == 6) (move_text w) (attend_text w) (says.Move (unit_of w / 8)) (says.Attend (unit_of w / 8)) (move_line w) (attend_line w))))

step_line : (s w : ℕ) → IsLine (step_text s w) (step_statement s w)
unfolding step_text
step_line s w =
    let struck : Said = if s % 64 == 63 then says.Noise (unit_of w) (block_of w) (Times 1) (place_of w ∷ (place_of w + 7) ∷ []) else chosen_statement s w in
    let strikes : List ℕ = if s % 64 == 63 then noise_text w else chosen_text s w in
    let drained : Said = if s % 128 == 125 then says.Drain else struck in
    let drains : List ℕ = if s % 128 == 125 then codes "drain\n" else strikes in
    both (s % 256 == 254) (fault_text w) drains (says.Fault (unit_of w) Opi (times_of w)) drained (fault_line w)
    (both (s % 128 == 125) (codes "drain\n") strikes says.Drain struck drain_line
    (both (s % 64 == 63) (noise_text w) (chosen_text s w) (says.Noise (unit_of w) (block_of w) (Times 1) (place_of w ∷ (place_of w + 7) ∷ [])) (chosen_statement s w) (noise_line w) (chosen_line s w)))

-- ALL LINES
steps_line : (n s : ℕ) (words : Stream) → steps_text n s words ≡ text_of (steps_statements n s words)
unfolding steps_text steps_statements
steps_line zero s words = refl
steps_line (suc n) s words =
    let w : ℕ = (next_u64 words).0 in
    let rest : Stream = (next_u64 words).1 in
    ap (λ (xs : List ℕ). xs ++ steps_text n (s + 1) rest) (step_line s w)
    ∙ append_assoc (line_text (step_statement s w)) (10 ∷ []) (steps_text n (s + 1) rest)
    ∙ ap (λ (xs : List ℕ). line_text (step_statement s w) ++ 10 ∷ xs) (steps_line n (s + 1) rest)

pub head_line : (rest : List Said) → head_text ++ text_of rest ≡ text_of (head_statements ++ rest)
unfolding head_text digits
head_line rest = refl

steps_count : (n s : ℕ) (words : Stream) → length (steps_statements n s words) ≡ n
unfolding steps_statements
steps_count zero s words = refl
steps_count (suc n) s words = ap suc (steps_count n (s + 1) (next_u64 words).1)

-- HOW LONG the text is
abbrev AreNarrow : List (List ℕ) → Type 0
AreNarrow [] = Unit {0}
AreNarrow (f ∷ fs) = (length f ≤ 22) × AreNarrow fs

narrow_spaced : (fs : List (List ℕ)) → AreNarrow fs → length (spaced fs) ≤ 23 * length fs
narrow_spaced [] a = omega arith
narrow_spaced (f ∷ fs) a =
    let e : length (f ++ spaced fs) ≡ length f + length (spaced fs) = length-append f (spaced fs) in
    let rest : length (spaced fs) ≤ 23 * length fs = narrow_spaced fs a.1 in
    omega (arith, e, rest, a.0)

narrow_line : (said : Said) → length (verb_word (verb_of said)) ≤ 7 → AreNarrow (fields_of said) → length (fields_of said) ≤ 11 → length (line_text said) ≤ 300
narrow_line said v a few =
    let e : length (verb_word (verb_of said) ++ spaced (fields_of said)) ≡ length (verb_word (verb_of said)) + length (spaced (fields_of said)) = length-append (verb_word (verb_of said)) (spaced (fields_of said)) in
    omega (arith, e, v, few, narrow_spaced (fields_of said) a)

width : (n : ℕ) → n < 100000 → length (number n) ≤ 22
width n small = length-numeral-le Decimal n (omega (arith, small))

unit_by : (a b : Bool) → (if a then 0 else if b then 1 else 8) ≤ 8
unit_by true b = omega arith
unit_by false true = omega arith
unit_by false false = omega arith

unit_small : (w : ℕ) → unit_of w ≤ 8
unit_small w = unit_by (w / 8 % 3 == 0) (w / 8 % 3 == 1)

unit_width : (w : ℕ) → length (number (unit_of w)) ≤ 22
unit_width w = width (unit_of w) (omega (arith, unit_small w))

adapter_small : (u : ℕ) → u ≤ 8 → u / 8 < 100000
adapter_small u le = omega (arith, le)

adapter_width : (w : ℕ) → length (number (unit_of w / 8)) ≤ 22
adapter_width w = width (unit_of w / 8) (adapter_small (unit_of w) (unit_small w))

step_narrow : (s w : ℕ) → s < 2048 → length (line_text (step_statement s w)) ≤ 300
step_narrow s w lt =
    let id : length (number s) ≤ 22 = width s (omega (arith, lt)) in
    let unit_is : length (number (unit_of w)) ≤ 22 = unit_width w in
    let block : length (number (block_of w)) ≤ 22 = width (block_of w) (omega (arith, block_bound w)) in
    let count : length (number (count_of w)) ≤ 22 = width (count_of w) (omega (arith, count_bound w)) in
    let seq : length (number (seq_of w)) ≤ 22 = width (seq_of w) (omega (arith, seq_bound w)) in
    let offset : length (number (offset_of w)) ≤ 22 = width (offset_of w) (omega (arith, offset_bound w)) in
    let times : length (number (times_of w)) ≤ 22 = width (times_of w) (omega (arith, times_bound w)) in
    let one : length (number 1) ≤ 22 = width 1 (omega arith) in
    let place : length (number (place_of w)) ≤ 22 = width (place_of w) (omega (arith, place_bound w)) in
    let other : length (number (place_of w + 7)) ≤ 22 = width (place_of w + 7) (omega (arith, place_bound w)) in
    step_by (λ said. length (line_text said) ≤ 300) s w
    (record {
      fault = narrow_line (says.Fault (unit_of w) Opi (times_of w)) (omega arith) (unit_is, (omega arith, (times, tt))) (omega arith);
      drain = omega arith;
      noise = narrow_line (says.Noise (unit_of w) (block_of w) (Times 1) (place_of w ∷ (place_of w + 7) ∷ [])) (omega arith) (unit_is, (block, (one, (place, (other, tt))))) (omega arith);
    })
    (record {
      write = narrow_line (says.Write (request_of s w) (Seq (seq_of w))) (omega arith) (id, (unit_is, (omega arith, (block, (count, (omega arith, (seq, (omega arith, (offset, tt))))))))) (omega arith);
      read = narrow_line (says.Read (request_of s w)) (omega arith) (id, (unit_is, (omega arith, (block, (count, (omega arith, (offset, tt))))))) (omega arith);
      arrive = narrow_line (says.Arrive (unit_of w)) (omega arith) (unit_is, tt) (omega arith);
      move = narrow_line (says.Move (unit_of w / 8)) (omega arith) (adapter_width w, tt) (omega arith);
      attend = narrow_line (says.Attend (unit_of w / 8)) (omega arith) (adapter_width w, tt) (omega arith);
    })

steps_narrow : (n s : ℕ) (words : Stream) → s + n ≤ 2048 → length (text_of (steps_statements n s words)) ≤ 301 * n
unfolding steps_statements
steps_narrow zero s words le = omega arith
steps_narrow (suc n) s words le =
    let w : ℕ = (next_u64 words).0 in
    let rest : List ℕ = text_of (steps_statements n (s + 1) (next_u64 words).1) in
    let lt : s < 2048 = omega (arith, le) in
    let next : (s + 1) + n ≤ 2048 = omega (arith, le) in
    let here : length (line_text (step_statement s w)) ≤ 300 = step_narrow s w lt in
    let more : length rest ≤ 301 * n = steps_narrow n (s + 1) (next_u64 words).1 next in
    let e : length (line_text (step_statement s w) ++ 10 ∷ rest) ≡ length (line_text (step_statement s w)) + length (10 ∷ rest) = length-append (line_text (step_statement s w)) (10 ∷ rest) in
    omega (arith, e, here, more)

head_long : (rest : List ℕ) → length (head_text ++ rest) ≡ 36 + length rest
unfolding head_text
head_long rest = omega arith

-- THE SCRIPT
pub spelled : (number : ℕ) → Spells all_verbs (script_text number) (numbered 1 (script_statements number)) 2051
spelled number =
    let steps : List Said = steps_statements 2048 0 (words_of number) in
    let all : List Said = script_statements number in
    let text : text_of all ≡ script_text number = sym (ap (λ (xs : List ℕ). head_text ++ xs) (steps_line 2048 0 (words_of number)) ∙ head_line steps) in
    let counted : length steps ≡ 2048 = steps_count 2048 0 (words_of number) in
    let count : length all ≡ 2051 = omega (arith, counted) in
    let few : length all ≤ 1000000 = omega (arith, count) in
    let narrow : length (text_of steps) ≤ 301 * 2048 = steps_narrow 2048 0 (words_of number) (omega arith) in
    let long : length (text_of all) ≡ 36 + length (text_of steps) = sym (ap length (head_line steps)) ∙ head_long (text_of steps) in
    let short : length (text_of all) ≤ 16777216 = omega (arith, narrow, long) in
    subst (λ (bytes : List ℕ). Spells all_verbs bytes (numbered 1 all) 2051) text
    (subst (λ (k : ℕ). Spells all_verbs (text_of all) (numbered 1 all) k) count (read_back all (script_well number) few short))
