-- The words of a text: a text is its words with single blanks between them, and words without blanks are those of their text.
use Rattle.std.proofs.Common.{◌≡◌, ℕ, ◌+◌, ◌-◌, ◌^◌, ◌<◌, ◌≤◌, ◌==◌, ◌&&◌, Bool, true, false, cond, List, [], ◌∷◌, ◌++◌, length, take, drop, None, Some, refl, sym, ap, ◌∙◌, append-nil, subst, arith}
use Rattle.std.specs.Prelude.{nat_lt, position}
use Rattle.std.specs.List.{join_with_byte, onto_first, position_or_len}
use Rattle.std.specs.Fmt.{decimal}
use Rattle.std.specs.Str.Parse.{AllDigits}
use Rattle.std.proofs.lemmas.Bool.Decides.{nat_tests}
use Rattle.std.proofs.lemmas.Fmt.{digits_is_IsNumeral}
use Rattle.std.proofs.lemmas.Grind.{common_steps}
use Rattle.std.proofs.lemmas.List.Splits.{join_with_byte-slice_split, slice_split-cons_no, slice_split_first, slice_split_none}
use Rattle.std.proofs.lemmas.List.Sums.{fails_before_first}
use Rattle.std.proofs.lemmas.Str.Parse.{digit_from_value}
use Rattle.mass_text.specs.Numbers.{numeral}
use Rattle.mass_text.specs.declared.numbers.Radix.TheVariants.{Octal}
use Rattle.script_reader.specs.Lines.{pieces_of}
use Rattle.script_reader.specs.Lines as first
use Rattle.trace_reader.specs.Reading.{words_of}
use Rattle.trace_replay.specs.Text.{spaced}

abbrev pub blank : ℕ → Bool
blank b = b == 32

-- THE FIRST WORD, as it is cut off
position_is : (xs : List ℕ) (i : ℕ) → position blank xs ≡ Some i → (position_or_len blank xs ≡ i) × (i < length xs)
position_is xs i h = (grind arith, grind arith)

rest_is : (xs : List ℕ) (i : ℕ) → drop (i + 1) xs ≡ take (length xs - (i + 1)) (drop (i + 1) xs)
rest_is xs i = grind (arith, common_steps)

pub words_at : (text : List ℕ) (i : ℕ) → position blank text ≡ Some i → words_of text ≡ take i text ∷ words_of (take (length text - (i + 1)) (drop (i + 1) text))
words_at text i h =
    let found = position_is text i h in
    subst (λ (k : ℕ). words_of text ≡ take k text ∷ words_of (drop (k + 1) text)) found.0 (slice_split_first blank text 0 (omega (arith, found.0, found.1)))
    ∙ ap (λ (ys : List ℕ). take i text ∷ words_of ys) (rest_is text i)

pub words_none : (text : List ℕ) → position blank text ≡ None → words_of text ≡ text ∷ []
words_none text h =
    let large : length text ≤ position_or_len blank text = grind arith in
    slice_split_none blank text (λ k d small. fails_before_first blank text k d (omega arith))

-- A TEXT IS ITS WORDS
abbrev pub joined : List (List ℕ) → List ℕ
joined [] = []
joined (word ∷ words) = word ++ spaced words

joined_is : (word : List ℕ) (words : List (List ℕ)) → join_with_byte 32 (word ∷ words) ≡ joined (word ∷ words)
joined_is word [] = sym (append-nil word)
joined_is word (next ∷ words) = ap (λ (text : List ℕ). word ++ (32 ∷ text)) (joined_is next words)

any_joined : (words : List (List ℕ)) → join_with_byte 32 words ≡ joined words
any_joined [] = refl
any_joined (word ∷ words) = joined_is word words

pub text_is : (text : List ℕ) → text ≡ joined (words_of text)
text_is text = sym (join_with_byte-slice_split 32 text) ∙ any_joined (words_of text)

-- WORDS WITHOUT BLANKS: each byte is above that of a blank
abbrev pub is_whole : List ℕ → Bool
is_whole [] = true
is_whole (b ∷ bs) = nat_lt 32 b && is_whole bs

abbrev pub AreWhole : List (List ℕ) → Type 0
AreWhole [] = Unit {0}
AreWhole (word ∷ words) = (is_whole word ≡ true) × AreWhole words

both : (a b : Bool) → a && b ≡ true → (a ≡ true) × (b ≡ true)
both true b e = (refl, e)
both false b e = absurd (cc)

less_true : (m n : ℕ) → nat_lt m n ≡ true → m < n
less_true m n e = grind (arith, nat_tests)

other : (b c : ℕ) → c < b → (b == c) ≡ false
other b c h = grind (arith, nat_tests)

pub parts : (b : ℕ) (bs : List ℕ) → is_whole (b ∷ bs) ≡ true → (32 < b) × (is_whole bs ≡ true)
parts b bs e = let p = both (nat_lt 32 b) (is_whole bs) e in (less_true 32 b p.0, p.1)

cut_off : (word rest : List ℕ) → is_whole word ≡ true → words_of (word ++ 32 ∷ rest) ≡ word ∷ words_of rest
cut_off [] rest whole = refl
cut_off (b ∷ bs) rest whole =
    let p = parts b bs whole in
    slice_split-cons_no blank b (bs ++ 32 ∷ rest) (other b 32 p.0) ∙ ap (λ (ws : List (List ℕ)). onto_first b ws) (cut_off bs rest p.1)

one_word : (word : List ℕ) → is_whole word ≡ true → words_of word ≡ word ∷ []
one_word [] whole = refl
one_word (b ∷ bs) whole =
    let p = parts b bs whole in
    slice_split-cons_no blank b bs (other b 32 p.0) ∙ ap (λ (ws : List (List ℕ)). onto_first b ws) (one_word bs p.1)

pub words_joined : (word : List ℕ) (words : List (List ℕ)) → AreWhole (word ∷ words) → words_of (joined (word ∷ words)) ≡ word ∷ words
words_joined word [] whole = ap words_of (append-nil word) ∙ one_word word whole.0
words_joined word (next ∷ words) whole =
    cut_off word (joined (next ∷ words)) whole.0 ∙ ap (λ (ws : List (List ℕ)). word ∷ ws) (words_joined next words whole.1)

-- so are numbers
whole_by : (b : ℕ) (more : Bool) → 32 < b → more ≡ true → nat_lt 32 b && more ≡ true
whole_by b more low e = rw e (grind (arith, nat_tests))

digits_whole : (base : ℕ) (ds : List ℕ) → base ≤ 10 → AllDigits base ds → is_whole ds ≡ true
digits_whole base [] small all = refl
digits_whole base (c ∷ cs) small all =
    let digit = digit_from_value c (omega (arith, all.0)) in
    whole_by c (is_whole cs) (omega (arith, digit.0)) (digits_whole base cs small all.1)

pub decimal_whole : (n : ℕ) → n < 2 ^ 64 → is_whole (decimal n) ≡ true
decimal_whole n h = digits_whole 10 (decimal n) (omega arith) (digits_is_IsNumeral 10 false (omega arith) (omega arith) n (omega arith)).0.1

pub octal_whole : (n : ℕ) → n < 2 ^ 64 → is_whole (numeral Octal n) ≡ true
octal_whole n h = digits_whole 8 (numeral Octal n) (omega arith) (digits_is_IsNumeral 8 false (omega arith) (omega arith) n (omega arith)).0.1

-- A LINE'S TEXT has no LF: no byte is below that of a blank
abbrev pub is_plain : List ℕ → Bool
is_plain [] = true
is_plain (b ∷ bs) = nat_lt 31 b && is_plain bs

plain_parts : (b : ℕ) (bs : List ℕ) → is_plain (b ∷ bs) ≡ true → (31 < b) × (is_plain bs ≡ true)
plain_parts b bs e = let p = both (nat_lt 31 b) (is_plain bs) e in (less_true 31 b p.0, p.1)

plain_by : (b : ℕ) (more : Bool) → 31 < b → more ≡ true → nat_lt 31 b && more ≡ true
plain_by b more low e = rw e (grind (arith, nat_tests))

plain_both : (xs ys : List ℕ) → is_whole xs ≡ true → is_plain ys ≡ true → is_plain (xs ++ ys) ≡ true
plain_both [] ys whole plain = plain
plain_both (b ∷ bs) ys whole plain =
    let p = parts b bs whole in
    plain_by b (is_plain (bs ++ ys)) (omega (arith, p.0)) (plain_both bs ys p.1 plain)

spaced_plain : (words : List (List ℕ)) → AreWhole words → is_plain (spaced words) ≡ true
spaced_plain [] whole = refl
spaced_plain (word ∷ words) whole = plain_both word (spaced words) whole.0 (spaced_plain words whole.1)

pub joined_plain : (words : List (List ℕ)) → AreWhole words → is_plain (joined words) ≡ true
joined_plain [] whole = refl
joined_plain (word ∷ words) whole = plain_both word (spaced words) whole.0 (spaced_plain words whole.1)

piece_by : (b : ℕ) (pieces : List (List ℕ)) (rest : List (List ℕ)) → 31 < b → cond (b == 10) rest pieces ≡ pieces
piece_by b pieces rest h = let ne : (b == 10) ≡ false = other b 10 (omega arith) in rw ne refl

-- so it is the first line of what it stands in front of
pub piece_off : (text rest : List ℕ) → is_plain text ≡ true → pieces_of (text ++ 10 ∷ rest) ≡ text ∷ pieces_of rest
piece_off [] rest plain = refl
piece_off (b ∷ bs) rest plain =
    let p = plain_parts b bs plain in
    piece_by b (first.onto_first b (pieces_of (bs ++ 10 ∷ rest))) ([] ∷ pieces_of (bs ++ 10 ∷ rest)) p.0
    ∙ ap (λ (ls : List (List ℕ)). first.onto_first b ls) (piece_off bs rest p.1)
