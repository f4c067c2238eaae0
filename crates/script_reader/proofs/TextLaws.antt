-- The text of fields, and the fields of a text: each field's bytes stand above the space.
use Rattle.std.proofs.Common.{◌≡◌, ℕ, zero, suc, ◌+◌, ◌-◌, ◌<◌, ◌%◌, ◌^◌, Bool, true, false, List, [], ◌∷◌, ◌++◌, length, get_or, take, refl, ap, ◌∙◌, arith, append-nil, All}
use Rattle.std.specs.Prelude.{◌&&◌, ◌==◌, nat_lt, not, if◌then◌else◌, filter}
use Rattle.std.specs.List.{slice_split}
use Rattle.std.proofs.lemmas.Bool.{and_parts, and_from, false≢true, lt-ltb}
use Rattle.std.proofs.lemmas.Bool.Decides.{nat_tests}
use Rattle.std.proofs.lemmas.Fmt.{decimal_by_steps}
use Rattle.std.proofs.lemmas.List.Elements.{All-nil, All-cons}
use Rattle.std.proofs.lemmas.List.Splits.{slice_split_at, slice_split_none}
use Rattle.mass_text.specs.Pieces.{is_blank, pieces}
use Rattle.script_reader.specs.Lines.{pieces_of, onto_first, without_cr}
use Rattle.script_reader.specs.Printing.{number, spaced}

-- FIELDS. Bytes above the space; a field has some, and no other.
abbrev pub above : List ℕ → Bool
above [] = true
above (b ∷ bs) = nat_lt 32 b && above bs

abbrev pub is_field : List ℕ → Bool
is_field [] = false
is_field (b ∷ bs) = nat_lt 32 b && above bs

abbrev pub are_fields : List (List ℕ) → Bool
are_fields [] = true
are_fields (f ∷ fs) = is_field f && are_fields fs

pub field_above : (f : List ℕ) → is_field f ≡ true → above f ≡ true
field_above [] h = refl
field_above (b ∷ bs) h = h

above-append : (xs ys : List ℕ) → above xs ≡ true → above ys ≡ true → above (xs ++ ys) ≡ true
above-append [] ys a h = h
above-append (x ∷ xs) ys a h =
    let p = and_parts (nat_lt 32 x) (above xs) a in
    and_from (nat_lt 32 x) (above (xs ++ ys)) p.0 (above-append xs ys p.1 h)

field-append : (xs ys : List ℕ) → is_field xs ≡ true → above ys ≡ true → is_field (xs ++ ys) ≡ true
field-append [] ys a h = absurd (false≢true a)
field-append (x ∷ xs) ys a h = above-append (x ∷ xs) ys a h

pub fields-append : (xs ys : List (List ℕ)) → are_fields xs ≡ true → are_fields ys ≡ true → are_fields (xs ++ ys) ≡ true
fields-append [] ys a h = h
fields-append (x ∷ xs) ys a h =
    let p = and_parts (is_field x) (are_fields xs) a in
    and_from (is_field x) (are_fields (xs ++ ys)) p.0 (fields-append xs ys p.1 h)

-- a number's digits
digit_above : (n : ℕ) → above ((48 + n) ∷ []) ≡ true
digit_above n = and_from (nat_lt 32 (48 + n)) true (lt-ltb 32 (48 + n) (omega arith)) refl

pub number_field_is : (n : ℕ) → n < 2 ^ 64 → is_field (number n) ≡ true
number_field_is n small =
    decimal_by_steps (λ k ds. is_field ds ≡ true) (λ k lt. digit_above k) (λ k ds le h. field-append ds ((48 + k % 10) ∷ []) h (digit_above (k % 10))) n small

-- PIECES of a line are its fields.
not_blank : (b : ℕ) → nat_lt 32 b ≡ true → is_blank b ≡ false
not_blank b h = grind (arith, nat_tests)

no_blank : (f : List ℕ) → above f ≡ true → All (λ b. is_blank b ≡ false) f
no_blank [] h = All-nil (λ b. is_blank b ≡ false)
no_blank (b ∷ bs) h =
    let p = and_parts (nat_lt 32 b) (above bs) h in
    All-cons (λ b. is_blank b ≡ false) b bs (not_blank b p.0) (no_blank bs p.1)

split_spaced : (w : List ℕ) (fields : List (List ℕ)) → above w ≡ true → are_fields fields ≡ true → slice_split is_blank (w ++ spaced fields) ≡ w ∷ fields
split_spaced w [] a h = ap (slice_split is_blank) (append-nil w) ∙ slice_split_none is_blank w (no_blank w a)
split_spaced w (f ∷ fs) a h =
    let p = and_parts (is_field f) (are_fields fs) h in
    slice_split_at is_blank w 32 (f ++ spaced fs) (no_blank w a) refl ∙ ap (λ ps. w ∷ ps) (split_spaced f fs (field_above f p.0) p.1)

kept : (piece : List ℕ) (rest : List (List ℕ)) → 0 < length piece
    → filter (λ part. not (length part == 0)) (piece ∷ rest) ≡ piece ∷ filter (λ part. not (length part == 0)) rest
kept piece rest h = grind arith

keep : (fields : List (List ℕ)) → are_fields fields ≡ true → filter (λ piece. not (length piece == 0)) fields ≡ fields
keep [] h = refl
keep ([] ∷ fs) h = absurd (false≢true h)
keep ((b ∷ bs) ∷ fs) h = kept (b ∷ bs) fs (omega arith) ∙ ap (λ ps. (b ∷ bs) ∷ ps) (keep fs (and_parts (is_field (b ∷ bs)) (are_fields fs) h).1)

pub pieces_spaced : (w : List ℕ) (fields : List (List ℕ)) → is_field w ≡ true → are_fields fields ≡ true → pieces (w ++ spaced fields) ≡ w ∷ fields
pieces_spaced w fields a h =
    ap (filter (λ piece. not (length piece == 0))) (split_spaced w fields (field_above w a) h)
    ∙ keep (w ∷ fields) (and_from (is_field w) (are_fields fields) a h)

-- LINES have no byte below the space.
abbrev pub in_line : List ℕ → Bool
in_line [] = true
in_line (b ∷ bs) = nat_lt 31 b && in_line bs

wider : (b : ℕ) → nat_lt 32 b ≡ true → nat_lt 31 b ≡ true
wider b h = grind (arith, nat_tests)

above_in : (f : List ℕ) → above f ≡ true → in_line f ≡ true
above_in [] h = refl
above_in (b ∷ bs) h =
    let p = and_parts (nat_lt 32 b) (above bs) h in
    and_from (nat_lt 31 b) (in_line bs) (wider b p.0) (above_in bs p.1)

in-append : (xs ys : List ℕ) → in_line xs ≡ true → in_line ys ≡ true → in_line (xs ++ ys) ≡ true
in-append [] ys a h = h
in-append (x ∷ xs) ys a h =
    let p = and_parts (nat_lt 31 x) (in_line xs) a in
    and_from (nat_lt 31 x) (in_line (xs ++ ys)) p.0 (in-append xs ys p.1 h)

spaced_in : (fields : List (List ℕ)) → are_fields fields ≡ true → in_line (spaced fields) ≡ true
spaced_in [] h = refl
spaced_in (f ∷ fs) h =
    let p = and_parts (is_field f) (are_fields fs) h in
    in-append f (spaced fs) (above_in f (field_above f p.0)) (spaced_in fs p.1)

pub line_in : (w : List ℕ) (fields : List (List ℕ)) → is_field w ≡ true → are_fields fields ≡ true → in_line (w ++ spaced fields) ≡ true
line_in w fields a h = in-append w (spaced fields) (above_in w (field_above w a)) (spaced_in fields h)

not_feed : (b : ℕ) → nat_lt 31 b ≡ true → (b == 10) ≡ false
not_feed b h = grind (arith, nat_tests)

not_return : (b : ℕ) → nat_lt 31 b ≡ true → (b == 13) ≡ false
not_return b h = grind (arith, nat_tests)

pub piece_of_line : (l rest : List ℕ) → in_line l ≡ true → pieces_of (l ++ 10 ∷ rest) ≡ l ∷ pieces_of rest
piece_of_line [] rest h = refl
piece_of_line (b ∷ bs) rest h =
    let p = and_parts (nat_lt 31 b) (in_line bs) h in
    ap (λ (t : Bool). if t then [] ∷ pieces_of (bs ++ 10 ∷ rest) else onto_first b (pieces_of (bs ++ 10 ∷ rest))) (not_feed b p.0)
    ∙ ap (onto_first b) (piece_of_line bs rest p.1)

no_return : (l : List ℕ) → in_line l ≡ true → (k : ℕ) → (get_or l k 0 == 13) ≡ false
no_return [] h k = refl
no_return (b ∷ bs) h zero = not_return b (and_parts (nat_lt 31 b) (in_line bs) h).0
no_return (b ∷ bs) h (suc k) = no_return bs (and_parts (nat_lt 31 b) (in_line bs) h).1 k

pub line_whole : (l : List ℕ) → in_line l ≡ true → without_cr l ≡ l
line_whole l h = ap (λ (t : Bool). if t then take (length l - 1) l else l) (no_return l h (length l - 1))
