-- Laws of a line's pieces.
use Rattle.std.proofs.Common.{◌≡◌, ℕ, suc, ◌+◌, ◌-◌, ◌<◌, ◌≤◌, ◌==◌, inl, inr, Bool, true, false, not, cond, List, [], ◌∷◌, length, take, drop, get_or, None, Some, arith, refl, sym, ◌∙◌, ap, drop-cons, add-zero}
use Rattle.std.specs.Prelude.{position, unwrap_or, filter, All}
use Rattle.std.specs.List.{position_or_len, slice_split, before_first, after_first}
use Rattle.std.proofs.lemmas.Bool.{cases_lt}
use Rattle.std.proofs.lemmas.Grind.{common_steps}
use Rattle.std.proofs.lemmas.List.Splits.{slice_split-cons_yes, slice_split_first, slice_split_none}
use Rattle.std.proofs.lemmas.List.{get_or-drop}
use Rattle.std.proofs.lemmas.List.Quantifiers.{position-Some}
use Rattle.std.proofs.lemmas.List.Sums.{fails_before_first, passes_at_first, prefix_len-le-length}
use Rattle.mass_text.specs.Pieces.{is_blank, pieces}

-- a blank in front is passed over
pieces-blank : (b : ℕ) (bs : List ℕ) → is_blank b ≡ true → pieces (b ∷ bs) ≡ pieces bs
pieces-blank b bs h = rw (slice_split-cons_yes is_blank b bs h)

start_by : (b : ℕ) (bs : List ℕ) (n : ℕ) (blank : Bool) → is_blank b ≡ blank → pieces bs ≡ pieces (drop n bs)
    → pieces (b ∷ bs) ≡ pieces (drop (cond (not (not blank)) (1 + n) 0) (b ∷ bs))
start_by b bs n true h rest = let one : 1 + n ≡ suc n = omega arith in rw one (pieces-blank b bs h ∙ rest)
start_by b bs n false h rest = refl

-- so are all blanks in front
pub pieces-start : (xs : List ℕ) → pieces xs ≡ pieces (drop (position_or_len (λ b. not (is_blank b)) xs) xs)
pieces-start [] = refl
pieces-start (b ∷ bs) = start_by b bs (position_or_len (λ b. not (is_blank b)) bs) (is_blank b) refl (pieces-start bs)

-- a piece that is not empty is kept
kept : (piece : List ℕ) (rest : List (List ℕ)) → 0 < length piece
    → filter (λ part. not (length part == 0)) (piece ∷ rest) ≡ piece ∷ filter (λ part. not (length part == 0)) rest
kept piece rest h = grind arith

-- the first blank stands behind the front
front_long : (xs : List ℕ) → 0 < length xs → is_blank (get_or xs 0 0) ≡ false → 0 < position_or_len is_blank xs
front_long [] h other = absurd (omega arith)
front_long (b ∷ bs) h other = first_long b bs (is_blank b) other (position_or_len is_blank bs)
  where
    first_long : (b : ℕ) (bs : List ℕ) (blank : Bool) → blank ≡ false → (n : ℕ) → 0 < cond (not blank) (1 + n) 0
    first_long b bs true e n = cc
    first_long b bs false e n = omega arith

-- behind the front stands a blank, which is passed over
pieces-behind : (xs : List ℕ) → position_or_len is_blank xs < length xs → pieces (drop (position_or_len is_blank xs) xs) ≡ pieces (after_first is_blank xs)
pieces-behind xs small =
    let n : ℕ = position_or_len is_blank xs in
    let next : suc n ≡ n + 1 = omega arith in
    ap pieces (drop-cons xs n 0 small) ∙ pieces-blank (get_or xs n 0) (drop (suc n) xs) (passes_at_first is_blank xs 0 small)
    ∙ ap (λ k. pieces (drop k xs)) next

length-front : (xs : List ℕ) (n : ℕ) → 0 < n → 0 < length xs → 0 < length (take n xs)
length-front xs n long h = grind (arith, common_steps)

-- a text without a blank in front begins with a piece, where a blank ends it
front_ends : (xs : List ℕ) → 0 < position_or_len is_blank xs → position_or_len is_blank xs < length xs
    → pieces xs ≡ take (position_or_len is_blank xs) xs ∷ pieces (drop (position_or_len is_blank xs) xs)
front_ends xs long small =
    ap (filter (λ part. not (length part == 0))) (slice_split_first is_blank xs 0 small)
    ∙ kept (before_first is_blank xs) (slice_split is_blank (after_first is_blank xs)) (length-front xs (position_or_len is_blank xs) long (omega arith))
    ∙ ap (λ rest. before_first is_blank xs ∷ rest) (sym (pieces-behind xs small))

all_other : (xs : List ℕ) → length xs ≤ position_or_len is_blank xs → All (λ b. is_blank b ≡ false) xs
all_other xs large = λ k d small. fails_before_first is_blank xs k d (omega arith)

-- and where nothing ends it
front_is_all : (xs : List ℕ) → 0 < length xs → length xs ≤ position_or_len is_blank xs
    → pieces xs ≡ take (position_or_len is_blank xs) xs ∷ pieces (drop (position_or_len is_blank xs) xs)
front_is_all xs long large =
    let n : ℕ = position_or_len is_blank xs in
    let all : take n xs ≡ xs = grind (arith, common_steps) in
    let none : drop n xs ≡ [] = grind (arith, common_steps) in
    ap (filter (λ part. not (length part == 0))) (slice_split_none is_blank xs (all_other xs large))
    ∙ kept xs [] long ∙ rw (all, none) refl

pieces-front : (xs : List ℕ) → 0 < length xs → is_blank (get_or xs 0 0) ≡ false
    → pieces xs ≡ take (position_or_len is_blank xs) xs ∷ pieces (drop (position_or_len is_blank xs) xs)
pieces-front xs h other =
    elim (cases_lt (position_or_len is_blank xs) (length xs)) [
      | inl small ↦ front_ends xs (front_long xs h other) small
      | inr large ↦ front_is_all xs h large
    ]

-- where there are blanks only there is no piece
pub pieces-none : (xs : List ℕ) → position (λ b. not (is_blank b)) xs ≡ None → pieces xs ≡ []
pieces-none xs h =
    let n : ℕ = position_or_len (λ b. not (is_blank b)) xs in
    let large : length xs ≤ n = grind arith in
    let none : drop n xs ≡ [] = grind (arith, common_steps) in
    pieces-start xs ∙ ap pieces none

not_true : (b : Bool) → not b ≡ true → b ≡ false
not_true true h = cc
not_true false h = refl

whole_rest : (xs : List ℕ) (i : ℕ) → take (length xs - i) (drop i xs) ≡ drop i xs
whole_rest xs i = grind (arith, common_steps)

position_is : (p : ℕ → Bool) (xs : List ℕ) (i : ℕ) → position p xs ≡ Some i → position_or_len p xs ≡ i
position_is p xs i h = grind arith

len_is : (p : ℕ → Bool) (xs : List ℕ) (n : ℕ) → n ≡ unwrap_or (position p xs) (length xs) → n ≡ position_or_len p xs
len_is p xs n h = let small : position_or_len p xs ≤ length xs = prefix_len-le-length (λ x. not (p x)) xs in grind arith

first_of_rest : (xs : List ℕ) (i n : ℕ) → i < length xs → is_blank (get_or xs i 0) ≡ false → pieces xs ≡ pieces (drop i xs) → n ≡ position_or_len is_blank (drop i xs)
    → pieces xs ≡ take n (drop i xs) ∷ pieces (drop n (drop i xs))
first_of_rest xs i n small other same len =
    let long : 0 < length (drop i xs) = grind (arith, common_steps) in
    let head : is_blank (get_or (drop i xs) 0 0) ≡ false = rw (get_or-drop i xs 0 0, add-zero i) other in
    same ∙ rw len (pieces-front (drop i xs) long head)

-- the first piece, and what comes behind it
pub pieces-first : (xs : List ℕ) (i n : ℕ) → position (λ b. not (is_blank b)) xs ≡ Some i
    → n ≡ unwrap_or (position is_blank (take (length xs - i) (drop i xs))) (length (take (length xs - i) (drop i xs)))
    → pieces xs ≡ take n (take (length xs - i) (drop i xs))
    ∷ pieces (take (length (take (length xs - i) (drop i xs)) - n) (drop n (take (length xs - i) (drop i xs))))
pieces-first xs i n start len =
    let found = position-Some (λ b. not (is_blank b)) xs i 0 start in
    let at : position_or_len (λ b. not (is_blank b)) xs ≡ i = position_is (λ b. not (is_blank b)) xs i start in
    rw (whole_rest xs i, whole_rest (drop i xs) n)
    (first_of_rest xs i n found.0 (not_true (is_blank (get_or xs i 0)) found.1) (rw at at (pieces-start xs))
    (len_is is_blank (drop i xs) n (rw (whole_rest xs i) at len)))
