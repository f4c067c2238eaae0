-- Where each id that is asked for is answered once, and no other, there are as many answers as ids.
use Rattle.std.proofs.Common.{◌≡◌, ℕ, zero, suc, ◌+◌, ◌<◌, Bool, true, false, List, [], ◌∷◌, length, refl, sym, ap, arith, ◌∙◌, slice_index_or}
use Rattle.std.specs.Prelude.{if◌then◌else◌, ◌==◌, ◌||◌, Contains}
use Rattle.std.specs.List.{list_any}
use Rattle.std.proofs.lemmas.Bool.{eq-eqb}
use Rattle.trace_replay.specs.Moments.{Answered}
use Rattle.driver_laws.specs.rules.LegalAnswers.{times_answered}
use Rattle.event_player.specs.Playing.{counted, one_request}
use Rattle.trace_replay.specs.Script.{AreApart, Line, Statement, Declares, Plays, Submit, ArriveAt, MoveAt, AttendTo, Drain, Turn, Noise, Arm, SetOnline, SetLocked, with_id, ids_of}

false-true : false ≡ true → ⊥
false-true e = absurd (cc e)

eq-refl : (n : ℕ) → (n == n) ≡ true
eq-refl n = eq-eqb n n refl

eqb-eq : (a b : ℕ) → (a == b) ≡ true → a ≡ b
eqb-eq a b is = grind (arith, is)

or_left : (a b : Bool) → a ≡ true → (a || b) ≡ true
or_left true b is = refl
or_left false b is = absurd (false-true is)

or_right : (a b : Bool) → b ≡ true → (a || b) ≡ true
or_right true b is = refl
or_right false b is = is

both_false : (a b : Bool) → a ≡ false → b ≡ false → (a || b) ≡ false
both_false true b is also = is
both_false false b is also = also

abbrev one_if : Bool → ℕ
one_if b = if b then 1 else 0

-- the answers of other ids
abbrev others : ℕ → List Answered → List Answered
others id [] = []
others id (a ∷ answers) = if a.id == id then others id answers else a ∷ others id answers

parted : (id : ℕ) (answers : List Answered) → length answers ≡ times_answered id answers + length (others id answers)
parted id [] = none
  where
    none : 0 ≡ 0 + 0
    none = omega arith
parted id (a ∷ answers) = at (a.id == id) (parted id answers)
  where
    at : (b : Bool) → length answers ≡ times_answered id answers + length (others id answers)
        → length (a ∷ answers) ≡ ((if b then 1 else 0) + times_answered id answers) + length (if b then others id answers else a ∷ others id answers)
    at true is = omega (arith, is)
    at false is = omega (arith, is)

-- they are answered as often as before, and the id no more
left_same : (id j : ℕ) (answers : List Answered) → (j == id) ≡ false → times_answered j (others id answers) ≡ times_answered j answers
left_same id j [] other = refl
left_same id j (a ∷ answers) other = at (a.id == id) refl (left_same id j answers other)
  where
    apart : (x : ℕ) → (x == id) ≡ true → (x == j) ≡ false
    apart x same = grind (arith, same, other)

    at : (b : Bool) → (a.id == id) ≡ b → times_answered j (others id answers) ≡ times_answered j answers
        → times_answered j (if b then others id answers else a ∷ others id answers) ≡ (if a.id == j then 1 else 0) + times_answered j answers
    at true same is =
        let none : (if a.id == j then 1 else 0) ≡ 0 = ap one_if (apart a.id same) in
        omega (arith, is, none)
    at false same is = ap (λ (n : ℕ). (if a.id == j then 1 else 0) + n) is

left_none : (id : ℕ) (answers : List Answered) → times_answered id (others id answers) ≡ 0
left_none id [] = refl
left_none id (a ∷ answers) = at (a.id == id) refl (left_none id answers)
  where
    at : (b : Bool) → (a.id == id) ≡ b → times_answered id (others id answers) ≡ 0 → times_answered id (if b then others id answers else a ∷ others id answers) ≡ 0
    at true same is = is
    at false other is =
        let none : (if a.id == id then 1 else 0) ≡ 0 = ap one_if other in
        omega (arith, is, none)

-- an id that stands in a list of ids
abbrev in_ids : ℕ → List ℕ → Bool
in_ids j ids = list_any (λ other. other == j) ids

abbrev Once : List ℕ → List Answered → Type 0
Once ids answers = ((j : ℕ) → in_ids j ids ≡ true → times_answered j answers ≡ 1) × ((j : ℕ) → in_ids j ids ≡ false → times_answered j answers ≡ 0)

none_answered : (answers : List Answered) → ((j : ℕ) → times_answered j answers ≡ 0) → length answers ≡ 0
none_answered [] none = refl
none_answered (a ∷ answers) none = absurd (at (a.id == a.id) (eq-refl a.id) (none a.id))
  where
    at : (b : Bool) → b ≡ true → (if b then 1 else 0) + times_answered a.id answers ≡ 0 → ⊥
    at true is e = omega (arith, e)
    at false is e = cc

pub as_many : (ids : List ℕ) (answers : List Answered) → AreApart ids → Once ids answers → length answers ≡ length ids
as_many [] answers apart once = none_answered answers (λ j. once.1 j refl)
as_many (id ∷ ids) answers apart once =
    let one : times_answered id answers ≡ 1 = once.0 id (first (id == id) (eq-refl id)) in
    let fewer : length (others id answers) ≡ length ids = as_many ids (others id answers) apart.1 (yes, no) in
    omega (arith, parted id answers, one, fewer)
  where
    first : (b : Bool) → b ≡ true → (b || in_ids id ids) ≡ true
    first true is = refl
    first false is = cc

    yes : (j : ℕ) → in_ids j ids ≡ true → times_answered j (others id answers) ≡ 1
    yes j is = at (j == id) refl
      where
        at : (b : Bool) → (j == id) ≡ b → times_answered j (others id answers) ≡ 1
        at true same = absurd (false-true (sym apart.0 ∙ ap (λ (k : ℕ). in_ids k ids) (sym (eqb-eq j id same)) ∙ is))
        at false other = left_same id j answers other ∙ once.0 j (or_right (id == j) (in_ids j ids) is)

    no : (j : ℕ) → in_ids j ids ≡ false → times_answered j (others id answers) ≡ 0
    no j is = at (j == id) refl
      where
        at : (b : Bool) → (j == id) ≡ b → times_answered j (others id answers) ≡ 0
        at true same = ap (λ (k : ℕ). times_answered k (others id answers)) (eqb-eq j id same) ∙ left_none id answers
        at false other = left_same id j answers other ∙ once.1 j (both_false (id == j) (in_ids j ids) (turned other) is)
          where
            turned : (j == id) ≡ false → (id == j) ≡ false
            turned e = grind (arith, e)

-- whether an id stands there
contains_in : (j : ℕ) (ids : List ℕ) → in_ids j ids ≡ true → Contains ids j
contains_in j [] is = absurd (false-true is)
contains_in j (x ∷ ids) is = at (x == j) refl (λ e. contains_in j ids e) is
  where
    at : (b : Bool) → (x == j) ≡ b → (in_ids j ids ≡ true → Contains ids j) → (b || in_ids j ids) ≡ true → Contains (x ∷ ids) j
    at true same rest e = (0, omega arith, eqb-eq x j same)
    at false other rest e = let c = rest e in (suc c.0, omega (arith, c.1), c.2)

in_contains : (j : ℕ) (ids : List ℕ) (k : ℕ) → k < length ids → slice_index_or ids k j ≡ j → in_ids j ids ≡ true
in_contains j [] k lt e = absurd (omega (arith, lt))
in_contains j (x ∷ ids) zero lt e = or_left (x == j) (in_ids j ids) (eq-eqb x j e)
in_contains j (x ∷ ids) (suc k) lt e = or_right (x == j) (in_ids j ids) (in_contains j ids k (omega (arith, lt)) e)

-- EACH REQUEST IS ANSWERED: there are as many answers as requests.
one_asked : (st : Statement) (n : ℕ) (ids : List ℕ) → n ≡ length ids → one_request st + n ≡ length (with_id st ids)
one_asked (Declares u kind) n ids is = omega (arith, is)
one_asked (Plays (Submit r)) n ids is = omega (arith, is)
one_asked (Plays (ArriveAt u)) n ids is = omega (arith, is)
one_asked (Plays (MoveAt a)) n ids is = omega (arith, is)
one_asked (Plays (AttendTo a)) n ids is = omega (arith, is)
one_asked (Plays Drain) n ids is = omega (arith, is)
one_asked (Plays (Turn u sector)) n ids is = omega (arith, is)
one_asked (Plays (Noise noise)) n ids is = omega (arith, is)
one_asked (Plays (Arm u kind times)) n ids is = omega (arith, is)
one_asked (Plays (SetOnline u on)) n ids is = omega (arith, is)
one_asked (Plays (SetLocked u on)) n ids is = omega (arith, is)

requests_are : (lines : List Line) → counted one_request lines ≡ length (ids_of lines)
requests_are [] = refl
requests_are (line ∷ lines) = one_asked line.statement (counted one_request lines) (ids_of lines) (requests_are lines)

pub all_answered : (lines : List Line) (answers : List Answered) → AreApart (ids_of lines)
    → ((id : ℕ) → Contains (ids_of lines) id → times_answered id answers ≡ 1) → ((id : ℕ) → ¬ (Contains (ids_of lines) id) → times_answered id answers ≡ 0)
    → length answers ≡ counted one_request lines
all_answered lines answers apart once no_other =
    as_many (ids_of lines) answers apart (
      (λ j is. once j (contains_in j (ids_of lines) is)),
      (λ j is. no_other j (λ c. false-true (sym is ∙ in_contains j (ids_of lines) c.0 c.1 c.2))),
    )
    ∙ sym (requests_are lines)
