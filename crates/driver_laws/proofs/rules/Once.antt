-- Each id is answered as often as it is asked for.
use Rattle.std.proofs.Common.{◌≡◌, inl, inr, ℕ, zero, suc, ◌≤◌, ◌+◌, ◌==◌, ◌||◌, Bool, true, false, List, [], ◌∷◌, ◌++◌, Option, Some, refl, sym, ap, ◌∙◌, subst, arith, rules}
use Rattle.std.specs.Prelude.{if◌then◌else◌, Contains}
use Rattle.std.specs.List.{list_any}
use Rattle.std.proofs.lemmas.Option.{none-some}
use Rattle.std.proofs.lemmas.Bool.Decides.{eqb_tells}
use Rattle.pack_geometry.specs.declared.DriveKind.{DriveKind}
use Rattle.trace_replay.specs.requests.Requests.{Request}
use Rattle.trace_replay.specs.Script.{Input, Submit, Numbered, AreApart}
use Rattle.trace_replay.specs.Moments.{Answered}
use Rattle.trace_replay.specs.Replay.{Submission}
use Rattle.driver_laws.specs.rules.Machine.{Machine, request_of, without, meets, after_input, answers_of_input, answers_at_once, Steps, submitted as machine_submitted}
use Rattle.driver_laws.specs.rules.LegalAnswers.{AnswersTo, times_answered}
use Rattle.driver_laws.proofs.rules.Outstanding.{found_id}
use Rattle.driver_laws.proofs.rules.IdsAsked.{ids_asked, with_asked}

-- how often an id stands in a list, and how often it is outstanding
pub times_among : ℕ → List ℕ → ℕ
times_among id [] = 0
times_among id (other ∷ ids) = (if other == id then 1 else 0) + times_among id ids

pub times_out : ℕ → List Request → ℕ
times_out id [] = 0
times_out id (r ∷ rs) = (if r.id == id then 1 else 0) + times_out id rs

pub nothing_out : (id : ℕ) → times_out id [] ≡ 0
unfolding times_out
nothing_out id = refl

move_out : (a b c d : ℕ) → b ≡ c + d → a + b ≡ c + (a + d)
move_out a b c d e = omega (arith, e)

-- one leaves
left_out : (id gone : ℕ) (rs : List Request) (r : Request) → request_of gone rs ≡ Some r → times_out id rs ≡ (if gone == id then 1 else 0) + times_out id (without gone rs)
unfolding times_out
left_out id gone [] r is = absurd (none-some r is)
left_out id gone (x ∷ rs) r is = elim (eqb_tells x.id gone) [
  | inl same ↦ rw same.0 (ap (λ z. (if z == id then 1 else 0) + times_out id rs) same.1)
  | inr other ↦ rw other.0 (move_out (if x.id == id then 1 else 0) (times_out id rs) (if gone == id then 1 else 0) (times_out id (without gone rs)) (left_out id gone rs r (rw other.0 at is)))
]

-- answers one after another
pub answered_append : (id : ℕ) (xs ys : List Answered) → times_answered id (xs ++ ys) ≡ times_answered id xs + times_answered id ys
answered_append id [] ys = search rules
answered_append id (a ∷ xs) ys = more (if a.id == id then 1 else 0) (times_answered id (xs ++ ys)) (times_answered id xs) (times_answered id ys) (answered_append id xs ys)
  where
    more : (a b c d : ℕ) → b ≡ c + d → a + b ≡ a + c + d
    more a b c d e = omega (arith, e)

steps_count : (drives : ℕ → Option DriveKind) (claims : (line : ℕ) → Request → Type 0) (line id : ℕ) (m : Machine) (answers : List Answered) (new : Machine) → Steps drives claims line m answers new
    → times_out id m.outstanding ≡ times_answered id answers + times_out id new.outstanding
steps_count drives claims line id m [] new steps = search rules
steps_count drives claims line id m (a ∷ answers) new steps =
    left_out id a.id m.outstanding steps.2.request steps.2.found
    ∙ ap (λ z. (if a.id == id then 1 else 0) + times_out id (without z m.outstanding)) (sym (found_id a.id m.outstanding steps.2.request steps.2.found))
    ∙ ap (λ (z : Machine). (if a.id == id then 1 else 0) + times_out id z.outstanding) (sym steps.2.is)
    ∙ more (if a.id == id then 1 else 0) (times_out id (Machine.outstanding steps.1)) (times_answered id answers) (times_out id new.outstanding) (steps_count drives claims line id steps.1 answers new steps.3)
  where
    more : (a b c d : ℕ) → b ≡ c + d → a + b ≡ a + c + d
    more a b c d e = omega (arith, e)

-- a request is answered at once, or is then outstanding
submitted_count : (line id : ℕ) (r : Request) (ids : List ℕ) (m : Machine) (met : Submission) → times_among id (r.id ∷ ids) + times_out id m.outstanding
    ≡ times_answered id (answers_at_once line r met) + (times_among id ids + times_out id (machine_submitted m r met).outstanding)
unfolding times_among times_out
submitted_count line id r ids m met = search rules

input_count : (drives : ℕ → Option DriveKind) (line id : ℕ) (input : Input) (ids : List ℕ) (m : Machine) → times_among id (with_asked input ids) + times_out id m.outstanding
    ≡ times_answered id (answers_of_input drives m line input) + (times_among id ids + times_out id (after_input drives m input).outstanding)
input_count drives line id (Submit r) ids m = submitted_count line id r ids m (meets drives m r)
input_count drives line id other ids m = omega arith

pub answers_count : (drives : ℕ → Option DriveKind) (claims : (line : ℕ) → Request → Type 0) (id : ℕ) (m : Machine) (inputs : List Numbered) (answers : List Answered) (new : Machine) → AnswersTo drives claims m inputs answers new
    → times_among id (ids_asked inputs) + times_out id m.outstanding ≡ times_answered id answers + times_out id new.outstanding
unfolding times_among
answers_count drives claims id m [] answers new is =
    ap (λ (z : Machine). 0 + times_out id z.outstanding) (sym is.1) ∙ ap (λ z. times_answered id z + times_out id new.outstanding) (sym is.0)
answers_count drives claims id m (n ∷ inputs) answers new is =
    input_count drives n.line id n.input (ids_asked inputs) m
    ∙ all (times_answered id (answers_of_input drives m n.line n.input)) (times_among id (ids_asked inputs)) (times_out id (after_input drives m n.input).outstanding) (times_answered id is.4.later)
    (times_out id (Machine.outstanding is.2)) (times_answered id is.1) (times_out id new.outstanding)
    (steps_count drives claims n.line id (after_input drives m n.input) is.4.later is.2 is.4.steps) (answers_count drives claims id is.2 inputs is.1 new is.5)
    ∙ ap (λ z. z + times_answered id is.1 + times_out id new.outstanding) (sym (answered_append id (answers_of_input drives m n.line n.input) is.4.later) ∙ ap (times_answered id) (sym is.4.order))
    ∙ ap (λ z. z + times_out id new.outstanding) (sym (answered_append id is.0 is.1) ∙ ap (times_answered id) (sym is.3))
  where
    all : (at_once asked out later mid rest new : ℕ) → out ≡ later + mid → asked + mid ≡ rest + new → at_once + (asked + out) ≡ at_once + later + rest + new
    all at_once asked out later mid rest new one two = omega (arith, one, two)

-- ---- ids that are apart stand once
none_among : (id : ℕ) (ids : List ℕ) → list_any (λ other. other == id) ids ≡ false → times_among id ids ≡ 0
unfolding times_among
none_among id [] apart = refl
none_among id (other ∷ ids) apart = at (other == id) refl (λ rest. none_among id ids rest) apart
  where
    at : (b : Bool) → other == id ≡ b → (list_any (λ x. x == id) ids ≡ false → times_among id ids ≡ 0) → b || list_any (λ x. x == id) ids ≡ false → (if other == id then 1 else 0) + times_among id ids ≡ 0
    at true e later apart = absurd (grind (arith, apart))
    at false e later apart = rw e (omega (arith, later apart))

pub apart_once : (id : ℕ) (ids : List ℕ) → AreApart ids → Contains ids id → times_among id ids ≡ 1
unfolding times_among
apart_once id [] apart is = absurd (omega (arith, is.1))
apart_once id (other ∷ ids) apart (zero, lt, e) = rw e (elim (eqb_tells id id) [
  | inl same ↦ rw same.0 (omega (arith, none_among id ids (subst (λ z. list_any (λ x. x == z) ids ≡ false) e apart.0)))
  | inr differ ↦ absurd (differ.1 refl)
])
apart_once id (other ∷ ids) apart (suc k, lt, e) = elim (eqb_tells other id) [
  | inl same ↦ absurd (one_zero (times_among id ids) (apart_once id ids apart.1 (k, (omega (arith, lt)), e)) (none_among id ids (subst (λ z. list_any (λ x. x == z) ids ≡ false) same.1 apart.0)))
  | inr differ ↦ rw differ.0 (omega (arith, apart_once id ids apart.1 (k, (omega (arith, lt)), e)))
]
  where
    one_zero : (n : ℕ) → n ≡ 1 → n ≡ 0 → ⊥
    one_zero n a b = omega (arith, a, b)

-- ids that are apart stand once at most
pub once_among : (id : ℕ) (ids : List ℕ) → AreApart ids → times_among id ids ≤ 1
unfolding times_among
once_among id [] apart = omega arith
once_among id (other ∷ ids) apart = elim (eqb_tells other id) [
  | inl same ↦ rw same.0 (one (times_among id ids) (none_among id ids (subst (λ z. list_any (λ x. x == z) ids ≡ false) same.1 apart.0)))
  | inr differ ↦ rw differ.0 (more (times_among id ids) (once_among id ids apart.1))
]
  where
    one : (n : ℕ) → n ≡ 0 → 1 + n ≤ 1
    one n e = omega (arith, e)

    more : (n : ℕ) → n ≤ 1 → 0 + n ≤ 1
    more n e = omega (arith, e)

-- what is listed is outstanding once at least
pub listed_out : (id : ℕ) (rs : List Request) (r : Request) → request_of id rs ≡ Some r → 1 ≤ times_out id rs
listed_out id rs r is = search (rules, left_out, eqb_tells, times_out)

pub not_among : (id : ℕ) (ids : List ℕ) → ¬ (Contains ids id) → times_among id ids ≡ 0
unfolding times_among
not_among id [] none = refl
not_among id (other ∷ ids) none = elim (eqb_tells other id) [
  | inl same ↦ absurd (none (0, (omega arith), same.1))
  | inr differ ↦ rw differ.0 (omega (arith, not_among id ids (λ is. none (suc is.0, (omega (arith, is.1)), is.2))))
]

pub answered_times : (drives : ℕ → Option DriveKind) (claims : (line : ℕ) → Request → Type 0) (id : ℕ) (m : Machine) (inputs : List Numbered) (answers : List Answered) (new : Machine) → AnswersTo drives claims m inputs answers new
    → m.outstanding ≡ [] → new.outstanding ≡ [] → times_answered id answers ≡ times_among id (ids_asked inputs)
unfolding times_out
answered_times drives claims id m inputs answers new is none left =
    plain (times_answered id answers) (times_out id new.outstanding) (times_among id (ids_asked inputs)) (times_out id m.outstanding) (answers_count drives claims id m inputs answers new is)
    (ap (times_out id) none) (ap (times_out id) left)
  where
    plain : (a b c d : ℕ) → c + d ≡ a + b → d ≡ 0 → b ≡ 0 → a ≡ c
    plain a b c d e f g = omega (arith, e, f, g)
