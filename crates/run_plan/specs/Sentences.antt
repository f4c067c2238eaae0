-- THE SENTENCES OF A RUN, each of the whole run.
use Rattle.std.specs.Prelude.{◌≡◌, ℕ, zero, suc, List, [], ◌∷◌, Option, length, codes, count_by, MatchOption}
use Rattle.run_plan.specs.Units.{units_shown}
use Rattle.drive_pictures.specs.Requests.{is_out_of_order}
use Rattle.run_picture.specs.Fold.{events_in}
use Rattle.run_plan.specs.Figures.{was_ok}
use Rattle.run_plan.specs.declared.sheet.Sheet.{Sheet}
use Rattle.run_plan.specs.declared.summary.Phrase.{Phrase}
use Rattle.run_plan.specs.declared.summary.Sentence.{Sentence}

-- words, and a number behind them
pub record IsPhrase (word : List ℕ) (number : ℕ) (phrase : Phrase) : Type 0 where
  pub words : phrase.word.now ≡ word
  pub count : phrase.number ≡ number

-- TWO PHRASES, a third one or none, and a point
pub record Says (first : List ℕ) (one : ℕ) (second : List ℕ) (two : ℕ) (IsThird : Option Phrase → Type 0) (s : Sentence) : Type 0 where
  pub front : IsPhrase first one s.first
  pub middle : IsPhrase second two s.second
  pub third : IsThird s.third
  pub stop : s.end.now ≡ codes "."

abbrev pub IsNone : Option Phrase → Type 0
IsNone third = MatchOption third (Unit {0}) (λ phrase. ⊥)

abbrev pub IsSome : List ℕ → ℕ → Option Phrase → Type 0
IsSome word number third = MatchOption third ⊥ (IsPhrase word number)

-- what became of the requests: how many, how many of them ok, how many out of order; and how many events there were
abbrev pub SaysRequests : Sheet → Sentence → Type 0
SaysRequests sheet = Says (codes "Requests: ") (length sheet.run.now.requests) (codes "; ok: ") (count_by was_ok sheet.run.now.requests)
    (IsSome (codes "; served out of the order asked: ") (count_by is_out_of_order sheet.run.now.requests))

abbrev pub SaysEvents : Sheet → Sentence → Type 0
SaysEvents sheet = Says (codes "Events: ") (events_in sheet.run.now.before sheet.run.now.event) (codes "; to a column: ") sheet.window.per IsNone

-- how many drives are shown, and how many positioned at once at most; and where first, if one did
abbrev pub SaysFirst : ℕ → ℕ → Option Phrase → Type 0
SaysFirst zero line = IsNone
SaysFirst (suc n) line = IsSome (codes "; first at line: ") line

abbrev pub SaysPositioning : Sheet → Sentence → Type 0
SaysPositioning sheet = Says (codes "Drives: ") (length (units_shown sheet)) (codes "; positioning at once, at most: ") sheet.run.now.glance.most
    (SaysFirst sheet.run.now.glance.most sheet.run.now.glance.most_line)

-- behind how many events sectors had moved, and behind how many of these another drive was positioning
abbrev pub SaysMoving : Sheet → Sentence → Type 0
SaysMoving sheet = Says (codes "Events after which sectors moved: ") sheet.run.now.glance.moving (codes "; and another drive positioned: ") sheet.run.now.glance.both IsNone

-- the four, in this order
abbrev pub SumUp : Sheet → List Sentence → Type 0
SumUp sheet (a ∷ b ∷ c ∷ d ∷ []) = SaysRequests sheet a × SaysEvents sheet b × SaysPositioning sheet c × SaysMoving sheet d
SumUp sheet sentences = ⊥
