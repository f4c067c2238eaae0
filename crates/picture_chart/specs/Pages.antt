-- THE CHART OF A SHEET: its title, the run at a glance, panels of 72 columns each, the requests, and what the signs say.
use Rattle.std.specs.Prelude.{◌≡◌, ℕ, zero, suc, ◌+◌, ◌-◌, ◌*◌, ◌/◌, nat_le, if◌then◌else◌, List, [], ◌∷◌, ◌++◌, Option, Some, None, length, take, fold, get_or, codes, decimal, slice_range}
use Rattle.drive_pictures.specs.declared.letters.Letter.{Letter}
use Rattle.drive_pictures.specs.declared.letters.Letter.TheVariants as letter
use Rattle.drive_pictures.specs.declared.requests.Request.{Request}
use Rattle.picture_chart.specs.Charts.{with_text, line_of, at_left, at_right, text_of, IsChart}
use Rattle.run_plan.specs.declared.sheet.Sheet.{Sheet}
use Rattle.run_plan.specs.declared.summary.Phrase.{Phrase}
use Rattle.run_plan.specs.declared.summary.Sentence.{Sentence}
use Rattle.run_plan.specs.Requests.{is_few, listed, shown_count}
use Rattle.run_plan.specs.Sentences.{SumUp}
use Rattle.run_plan.specs.Units.{units_shown}
use Rattle.run_plan.specs.Window.{kind_of, title_of}
use Rattle.drive_pictures.specs.Words.{letter_sign, outcome_word}
use Rattle.run_picture.specs.declared.columns.Column.{Column}
use Rattle.run_plan.specs.Lanes.{letter_at}
use Rattle.drive_pictures.specs.Words.{letter_word}

-- A SENTENCE: words, and the number behind them
abbrev pub with_phrase : List ℕ → Phrase → List ℕ
with_phrase line phrase = with_text (with_text line phrase.word.now) (decimal phrase.number)

abbrev pub with_third : List ℕ → Option Phrase → List ℕ
with_third line None = line
with_third line (Some phrase) = with_phrase line phrase

abbrev pub with_sentence : List (List ℕ) → Sentence → List (List ℕ)
with_sentence page s =
    page ++ with_text (with_third (with_phrase (with_phrase [] s.first) s.second) s.third) s.end.now ∷ []

-- THE TITLE; one that is too long ends with three points
unfoldable pub title_line : List ℕ → List ℕ
title_line title = if nat_le (length title) 100 then line_of (title ∷ []) else line_of (take 97 title ∷ codes "..." ∷ [])

-- AT A GLANCE: the title, and the sentences
abbrev pub head_of : Sheet → List Sentence → List (List ℕ)
head_of sheet sentences = fold with_sentence (title_line (title_of sheet) ∷ []) sentences

-- A page has grown by some lines
pub record Grows (old new : List (List ℕ)) : Type 0 where
  pub lines : List (List ℕ)
  pub is : new ≡ old ++ lines

-- A LANE: a drive's name, and a sign for what it did in each column
abbrev pub with_letter : ℕ → List ℕ → Column → List ℕ
with_letter unit line column = with_text line (letter_sign (letter_at unit column))

abbrev pub unit_label : Sheet → ℕ → List ℕ
unit_label sheet unit = line_of (codes "unit " ∷ decimal unit ∷ codes " " ∷ kind_of sheet unit ∷ [])

unfoldable pub lane_line : Sheet → List Column → ℕ → List ℕ
lane_line sheet columns unit = fold (with_letter unit) (with_text [] (at_left 18 (unit_label sheet unit))) columns

pub record HasLane (sheet : Sheet) (columns : List Column) (unit : ℕ) (old new : List (List ℕ)) : Type 0 where
  pub from : List (List ℕ)
  pub to : List (List ℕ)
  pub before : Grows old from
  pub lane : to ≡ from ++ lane_line sheet columns unit ∷ []
  pub after : Grows to new

-- of the first of some drives, in their order, each has its lane
abbrev pub Lanes : Sheet → List Column → List ℕ → ℕ → List (List ℕ) → List (List ℕ) → Type 0
Lanes sheet columns units zero old new = new ≡ old
Lanes sheet columns units (suc n) old new =
    (page : List (List ℕ)) × Lanes sheet columns units n old page × HasLane sheet columns (get_or units n 0) page new

-- A PANEL: in it each drive that is shown has a lane
pub record HasPanel (sheet : Sheet) (columns : List Column) (old new : List (List ℕ)) : Type 0 where
  pub from : List (List ℕ)
  pub to : List (List ℕ)
  pub before : Grows old from
  pub lanes : Lanes sheet columns (units_shown sheet) (length (units_shown sheet)) from to
  pub after : Grows to new

-- the panels: 72 columns each, and the last one has what is left
abbrev pub panel_columns : List Column → ℕ → List Column
panel_columns columns n = slice_range columns (72 * n) (72 * n + 72)

abbrev pub Panels : Sheet → ℕ → List (List ℕ) → List (List ℕ) → Type 0
Panels sheet zero old new = new ≡ old
Panels sheet (suc n) old new =
    (page : List (List ℕ)) × Panels sheet n old page × HasPanel sheet (panel_columns sheet.run.now.columns n) page new

abbrev pub panels_of : List Column → ℕ
panels_of columns = (length columns + 71) / 72

-- THE ROW OF A REQUEST: its id, what was asked, its answer, and how it went
pub record IsRow (r : Request) (line : List ℕ) : Type 0 where
  pub asked : List ℕ
  pub went : List ℕ
  pub is : line ≡ line_of (at_right 10 (decimal r.id) ∷ asked ∷ at_left 11 (outcome_word r.outcome) ∷ went ∷ [])

abbrev pub AreRows : List Request → List (List ℕ) → Type 0
AreRows [] [] = Unit {0}
AreRows (r ∷ rs) (line ∷ lines) = IsRow r line × AreRows rs lines
AreRows [] (line ∷ lines) = ⊥
AreRows (r ∷ rs) [] = ⊥

-- a page has grown by a row for each request
pub record HasRows (requests : List Request) (old new : List (List ℕ)) : Type 0 where
  pub rows : List (List ℕ)
  pub each : AreRows requests rows
  pub is : new ≡ old ++ rows

-- THE LEGEND: what the sign of each letter says
abbrev pub with_entry : List ℕ → Letter → List ℕ
with_entry line l = fold with_text line (codes "  " ∷ letter_sign l ∷ codes " " ∷ letter_word l ∷ [])

abbrev pub legend_line : List ℕ → List Letter → List ℕ
legend_line label letters = fold with_entry (with_text [] label) letters

abbrev pub first_letters : List Letter
first_letters = letter.Idle ∷ letter.Seeks ∷ letter.Turns ∷ letter.Recalibrates ∷ []

abbrev pub second_letters : List Letter
second_letters = letter.Offsets ∷ letter.Arrived ∷ letter.Ready ∷ letter.Moves ∷ []

abbrev pub third_letters : List Letter
third_letters = letter.Retries ∷ letter.Replaces ∷ letter.Moved ∷ []

unfoldable pub legend : List (List ℕ)
legend =
    [] ∷ legend_line (codes "drive") first_letters ∷ legend_line (codes "     ") second_letters
    ∷ legend_line (codes "     ") third_letters ∷ []

-- how many requests that are shown are not listed, where there are some
abbrev pub left_out : ℕ → List (List ℕ)
left_out zero = []
left_out (suc n) = line_of (codes "Requests not shown: " ∷ decimal (suc n) ∷ []) ∷ []

-- A TEXT IS THE CHART OF A SHEET, page by page
pub record IsChartOf (sheet : Sheet) (text : List ℕ) : Type 0 where
  pub sentences : List Sentence
  pub sums_up : SumUp sheet sentences
  pub panelled : List (List ℕ)
  pub panels : Panels sheet (panels_of sheet.run.now.columns) (head_of sheet sentences ++ [] ∷ []) panelled
  pub named : List (List ℕ)
  pub names : Grows panelled named
  pub listing : List (List ℕ)
  pub rows : HasRows (listed sheet (is_few (shown_count sheet))) named listing
  pub page : List (List ℕ)
  pub marks : Grows (listing ++ left_out (shown_count sheet - length (listed sheet (is_few (shown_count sheet)))) ++ legend) page
  pub lines : text ≡ text_of page
  pub chart : IsChart text
