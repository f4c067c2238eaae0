-- What wrong bodies would leave out of a chart, or say in it, refused by the words of its lanes, rows and legend.
use Rattle.std.specs.Prelude.{◌≡◌, ℕ, ◌+◌, ◌*◌, ◌≤◌, true, List, [], ◌∷◌, ◌++◌, length, slice_range, filter, codes}
use Rattle.std.specs.Str.{bytes_eq}
use Rattle.drive_pictures.specs.declared.letters.Letter.{Letter}
use Rattle.drive_pictures.specs.declared.letters.Letter.TheVariants.{Idle, Seeks}
use Rattle.drive_pictures.specs.declared.requests.Request.{Request}
use Rattle.run_picture.specs.declared.columns.Column.{Column}
use Rattle.run_plan.specs.declared.sheet.Sheet.{Sheet}
use Rattle.run_plan.specs.Window.{kind_of}
use Rattle.drive_pictures.specs.Words.{letter_sign}
use Rattle.run_plan.specs.Lanes.{letter_at}
use Rattle.drive_pictures.specs.Letters.{all_letters}
use Rattle.picture_chart.specs.Charts.{with_text, at_left}
use Rattle.picture_chart.specs.Pages.{first_letters, second_letters, third_letters, lane_line, unit_label, panel_columns, HasPanel, HasRows}
use Rattle.run_plan.specs.Requests.{is_shown, shown_count, is_few, listed}
use Rattle.run_plan.specs.Units.{units_shown}

-- a panel has 71 columns, though 72 are left
abbrev pub PanelDropsAColumn : Type 0
PanelDropsAColumn = (columns : List Column) (n : ℕ) → 72 * n + 72 ≤ length columns → ¬ (slice_range columns (72 * n) (72 * n + 71) ≡ panel_columns columns n)

-- a drive is idle, and its row has the letter of another, whose arm moves
abbrev pub RowOfAnotherUnit : Type 0
RowOfAnotherUnit = (sheet : Sheet) (column : Column) → kind_of sheet 0 ≡ codes "rp06" → letter_at 0 column ≡ Idle → letter_at 1 column ≡ Seeks
    → ¬ (with_text (with_text [] (at_left 18 (unit_label sheet 0))) (letter_sign (letter_at 1 column)) ≡ lane_line sheet (column ∷ []) 0)

-- a drive is shown, and a panel has no line
abbrev pub LaneLeftOut : Type 0
LaneLeftOut = (sheet : Sheet) (columns : List Column) (unit : ℕ) (page : List (List ℕ)) → units_shown sheet ≡ unit ∷ [] → ¬ (HasPanel sheet columns page page)

-- at most 256 requests are shown, and others are listed than these, in their order
abbrev pub ShownNotListed : Type 0
ShownNotListed = (sheet : Sheet) (others : List Request) → is_few (shown_count sheet) ≡ true → ¬ (others ≡ filter (is_shown sheet) sheet.run.now.requests)
    → ¬ (listed sheet true ≡ others)

-- a request is listed, and no line is its row
abbrev pub RowLeftOut : Type 0
RowLeftOut = (r : Request) (rs : List Request) (page : List (List ℕ)) → ¬ (HasRows (r ∷ rs) page page)

-- A LETTER STANDS ONCE in a legend, and in that of a chart: in no line never, and in none twice
abbrev pub stands : Letter → List Letter → ℕ
stands l letters = length (filter (λ other. bytes_eq (letter_sign l) (letter_sign other)) letters)

abbrev pub LetterNotOnceInTheLegend : Type 0
LetterNotOnceInTheLegend = (l : Letter) → (stands l all_letters ≡ 1) × (stands l (first_letters ++ second_letters ++ third_letters) ≡ 1)
