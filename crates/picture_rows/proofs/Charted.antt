-- The words of a chart's lanes, rows and legend refuse these outcomes.
use Rattle.std.proofs.Common.{◌≡◌, ℕ, zero, suc, ◌+◌, ◌-◌, ◌*◌, ◌<◌, ◌≤◌, min, List, [], ◌∷◌, ◌++◌, length, drop, get_or, refl, sym, ap, subst, ◌∙◌, arith, length-append, length-drop}
use Rattle.std.specs.Prelude.{Bool, true, false, nat_le, nat_lt, filter, fold, codes}
use Rattle.std.proofs.lemmas.Bool.Decides.{nat_tests}
use Rattle.std.proofs.lemmas.List.Sums.{length-filter}
use Rattle.std.proofs.lemmas.Fmt.{decimal_digit}
use Rattle.std.proofs.lemmas.List.{append-nil, append_assoc, length-take}
use Rattle.drive_pictures.specs.declared.letters.Letter.{Letter}
use Rattle.drive_pictures.specs.declared.letters.Letter.TheVariants as letter
use Rattle.drive_pictures.specs.declared.requests.Request.{Request}
use Rattle.run_picture.specs.declared.columns.Column.{Column}
use Rattle.run_plan.specs.declared.sheet.Sheet.{Sheet}
use Rattle.run_plan.specs.Requests.{is_shown, shown_count, is_listed, listed_with, listed_all}
use Rattle.run_plan.specs.Units.{units_shown}
use Rattle.run_plan.specs.Window.{kind_of}
use Rattle.drive_pictures.specs.Words.{letter_sign}
use Rattle.picture_chart.specs.Charts.{front, with_text, at_left}
use Rattle.picture_chart.specs.Pages.{unit_label, lane_line, Grows, HasLane, Lanes, HasPanel, AreRows, HasRows}
use Rattle.picture_rows.specs.Charted.{PanelDropsAColumn, RowOfAnotherUnit, LaneLeftOut, ShownNotListed, RowLeftOut, LetterNotOnceInTheLegend}

pub panel_drops_a_column : PanelDropsAColumn
panel_drops_a_column columns n long is = fewer (72 * n) (length columns) (length (drop (72 * n) columns)) long (length-drop (72 * n) columns)
    (sym (length-take (72 * n + 71 - 72 * n) (drop (72 * n) columns)) ∙ ap length is ∙ length-take (72 * n + 72 - 72 * n) (drop (72 * n) columns))
  where
    fewer : (from all behind : ℕ) → from + 72 ≤ all → behind ≡ all - from → min (from + 71 - from) behind ≡ min (from + 72 - from) behind → ⊥
    fewer from all behind long left is = omega (arith, long, left, is)

-- the lane of a drive that is called so, in one column
abbrev lane_with : List ℕ → Letter → List ℕ
lane_with label l = with_text (with_text [] (at_left 18 label)) (letter_sign l)

label_of : (sheet : Sheet) → kind_of sheet 0 ≡ codes "rp06" → unit_label sheet 0 ≡ codes "unit 0 rp06"
unfolding front
label_of sheet kind = rw (kind, decimal_digit 0 (omega arith)) refl

other_letter : lane_with (codes "unit 0 rp06") letter.Seeks ≡ lane_with (codes "unit 0 rp06") letter.Idle → ⊥
unfolding front
other_letter is = let same : 83 ≡ 46 = ap (λ (text : List ℕ). get_or text 18 0) is in omega (arith, same)

pub row_of_another_unit : RowOfAnotherUnit
unfolding lane_line
row_of_another_unit sheet column kind idle seeks is =
    other_letter (sym (ap (λ (label : List ℕ). lane_with label letter.Seeks) (label_of sheet kind)) ∙ sym (ap (lane_with (unit_label sheet 0)) seeks) ∙ is
    ∙ ap (lane_with (unit_label sheet 0)) idle ∙ ap (λ (label : List ℕ). lane_with label letter.Idle) (label_of sheet kind))

-- a page that grew is not shorter, and each lane is a line more
longer : (old new : List (List ℕ)) → Grows old new → length old ≤ length new
longer old new g = omega (arith, ap length g.is, length-append old g.lines)

one_longer : (sheet : Sheet) (columns : List Column) (unit : ℕ) (old new : List (List ℕ)) → HasLane sheet columns unit old new → length old + 1 ≤ length new
one_longer sheet columns unit old new lane =
    omega (arith, longer old lane.from lane.before, ap length lane.lane, length-append lane.from (lane_line sheet columns unit ∷ []), longer lane.to new lane.after)

lanes_longer : (sheet : Sheet) (columns : List Column) (units : List ℕ) (n : ℕ) (old new : List (List ℕ)) → Lanes sheet columns units n old new → length old + n ≤ length new
lanes_longer sheet columns units zero old new same = omega (arith, ap length same)
lanes_longer sheet columns units (suc n) old new lanes =
    omega (arith, lanes_longer sheet columns units n old lanes.0 lanes.1, one_longer sheet columns (get_or units n 0) lanes.0 new lanes.2)

pub lane_left_out : LaneLeftOut
lane_left_out sheet columns unit page one panel =
    omega (
      arith,
      longer page panel.from panel.before,
      lanes_longer sheet columns (units_shown sheet) (length (units_shown sheet)) panel.from panel.to panel.lanes,
      longer panel.to page panel.after,
      ap length one,
    )

-- where few are shown, the first pass takes each that is shown, and the second takes none
first_yes : (sheet : Sheet) (listed : List Request) (r : Request) → is_shown sheet r ≡ true → length listed < 256 → listed_with sheet true true listed r ≡ listed ++ r ∷ []
unfolding listed_with is_listed
first_yes sheet listed r is room = let roomy : nat_lt (length listed) 256 ≡ true = grind (arith, nat_tests) in rw (is, roomy) refl

first_no : (sheet : Sheet) (listed : List Request) (r : Request) → is_shown sheet r ≡ false → listed_with sheet true true listed r ≡ listed
unfolding listed_with is_listed
first_no sheet listed r is = rw (is) refl

second_no : (sheet : Sheet) (listed : List Request) (r : Request) (b : Bool) → is_shown sheet r ≡ b → listed_with sheet true false listed r ≡ listed
unfolding listed_with is_listed
second_no sheet listed r true is = rw (is) refl
second_no sheet listed r false is = rw (is) refl

second_none : (sheet : Sheet) (rs listed : List Request) → fold (listed_with sheet true false) listed rs ≡ listed
second_none sheet [] listed = refl
second_none sheet (r ∷ rs) listed =
    ap (λ (l : List Request). fold (listed_with sheet true false) l rs) (second_no sheet listed r (is_shown sheet r) refl) ∙ second_none sheet rs listed

next_all : (sheet : Sheet) (r : Request) (rs listed : List Request) (b : Bool) → is_shown sheet r ≡ b → length listed + length (filter (is_shown sheet) (r ∷ rs)) ≤ 256
    → ((l : List Request) → length l + length (filter (is_shown sheet) rs) ≤ 256 → fold (listed_with sheet true true) l rs ≡ l ++ filter (is_shown sheet) rs)
    → fold (listed_with sheet true true) listed (r ∷ rs) ≡ listed ++ filter (is_shown sheet) (r ∷ rs)
next_all sheet r rs listed true is few rest =
    let kept : filter (is_shown sheet) (r ∷ rs) ≡ r ∷ filter (is_shown sheet) rs = rw (is) refl in
    let so_few = subst (λ (l : List Request). length listed + length l ≤ 256) kept few in
    ap (λ (l : List Request). fold (listed_with sheet true true) l rs) (first_yes sheet listed r is (omega (arith, so_few)))
    ∙ rest (listed ++ r ∷ []) (omega (arith, so_few, length-append listed (r ∷ [])))
    ∙ append_assoc listed (r ∷ []) (filter (is_shown sheet) rs) ∙ ap (λ (l : List Request). listed ++ l) (sym kept)
next_all sheet r rs listed false is few rest =
    let kept : filter (is_shown sheet) (r ∷ rs) ≡ filter (is_shown sheet) rs = rw (is) refl in
    ap (λ (l : List Request). fold (listed_with sheet true true) l rs) (first_no sheet listed r is)
    ∙ rest listed (subst (λ (l : List Request). length listed + length l ≤ 256) kept few) ∙ ap (λ (l : List Request). listed ++ l) (sym kept)

first_all : (sheet : Sheet) (rs listed : List Request) → length listed + length (filter (is_shown sheet) rs) ≤ 256
    → fold (listed_with sheet true true) listed rs ≡ listed ++ filter (is_shown sheet) rs
first_all sheet [] listed few = sym (append-nil listed)
first_all sheet (r ∷ rs) listed few = next_all sheet r rs listed (is_shown sheet r) refl few (λ l le. first_all sheet rs l le)

few_are : (n : ℕ) → nat_le n 256 ≡ true → n ≤ 256
few_are n is = grind (arith, nat_tests)

pub shown_not_listed : ShownNotListed
shown_not_listed sheet others few differs is =
    let so_few = few_are (shown_count sheet) few in
    differs (sym is ∙ second_none sheet sheet.run.now.requests (listed_all sheet true true [])
    ∙ first_all sheet sheet.run.now.requests [] (omega (arith, so_few, length-filter (is_shown sheet) sheet.run.now.requests)))

some_rows : (r : Request) (rs : List Request) (rows : List (List ℕ)) → AreRows (r ∷ rs) rows → 1 ≤ length rows
some_rows r rs [] are = absurd are
some_rows r rs (row ∷ rows) are = omega arith

pub row_left_out : RowLeftOut
row_left_out r rs page has = omega (arith, some_rows r rs has.rows has.each, ap length has.is, length-append page has.rows)

pub letter_not_once : LetterNotOnceInTheLegend
letter_not_once letter.Idle = (refl, refl)
letter_not_once letter.Seeks = (refl, refl)
letter_not_once letter.Turns = (refl, refl)
letter_not_once letter.Recalibrates = (refl, refl)
letter_not_once letter.Offsets = (refl, refl)
letter_not_once letter.Arrived = (refl, refl)
letter_not_once letter.Ready = (refl, refl)
letter_not_once letter.Moves = (refl, refl)
letter_not_once letter.Retries = (refl, refl)
letter_not_once letter.Replaces = (refl, refl)
letter_not_once letter.Moved = (refl, refl)
