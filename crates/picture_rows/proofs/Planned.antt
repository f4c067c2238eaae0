-- The words of plans and captions refuse these outcomes.
use Rattle.std.proofs.Common.{◌≡◌, ℕ, suc, ◌+◌, ◌==◌, if◌then◌else◌, Bool, true, List, [], ◌∷◌, length, get_or, map, sym, ap, ◌∙◌, refl, arith}
use Rattle.std.proofs.lemmas.List.{length-map}
use Rattle.std.specs.Prelude.{filter}
use Rattle.drive_pictures.specs.declared.letters.Letter.{Letter}
use Rattle.drive_pictures.specs.declared.letters.Letter.TheVariants as letter
use Rattle.drive_pictures.specs.declared.requests.Request.{Request}
use Rattle.run_picture.specs.declared.columns.Column.{Column}
use Rattle.run_plan.specs.declared.sheet.Sheet.{Sheet}
use Rattle.run_plan.specs.Requests.{is_shown}
use Rattle.run_plan.specs.Units.{units_shown}
use Rattle.run_plan.specs.declared.bars.Bar.{Bar}
use Rattle.run_plan.specs.declared.lanes.Lane.{Lane}
use Rattle.run_plan.specs.declared.plan.Plan.{Plan}
use Rattle.run_plan.specs.Bars.{Lettered, numbered, columns_of}
use Rattle.run_plan.specs.Lanes.{Told, told, lane_in, letter_at}
use Rattle.run_plan.specs.Plans.{Plans}
use Rattle.drive_pictures.specs.Words.{letter_word}
use Rattle.picture_rows.specs.Planned.{RequestLeftOut, ColumnLeftOut, BarOfAnotherUnit, CaptionOfAnotherRun, LegendWithoutALetter}

one_kept : (p : Request → Bool) (r : Request) → p r ≡ true → filter p (r ∷ []) ≡ r ∷ []
one_kept p r shown = rw (shown) refl

pub request_left_out : RequestLeftOut
request_left_out sheet plan r plans one shown none = some (sym none ∙ plans.rows ∙ ap (filter (is_shown sheet)) one ∙ one_kept (is_shown sheet) r shown)
  where
    some : {r : Request} → ◌≡◌ {A = List Request} [] (r ∷ []) → ⊥
    some is = cc is

-- the columns that the first lane tells of
first_columns : List Told → List Lettered
first_columns [] = []
first_columns (lane ∷ lanes) = lane.columns

columns_told : (sheet : Sheet) (plan : Plan) (lane : Lane) (unit : ℕ) → Plans sheet plan → units_shown sheet ≡ unit ∷ [] → plan.lanes.items ≡ lane ∷ []
    → columns_of lane.bars.items ≡ numbered 0 (map (letter_at unit) sheet.run.now.columns)
unfolding first_columns
columns_told sheet plan lane unit plans units lanes =
    ap (λ (ls : List Lane). first_columns (map told ls)) (sym lanes) ∙ ap first_columns plans.lanes
    ∙ ap (λ (us : List ℕ). first_columns (map (lane_in sheet) us)) units

as_many : (n : ℕ) (letters : List Letter) → length (numbered n letters) ≡ length letters
as_many n [] = refl
as_many n (l ∷ ls) = ap suc (as_many (suc n) ls)

pub column_left_out : ColumnLeftOut
column_left_out sheet plan lane unit plans units lanes fewer =
    omega (
      arith,
      fewer,
      ap length (columns_told sheet plan lane unit plans units lanes),
      as_many 0 (map (letter_at unit) sheet.run.now.columns),
      length-map sheet.run.now.columns (letter_at unit),
    )

first_letter : List Lettered → Letter
first_letter [] = letter.Idle
first_letter (l ∷ ls) = l.letter

pub bar_of_another_unit : BarOfAnotherUnit
unfolding first_letter
bar_of_another_unit sheet plan lane column unit other plans units columns lanes differs is =
    differs (ap (λ (bars : List Bar). first_letter (columns_of bars)) (sym is) ∙ ap first_letter (columns_told sheet plan lane unit plans units lanes)
    ∙ ap (λ (cs : List Column). first_letter (numbered 0 (map (letter_at unit) cs))) columns)

pub caption_of_another_run : CaptionOfAnotherRun
caption_of_another_run form text other picture view d differs is = differs (sym is ∙ d.caption_is)

-- a letter is known by the first three bytes of what it says
first_three : List ℕ → ℕ
first_three word = get_or word 0 0 + get_or word 1 0 + get_or word 2 0

said_by : ℕ → Letter
said_by n =
    if n == 320
    then letter.Seeks
    else if n == 347
    then letter.Turns
    else if n == 314
    then letter.Recalibrates
    else if n == 332
    then letter.Offsets
    else if n == 325
    then letter.Arrived
    else if n == 312
    then letter.Ready
    else if n == 315
    then letter.Moves
    else if n == 335 then letter.Retries else if n == 245 then letter.Replaces else if n == 338 then letter.Moved else letter.Idle

known : (l : Letter) → said_by (first_three (letter_word l)) ≡ l
unfolding first_three said_by
known letter.Idle = refl
known letter.Seeks = refl
known letter.Turns = refl
known letter.Recalibrates = refl
known letter.Offsets = refl
known letter.Arrived = refl
known letter.Ready = refl
known letter.Moves = refl
known letter.Retries = refl
known letter.Replaces = refl
known letter.Moved = refl

pub legend_without_a_letter : LegendWithoutALetter
legend_without_a_letter one other differs is =
    differs (sym (known one) ∙ ap (λ (word : List ℕ). said_by (first_three word)) is ∙ known other)
