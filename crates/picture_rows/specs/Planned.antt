-- What wrong bodies would leave out of a plan, or show of another run, refused by the words of rows, bars and captions.
use Rattle.std.specs.Prelude.{◌≡◌, ℕ, ◌<◌, true, List, [], ◌∷◌, length}
use Rattle.drive_pictures.specs.declared.letters.Letter.{Letter}
use Rattle.drive_pictures.specs.declared.requests.Request.{Request}
use Rattle.run_picture.specs.declared.columns.Column.{Column}
use Rattle.run_plan.specs.declared.sheet.Sheet.{Sheet}
use Rattle.run_plan.specs.Requests.{is_shown}
use Rattle.run_plan.specs.Units.{units_shown}
use Rattle.run_view.specs.declared.view.View.{View}
use Rattle.run_view.specs.Captions.{caption_of}
use Rattle.run_plan.specs.declared.lanes.Lane.{Lane}
use Rattle.run_plan.specs.declared.plan.Plan.{Plan}
use Rattle.run_plan.specs.Bars.{columns_of}
use Rattle.run_plan.specs.Lanes.{letter_at}
use Rattle.run_plan.specs.Plans.{Plans}
use Rattle.drive_pictures.specs.Words.{letter_word}
use Rattle.hpview_run.specs.declared.words.Form.{Form}
use Rattle.hpview_run.specs.Drawing.{IsDrawn}

-- a request is shown, and no row is it
abbrev pub RequestLeftOut : Type 0
RequestLeftOut = (sheet : Sheet) (plan : Plan) (r : Request) → Plans sheet plan → sheet.run.now.requests ≡ r ∷ [] → is_shown sheet r ≡ true → ¬ (plan.rows.items ≡ [])

-- a drive is shown, and its bars have fewer columns than there are
abbrev pub ColumnLeftOut : Type 0
ColumnLeftOut = (sheet : Sheet) (plan : Plan) (lane : Lane) (unit : ℕ) → Plans sheet plan → units_shown sheet ≡ unit ∷ [] → plan.lanes.items ≡ lane ∷ []
    → ¬ (length (columns_of lane.bars.items) < length sheet.run.now.columns)

-- the bar of its column says what another drive did
abbrev pub BarOfAnotherUnit : Type 0
BarOfAnotherUnit = (sheet : Sheet) (plan : Plan) (lane : Lane) (column : Column) (unit other : ℕ) → Plans sheet plan → units_shown sheet ≡ unit ∷ []
    → sheet.run.now.columns ≡ column ∷ [] → plan.lanes.items ≡ lane ∷ [] → ¬ (letter_at other column ≡ letter_at unit column)
    → ¬ (lane.bars.items ≡ record { letter = letter_at other column; from = 0; to = 1 } ∷ [])

-- above a picture stands what is no caption of its script
abbrev pub CaptionOfAnotherRun : Type 0
CaptionOfAnotherRun = (form : Form) (text other picture : List ℕ) (view : View) → (d : IsDrawn form (caption_of text) view picture) → ¬ (other ≡ caption_of text)
    → ¬ (d.sheet.caption.now ≡ other)

-- what one letter says is what another says
abbrev pub LegendWithoutALetter : Type 0
LegendWithoutALetter = (letter other : Letter) → ¬ (letter ≡ other) → ¬ (letter_word letter ≡ letter_word other)
