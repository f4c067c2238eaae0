-- A PICTURE OF A RUN: what it has to show.
use Rattle.std.specs.Prelude.{◌≡◌, ℕ, ◌==◌, nat_lt, Bool, false, ◌&&◌, if◌then◌else◌, List, [], ◌∷◌, ◌++◌, map, filter, count_by, take}
use Rattle.std.specs.List.{flat_map}
use Rattle.drive_pictures.specs.declared.requests.Request.{Request}
use Rattle.run_picture.specs.declared.columns.Note.{Note}
use Rattle.run_plan.specs.declared.sheet.Sheet.{Sheet}
use Rattle.run_plan.specs.Notes.{lines_shown}
use Rattle.run_plan.specs.Requests.{is_few, listed, shown_count}
use Rattle.run_plan.specs.Units.{is_drawn, units_shown}
use Rattle.run_plan.specs.Window.{title_of}
use Rattle.picture_svg.specs.declared.scene.Lane.{Lane}
use Rattle.picture_svg.specs.Legend.{explained}
use Rattle.picture_svg.specs.Nesting.{Drawn}
use Rattle.picture_svg.specs.Texts.{IsWritten}

-- the front of the caption that is drawn
abbrev pub caption_of : Sheet → List ℕ
caption_of sheet = take 120 (title_of sheet)

-- THE LINES OF A RUN in its picture: those of each drive, one drive after another
abbrev pub unit_of : Lane → ℕ
unit_of lane = lane.unit

abbrev pub lines_of_units : Sheet → List ℕ → List (List ℕ)
lines_of_units sheet units = flat_map (lines_shown sheet) units

abbrev pub lines_of_lane : Sheet → Lane → List (List ℕ)
lines_of_lane sheet lane = lines_shown sheet lane.unit

abbrev pub lines_of_lanes : Sheet → List Lane → List (List ℕ)
lines_of_lanes sheet lanes = flat_map (lines_of_lane sheet) lanes

-- the lines that name a drive which is drawn, as they came, where a column is one event
abbrev pub names_drawn : Sheet → Note → Bool
names_drawn sheet note = nat_lt note.unit 32 && is_drawn sheet note.unit

abbrev pub text_of : Note → List ℕ
text_of note = note.text.now

abbrev pub lines_seen : Sheet → List (List ℕ)
lines_seen sheet = if sheet.window.per == 1 then map text_of (filter (names_drawn sheet) sheet.notes.now) else []

-- ALL THAT IS TOLD: these lines and rows, the caption twice, and each letter
abbrev pub with_all : Sheet → List (List ℕ) → List Request → Drawn → Drawn
with_all sheet lines rows d = record d {
  told = d.told ++ lines;
  captions = (d.captions ++ caption_of sheet ∷ []) ++ caption_of sheet ∷ [];
  rows = d.rows ++ rows;
  legend = d.legend ++ explained;
}

-- A TEXT IS A PICTURE OF A SHEET: it is written of pieces whose elements nest and have all ended, with all that has to be told. Each
-- line that names a drive which is drawn stands in just one tooltip: of whichever lines, as many are told as there are.
pub record IsPicture (sheet : Sheet) (text : List ℕ) : Type 0 where
  pub lines : List (List ℕ)
  pub written : IsWritten (record {
    within = [];
    broken = false;
    told = lines;
    captions = caption_of sheet ∷ caption_of sheet ∷ [];
    rows = listed sheet (is_few (shown_count sheet));
    legend = explained;
  }) text
  pub once : (which : List ℕ → Bool) → count_by which lines ≡ count_by which (lines_seen sheet)
