-- What wrong bodies would leave open in a drawing, or tell of another drive, never or twice, refused by the words of elements and lines.
use Rattle.std.specs.Prelude.{◌≡◌, ℕ, ◌<◌, [], ◌∷◌, length}
use Rattle.run_picture.specs.declared.columns.Note.{Note}
use Rattle.run_plan.specs.declared.sheet.Sheet.{Sheet}
use Rattle.run_plan.specs.Notes.{lines_of, lines_shown}
use Rattle.picture_svg.specs.declared.pieces.Element.TheVariants.{Group, Text, Title}
use Rattle.picture_svg.specs.declared.scene.Lane.{Lane}
use Rattle.picture_svg.specs.Nesting.{Drawn, started, ended, told}
use Rattle.picture_svg.specs.Pictures.{lines_of_lane}

-- a group does not end where it should
abbrev pub GroupLeftOpen : Type 0
GroupLeftOpen = (d : Drawn) → ¬ (started Group d ≡ ended Group (started Group d))

-- the tooltip of letters ends, and their group does not
abbrev pub LettersLeftOpen : Type 0
LettersLeftOpen = (d : Drawn) → ¬ (ended Title (started Title (started Group d)) ≡ d)

-- the words of a line of the script begin, and do not end
abbrev pub ScriptLineLeftOpen : Type 0
ScriptLineLeftOpen = (d : Drawn) → ¬ (started Text d ≡ d)

-- with the marks of a drive a line is told that names another
abbrev pub MarksOfAnotherUnit : Type 0
MarksOfAnotherUnit = (sheet : Sheet) (note : Note) (unit : ℕ) (d : Drawn) → sheet.window.per ≡ 1 → sheet.notes.now ≡ note ∷ [] → ¬ (note.unit ≡ unit)
    → ¬ (told (lines_shown sheet note.unit) d ≡ told (lines_shown sheet unit) d)

-- of two events each tells the lines behind its own: the one line is that of the first, and is told in neither
abbrev pub LinesDropped : Type 0
LinesDropped = (note : Note) (d : Drawn) → ¬ (told (lines_of note.unit []) (told (lines_of note.unit []) d) ≡ told (lines_of note.unit (note ∷ [])) d)

-- a drive of which lines are told is drawn, and drawn again
abbrev pub DriveDrawnTwice : Type 0
DriveDrawnTwice = (sheet : Sheet) (lane : Lane) (d : Drawn) → 0 < length (lines_of_lane sheet lane)
    → ¬ (told (lines_of_lane sheet lane) (told (lines_of_lane sheet lane) d) ≡ told (lines_of_lane sheet lane) d)
