-- What wrong bodies would draw, refused by the words of columns, windows, letters, requests and texts.
use Rattle.std.specs.Prelude.{◌≡◌, ℕ, ◌-◌, ◌^◌, ◌<◌, ◌≤◌, Bool, true, false, List, [], ◌∷◌, ◌++◌, length}
use Rattle.drive_pictures.specs.declared.cells.Tally.{Tally}
use Rattle.drive_pictures.specs.declared.drives.Drive.{Drive}
use Rattle.drive_pictures.specs.declared.letters.Letter.{Letter}
use Rattle.drive_pictures.specs.declared.requests.Request.{Request}
use Rattle.run_picture.specs.declared.columns.Head.{Head}
use Rattle.run_picture.specs.Columns.{headed, together, window_of}
use Rattle.run_picture.specs.Positioning.{positioning, positions}
use Rattle.run_picture.specs.declared.columns.Note.{Note}
use Rattle.run_plan.specs.declared.sheet.Sheet.{Sheet}
use Rattle.run_plan.specs.Letters.{count_of, oftener}
use Rattle.run_plan.specs.Notes.{lines_of}
use Rattle.run_plan.specs.Requests.{is_shown}
use Rattle.picture_svg.specs.declared.pieces.Element.{Element}
use Rattle.picture_svg.specs.declared.pieces.Element.TheVariants.{Group, Title}
use Rattle.picture_svg.specs.declared.pieces.Point.{Point}
use Rattle.picture_svg.specs.Nesting.{Drawn, started, ended}
use Rattle.picture_svg.specs.Places.{is_low}
use Rattle.picture_svg.specs.Texts.{escaped}

-- a column has one event, another one comes, and it has one
abbrev pub ColumnDropsAnEvent : Type 0
ColumnDropsAnEvent = (line : ℕ) (idle : Bool) (drives : List Drive) (head : Head) → head.events ≡ 1 → ¬ ((headed line idle drives head).events ≡ 1)

-- an event that found nothing to do is not counted
abbrev pub IdleEventLeftOut : Type 0
IdleEventLeftOut = (line : ℕ) (drives : List Drive) (head : Head) → head.events < 2 ^ 64 - 1 → ¬ ((headed line true drives head).events ≡ head.events)

-- an ampersand is written as it is
abbrev pub AmpersandAsItIs : Type 0
AmpersandAsItIs = ¬ (escaped 38 ≡ 38 ∷ [])

-- a point stands 20,000 to the right, and is taken for one of the drawing
abbrev pub CoordinateOf20000 : Type 0
CoordinateOf20000 = (p : Point) → p.x ≡ 20000 → ¬ (is_low p ≡ true)

-- a window begins at the first event, though another was given
abbrev pub WindowFromTheFirstEvent : Type 0
WindowFromTheFirstEvent = (events first last : ℕ) → 0 < events → 0 < first → 0 < last → ¬ ((window_of events first last).first ≡ 0)

-- of two letters of as many events the first leads
abbrev pub LeadOfEqualsTheFirst : Type 0
LeadOfEqualsTheFirst = (t : Tally) (events : ℕ) (letter other : Letter) → count_of t events letter ≡ count_of t events other
    → ¬ (letter ≡ other) → ¬ (oftener t events letter other ≡ letter)

-- a drive of another adapter positions, and is counted at the first
abbrev pub AllAdaptersTakenTogether : Type 0
AllAdaptersTakenTogether = (first others : List Drive) (drive : Drive) → length first ≡ 8 → positions drive ≡ true
    → ¬ (positioning (first ++ drive ∷ others) ≡ together (first ++ drive ∷ others) 0)

-- a request is shown that was asked for at the event behind the last that is shown
abbrev pub RequestBehindTheWindowShown : Type 0
RequestBehindTheWindowShown = (sheet : Sheet) (r : Request) → r.asked ≡ sheet.window.last → ¬ (is_shown sheet r ≡ true)

-- a line that names another drive is told of a drive
abbrev pub LineOfAnotherDrive : Type 0
LineOfAnotherDrive = (unit : ℕ) (note : Note) → ¬ (note.unit ≡ unit) → ¬ (lines_of unit (note ∷ []) ≡ note.text.now ∷ [])

-- a group ends that did not begin, within any element
abbrev pub GroupEndedAroundAnArm : Type 0
GroupEndedAroundAnArm = (e : Element) (d : Drawn) → ¬ (ended Group (started e d) ≡ started e d)

-- a group begins with its tooltip, and this ends twice, before the group does
abbrev pub TooltipEndedTwice : Type 0
TooltipEndedTwice = (d : Drawn) → d.broken ≡ false → ¬ (ended Group (ended Title (ended Title (started Title (started Group d)))) ≡ d)
