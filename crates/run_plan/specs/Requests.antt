-- THE REQUESTS THAT A PICTURE SHOWS: those that meet its events.
use Rattle.std.specs.Prelude.{ℕ, ◌==◌, nat_le, nat_lt, max, Bool, true, false, not, ◌&&◌, ◌||◌, if◌then◌else◌, List, [], ◌∷◌, ◌++◌, length, fold, count_by, unwrap_or, Option, Some, None}
use Rattle.drive_pictures.specs.declared.arms.Path.{Path}
use Rattle.drive_pictures.specs.declared.requests.Request.{Request}
use Rattle.run_picture.specs.declared.columns.Column.{Column}
use Rattle.run_picture.specs.Fold.{drive_at, events_in}
use Rattle.run_plan.specs.declared.sheet.Sheet.{Sheet}
use Rattle.run_plan.specs.Window.{arm_before}

unfoldable pub is_shown : Sheet → Request → Bool
is_shown sheet r =
    not (length sheet.run.now.columns == 0) && nat_lt r.asked sheet.window.last
    && nat_le sheet.window.first (unwrap_or r.ended (events_in sheet.run.now.before sheet.run.now.event))

abbrev pub shown_count : Sheet → ℕ
shown_count sheet = count_by (is_shown sheet) sheet.run.now.requests

-- LISTED are all, where they are few; else those with trouble, and then others: 256 of them
abbrev pub is_few : ℕ → Bool
is_few count = nat_le count 256

unfoldable pub is_listed : Sheet → Bool → Bool → Request → Bool
is_listed sheet few first r = is_shown sheet r && (if first then few || r.trouble else not (few || r.trouble))

unfoldable pub listed_with : Sheet → Bool → Bool → List Request → Request → List Request
listed_with sheet few first listed r = if is_listed sheet few first r && nat_lt (length listed) 256 then listed ++ r ∷ [] else listed

abbrev pub listed_all : Sheet → Bool → Bool → List Request → List Request
listed_all sheet few first listed = fold (listed_with sheet few first) listed sheet.run.now.requests

abbrev pub listed : Sheet → Bool → List Request
listed sheet few = listed_all sheet few false (listed_all sheet few true [])

-- THE HIGHEST CYLINDER of a unit: of its arm before the columns and in them, and of its requests
abbrev pub highest_in : Option Path → ℕ → ℕ
highest_in None cylinder = cylinder
highest_in (Some path) cylinder = max path.highest cylinder

unfoldable pub with_column : ℕ → ℕ → Column → ℕ
with_column unit top column = max top (highest_in (drive_at column.drives unit).cell.path (drive_at column.drives unit).cell.cylinder)

unfoldable pub with_request : Sheet → ℕ → ℕ → Request → ℕ
with_request sheet unit top r = if r.unit == unit && is_shown sheet r then max top (unwrap_or r.cylinder 0) else top

abbrev pub top_of : Sheet → ℕ → ℕ
top_of sheet unit =
    fold (with_request sheet unit) (fold (with_column unit) (arm_before sheet unit) sheet.run.now.columns) sheet.run.now.requests

-- THE SCALE of the arms of some drives: the highest cylinder of all of them
abbrev pub with_reach : Sheet → ℕ → ℕ → ℕ
with_reach sheet top unit = max top (top_of sheet unit)

abbrev pub scale_of : Sheet → List ℕ → ℕ
scale_of sheet units = fold (with_reach sheet) 0 units
