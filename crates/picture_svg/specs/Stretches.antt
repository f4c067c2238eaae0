-- STRETCHES: columns side by side of which the same is drawn.
use Rattle.std.specs.Prelude.{◌≡◌, ℕ, ◌-◌, ◌<◌, ◌==◌, Bool, true, not, ◌||◌, List, get_or}
use Rattle.std.specs.List.{list_all}
use Rattle.drive_pictures.specs.declared.cells.Cell.{Cell}
use Rattle.drive_pictures.specs.declared.letters.Letter.{Letter}
use Rattle.drive_pictures.specs.Letters.{all_letters}
use Rattle.run_picture.specs.declared.columns.Column.{Column}
use Rattle.run_picture.specs.Fold.{drive_at}
use Rattle.run_plan.specs.Lanes.{letter_at}
use Rattle.run_plan.specs.Letters.{count_of}
use Rattle.picture_svg.specs.Holders.{is_on, held_by}
use Rattle.picture_svg.specs.Scales.{column_at}
use Rattle.picture_svg.specs.declared.scene.Lane.{Lane}
use Rattle.picture_svg.specs.declared.scene.Scene.{Scene}
use Rattle.picture_svg.specs.declared.stretches.Track.{Track}
use Rattle.picture_svg.specs.declared.stretches.Track.TheVariants as track

abbrev pub seen_in : Column → ℕ → Cell
seen_in column unit = (drive_at column.drives unit).cell

-- in both columns a drive holds the adapter equally often, or is one of another; and a letter stands equally often
abbrev pub is_held_alike : Column → Column → ℕ → Lane → Bool
is_held_alike c d adapter lane = not (is_on adapter lane) || held_by c lane == held_by d lane

abbrev pub is_done_alike : Column → Column → ℕ → Letter → Bool
is_done_alike c d unit letter = count_of (seen_in c unit).tally c.head.events letter == count_of (seen_in d unit).tally d.head.events letter

-- OF BOTH COLUMNS THE SAME IS DRAWN on a track
abbrev pub AreAlike : List Lane → Track → Column → Column → Type 0
AreAlike lanes track.Script c d = c.head.line ≡ d.head.line
AreAlike lanes (track.Held adapter) c d = list_all (is_held_alike c d adapter) lanes ≡ true
AreAlike lanes (track.Positioning adapter) c d = get_or c.head.together adapter 0 ≡ get_or d.head.together adapter 0
AreAlike lanes (track.Waiting unit most) c d = (seen_in c unit).waiting ≡ (seen_in d unit).waiting
AreAlike lanes (track.Offline unit) c d = (seen_in c unit).offline ≡ (seen_in d unit).offline
AreAlike lanes (track.Locked unit) c d = (seen_in c unit).locked ≡ (seen_in d unit).locked
AreAlike lanes (track.Letters unit) c d = (c.head.events ≡ d.head.events) × (list_all (is_done_alike c d unit) all_letters ≡ true)
AreAlike lanes (track.Lead unit) c d = letter_at unit c ≡ letter_at unit d

-- each column from one up to another, except the first, is as the column before it
pub record IsStretch (scene : Scene) (track : Track) (from to : ℕ) : Type 0 where
  pub same : (column : ℕ) → from < column → column < to
      → AreAlike scene.lanes.now track (column_at scene.sheet.now.run.now.columns (column - 1)) (column_at scene.sheet.now.run.now.columns column)
