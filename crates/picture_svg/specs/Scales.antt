-- PLACES: where columns, events and cylinders stand. They rise, and 0 and the top meet their bounds.
use Rattle.std.specs.Prelude.{ℕ, ◌+◌, ◌-◌, ◌*◌, ◌/◌, ◌^◌, ◌==◌, min, max, Bool, true, not, if◌then◌else◌, List, get_or, [], fold, Option, Some, None}
use Rattle.drive_pictures.specs.declared.cells.Cell.{Cell}
use Rattle.run_picture.specs.declared.columns.Column.{Column}
use Rattle.run_picture.specs.Columns.{new_head}
use Rattle.run_picture.specs.Fold.{drive_at}
use Rattle.run_plan.specs.Window.{column_of}
use Rattle.picture_svg.specs.declared.picture.Place.{Place}
use Rattle.picture_svg.specs.declared.scene.Frame.{Frame}
use Rattle.picture_svg.specs.declared.scene.Lane.{Lane}
use Rattle.picture_svg.specs.declared.scene.Scene.{Scene}
use Rattle.picture_svg.specs.declared.scene.Stretch.{Stretch}

-- so many columns, each as wide as there is room, and at most 40
abbrev pub frame_of : ℕ → Frame
frame_of columns = record { count = columns; column = min 40 (864 / max (min columns 1000) 1) }

-- the left edge of a column
abbrev pub place_of : Frame → ℕ → ℕ
place_of frame column = 160 + min (min column 1000 * frame.column) 864

-- their right edge, and the left edge of what stands beside them
unfoldable pub right_of : Frame → ℕ
right_of frame = place_of frame frame.count

unfoldable pub beside_of : Frame → ℕ
beside_of frame = max (right_of frame) 690 + 16

-- where an event stands; how wide a stretch is, and its middle
unfoldable pub event_at : Scene → ℕ → ℕ
event_at scene event = place_of scene.frame (column_of scene.sheet.now event)

unfoldable pub width_of : Scene → Stretch → ℕ
width_of scene stretch = place_of scene.frame stretch.to - place_of scene.frame stretch.from

unfoldable pub middle_of : Scene → Stretch → ℕ
middle_of scene stretch = place_of scene.frame stretch.from + width_of scene stretch / 2

-- the part of a height that some events, or cylinders, are of all
abbrev pub part_of : ℕ → ℕ → ℕ → ℕ
part_of height some all = min (min (height * some) (2 ^ 64 - 1) / max all 1) height

-- where a cylinder stands in a chart so high whose upper edge is y
abbrev pub level_of : ℕ → ℕ → ℕ → ℕ → ℕ
level_of chart scale y cylinder = y + chart - part_of chart cylinder scale

-- a drive stands below its adapter, if the drive before it is of another; the next one stands below it
abbrev pub is_other : Option ℕ → ℕ → Bool
is_other None adapter = true
is_other (Some before) adapter = not (before == adapter)

unfoldable pub top_of : Place → Lane → ℕ
top_of place lane = if is_other place.adapter (lane.unit / 8) then place.y + 50 else place.y

unfoldable pub below_of : Place → Lane → Place
below_of place lane = record { adapter = Some (lane.unit / 8); y = top_of place lane + max (96 + lane.chart) 112 }

unfoldable pub bottom_of : List Lane → ℕ
bottom_of lanes = (fold below_of (record { adapter = None; y = 320 }) lanes).y

-- a column by its number, and what is seen of a drive in it; behind the last column there is no event
abbrev pub no_column : Column
no_column = record { head = new_head; drives = [] }

abbrev pub column_at : List Column → ℕ → Column
column_at columns column = get_or columns column no_column

abbrev pub cell_of : List Column → ℕ → ℕ → Cell
cell_of columns unit column = (drive_at (column_at columns column).drives unit).cell
