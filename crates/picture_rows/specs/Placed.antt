-- What wrong bodies would turn round, or count at another adapter or not at all, refused by the words of places, holders and letters.
use Rattle.std.specs.Prelude.{◌≡◌, ℕ, ◌+◌, ◌*◌, ◌/◌, ◌^◌, ◌<◌, ◌≤◌, [], ◌∷◌, fold}
use Rattle.drive_pictures.specs.declared.cells.Tally.{Tally}
use Rattle.drive_pictures.specs.Letters.{all_letters}
use Rattle.run_picture.specs.declared.columns.Column.{Column}
use Rattle.run_picture.specs.declared.columns.Window.{Window}
use Rattle.run_picture.specs.Columns.{edge_of}
use Rattle.run_plan.specs.Letters.{count_of}
use Rattle.picture_svg.specs.declared.scene.Frame.{Frame}
use Rattle.picture_svg.specs.declared.scene.Lane.{Lane}
use Rattle.picture_svg.specs.Holders.{held, held_by}
use Rattle.picture_svg.specs.Scales.{place_of, level_of}

-- a later column begins at an earlier event
abbrev pub ScaleTurnedRound : Type 0
ScaleTurnedRound = (window : Window) (column later : ℕ) → column ≤ later → ¬ (edge_of window later < edge_of window column)

-- and it stands further to the left
abbrev pub ColumnsTurnedRound : Type 0
ColumnsTurnedRound = (frame : Frame) (column later : ℕ) → column ≤ later → ¬ (place_of frame later < place_of frame column)

-- a higher cylinder stands lower
abbrev pub CylindersTurnedRound : Type 0
CylindersTurnedRound = (chart scale y cylinder higher : ℕ) → cylinder ≤ higher → ¬ (level_of chart scale y cylinder < level_of chart scale y higher)

-- cylinder 0 stands off the lower bound of a chart
abbrev pub BottomOffItsBound : Type 0
BottomOffItsBound = (chart scale y : ℕ) → ¬ (level_of chart scale y 0 < y + chart)

-- and the highest one off the upper bound
abbrev pub TopOffItsBound : Type 0
TopOffItsBound = (chart scale y : ℕ) → 0 < scale → chart * scale < 2 ^ 64 → ¬ (y < level_of chart scale y scale)

-- the letters of a column stand behind fewer events than it has
abbrev pub EventsLeftOut : Type 0
EventsLeftOut = (t : Tally) (events : ℕ) → ¬ (fold (λ sum letter. sum + count_of t events letter) 0 all_letters < events)

-- a drive that holds its adapter is counted at another
abbrev pub HeldAtAnotherAdapter : Type 0
HeldAtAnotherAdapter = (column : Column) (lane : Lane) (adapter : ℕ) → ¬ (lane.unit / 8 ≡ adapter) → 0 < held_by column lane
    → ¬ (held column (lane ∷ []) adapter ≡ held_by column lane)
