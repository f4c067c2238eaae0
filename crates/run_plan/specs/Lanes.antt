-- WHAT A LANE TELLS OF A DRIVE.
use Rattle.std.specs.Prelude.{ℕ, List, map}
use Rattle.drive_pictures.specs.declared.letters.Letter.{Letter}
use Rattle.run_picture.specs.declared.columns.Column.{Column}
use Rattle.run_picture.specs.Fold.{drive_at}
use Rattle.run_plan.specs.declared.sheet.Sheet.{Sheet}
use Rattle.run_plan.specs.Letters.{lead_of}
use Rattle.run_plan.specs.Window.{kind_of}
use Rattle.run_plan.specs.declared.lanes.Lane.{Lane}
use Rattle.run_plan.specs.declared.lanes.Point.{Point}
use Rattle.run_plan.specs.Bars.{Lettered, numbered, columns_of}

-- in a column: the letter of most of its events, and where the arm was and how many requests waited
abbrev pub letter_at : ℕ → Column → Letter
letter_at unit column = lead_of (drive_at column.drives unit).cell.tally column.head.events

abbrev pub point_at : ℕ → Column → Point
point_at unit column = record { cylinder = (drive_at column.drives unit).cell.cylinder; waiting = (drive_at column.drives unit).cell.waiting }

-- a drive: its unit and kind; its columns in order, each once, with its letter; its points; and how far its arm moved
pub record Told : Type 0 where
  pub of_unit : ℕ
  pub kind : List ℕ
  pub columns : List Lettered
  pub points : List Point
  pub travel : ℕ
  pub as_asked : ℕ

abbrev pub told : Lane → Told
told lane = record {
  of_unit = lane.unit;
  kind = lane.kind.now;
  columns = columns_of lane.bars.items;
  points = lane.points.items;
  travel = lane.travel;
  as_asked = lane.as_asked;
}

-- THE DRIVE OF A UNIT as a run has it
abbrev pub lane_in : Sheet → ℕ → Told
lane_in sheet unit = record {
  of_unit = unit;
  kind = kind_of sheet unit;
  columns = numbered 0 (map (letter_at unit) sheet.run.now.columns);
  points = map (point_at unit) sheet.run.now.columns;
  travel = (drive_at sheet.run.now.drives unit).arm.travel;
  as_asked = (drive_at sheet.run.now.drives unit).queue.as_asked;
}
