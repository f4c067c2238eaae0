-- WHAT IS SEEN OF A DRIVE IN A COLUMN.
use Rattle.std.specs.Prelude.{None, false, replicate, slice_index, slice_set}
use Rattle.drive_pictures.specs.declared.letters.Letter.{Letter}
use Rattle.drive_pictures.specs.declared.marks.Mark.TheVariants.{Blank}
use Rattle.drive_pictures.specs.declared.cells.Tally.{Tally}
use Rattle.drive_pictures.specs.declared.cells.Cell.{Cell}
use Rattle.drive_pictures.specs.Counts.{plus}
use Rattle.drive_pictures.specs.Letters.{number_of}

-- behind how many events each letter stands
abbrev pub new_tally : Tally
new_tally = record { counts = replicate 11 0 }

abbrev pub tallied : Letter → Tally → Tally
tallied l t = record { counts = slice_set t.counts (number_of l) (plus (slice_index t.counts (number_of l)) 1) }

-- of no event
abbrev pub new_cell : Cell
new_cell = record {
  tally = new_tally;
  path = None;
  cylinder = 0;
  waiting = 0;
  mark = Blank;
  signal = Blank;
  code = 0;
  tried = 0;
  offline = false;
  locked = false;
}
