-- THE COLUMNS OF A PICTURE: equally many events each, from the first that is shown.
use Rattle.std.specs.Prelude.{ℕ, ◌-◌, ◌/◌, ◌==◌, min, max, if◌then◌else◌, List, length, codes}
use Rattle.run_picture.specs.Fold.{drive_at}
use Rattle.run_plan.specs.declared.sheet.Sheet.{Sheet}
use Rattle.drive_pictures.specs.Words.{kind_word}

-- what stands above a run whose script has no caption
unfoldable pub no_caption : List ℕ
no_caption = codes "A run of hpsim"

abbrev pub title_of : Sheet → List ℕ
title_of sheet = if length sheet.caption.now == 0 then no_caption else sheet.caption.now

-- the column of an event, at most the one behind the last
abbrev pub column_of : Sheet → ℕ → ℕ
column_of sheet event = min ((event - sheet.window.first) / max sheet.window.per 1) (length sheet.run.now.columns)

-- where an arm is before the first column
abbrev pub arm_before : Sheet → ℕ → ℕ
arm_before sheet unit = (drive_at sheet.run.now.start unit).arm.cylinder

-- the word of a drive's kind
abbrev pub kind_of : Sheet → ℕ → List ℕ
kind_of sheet unit = kind_word (drive_at sheet.run.now.drives unit).kind
