-- THE LEGEND: its letters, and the name of the pattern of each.
use Rattle.std.specs.Prelude.{ℕ, List, drop, codes}
use Rattle.drive_pictures.specs.declared.letters.Letter.{Letter}
use Rattle.drive_pictures.specs.declared.letters.Letter.TheVariants as letter
use Rattle.drive_pictures.specs.Letters.{all_letters}

abbrev pub pattern_of : Letter → List ℕ
pattern_of letter.Idle = codes "."
pattern_of letter.Seeks = codes "S"
pattern_of letter.Turns = codes "s"
pattern_of letter.Recalibrates = codes "C"
pattern_of letter.Offsets = codes "O"
pattern_of letter.Arrived = codes "a"
pattern_of letter.Ready = codes "w"
pattern_of letter.Moves = codes "m"
pattern_of letter.Retries = codes "T"
pattern_of letter.Replaces = codes "R"
pattern_of letter.Moved = codes "i"

-- the letters of the legend, each once: all but that of an idle drive, which is not drawn
abbrev pub explained : List Letter
explained = drop 1 all_letters
