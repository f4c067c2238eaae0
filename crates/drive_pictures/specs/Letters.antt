-- What the letters of a drive say.
use Rattle.std.specs.Prelude.{ℕ, Bool, true, false, List, [], ◌∷◌}
use Rattle.drive_pictures.specs.declared.letters.Letter.{Letter}
use Rattle.drive_pictures.specs.declared.letters.Letter.TheVariants.{Idle, Seeks, Turns, Recalibrates, Offsets, Arrived, Ready, Moves, Retries, Replaces, Moved}

-- ALL OF THEM, each once, in the order in which a legend says what they mean
abbrev pub all_letters : List Letter
all_letters = Idle ∷ Seeks ∷ Turns ∷ Recalibrates ∷ Offsets ∷ Arrived ∷ Ready ∷ Moves ∷ Retries ∷ Replaces ∷ Moved ∷ []

-- the number of each in that order
abbrev pub number_of : Letter → ℕ
number_of Idle = 0
number_of Seeks = 1
number_of Turns = 2
number_of Recalibrates = 3
number_of Offsets = 4
number_of Arrived = 5
number_of Ready = 6
number_of Moves = 7
number_of Retries = 8
number_of Replaces = 9
number_of Moved = 10

-- a seek, a search, a recalibration or an offset is under way
abbrev pub is_positioning : Letter → Bool
is_positioning Seeks = true
is_positioning Turns = true
is_positioning Recalibrates = true
is_positioning Offsets = true
is_positioning letter = false

-- its sectors move
abbrev pub is_moving : Letter → Bool
is_moving Moves = true
is_moving Retries = true
is_moving Replaces = true
is_moving letter = false
