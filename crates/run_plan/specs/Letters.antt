-- THE LETTERS OF A DRIVE IN A COLUMN.
use Rattle.std.specs.Prelude.{ℕ, ◌-◌, nat_le, if◌then◌else◌, List, [], ◌∷◌, drop, fold, slice_index}
use Rattle.drive_pictures.specs.declared.cells.Tally.{Tally}
use Rattle.drive_pictures.specs.declared.letters.Letter.{Letter}
use Rattle.drive_pictures.specs.declared.letters.Letter.TheVariants as letter
use Rattle.drive_pictures.specs.Counts.{plus}
use Rattle.drive_pictures.specs.Letters.{all_letters, number_of}

-- behind how many events a letter stands that is not idle, and some letters
abbrev pub at : Tally → Letter → ℕ
at t l = slice_index t.counts (number_of l)

abbrev pub standing : Tally → List Letter → ℕ
standing t letters = fold (λ n l. plus n (at t l)) 0 letters

-- the events behind which it holds its adapter
abbrev pub holding : Tally → ℕ
holding t = standing t (letter.Moves ∷ letter.Retries ∷ letter.Replaces ∷ letter.Moved ∷ [])

-- the events behind which it does anything but rest
abbrev pub busy : Tally → ℕ
busy t = standing t (drop 1 all_letters)

-- BEHIND HOW MANY of a column's events a letter stands
abbrev pub count_of : Tally → ℕ → Letter → ℕ
count_of t events letter.Idle = events - busy t
count_of t events l = at t l

-- THE LETTER THAT LEADS A COLUMN: of two the one of more events, of as many the second; and so of all, in their order
unfoldable pub oftener : Tally → ℕ → Letter → Letter → Letter
oftener t events l other = if nat_le (count_of t events l) (count_of t events other) then other else l

unfoldable pub lead_of : Tally → ℕ → Letter
lead_of t events = fold (oftener t events) letter.Idle all_letters
