-- THE LINES THAT SPEAK OF A DRIVE, as they came.
use Rattle.std.specs.Prelude.{ℕ, ◌==◌, Bool, if◌then◌else◌, List, [], ◌∷◌}
use Rattle.std.specs.List.{flat_map, list_any}
use Rattle.run_picture.specs.declared.columns.Note.{Note}
use Rattle.run_plan.specs.declared.sheet.Sheet.{Sheet}

abbrev pub is_spoken_of : ℕ → List Note → Bool
is_spoken_of unit notes = list_any (λ n. n.unit == unit) notes

-- the text of a line that speaks of a unit; nothing of another
abbrev pub line_of : ℕ → Note → List (List ℕ)
line_of unit note = if note.unit == unit then note.text.now ∷ [] else []

abbrev pub lines_of : ℕ → List Note → List (List ℕ)
lines_of unit notes = flat_map (line_of unit) notes

-- those that the picture tells: where a column is one event
abbrev pub lines_shown : Sheet → ℕ → List (List ℕ)
lines_shown sheet unit = if sheet.window.per == 1 then lines_of unit sheet.notes.now else []
