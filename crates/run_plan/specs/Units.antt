-- THE DRIVES THAT A PICTURE SHOWS: those that have requests, by their number, where an event is shown.
use Rattle.std.specs.Prelude.{ℕ, zero, suc, ◌==◌, Bool, not, ◌&&◌, if◌then◌else◌, List, [], ◌∷◌, ◌++◌, length}
use Rattle.std.specs.List.{list_any}
use Rattle.drive_pictures.specs.declared.requests.Request.{Request}
use Rattle.run_plan.specs.declared.sheet.Sheet.{Sheet}

abbrev pub has_request : List Request → ℕ → Bool
has_request requests unit = list_any (λ r. r.unit == unit) requests

abbrev pub is_drawn : Sheet → ℕ → Bool
is_drawn sheet unit = not (length sheet.run.now.columns == 0) && has_request sheet.run.now.requests unit

abbrev pub unit_drawn : Sheet → ℕ → List ℕ
unit_drawn sheet unit = if is_drawn sheet unit then unit ∷ [] else []

abbrev pub units_below : ℕ → Sheet → List ℕ
units_below zero sheet = []
units_below (suc n) sheet = units_below n sheet ++ unit_drawn sheet n

abbrev pub units_shown : Sheet → List ℕ
units_shown sheet = units_below 32 sheet
