-- THE LINES OF REQUESTS.
use Rattle.std.specs.Prelude.{ℕ, Bool, true, false, List, [], ◌∷◌, Option, Some, None, fold, codes, decimal}
use Rattle.drive_pictures.specs.declared.requests.Request.{Request}
use Rattle.drive_pictures.specs.Requests.{queued}
use Rattle.drive_pictures.specs.Words.{outcome_word}
use Rattle.run_plan.specs.Fields.{with_line}

-- the names of their fields
unfoldable pub names : List ℕ
names = codes "id\tunit\top\tcylinder\tline\tanswer\tqueued\tway\tready\ttransfer\n"

abbrev pub op_word : Bool → List ℕ
op_word true = codes "write"
op_word false = codes "read"

-- of a request that did not join there is no cylinder
abbrev pub cylinder_text : Option ℕ → List ℕ
cylinder_text None = []
cylinder_text (Some cylinder) = decimal cylinder

unfoldable pub with_row : List ℕ → Request → List ℕ
with_row text r =
    with_line (decimal r.id)
    (decimal r.unit ∷ op_word r.write ∷ cylinder_text r.cylinder ∷ decimal r.line ∷ outcome_word r.outcome ∷ decimal (queued r) ∷ decimal r.times.way
    ∷ decimal r.times.ready ∷ decimal r.times.trans ∷ [])
    text

-- ALL OF THEM, behind the names
abbrev pub requests_of : List Request → List ℕ
requests_of rows = fold with_row names rows
