-- The deed that a line of the trace tells.
use Rattle.std.specs.Prelude.{ℕ, List, ◌++◌}
use Rattle.trace_lines.specs.declared.telling.Told.{Told}
use Rattle.trace_lines.specs.declared.telling.Told.TheVariants as told
use Rattle.trace_replay.specs.Moments.{Deed, Search, Seek, Recal, Offset, Centre, Clear, Pack, Transfer, Arrive, Sector, Intr, Try, Attn, End}
use Rattle.trace_replay.specs.requests.Requests.{Answer}
use Rattle.trace_replay.specs.Text.{spaced}

-- the deed; an end makes this answer, which its line does not say
abbrev pub deed_of : Answer → Told → Deed
deed_of answer (told.Search cylinder sector) = Search cylinder sector
deed_of answer (told.Seek cylinder) = Seek cylinder
deed_of answer told.Recal = Recal
deed_of answer (told.Offset code) = Offset code
deed_of answer told.Centre = Centre
deed_of answer told.Clear = Clear
deed_of answer told.Pack = Pack
deed_of answer (told.Transfer write block count) = Transfer write block count
deed_of answer told.Arrive = Arrive
deed_of answer (told.Sector block verdict) = Sector block verdict
deed_of answer told.Intr = Intr
deed_of answer (told.Try block failures) = Try block failures
deed_of answer told.Attn = Attn
deed_of answer told.End = End answer

-- words in front of a text
unfoldable pub in_front : List (List ℕ) → List ℕ → List ℕ
in_front words text = spaced words ++ text
