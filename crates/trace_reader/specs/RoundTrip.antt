-- Traces that are written are read as what was told, and what is read is written again as the same bytes.
use Rattle.std.specs.Prelude.{◌≡◌, ℕ, ◌≤◌, ◌==◌, if◌then◌else◌, List, [], ◌∷◌, ◌++◌, length}
use Rattle.std.specs.List.{flat_map}
use Rattle.script_reader.specs.Stored.{Stored}
use Rattle.trace_lines.specs.declared.telling.Told.{Told}
use Rattle.trace_lines.specs.declared.telling.Told.TheVariants as told
use Rattle.trace_reader.specs.declared.line.TraceLine.{TraceLine}
use Rattle.trace_reader.specs.declared.line.TraceLine.TheVariants as lines
use Rattle.trace_reader.specs.Grammar.{MayStand, Spells}
use Rattle.trace_reader.specs.Lines.{IsLine, line_text}
use Rattle.trace_replay.specs.Moments.{Deed, Search, Seek, Recal, Offset, Centre, Clear, Pack, Transfer, Arrive, Sector, Intr, Try, Attn, End, Moment, Played, Told as Said, Idle}
use Rattle.trace_replay.specs.Text.{trace_text}

-- what a line says of a deed: all but the answer of an end
abbrev pub told_of : Deed → Told
told_of (Search cylinder sector) = told.Search cylinder sector
told_of (Seek cylinder) = told.Seek cylinder
told_of Recal = told.Recal
told_of (Offset code) = told.Offset code
told_of Centre = told.Centre
told_of Clear = told.Clear
told_of Pack = told.Pack
told_of (Transfer write block count) = told.Transfer write block count
told_of Arrive = told.Arrive
told_of (Sector block verdict) = told.Sector block verdict
told_of Intr = told.Intr
told_of (Try block failures) = told.Try block failures
told_of Attn = told.Attn
told_of (End answer) = told.End

-- the lines that a run tells; a line of the script that is played is none
abbrev pub lines_told : List Moment → List TraceLine
lines_told [] = []
lines_told (Played line input ∷ ms) = lines_told ms
lines_told (Said line unit_number id deed ∷ ms) = lines.Deed line unit_number id (told_of deed) ∷ lines_told ms
lines_told (Idle line ∷ ms) = lines.Idle line ∷ lines_told ms

-- lines are of a run of the script, behind others: each number is in its range, and each may stand where it does
abbrev pub AreOfRun : Stored → List TraceLine → List TraceLine → Type 0
AreOfRun script before [] = Unit {0}
AreOfRun script before (line ∷ lines) = IsLine line × MayStand script before line × AreOfRun script (before ++ line ∷ []) lines

-- THE TEXT OF A RUN is read as what it tells.
abbrev pub ReadsAsTold : Type 0
ReadsAsTold = (script : Stored) (ms : List Moment) → AreOfRun script [] (lines_told ms) → length (trace_text ms) ≤ 268435456
    → Spells script (trace_text ms) (lines_told ms)

-- bytes, with LF behind a last line that stands without it
abbrev pub closed : List ℕ → List ℕ
closed [] = []
closed (b ∷ []) = if b == 10 then b ∷ [] else b ∷ 10 ∷ []
closed (b ∷ c ∷ cs) = b ∷ closed (c ∷ cs)

-- WHAT IS READ is written again as the same bytes.
abbrev pub WritesAsRead : Type 0
WritesAsRead = (script : Stored) (bytes : List ℕ) (lines : List TraceLine) → Spells script bytes lines → flat_map line_text lines ≡ closed bytes

-- AND SO what is read is of a run of the script.
abbrev pub ReadsOfRun : Type 0
ReadsOfRun = (script : Stored) (bytes : List ℕ) (lines : List TraceLine) → Spells script bytes lines → AreOfRun script [] lines
