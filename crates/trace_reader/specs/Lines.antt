-- What a line of a trace says: its text, and the ranges of its numbers.
use Rattle.std.specs.Prelude.{ℕ, ◌≤◌, List}
use Rattle.hardware_table.specs.declared.Moved.{Moved}
use Rattle.hardware_table.specs.declared.Moved.TheVariants.{Burst}
use Rattle.trace_replay.specs.requests.Requests.{Answer, WriteOk}
use Rattle.trace_lines.specs.declared.telling.Told.{Told}
use Rattle.trace_lines.specs.declared.telling.Told.TheVariants as told
use Rattle.trace_lines.specs.Deeds.{deed_of}
use Rattle.trace_reader.specs.declared.line.TraceLine.{TraceLine}
use Rattle.trace_reader.specs.declared.line.TraceLine.TheVariants.{Deed, Idle}
use Rattle.trace_replay.specs.Moments.{Moment}
use Rattle.trace_replay.specs.Moments as moments
use Rattle.trace_replay.specs.Text.{moment_text}

-- the moment that it tells of; an end makes this answer, which its line does not say
abbrev pub moment_of : Answer → TraceLine → Moment
moment_of answer (Deed line unit_number id t) = moments.Told line unit_number id (deed_of answer t)
moment_of answer (Idle line) = moments.Idle line

-- its text, with LF behind it
abbrev pub line_text : TraceLine → List ℕ
line_text line = moment_text (moment_of WriteOk line)

-- the number of the script's line
abbrev pub line_number : TraceLine → ℕ
line_number (Deed line unit_number id t) = line
line_number (Idle line) = line

-- a number from one to another
abbrev pub IsFrom : ℕ → ℕ → ℕ → Type 0
IsFrom low high n = (low ≤ n) × (n ≤ high)

-- a block of the largest pack
abbrev pub IsBlock : ℕ → Type 0
IsBlock block = block ≤ 500383

-- a burst has its first place in the sector with its code, and a pattern of at most 11 places
abbrev pub IsVerdict : Moved → Type 0
IsVerdict (Burst at pattern) = IsFrom 1 4128 at × IsFrom 1 2047 pattern
IsVerdict verdict = Unit {0}

-- THE RANGES of the numbers of a line. Cylinders, sectors and blocks are those of the largest drives; a request has at most 127
-- blocks, and a block fails at most 28 times.
abbrev pub IsTold : Told → Type 0
IsTold (told.Search cylinder sector) = (cylinder ≤ 822) × (sector ≤ 31)
IsTold (told.Seek cylinder) = cylinder ≤ 822
IsTold (told.Transfer write block count) = IsBlock block × IsFrom 1 127 count
IsTold (told.Sector block verdict) = IsBlock block × IsVerdict verdict
IsTold (told.Try block failures) = IsBlock block × IsFrom 1 28 failures
IsTold t = Unit {0}

-- a script has at most 1,000,000 lines, and the last drain comes behind them
abbrev pub IsLine : TraceLine → Type 0
IsLine (Deed line unit_number id t) = IsFrom 1 1000001 line × (unit_number ≤ 31) × (id ≤ 4294967295) × IsTold t
IsLine (Idle line) = IsFrom 1 1000001 line
