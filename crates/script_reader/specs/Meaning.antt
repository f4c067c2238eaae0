-- What a script that was read means: the lines that a trace is legal for.
use Rattle.std.specs.Prelude.{ℕ, zero, suc, ◌+◌, ◌-◌, ◌*◌, ◌/◌, ◌%◌, true, false, List, [], ◌∷◌, map, take, replicate, Option, None, Some, Result, Ok, Err}
use Rattle.hex.specs.Hex.{decode_sized}
use Rattle.hex.specs.declared.error.FromHexError.{FromHexError}
use Rattle.script_lines.specs.declared.statement.Content.{Content}
use Rattle.script_lines.specs.declared.statement.Content.TheVariants as contents
use Rattle.script_lines.specs.declared.statement.Request.{Request as Asked}
use Rattle.script_lines.specs.declared.statement.Statement.TheVariants as says
use Rattle.script_lines.specs.Known.{Said, Numbered}
use Rattle.script_reader.specs.Stored.{Stored, lines_in}
use Rattle.trace_replay.specs.requests.Requests.{Request}
use Rattle.script_lines.specs.Script.{Submit, ArriveAt, MoveAt, AttendTo, Drain, Turn, Noise, Arm, SetOnline, SetLocked, Statement, Declares, Plays, Line, Script}

-- WHAT A WRITE WRITES. So many bytes of a sequence from number `i` on: byte t of block j is the sum of `first`, j and t, modulo 256
abbrev pub sequence_from : ℕ → ℕ → ℕ → List ℕ
sequence_from first i zero = []
sequence_from first i (suc size) = (first + i / 512 + i % 512) % 256 ∷ sequence_from first (i + 1) size

-- the bytes that digits say, where they say any
abbrev pub bytes_said : Result (List ℕ) FromHexError → List ℕ
bytes_said (Ok bytes) = bytes
bytes_said (Err fault) = []

-- so many bytes: one byte again and again, a sequence, or two digits for each
abbrev pub bytes_of : Content (List ℕ) → ℕ → List ℕ
bytes_of (contents.Fill b) size = replicate size b
bytes_of (contents.Seq n) size = sequence_from n 0 size
bytes_of (contents.Hex digits) size = bytes_said (decode_sized digits size)

-- how many bytes a request has: its blocks whole, but for the last one
abbrev pub size_of : Asked → ℕ
size_of r = 512 * (r.count - 1) + r.last

-- A content speaks of whole blocks; a write has as many of its bytes as it asks for.
abbrev pub written_of : Asked → Content (List ℕ) → List ℕ
written_of r content = take (size_of r) (bytes_of content (512 * r.count))

-- WHAT A LINE MEANS. A request, with the bytes of a write
abbrev pub request_of : Asked → Option (List ℕ) → Request
request_of r written = record {
  id = r.id;
  unit = r.unit;
  part = r.part;
  block = r.block;
  count = r.count;
  last = r.last;
  offset = r.offset;
  written = written;
}

-- a `unit` line declares a drive, and any other is played
abbrev pub statement_of : Said → Statement
statement_of (says.Unit u kind) = Declares u kind
statement_of (says.Read r) = Plays (Submit (request_of r None))
statement_of (says.Write r content) = Plays (Submit (request_of r (Some (written_of r content))))
statement_of (says.Arrive u) = Plays (ArriveAt u)
statement_of (says.Turn u sector) = Plays (Turn u sector)
statement_of (says.Move adapter) = Plays (MoveAt adapter)
statement_of (says.Attend adapter) = Plays (AttendTo adapter)
statement_of (says.Noise u block span places) = Plays (Noise (record { unit = u; block = block; span = span; places = places }))
statement_of (says.Fault u what times) = Plays (Arm u what times)
statement_of (says.Offline u) = Plays (SetOnline u false)
statement_of (says.Online u) = Plays (SetOnline u true)
statement_of (says.Lock u) = Plays (SetLocked u true)
statement_of (says.Unlock u) = Plays (SetLocked u false)
statement_of says.Drain = Plays Drain

-- a line keeps its number
abbrev pub line_of : Numbered → Line
line_of line = record { number = line.number; statement = statement_of line.statement }

-- WHAT A SCRIPT MEANS: each line that says something, and how many lines there are in all.
abbrev pub meaning : List Numbered → ℕ → Script
meaning lines count = record { lines = map line_of lines; count = count }

-- the same of a script as the reader gives it
abbrev pub meaning_of : Stored → Script
meaning_of script = meaning (lines_in script) script.count
