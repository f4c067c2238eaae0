-- What a script of the cache means: the lines that the driver's rules speak of. A request is for whole blocks of partition `c`, and a sync
-- is a drain, at which no request is outstanding.
use Rattle.std.specs.Prelude.{ℕ, ◌*◌, List, map, take, replicate, Option, None, Some}
use Rattle.partitions.specs.declared.Part.TheVariants.{C}
use Rattle.trace_replay.specs.requests.Requests.{Request}
use Rattle.script_lines.specs.Script.{Submit, Drain, Statement, Declares, Plays, Line, Script}
use Rattle.script_reader.specs.declared.cached.statement.Asked.{Asked}
use Rattle.script_reader.specs.declared.cached.statement.Statement.{Statement as Said}
use Rattle.script_reader.specs.declared.cached.statement.Statement.TheVariants as says
use Rattle.script_reader.specs.declared.cached.statement.Line.{Line as Numbered}
use Rattle.script_reader.specs.cached.Scripts as cached

-- so many blocks all of whose bytes are one
unfoldable pub filled : (count byte : ℕ) → List ℕ
filled count byte = replicate (512 * count) byte

-- and one such block
unfoldable pub one_filled : (byte : ℕ) → List ℕ
one_filled byte = replicate 512 byte

abbrev pub request_of : Asked → Option (List ℕ) → Request
request_of a written = record { id = a.id; unit = a.unit; part = C; block = a.block; count = a.count; last = 512; offset = 0; written = written }

abbrev pub statement_of : Said → Statement
statement_of (says.Unit unit kind) = Declares unit kind
statement_of (says.Read a) = Plays (Submit (request_of a None))
statement_of (says.Write a fill) = Plays (Submit (request_of a (Some (filled a.count fill))))
statement_of says.Sync = Plays Drain

abbrev pub line_of : Numbered → Line
line_of line = record { number = line.number; statement = statement_of line.statement }

abbrev pub meaning_of : cached.Script → Script
meaning_of s = record { lines = map line_of s.lines; count = s.count }

-- the lines before one, as they are meant
abbrev pub lines_before : cached.Script → ℕ → List Line
lines_before s i = map line_of (take i s.lines)
