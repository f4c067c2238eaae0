-- Which requests a script asks for.
use Rattle.std.specs.Prelude.{ℕ, ◌+◌, ◌==◌, ◌&&◌, ◌||◌, nat_le, Bool, true, false, List}
use Rattle.std.specs.List.{list_any}
use Rattle.script_lines.specs.declared.statement.Line.{Line}
use Rattle.script_lines.specs.declared.statement.Request.{Request}
use Rattle.script_lines.specs.declared.statement.Statement.{Statement}
use Rattle.script_lines.specs.declared.statement.Statement.TheVariants as says
use Rattle.trace_reader.specs.declared.line.TraceLine.{TraceLine}
use Rattle.trace_reader.specs.declared.line.TraceLine.TheVariants.{Deed, Idle}
use Rattle.trace_reader.specs.Lines.{line_number}

-- it is the request of an id at a unit
abbrev pub is_of : ℕ → ℕ → Request → Bool
is_of u id request = request.unit == u && request.id == id

-- a statement asks for that
abbrev pub asks : {D N : Type 0} → ℕ → ℕ → Statement D N → Bool
asks u id (says.Read request) = is_of u id request
asks u id (says.Write request content) = is_of u id request
asks u id statement = false

-- a line of a script up to number `line` asks for it
abbrev pub is_asked : {D N : Type 0} → List (Line D N) → ℕ → ℕ → ℕ → Bool
is_asked lines line u id = list_any (λ asked. asks u id asked.statement && nat_le asked.number line) lines

-- what a line of a trace names stands in the script
abbrev pub names_asked : {D N : Type 0} → List (Line D N) → TraceLine → Bool
names_asked lines (Deed line u id t) = is_asked lines line u id
names_asked lines (Idle line) = true

-- A LINE OF THE SCRIPT'S RUN has the number of one of its `count` lines or of the last drain, and names a request that was asked
-- for. An empty script is as good as none: of that any line may be.
abbrev pub is_of_script : {D N : Type 0} → List (Line D N) → ℕ → TraceLine → Bool
is_of_script lines count line = count == 0 || (nat_le (line_number line) (count + 1) && names_asked lines line)
