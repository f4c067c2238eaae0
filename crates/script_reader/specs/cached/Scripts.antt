-- SCRIPTS OF THE CACHE, which one grammar spells with all others: what their lines say of blocks alone.
use Rattle.std.specs.Prelude.{◌≡◌, ℕ, List, map}
use Rattle.partitions.specs.declared.Part.TheVariants.{C}
use Rattle.script_lines.specs.declared.dialect.Dialect.TheVariants.{Cached}
use Rattle.script_lines.specs.declared.kinds.ScriptKind.{ScriptKind}
use Rattle.script_lines.specs.declared.statement.Content.TheVariants as contents
use Rattle.script_lines.specs.declared.statement.Line.{Line as AnyLine}
use Rattle.script_lines.specs.declared.statement.Request.{Request}
use Rattle.script_lines.specs.declared.statement.Statement.{Statement as AnyStatement}
use Rattle.script_lines.specs.declared.statement.Statement.TheVariants as any
use Rattle.script_lines.specs.Known.{Known, Said, Numbered}
use Rattle.script_lines.specs.Known as any_known
use Rattle.script_reader.specs.Grammar as grammar
use Rattle.script_reader.specs.declared.cached.kind.CachedRefusal.{CachedRefusal}
use Rattle.script_reader.specs.declared.cached.kind.CachedRefusal.TheVariants.{Memory, Refused}
use Rattle.script_reader.specs.declared.cached.statement.Asked.{Asked}
use Rattle.script_reader.specs.declared.cached.statement.Statement.{Statement}
use Rattle.script_reader.specs.declared.cached.statement.Statement.TheVariants as says
use Rattle.script_reader.specs.declared.cached.statement.Line.{Line}
use Rattle.script_reader.specs.cached.Kinds.{kind_of}

-- ---- THE SAME of any script: whole blocks of partition `c`
abbrev pub whole_blocks : Asked → Request
whole_blocks a = record { id = a.id; unit = a.unit; part = C; block = a.block; count = a.count; offset = 0; last = 512 }

abbrev pub as_said : Statement → Said
as_said (says.Unit unit kind) = any.Unit unit kind
as_said (says.Read a) = any.Read (whole_blocks a)
as_said (says.Write a fill) = any.Write (whole_blocks a) (contents.Fill fill)
as_said says.Sync = any.Drain

abbrev pub as_line : Line → Numbered
as_line line = record { number = line.number; statement = as_said line.statement }

abbrev pub IsOfCache : Said → Type 0
IsOfCache statement = (narrow : Statement) × (statement ≡ as_said narrow)

-- ---- and back, as it is stored
abbrev pub asked_of : Request → Asked
asked_of r = record { id = r.id; unit = r.unit; block = r.block; count = r.count }

abbrev pub narrowed : {D N : Type 0} → AnyStatement D N → Statement
narrowed (any.Unit unit kind) = says.Unit unit kind
narrowed (any.Read r) = says.Read (asked_of r)
narrowed (any.Write r (contents.Fill b)) = says.Write (asked_of r) b
narrowed statement = says.Sync

abbrev pub narrowed_line : {D N : Type 0} → AnyLine D N → Line
narrowed_line line = record { number = line.number; statement = narrowed line.statement }

-- ---- WHOLE TEXTS
abbrev pub known_of : List Line → Known
known_of lines = any_known.known_of (map as_line lines)

-- bytes spell these lines, and the number of all lines is `count`, those that are passed over among them
abbrev pub Spells : List ℕ → List Line → ℕ → Type 0
Spells bytes lines count = grammar.Spells Cached bytes (map as_line lines) count

-- bytes spell no script: they are too many, or there is a first faulty line
abbrev pub IsRefused : List ℕ → ℕ → ScriptKind → Type 0
IsRefused bytes number kind = grammar.IsRefused Cached bytes number kind

-- a refusal says which line is the first faulty one, or that there was no memory
abbrev pub Refuses : CachedRefusal → List ℕ → Type 0
Refuses Memory bytes = Unit {0}
Refuses (Refused line kind) bytes = IsRefused bytes line (kind_of kind)

-- A SCRIPT: its lines, and how many lines there are in all; some bytes spell them
pub record Script : Type 0 where
  pub lines : List Line
  pub count : ℕ

pub record IsSpelled (s : Script) : Type 0 where
  pub bytes : List ℕ
  pub spells : Spells bytes s.lines s.count
