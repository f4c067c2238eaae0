-- Statements under other names.
use Rattle.std.specs.Prelude.{ℕ, List}
use Rattle.script_lines.specs.declared.statement.Content.{Content}
use Rattle.script_lines.specs.declared.statement.Content.TheVariants as contents
use Rattle.script_lines.specs.declared.statement.Span.{Span}
use Rattle.script_lines.specs.declared.statement.Statement.{Statement}
use Rattle.script_lines.specs.declared.statement.Statement.TheVariants as says
use Rattle.script_lines.specs.Known.{Said}

-- a content with other names for its digits
abbrev pub content_by : {C D : Type 0} → (C → D) → Content C → Content D
content_by digits (contents.Fill b) = contents.Fill b
content_by digits (contents.Seq n) = contents.Seq n
content_by digits (contents.Hex d) = contents.Hex (digits d)

-- a statement with other names for its digits and places
abbrev pub renamed : {C D M N : Type 0} → (C → D) → (M → N) → Statement C M → Statement D N
renamed digits places (says.Unit u kind) = says.Unit u kind
renamed digits places (says.Read request) = says.Read request
renamed digits places (says.Write request content) = says.Write request (content_by digits content)
renamed digits places (says.Arrive u) = says.Arrive u
renamed digits places (says.Turn u sector) = says.Turn u sector
renamed digits places (says.Move a) = says.Move a
renamed digits places (says.Attend a) = says.Attend a
renamed digits places (says.Noise u block span n) = says.Noise u block span (places n)
renamed digits places (says.Fault u what times) = says.Fault u what times
renamed digits places (says.Offline u) = says.Offline u
renamed digits places (says.Online u) = says.Online u
renamed digits places (says.Lock u) = says.Lock u
renamed digits places (says.Unlock u) = says.Unlock u
renamed digits places says.Drain = says.Drain

-- what is read of a line that stands at `span`: the digits are named by that, and the places by themselves
abbrev pub read_of : Span → Said → Statement Span (List ℕ)
read_of span statement = renamed (λ _. span) (λ places. places) statement
