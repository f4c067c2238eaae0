use Rattle.std.proofs.Common.{ap}
use Rattle.std.specs.Prelude.{Box, List, ℕ}
use Rattle.std.specs.Box.{box_value}
use Rattle.std.specs.declared.alloc.Global.{Global}
use Rattle.script_lines.specs.declared.statement.Span.{Span}
use Rattle.script_lines.specs.declared.statement.Statement.{Statement}
use Rattle.script_lines.specs.Renamed.{renamed}
use Rattle.script_reader.specs.Meaning.{statement_of}
use Rattle.script_reader.specs.Stored.{digits_at}
use Rattle.script_runs.specs.Attaching.{drive_in}
use Rattle.script_runs.proofs.Declared.{stored_here, stored_none}
use Rattle.script_runs.proofs.dialects.ScriptDeclaring.declared.Goals as goal

pub returns-in-Unit : goal.returns-in-Unit
returns-in-Unit c =
    stored_here c.args.self.now.text c.index-lines-i.result c.lines.ensures c.requires
    (ap (λ (st : Statement Span (Box (List ℕ) Global)). drive_in (statement_of (renamed (digits_at c.args.self.now.text) box_value st))) c.in-Unit.is)

pub returns-in_default : goal.returns-in_default
returns-in_default c = stored_here c.args.self.now.text c.index-lines-i.result c.lines.ensures c.requires (stored_none c.args.self.now.text _ c.in_default.not-Unit)
