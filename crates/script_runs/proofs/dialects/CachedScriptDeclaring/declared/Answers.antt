use Rattle.std.proofs.Common.{ap}
use Rattle.script_reader.specs.cached.Meaning.{statement_of}
use Rattle.script_reader.specs.declared.cached.statement.Statement.{Statement}
use Rattle.script_runs.specs.Attaching.{drive_in}
use Rattle.script_runs.proofs.CachedLines.{blank}
use Rattle.script_runs.proofs.Declared.{cached_here, cached_none}
use Rattle.script_runs.proofs.dialects.CachedScriptDeclaring.declared.Goals as goal

pub returns-in-Unit : goal.returns-in-Unit
returns-in-Unit c = cached_here blank c.lines.ensures c.requires (ap (λ (st : Statement). drive_in (statement_of st)) c.in-Unit.is)

pub returns-in_default : goal.returns-in_default
returns-in_default c = cached_here blank c.lines.ensures c.requires (cached_none _ c.in_default.not-Unit)
