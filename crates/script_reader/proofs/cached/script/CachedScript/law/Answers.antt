use Rattle.std.proofs.Common.{subst}
use Rattle.script_reader.specs.cached.Formed.{IsScript}
use Rattle.script_reader.proofs.cached.Wells.{spelled_well_cached}
use Rattle.script_reader.proofs.cached.script.CachedScript.law.Goals as goal

pub returns : goal.returns
returns c = subst IsScript c.self.view_is (spelled_well_cached (record { lines = c.self.inside.lines.items; count = c.self.inside.count }) c.self.invariant)
