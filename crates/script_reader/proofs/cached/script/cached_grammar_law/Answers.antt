use Rattle.std.proofs.Common.{map}
use Rattle.script_lines.specs.declared.dialect.Dialect.TheVariants.{Cached}
use Rattle.script_reader.specs.cached.Scripts.{as_line}
use Rattle.script_reader.proofs.ReadingLaws.{no_fault, one_fault}
use Rattle.script_reader.proofs.cached.Narrow.{one_script, some}
use Rattle.script_reader.proofs.cached.script.cached_grammar_law.Goals as goal

pub returns-clause-one_script : goal.returns-clause-one_script
returns-clause-one_script c = one_script

pub returns-clause-no_fault : goal.returns-clause-no_fault
returns-clause-no_fault c = λ bytes lines count s. no_fault Cached bytes (map as_line lines) count s

pub returns-clause-one_fault : goal.returns-clause-one_fault
returns-clause-one_fault c = one_fault Cached

pub returns-clause-some : goal.returns-clause-some
returns-clause-some c = some
