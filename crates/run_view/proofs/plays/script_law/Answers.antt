use Rattle.std.proofs.Common.{ℕ, List, [], map}
use Rattle.script_lines.specs.Known.{known_of}
use Rattle.script_reader.specs.Stored.{seen}
use Rattle.script_lines.specs.Words.{all_verbs}
use Rattle.run_view.proofs.UnitLaws.{lines_few, well_units}
use Rattle.run_view.proofs.plays.script_law.Goals as goal

pub returns-clause-units : goal.returns-clause-units
returns-clause-units c text lines count spells =
    well_units text (known_of {D = List ℕ} {N = List ℕ} []) lines (c.read_back_law.ensures.well all_verbs text (map (seen text) lines) count spells)

pub returns-clause-few : goal.returns-clause-few
returns-clause-few c text lines count spells = lines_few text (map (seen text) lines) count spells
