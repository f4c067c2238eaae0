use Rattle.driver_laws.proofs.shown.RunsLaws.{packs_are_left, runs_are_legal}
use Rattle.driver_laws.proofs.shown.runs.left_law.Goals as goal

pub returns-clause-packs : goal.returns-clause-packs
returns-clause-packs c = packs_are_left

pub returns-clause-legal : goal.returns-clause-legal
returns-clause-legal c = runs_are_legal
