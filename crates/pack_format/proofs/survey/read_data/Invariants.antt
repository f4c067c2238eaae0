use Rattle.std.proofs.Common.{◌≡◌, IsTrue}
use Rattle.pack_format.specs.Steps.{Goes, IsReady, seen}
use Rattle.pack_format.specs.Surveys.{IsHeaded, IsSurvey}
use Rattle.pack_format.proofs.survey.read_data.Given as goal

abbrev pub invariant-loop-block : goal.invariant-loop-block
invariant-loop-block g l = record {
  ready : IsReady l.job l.station;
  survey : IsTrue (g.P.Packs.tells l.packs) → IsSurvey l.job.kind l.job.serial (g.P.Packs.held l.fn.packs l.job.unit) l.block l.survey.found l.survey.table;
  headed : IsHeaded l.job.kind l.job.serial l.block l.survey.found l.survey.table;
  same : IsTrue (g.P.Packs.tells l.packs) → g.P.Packs.held l.packs ≡ g.P.Packs.held l.fn.packs;
  goes : Goes (seen g.P.Packs.tells g.P.Packs.held g.P.Packs.faults l.fn.packs) (seen g.P.Packs.tells g.P.Packs.held g.P.Packs.faults l.packs);
}
