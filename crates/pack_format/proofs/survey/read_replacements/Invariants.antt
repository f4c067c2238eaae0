use Rattle.std.proofs.Common.{◌≡◌, IsTrue}
use Rattle.pack_format.specs.Steps.{Goes, IsReady, seen}
use Rattle.pack_format.specs.Surveys.{IsFirst}
use Rattle.pack_format.proofs.survey.read_replacements.Given as goal

abbrev pub invariant-loop-i : goal.invariant-loop-i
invariant-loop-i g l = record {
  ready : IsReady l.job l.station;
  first : IsTrue (g.P.Packs.tells l.packs) → IsFirst l.job.kind (g.P.Packs.held l.fn.packs l.job.unit) l.i l.first;
  same : IsTrue (g.P.Packs.tells l.packs) → g.P.Packs.held l.packs ≡ g.P.Packs.held l.fn.packs;
  goes : Goes (seen g.P.Packs.tells g.P.Packs.held g.P.Packs.faults l.fn.packs) (seen g.P.Packs.tells g.P.Packs.held g.P.Packs.faults l.packs);
}
