use Rattle.std.proofs.Common.{◌≡◌, IsTrue}
use Rattle.pack_format.specs.Steps.{Goes, IsReady, seen}
use Rattle.pack_format.specs.Surveys.{all_marked}
use Rattle.pack_format.proofs.survey.read_copies.Given as goal

abbrev pub invariant-loop-k : goal.invariant-loop-k
invariant-loop-k g l = record {
  ready : IsReady l.job l.station;
  all : IsTrue (g.P.Packs.tells l.packs) → l.all ≡ all_marked l.job.kind (g.P.Packs.held l.fn.packs l.job.unit) l.k;
  same : IsTrue (g.P.Packs.tells l.packs) → g.P.Packs.held l.packs ≡ g.P.Packs.held l.fn.packs;
  goes : Goes (seen g.P.Packs.tells g.P.Packs.held g.P.Packs.faults l.fn.packs) (seen g.P.Packs.tells g.P.Packs.held g.P.Packs.faults l.packs);
}
