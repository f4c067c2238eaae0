use Rattle.std.proofs.Common.{◌≡◌, ◌≢◌, ℕ, IsTrue}
use Rattle.pack_format.specs.Steps.{Goes, IsReady, seen}
use Rattle.pack_format.proofs.WalkLaws.{IsDone}
use Rattle.pack_format.proofs.formatting.write_blocks.Given as goal

abbrev pub invariant-loop-sector : goal.invariant-loop-sector
invariant-loop-sector g l = record {
  ready : IsReady l.job l.station;
  done : IsTrue (g.P.Packs.tells l.packs) → IsDone l.job.kind l.job.serial l.sector (g.P.Packs.held l.fn.packs l.job.unit) (g.P.Packs.held l.packs l.job.unit);
  elsewhere : (other : ℕ) → other ≢ l.job.unit → IsTrue (g.P.Packs.tells l.packs) → g.P.Packs.held l.packs other ≡ g.P.Packs.held l.fn.packs other;
  goes : Goes (seen g.P.Packs.tells g.P.Packs.held g.P.Packs.faults l.fn.packs) (seen g.P.Packs.tells g.P.Packs.held g.P.Packs.faults l.packs);
}
