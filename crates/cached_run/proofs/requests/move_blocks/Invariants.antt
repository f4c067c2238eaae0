use Rattle.std.proofs.Common.{◌≡◌, length}
use Rattle.cached_run.proofs.Touching.{MovedSoFar}
use Rattle.cached_run.proofs.requests.move_blocks.Given as goal

-- the first blocks were read, or written
abbrev pub invariant-loop-k : goal.invariant-loop-k
invariant-loop-k g l = record {
  so_far : MovedSoFar l.line l.unit l.first l.k l.written l.blocks.items (g.S.Scene.at l.fn.scene) (g.S.Scene.at l.scene);
  room : length l.blocks.items ≡ length l.fn.blocks.items;
  loans : g.S.Scene.loans l.scene ≡ g.S.Scene.loans l.fn.scene;
}
