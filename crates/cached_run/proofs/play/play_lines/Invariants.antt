use Rattle.std.proofs.Common.{◌≡◌, IsTrue}
use Rattle.std.specs.Prelude.{Ok}
use Rattle.driver_laws.specs.rules.Rest.{HasTables}
use Rattle.buffer_cache.specs.Passes.{seen, setup_at}
use Rattle.buffer_cache.specs.Calls.{MayUse}
use Rattle.cached_run.specs.Going.{IsFar}
use Rattle.cached_run.specs.Lines.{inputs_till, IsRoomy, KeepsUnits}
use Rattle.cached_run.specs.Places.{Passes, scene_at, world_at}
use Rattle.cached_run.proofs.play.play_lines.Given as goal

-- the lines before this one were played
abbrev pub invariant-loop-line : goal.invariant-loop-line
invariant-loop-line g l = record {
  passes : Passes (Ok tt) (g.S.Scene.at l.fn.scene) (g.S.Scene.at l.scene);
  may : MayUse (g.S.Scene.at l.scene).cache (g.S.Scene.at l.scene).spot.driver;
  units : KeepsUnits (world_at (g.S.Scene.at l.fn.scene)) (world_at (g.S.Scene.at l.scene));
  desk : IsRoomy l.desk.gather l.desk.blocks.items;
  far : IsTrue (g.S.Scene.at l.scene).spot.packs_tell → HasTables (setup_at (seen (g.S.Scene.at l.fn.scene).spot))
      → IsFar (scene_at (g.S.Scene.at l.fn.scene)) (g.S.Scene.at l.fn.scene).cache (inputs_till l.script l.line-index) (g.S.Scene.at l.scene).cache (scene_at (g.S.Scene.at l.scene));
  loans : g.S.Scene.loans l.scene ≡ g.S.Scene.loans l.fn.scene;
}
