use Rattle.std.proofs.Common.{◌≡◌, ◌≤◌, IsTrue, take}
use Rattle.hp_units.specs.Setups.{setups_of}
use Rattle.script_runs.proofs.Attached.{AreAttached}
use Rattle.script_runs.proofs.AttachLaws.{AreTold}
use Rattle.script_runs.proofs.attaching.attach_units.Given as goal

-- the units of the lines before were attached, and the packs are as they were
abbrev pub invariant-loop-i : goal.invariant-loop-i
invariant-loop-i g l = record {
  attached : AreAttached (take l.i (g.S.Declaring.means l.script).lines) (setups_of l.units.items);
  told : IsTrue (g.P.Packs.tells l.packs) → AreTold (g.P.Packs.held l.fn.packs) (take l.i (g.S.Declaring.means l.script).lines) (setups_of l.units.items);
  same : IsTrue (g.P.Packs.tells l.packs) → g.P.Packs.held l.packs ≡ g.P.Packs.held l.fn.packs;
  never_again : IsTrue (g.P.Packs.tells l.packs) → IsTrue (g.P.Packs.tells l.fn.packs);
  later : g.P.Packs.faults l.fn.packs ≤ g.P.Packs.faults l.packs;
}
