use Rattle.std.proofs.Common.{◌≡◌, ◌≤◌, IsTrue, length, take}
use Rattle.outside_files.specs.Folder.{with_put}
use Rattle.outside_files.proofs.transfers.write_front.Given as goal

-- the bytes so far stand in the file from the place on
abbrev pub invariant-loop : goal.invariant-loop
invariant-loop g l = record {
  inside : l.done ≤ length l.from;
  never_again : IsTrue (g.F.PackFolder.tells l.folder) → IsTrue (g.F.PackFolder.tells l.fn.folder);
  told : IsTrue (g.F.PackFolder.tells l.folder) → g.F.PackFolder.held l.folder ≡ with_put (g.F.PackFolder.held l.fn.folder) l.unit l.part l.at (take l.done l.from);
}
