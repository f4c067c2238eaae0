use Rattle.std.proofs.Common.{◌≡◌, IsTrue}
use Rattle.outside_files.proofs.transfers.length_of.Given as goal

-- the folder is as it was
abbrev pub invariant-loop : goal.invariant-loop
invariant-loop g l = record {
  never_again : IsTrue (g.F.PackFolder.tells l.folder) → IsTrue (g.F.PackFolder.tells l.fn.folder);
  same : IsTrue (g.F.PackFolder.tells l.folder) → g.F.PackFolder.held l.folder ≡ g.F.PackFolder.held l.fn.folder;
}
