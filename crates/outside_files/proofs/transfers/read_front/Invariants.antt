use Rattle.std.proofs.Common.{◌≡◌, ◌≤◌, IsTrue, length, take, drop}
use Rattle.outside_traits.specs.Files.{file_of}
use Rattle.outside_files.proofs.transfers.read_front.Given as goal

-- the bytes so far are what the file has from the place on
abbrev pub invariant-loop : goal.invariant-loop
invariant-loop g l = record {
  inside : l.done ≤ length l.into;
  size : length l.into ≡ length l.initial.into;
  never_again : IsTrue (g.F.PackFolder.tells l.folder) → IsTrue (g.F.PackFolder.tells l.fn.folder);
  told : IsTrue (g.F.PackFolder.tells l.folder) → take l.done l.into ≡ take l.done (drop l.at (file_of (g.F.PackFolder.held l.fn.folder l.unit) l.part));
  same : IsTrue (g.F.PackFolder.tells l.folder) → g.F.PackFolder.held l.folder ≡ g.F.PackFolder.held l.fn.folder;
}
