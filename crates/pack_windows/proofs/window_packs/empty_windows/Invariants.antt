use Rattle.std.proofs.Common.{◌≡◌, ℕ, List, length}
use Rattle.pack_windows.specs.Parts.{AreParts}
use Rattle.pack_windows.proofs.window_packs.empty_windows.Given as goal

-- a window for each unit so far
abbrev pub invariant-loop : goal.invariant-loop
invariant-loop l = record {
  count : length l.windows.items ≡ l.counter;
  parts : (whole : ℕ → List ℕ) → AreParts l.windows.items whole;
}
