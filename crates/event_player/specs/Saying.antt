-- A TEXT IS SAID: it is put behind what is kept for the sink of the answers. Before any of that goes out, all lines that are kept are sent.
use Rattle.std.specs.Prelude.{◌≡◌, ◌⊎◌, ℕ, ◌≤◌, Bool, IsTrue, List, ◌++◌, Result, OnOk, OnErr}
use Rattle.outside_traits.specs.Causes.{Rose}
use Rattle.script_runs.specs.Ahead.{IsBetween}

-- a sink as whether it tells, what it took, and its count of faults; and what is kept for it
pub record Side : Type 0 where
  pub tells : Bool
  pub took : List ℕ
  pub kept : List ℕ
  pub faults : ℕ

abbrev pub side : {O : Type 0} → (O → Bool) → (O → List ℕ) → (O → ℕ) → O → List ℕ → Side
side tells taken faults sink kept = record { tells = tells sink; took = taken sink; kept = kept; faults = faults sink }

-- WHAT IT COMES TO, at the sink of the answers and at that of the lines. Each took a front of what was kept for it, that of the answers with
-- the text behind; at Ok the rest is kept. No answer went out before the lines: either none did, or the trace took all. A failure has its cause.
pub record Says {T E : Type 0} (out out' lines lines' : Side) (result : Result T E) (text : List ℕ) : Type 0 where
  pub again : IsTrue out'.tells → IsTrue out.tells
  pub again_lines : IsTrue lines'.tells → IsTrue lines.tells
  pub front : IsTrue out'.tells → IsBetween out.took (out.took ++ (out.kept ++ text)) out'.took
  pub front_lines : IsTrue lines'.tells → IsBetween lines.took (lines.took ++ lines.kept) lines'.took
  pub whole : OnOk result (IsTrue out'.tells → out'.took ++ out'.kept ≡ out.took ++ (out.kept ++ text))
  pub whole_lines : OnOk result (IsTrue lines'.tells → lines'.took ++ lines'.kept ≡ lines.took ++ lines.kept)
  pub lines_first : (IsTrue out'.tells → out'.took ≡ out.took) ⊎ (IsTrue lines'.tells → lines'.took ≡ lines.took ++ lines.kept)
  pub later : out.faults ≤ out'.faults
  pub later_lines : lines.faults ≤ lines'.faults
  pub failed : OnErr result (Rose out.faults out'.faults ⊎ Rose lines.faults lines'.faults)
