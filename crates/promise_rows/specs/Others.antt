-- Wrong outcomes of the tool and of `exercise`, and statuses of other commands.
use Rattle.std.specs.Prelude.{◌≢◌, ℕ, ◌<◌, ◌≤◌, ◌*◌, Bool, true, List, [], ◌∷◌, ◌++◌, codes, Some}
use Rattle.pack_geometry.specs.declared.DriveKind.{DriveKind}
use Rattle.pack_geometry.specs.Geometry.{block_count}
use Rattle.pack_geometry.specs.Pack.{Pack}
use Rattle.pack_format.specs.Faults.{IsFault}
use Rattle.pack_format.specs.declared.fault.FormatFault.TheVariants as format_fault
use Rattle.bad144_tool.specs.declared.edit.AddWay.{AddWay}
use Rattle.hpsim_run.specs.Passes.{Play}
use Rattle.command_parts.specs.declared.status.Status.TheVariants.{ToolRefused}
use Rattle.command_parts.specs.Statuses.{status_code}
use Rattle.hpsim_run.specs.Statuses.{IsStatusOf}
use Rattle.hpsim_run.specs.Exercises.{RunsExercise}
use Rattle.pack_commands.specs.Tools.{RunsAdd, RunsAdded, RunsFresh, RunsList, RunsMarked}

-- DONE WHERE THE TEXT WAS NOT TAKEN: `bad144 add` and `fresh` answer 0, and of the text nothing was taken, though the sink's count rose.
abbrev pub DoneWhereTheTextWasNotTaken : Type 0
DoneWhereTheTextWasNotTaken = (kind : DriveKind) (unit block serial : ℕ) (way : AddWay) (old new : ℕ → Pack) (taken : List ℕ)
    → (¬ RunsAdd kind unit block way 0 true old new true taken taken 0 1) × (¬ RunsFresh kind unit serial 0 true old new true taken taken 0 1)

-- A FAULT THAT PRINTS: the packs failed, and something was printed.
abbrev pub FaultThatPrints : Type 0
FaultThatPrints = (kind : DriveKind) (unit block serial byte : ℕ) (way : AddWay) (old new : ℕ → Pack)
    → (¬ RunsList kind unit 6 true old new true [] (byte ∷ []) 0 0) × (¬ RunsAdd kind unit block way 6 true old new true [] (byte ∷ []) 0 0)
    × (¬ RunsFresh kind unit serial 6 true old new true [] (byte ∷ []) 0 0)

-- HANDED IN PACKS PLAYED: an exercise is done, and the text of another script's answer was taken.
abbrev pub HandedInPacksPlayed : Type 0
HandedInPacksPlayed = (number : ℕ) (taken taken' : List ℕ) → ¬ RunsExercise number 0 true [] (codes "ans 1 at 3 ok\n") 0 0 true taken taken' 0 0

-- `play` answers what only `bad144 add` has.
abbrev pub PlayedAsRefusedByTheTool : Type 0
PlayedAsRefusedByTheTool = ¬ IsStatusOf (Some Play) (status_code ToolRefused)

-- A LIST OF ANOTHER TABLE, whatever the packs tell: `bad144 list` answers 0, and its text begins with a byte with which no list begins; `add` and
-- `mark` answer 0 and print an index or a count that no table has; and `format` names a length that fits.
abbrev pub ListOfAnotherTable : Type 0
ListOfAnotherTable = (kind : DriveKind) (unit block serial byte fits faults faults_after : ℕ) (way : AddWay) (tells : Bool) (old new : ℕ → Pack) (taken after text : List ℕ)
    → byte ≢ 110 → byte ≢ 115 → fits ≤ 512 * block_count kind
    → (¬ RunsList kind unit 0 tells old new true taken (taken ++ byte ∷ text) faults faults_after)
    × ((added : RunsAdded kind unit block way 0 tells old new true taken after faults faults_after) → ¬ (126 ≤ added.index))
    × ((marked : RunsMarked kind unit 0 tells old new true taken after faults faults_after) → ¬ (126 < marked.count))
    × (¬ IsFault kind serial (format_fault.TooLong fits))
