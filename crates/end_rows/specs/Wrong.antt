-- Wrong ends of the program.
use Rattle.std.specs.Prelude.{◌≡◌, ℕ, ◌++◌, IsTrue, List, [], ◌∷◌, Some}
use Rattle.pack_geometry.specs.declared.DriveKind.{DriveKind}
use Rattle.command_parts.specs.Outside.{Outside}
use Rattle.command_parts.specs.Statuses.{status_code}
use Rattle.command_parts.specs.declared.status.Status.TheVariants.{Done, OutOfMemory}
use Rattle.pack_commands.specs.declared.words.Command.TheVariants.{Play, ListTable, Exercise}
use Rattle.hpsim_run.specs.Ends.{Runs}

-- NOTHING RUN: a script is played with status 0, and the source has a byte left; a table is listed with status 9; an exercise has ended with
-- status 0, and nothing is printed.
abbrev pub NothingRun : Type 0
NothingRun = (byte : ℕ) (left : List ℕ) (old new : Outside) → IsTrue new.source_tells → new.left ≡ byte ∷ left → ¬ Runs (Some Play) (status_code Done) old new

abbrev pub NothingListed : Type 0
NothingListed = (unit : ℕ) (kind : DriveKind) (old new : Outside) → ¬ Runs (Some (ListTable unit kind)) (status_code OutOfMemory) old new
