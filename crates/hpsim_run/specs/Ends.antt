-- What a run of any command comes to, by the status that it ends with.
use Rattle.std.specs.Prelude.{◌≡◌, ℕ, Option, Some}
use Rattle.command_parts.specs.Outside.{HasItsCause, Outside}
use Rattle.command_parts.specs.declared.words.Transfer.{Transfer}
use Rattle.raw_command.specs.Endings.{RunsTransfer}
use Rattle.script_commands.specs.Exercises.{RunsExercise}
use Rattle.script_commands.specs.Plays.{RunsPlay}
use Rattle.pack_commands.specs.Leaves.{TellsUsage}
use Rattle.pack_commands.specs.declared.words.Command.{Command}
use Rattle.pack_commands.specs.declared.words.Command.TheVariants.{Play, Cached, Exercise, TransferBytes}
use Rattle.hpsim_run.specs.Cached.{RunsCached}
use Rattle.hpsim_run.specs.Statuses.{IsStatusOf}
use Rattle.hpsim_run.specs.Tools.{RunsTool}

-- WHAT `run` PROMISES of a command, but for the objects that it leaves alone
pub record Runs (command : Option Command) (code : ℕ) (old new : Outside) : Type 0 where
  pub play : command ≡ Some Play → RunsPlay code old new
  pub cached : (capacity : ℕ) → command ≡ Some (Cached capacity) → RunsCached capacity code old new
  pub tool : RunsTool command code new.packs_tell old.held new.held new.out_tells old.said new.said old.out_faults new.out_faults
  pub exercise : (number : ℕ) → command ≡ Some (Exercise number)
      → RunsExercise number code new.out_tells old.said new.said old.out_faults new.out_faults new.trace_tells old.taken new.taken old.trace_faults new.trace_faults
  pub transfer : (transfer : Transfer) → command ≡ Some (TransferBytes transfer) → RunsTransfer transfer code old new
  pub statuses : IsStatusOf command code
  pub usage : TellsUsage command code new.out_tells old.said new.said old.out_faults new.out_faults
  pub causes : HasItsCause code old new
