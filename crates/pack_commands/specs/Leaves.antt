-- What each command leaves as it was, and the usage.
use Rattle.std.specs.Prelude.{◌≡◌, ◌⊎◌, ◌↔◌, ℕ, Bool, true, false, IsTrue, List, Option, None, Some}
use Rattle.command_parts.specs.Lines.{Told}
use Rattle.command_parts.specs.Words.{reads_source as transfer_reads}
use Rattle.command_parts.specs.Statuses.{status_code}
use Rattle.pack_commands.specs.Words.{usage_text}
use Rattle.pack_commands.specs.declared.words.Command.{Command}
use Rattle.pack_commands.specs.declared.words.Command.TheVariants.{Play, Exercise, Cached, TransferBytes}
use Rattle.command_parts.specs.declared.status.Status.TheVariants.{Usage, Refused, SourceFailed, TooLong, OutOfMemory}

-- THE USAGE is told exactly where the words are no command.
pub record TellsUsage (command : Option Command) (code : ℕ) (out_tells : Bool) (said said' : List ℕ) (out_faults out_faults' : ℕ) : Type 0 where
  pub exactly : (code ≡ status_code Usage) ↔ (command ≡ None)
  pub told : code ≡ status_code Usage → IsTrue out_tells → Told said said' usage_text out_faults out_faults'

-- the commands that read the source, and those that tell the trace
abbrev pub reads_source : Option Command → Bool
reads_source (Some Play) = true
reads_source (Some (Cached capacity)) = true
reads_source (Some (TransferBytes transfer)) = transfer_reads transfer
reads_source command = false

abbrev pub tells_trace : Option Command → Bool
tells_trace (Some Play) = true
tells_trace (Some (Exercise number)) = true
tells_trace (Some (Cached capacity)) = true
tells_trace (Some (TransferBytes transfer)) = true
tells_trace command = false

-- AN OBJECT STAYS that a command does not speak to, or not before it ends so.
pub record LeavesAlone {S P O T : Type 0} (command : Option Command) (code : ℕ) (source source' : S) (packs packs' : P) (out out' : O) (trace trace' : T) : Type 0 where
  pub unread : reads_source command ≡ false → source' ≡ source
  pub untraced_tool : tells_trace command ≡ false → trace' ≡ trace
  pub exercise_packs : (number : ℕ) → command ≡ Some (Exercise number) → packs' ≡ packs
  pub silent : (code ≡ status_code SourceFailed) ⊎ (code ≡ status_code OutOfMemory) → out' ≡ out
  pub untouched : (code ≡ status_code Usage) ⊎ (code ≡ status_code Refused) ⊎ (code ≡ status_code SourceFailed) → packs' ≡ packs
  pub untraced : (code ≡ status_code Refused) ⊎ (code ≡ status_code SourceFailed) ⊎ (code ≡ status_code TooLong) ⊎ (code ≡ status_code OutOfMemory) → trace' ≡ trace
