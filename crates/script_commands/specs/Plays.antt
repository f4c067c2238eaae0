-- What a run of `play` comes to, by the status that it ends with.
use Rattle.std.specs.Prelude.{◌≡◌, ℕ, IsTrue, List}
use Rattle.script_reader.specs.Grammar.{Spells, IsRefused}
use Rattle.script_lines.specs.Known.{Numbered}
use Rattle.script_lines.specs.Words.{all_verbs}
use Rattle.event_player.specs.PlayFault.TheVariants as faults
use Rattle.command_parts.specs.Outside.{Outside}
use Rattle.command_parts.specs.Loading.{Means}
use Rattle.script_commands.specs.Headline.{Headline, HasStopped}
use Rattle.command_parts.specs.Statuses.{status_code}
use Rattle.script_commands.specs.Scripts.{RunsScript}
use Rattle.script_commands.specs.TheRun.{IsThatRun}
use Rattle.command_parts.specs.declared.status.Status.TheVariants.{Done, SinkFailed, PacksFailed}

pub record RunsPlay (code : ℕ) (old new : Outside) : Type 0 where
  -- what does not tell how it was played
  pub script : RunsScript Means (IsRefused all_verbs) code old new
  -- THE HEADLINE, and that it is the one legal run that the lines have over these packs
  pub done : code ≡ status_code Done → Headline new.source_tells old.left new.left new.packs_tell old.held new.held new.out_tells old.said new.said new.trace_tells old.taken new.taken
  pub one : (lines : List Numbered) (count : ℕ) → code ≡ status_code Done → IsTrue new.source_tells → IsTrue new.packs_tell → Spells all_verbs old.left lines count
      → IsThatRun lines count old.held new.held new.out_tells old.said new.said new.trace_tells old.taken new.taken
  -- what stands after a stop
  pub stopped : code ≡ status_code SinkFailed → HasStopped faults.Sink old new
  pub stopped_packs : code ≡ status_code PacksFailed → HasStopped faults.Store old new
