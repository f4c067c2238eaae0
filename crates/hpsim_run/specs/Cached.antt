-- What a run of `cached` comes to, by the status that it ends with.
use Rattle.std.specs.Prelude.{◌≡◌, ℕ, IsTrue, []}
use Rattle.script_reader.specs.cached.Scripts.{Script as Lines, Spells, IsRefused}
use Rattle.script_reader.specs.cached.Meaning.{meaning_of}
use Rattle.cached_run.specs.Theorem.{CachedPlays, CachedLeaves}
use Rattle.script_commands.specs.PlayFault.{PlayFault}
use Rattle.script_commands.specs.PlayFault.TheVariants as faults
use Rattle.script_commands.specs.Lengths.{IsTooLong}
use Rattle.command_parts.specs.Outside.{Outside}
use Rattle.command_parts.specs.Statuses.{status_code}
use Rattle.command_parts.specs.declared.status.Status.TheVariants.{Done, SinkFailed, PacksFailed}
use Rattle.command_parts.specs.Loading.{MeansCached}
use Rattle.script_commands.specs.Scripts.{RunsScript}
use Rattle.script_commands.specs.Sinks.{out_took, trace_took}

-- PLAYED THROUGH THE CACHE. Where the source tells, it was read to its end, and its bytes spell these lines; where the packs tell, each
-- request was answered at its own line, as the block machine answers it, the packs hold what all writes leave, and no image was too long;
-- and the trace has the requests that a cache of so many blocks asks for.
pub record HasCached (capacity : ℕ) (old new : Outside) : Type 0 where
  pub lines : Lines
  pub read : IsTrue new.source_tells → new.left ≡ []
  pub spelled : IsTrue new.source_tells → Spells old.left lines.lines lines.count
  pub plays : IsTrue new.packs_tell → CachedPlays capacity (meaning_of lines) old.held new.held (out_took old new) (trace_took old new)
  pub fits : IsTrue new.packs_tell → (unit n : ℕ) → ¬ (IsTooLong (meaning_of lines) old.held unit n)

-- WHERE IT STOPPED as a sink or the packs failed. Where the source tells, it was read to its end, and its bytes spell
-- these lines; where the packs tell, each block holds what some of the writes up to the line of the stop left, those before the last sync that
-- ended among them; and the trace has the requests that a cache of so many blocks asks for, up to there.
pub record HasStoppedCached (capacity : ℕ) (fault : PlayFault) (old new : Outside) : Type 0 where
  pub lines : Lines
  pub read : IsTrue new.source_tells → new.left ≡ []
  pub spelled : IsTrue new.source_tells → Spells old.left lines.lines lines.count
  pub leaves : IsTrue new.packs_tell → CachedLeaves capacity fault (meaning_of lines) old.held new.held new.failed_at (out_took old new) (trace_took old new)

pub record RunsCached (capacity code : ℕ) (old new : Outside) : Type 0 where
  -- what does not tell how it was played
  pub script : RunsScript MeansCached IsRefused code old new
  pub done : code ≡ status_code Done → HasCached capacity old new
  pub stopped : code ≡ status_code SinkFailed → HasStoppedCached capacity faults.Sink old new
  pub stopped_packs : code ≡ status_code PacksFailed → HasStoppedCached capacity faults.Store old new
