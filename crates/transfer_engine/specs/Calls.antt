-- What each way in which a segment ends makes of a transfer.
use Rattle.std.specs.Prelude.{ℕ, ◌+◌, ◌==◌, not, if◌then◌else◌, Option, None, Some, Result, Ok, Err}
use Rattle.pack_geometry.specs.declared.Place.{Place}
use Rattle.pack_geometry.specs.Geometry.{place_at}
use Rattle.pack_geometry.specs.Homes.{index_in}
use Rattle.pack_geometry.specs.TableSpelling.{Table}
use Rattle.trace_replay.specs.declared.retry_offsets.Step.{Step}
use Rattle.trace_replay.specs.Schedule.{step_after}
use Rattle.transfer_engine.specs.State.{TransferState, segment_of, moved_on, forwarded, failures_after}
use Rattle.transfer_engine.specs.declared.states.Transfer.{Transfer}
use Rattle.transfer_engine.specs.declared.states.Transfer.TheVariants.{Direct, Forwarded, Continued}
use Rattle.transfer_engine.specs.declared.states.Next.{Next}
use Rattle.transfer_engine.specs.declared.states.Next.TheVariants.{Finished, More}
use Rattle.transfer_engine.specs.declared.states.Unforwarded.{Unforwarded}

-- a transfer, whichever way it came
abbrev pub state_of : Transfer → TransferState
state_of (Direct t) = t
state_of (Forwarded t) = t
state_of (Continued t) = t

-- another state that came the same way
abbrev pub with_state : Transfer → TransferState → Transfer
with_state (Direct t) u = Direct u
with_state (Forwarded t) u = Forwarded u
with_state (Continued t) u = Continued u

-- SO MANY BLOCKS ARE DONE. The request is complete, or the rest follows by own sectors.
abbrev pub next_at : ℕ → TransferState → Next
next_at done t = if done == t.job.count then Finished else More (moved_on done t)

-- the whole segment is done
abbrev pub after_done : TransferState → Next
after_done t = next_at (t.done + (segment_of t).count) t

-- so many sectors moved clean, and the one behind them was repaired
abbrev pub after_corrected : ℕ → TransferState → Next
after_corrected clean t = next_at (t.done + clean + 1) t

-- A MARKED SECTOR that is the block's own and is listed is replaced; any other ends the request.
abbrev pub entry_by : Option ℕ → Option Table → Place → Option ℕ
entry_by None table place = index_in table place
entry_by (Some i) table place = None

-- the entry whose replacement takes the place of the sector behind so many
abbrev pub entry_for : ℕ → Option Table → TransferState → Option ℕ
entry_for clean table t = entry_by t.index table (place_at t.job.kind (t.job.first + (t.done + clean)))

abbrev pub forward_by : Option ℕ → ℕ → TransferState → Result TransferState Unforwarded
forward_by None clean t = Err (record { done = t.done + clean })
forward_by (Some i) clean t = Ok (forwarded clean i t)

abbrev pub after_bad_sector : ℕ → Option Table → TransferState → Result TransferState Unforwarded
after_bad_sector clean table t = forward_by (entry_for clean table t) clean t

-- A FAILED TRY. What a retry begins with
abbrev pub step_for : ℕ → TransferState → Step
step_for clean t = step_after (failures_after clean t.failures) (not t.job.write)
