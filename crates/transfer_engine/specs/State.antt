-- A transfer between its tries.
use Rattle.std.specs.Prelude.{◌≡◌, ℕ, ◌+◌, ◌-◌, ◌<◌, ◌≤◌, ◌==◌, if◌then◌else◌, Option, None, Some}
use Rattle.pack_geometry.specs.Geometry.{limit_of, replacement_at}
use Rattle.transfer_engine.specs.declared.job.Job.{Job}
use Rattle.transfer_engine.specs.declared.job.Segment.{Segment}
use Rattle.transfer_engine.specs.declared.progress.Progress.{Progress}

-- The job, how many of its first blocks are done, the failures at the sector with which the segment begins, and, where
-- that sector is a replacement, its index in the pack's table.
pub record TransferState : Type 0 where
  pub job : Job
  pub done : ℕ
  pub failures : ℕ
  pub index : Option ℕ

-- how far a job has come, by own sectors or at the replacement of an entry
abbrev pub seen_as : Progress → Option ℕ → TransferState
seen_as progress index = record { job = progress.job; done = progress.done; failures = progress.failures; index = index }

-- 1 to 127 blocks, which are data blocks
pub record IsJob (job : Job) : Type 0 where
  pub some : 1 ≤ job.count
  pub few : job.count ≤ 127
  pub below : job.first + job.count ≤ limit_of job.kind

-- there are blocks left, a further try may fail, and an index is that of a table's entry
pub record IsTransfer (t : TransferState) : Type 0 where
  pub is_job : IsJob t.job
  pub left : t.done < t.job.count
  pub tries : t.failures ≤ 27
  pub entry : (i : ℕ) → t.index ≡ Some i → i < 126

-- A segment runs from the first block not done to the end of the job by own sectors, or is one replacement sector.
abbrev pub segment_by : Option ℕ → Job → ℕ → Segment
segment_by None job done = record { block = job.first + done; skip = done; count = job.count - done }
segment_by (Some i) job done = record { block = replacement_at job.kind i; skip = done; count = 1 }

abbrev pub segment_of : TransferState → Segment
segment_of t = segment_by t.index t.job t.done

-- a job at its beginning
abbrev pub begun : Job → TransferState
begun job = record { job = job; done = 0; failures = 0; index = None }

-- so many blocks are done, and the next try is the first one at the next block's own sector
abbrev pub moved_on : ℕ → TransferState → TransferState
moved_on done t = record t { done = done; failures = 0; index = None }

-- behind so many blocks that moved clean, the next one goes to the replacement of an entry
abbrev pub forwarded : ℕ → ℕ → TransferState → TransferState
forwarded clean i t = record t { done = t.done + clean; failures = 0; index = Some i }

-- the failures at a sector, with one more there; or one at a later sector, where the count starts anew
abbrev pub failures_after : ℕ → ℕ → ℕ
failures_after clean failures = if clean == 0 then failures + 1 else 1

-- behind so many blocks that moved clean, a try at the next one has failed
abbrev pub failed : ℕ → TransferState → TransferState
failed clean t = record t { done = t.done + clean; failures = failures_after clean t.failures }
