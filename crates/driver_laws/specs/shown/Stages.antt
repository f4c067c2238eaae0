-- The stage of a request of the machine, as the replay sees it, and how far the request is.
use Rattle.std.specs.Prelude.{◌≡◌, ℕ, ◌+◌, ◌-◌, ◌==◌, if◌then◌else◌, List, [], ◌∷◌, ◌++◌, take, drop, Option, None, Some}
use Rattle.pack_geometry.specs.declared.DriveKind.{DriveKind}
use Rattle.pack_geometry.specs.Geometry.{replacement_at}
use Rattle.hardware_table.specs.declared.Moved.{Moved}
use Rattle.hardware_table.specs.declared.Moved.TheVariants.{Clean, Burst}
use Rattle.hardware_table.specs.Drive.{DriveState}
use Rattle.hardware_table.specs.Adapter.{AdapterState}
use Rattle.transfer_engine.specs.State.{TransferState}
use Rattle.trace_replay.specs.requests.Requests.{Request, Failed, Fault}
use Rattle.trace_replay.specs.Moments as moment
use Rattle.trace_replay.specs.Conversation.{OwnBlocks, Replacement, Stage, Saying, Ending, AtOnce, Moving, UnderWay, Progress, not_begun, Hand, start_of, begun, saying, centre_lines, try_lines, outcome, progress_interrupted}
use Rattle.trace_replay.specs.Conversation as told
use Rattle.driver_machine.specs.declared.RetryStep.{RetryStep}
use Rattle.driver_machine.specs.declared.RetryStep.TheVariants as step
use Rattle.driver_machine.specs.declared.Task.{Task}
use Rattle.driver_machine.specs.declared.Task.TheVariants.{Clear, Judge, Steps, Command, GiveUp}
use Rattle.driver_machine.specs.declared.Phase.{Phase}
use Rattle.driver_machine.specs.declared.Phase.TheVariants.{Waiting, Positioning, Queued, Transferring, Due}
use Rattle.driver_machine.specs.World.{UnitView, Held, transfer_of, bytes_in, block_in}
use Rattle.driver_machine.specs.Due.{steps_of}

-- THE STEPS of a retry, as a trace tells them, and those that are left behind so many
abbrev pub step_seen : RetryStep → told.Positioning
step_seen step.Recalibrate = told.Recalibrate
step_seen (step.Seek cylinder) = told.SeekTo cylinder
step_seen (step.Offset code) = told.OffsetBy code

abbrev pub steps_seen : List RetryStep → List told.Positioning
steps_seen [] = []
steps_seen (step ∷ left) = step_seen step ∷ steps_seen left

abbrev pub steps_left : ℕ → TransferState → List told.Positioning
steps_left taken t = steps_seen (drop taken (steps_of t))

-- THE SEGMENT runs over own blocks, or is the replacement of an entry.
abbrev pub segment_by : DriveKind → Option ℕ → told.Segment
segment_by kind None = OwnBlocks
segment_by kind (Some index) = Replacement (replacement_at kind index)

abbrev pub segment_seen : TransferState → told.Segment
segment_seen t = segment_by t.job.kind t.index

-- THE SECTORS. All are clean until the completion is up; one with another verdict was tried too, and did not count.
abbrev pub last_verdict : AdapterState → Moved
last_verdict a = if a.completion then a.verdict else Clean

abbrev pub left_by : Moved → ℕ → ℕ
left_by Clean left = left
left_by last left = left - 1

abbrev pub sectors_left : AdapterState → ℕ
sectors_left a = left_by (last_verdict a) (a.count - a.moved)

-- THE STAGE behind an interrupt: first DCLR where it is due; then RTC and the try, and what the verdict leads to.
abbrev pub lines_left : Moved → DriveState → Hand → told.Segment → List moment.Deed
lines_left last d hand segment = centre_lines d ++ try_lines last (start_of segment hand) hand.progress.failures

abbrev pub judged_stage : Moved → DriveState → Hand → told.Segment → Stage
judged_stage last d hand segment = saying (lines_left last d hand segment) (outcome last hand segment)

abbrev pub cleared_stage : Moved → DriveState → Hand → told.Segment → Stage
cleared_stage last d hand segment = Saying (moment.Clear ∷ lines_left last d hand segment) (outcome last hand segment)

abbrev pub task_stage : Task → UnitView → Hand → Stage
task_stage (Clear moved last) v hand = cleared_stage last v.drive hand (segment_seen (transfer_of v))
task_stage (Judge moved last) v hand = judged_stage last v.drive hand (segment_seen (transfer_of v))
task_stage (Steps taken) v hand = told.Steps (steps_left taken (transfer_of v)) (segment_seen (transfer_of v))
task_stage Command v hand = AtOnce (segment_seen (transfer_of v))
task_stage (GiveUp done) v hand = Ending (Failed Fault done)

-- and that of a unit in a phase, with its adapter, its request in hand, and the head of its queue
abbrev pub stage_by : Phase → UnitView → AdapterState → Hand → Option Request → Stage
stage_by Waiting v a hand head = begun v.drive head
stage_by (Positioning taken) v a hand head = UnderWay (steps_left taken (transfer_of v)) (segment_seen (transfer_of v))
stage_by Queued v a hand head = told.Steps [] (segment_seen (transfer_of v))
stage_by Transferring v a hand head = Moving (segment_seen (transfer_of v)) (sectors_left a) (last_verdict a)
stage_by (Due task) v a hand head = task_stage task v hand

-- HOW FAR IT IS. The bytes of the first blocks of a read's buffer; a write gives none.
abbrev pub front_of : Held → ℕ → List ℕ
front_of h k = if h.write then [] else bytes_in (take k h.blocks)

-- the failures are those at the segment's first sector
abbrev pub failures_at : ℕ → ℕ → ℕ
failures_at moved failures = if moved == 0 then failures else 0

-- so many sectors moved clean
abbrev pub progress_with : ℕ → TransferState → Held → Progress
progress_with moved t h = record {
  done = t.done + moved;
  failures = failures_at moved t.failures;
  bytes = front_of h (t.done + moved);
  struck = [];
}

-- and one behind them had this verdict: a burst keeps its bytes until they are repaired
abbrev pub progress_stopped : Moved → ℕ → TransferState → Held → Progress
progress_stopped (Burst at pattern) moved t h = record (progress_with moved t h) { struck = block_in h (t.done + moved) }
progress_stopped last moved t h = progress_with moved t h

-- behind the interrupt
abbrev pub progress_judged : Moved → ℕ → TransferState → Held → Progress
progress_judged last moved t h = progress_interrupted last (progress_stopped last moved t h)

abbrev pub IsTaskProgress : Task → TransferState → Held → Progress → Type 0
IsTaskProgress (Clear moved last) t h p = p ≡ progress_judged last moved t h
IsTaskProgress (Judge moved last) t h p = p ≡ progress_judged last moved t h
IsTaskProgress (Steps taken) t h p = p ≡ progress_with 0 t h
IsTaskProgress Command t h p = p ≡ progress_with 0 t h
IsTaskProgress (GiveUp done) t h p = p.done ≡ done

abbrev pub IsProgress : Phase → UnitView → AdapterState → Held → Progress → Type 0
IsProgress Waiting v a h p = p ≡ not_begun
IsProgress (Positioning taken) v a h p = p ≡ progress_with 0 (transfer_of v) h
IsProgress Queued v a h p = p ≡ progress_with 0 (transfer_of v) h
IsProgress Transferring v a h p = p ≡ progress_stopped (last_verdict a) a.moved (transfer_of v) h
IsProgress (Due task) v a h p = IsTaskProgress task (transfer_of v) h p
