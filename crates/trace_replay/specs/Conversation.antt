-- THE RULE OF CONVERSATION. The lines of one request come in order: its search, its segments with their interrupts, what each
-- verdict asks for, the retries with their steps, and its end. The rule says which line is due next for a unit by itself, and which
-- lines an event brings.
use Rattle.std.specs.Prelude.{◌≡◌, ℕ, ◌+◌, ◌-◌, ◌/◌, ◌==◌, ◌&&◌, ◌||◌, nat_lt, Bool, true, false, not, if◌then◌else◌, List, [], ◌∷◌, ◌++◌, Option, None, Some, is_some, drop}
use Rattle.pack_geometry.specs.declared.DriveKind.{DriveKind}
use Rattle.pack_geometry.specs.declared.Place.{Place}
use Rattle.pack_geometry.specs.Geometry.{place_at, replacement_at, sectors_of}
use Rattle.pack_geometry.specs.TableSpelling.{Table}
use Rattle.pack_geometry.specs.Homes.{index_in}
use Rattle.drive_registers.specs.declared.OffsetCode.{OffsetCode}
use Rattle.drive_registers.specs.Codes.{offset_field}
use Rattle.hardware_table.specs.declared.Moved.{Moved}
use Rattle.hardware_table.specs.declared.Moved.TheVariants as verdict
use Rattle.hardware_table.specs.Drive.{DriveState}
use Rattle.trace_replay.specs.Seek.{distance, is_near, sector_before}
use Rattle.trace_replay.specs.Schedule.{step_after}
use Rattle.trace_replay.specs.declared.retry_offsets.Step.{Step}
use Rattle.trace_replay.specs.declared.retry_offsets.Step.TheVariants as retry
use Rattle.trace_replay.specs.requests.Requests.{Request, first_block, Offline, Locked, Unforwarded, Fault, Answer, ReadOk, WriteOk, Failed}
use Rattle.trace_replay.specs.Moments.{Deed, Search, Seek, Recal, Offset, Centre, Clear, Pack, Transfer, Arrive, Sector, Intr, Try, Attn, End}
use Rattle.trace_replay.specs.Packs.{repaired_from}
use Rattle.trace_replay.specs.Service.{target_of}

-- WHERE A REQUEST STANDS. The steps that a unit positions by.
pub data Positioning : Type 0 where
  SearchFor : (cylinder sector : ℕ) → Positioning
  Recalibrate : Positioning
  SeekTo : (cylinder : ℕ) → Positioning
  OffsetBy : (code : OffsetCode) → Positioning

-- A segment runs from the first block not done to the end of the request, or is one replacement sector.
pub data Segment : Type 0 where
  OwnBlocks : Segment
  Replacement : (block : ℕ) → Segment

-- No request. Steps are left before the transfer, and without any the unit waits for its adapter. A step is under way, and
-- others are left. The adapter was kept, and the transfer is due at once. Sectors move, of which so many are left and the last
-- one had a verdict. Some lines come now, and then a stage. Nothing is left but the end.
pub data Stage : Type 0 where
  Waiting : Stage
  Steps : (left : List Positioning) (segment : Segment) → Stage
  UnderWay : (left : List Positioning) (segment : Segment) → Stage
  AtOnce : (segment : Segment) → Stage
  Moving : (segment : Segment) (left : ℕ) (last : Moved) → Stage
  Saying : (lines : List Deed) (next : Stage) → Stage
  Ending : (answer : Answer) → Stage

-- How far a request is: its blocks done, the failures at the place that is tried, the bytes of a read so far, and those of a
-- sector that was read with a burst.
pub record Progress : Type 0 where
  pub done : ℕ
  pub failures : ℕ
  pub bytes : List ℕ
  pub struck : List ℕ

-- nothing is done yet
abbrev pub not_begun : Progress
not_begun = record { done = 0; failures = 0; bytes = []; struck = [] }

-- A request in hand: the kind of its drive, what it asks for, how far it is, and the table of its pack.
pub record Hand : Type 0 where
  pub kind : DriveKind
  pub request : Request
  pub progress : Progress
  pub table : Option Table

-- it writes
abbrev pub is_write : Hand → Bool
is_write h = is_some h.request.written

-- the block of the pack that is tried first in a segment
abbrev pub start_of : Segment → Hand → ℕ
start_of OwnBlocks h = first_block h.kind h.request + h.progress.done
start_of (Replacement block) h = block

-- how many blocks a segment has
abbrev pub length_of : Segment → Hand → ℕ
length_of OwnBlocks h = h.request.count - h.progress.done
length_of (Replacement block) h = 1

-- THE BEGINNING. A unit starts at once where it is on the target's cylinder and the target comes by soon.
abbrev pub starts_at_once : DriveState → Place → Bool
starts_at_once d target = d.cc == target.cylinder && is_near (distance (sectors_of d.kind) (d.la / 64) target.sector)

-- else it searches for the sector that stands three in front of the target
abbrev pub search_for : DriveState → Place → Positioning
search_for d target = SearchFor target.cylinder (sector_before (sectors_of d.kind) 3 target.sector)

-- the steps of a first try
abbrev pub first_steps : DriveState → Place → List Positioning
first_steps d target = if starts_at_once d target then [] else search_for d target ∷ []

-- where a request stands that has just become head, or a unit without one
abbrev pub begun : DriveState → Option Request → Stage
begun d None = Waiting
begun d (Some r) = Steps (first_steps d (target_of d.kind r)) OwnBlocks

-- WHAT IS DUE. A step's command, and the transfer command of a segment
abbrev pub command_of : Positioning → Deed
command_of (SearchFor cylinder sector) = Search cylinder sector
command_of Recalibrate = Recal
command_of (SeekTo cylinder) = Seek cylinder
command_of (OffsetBy code) = Offset code

-- the transfer command of a segment
abbrev pub transfer_of : Segment → Hand → Deed
transfer_of segment h = Transfer (is_write h) (start_of segment h) (length_of segment h)

-- only a write asks for an unlocked unit
abbrev pub needs_unlocked : Deed → Bool
needs_unlocked (Transfer write block count) = write
needs_unlocked deed = false

-- A command that is due: the request ends in its place where the unit is offline, or where it would write on a locked one;
-- PACK comes first where the volume is not valid.
abbrev pub guarded : DriveState → Hand → Deed → Deed
guarded d h command =
    if not d.online then End (Failed Offline h.progress.done)
    else if needs_unlocked command && d.locked then End (Failed Locked h.progress.done)
    else if not d.valid then Pack
    else command

-- the line that is due for a unit with these steps left
abbrev pub due_of_steps : DriveState → Hand → List Positioning → Segment → Deed
due_of_steps d h [] segment = guarded d h (transfer_of segment h)
due_of_steps d h (step ∷ left) segment = guarded d h (command_of step)

-- the first of some lines
abbrev pub first_line : List Deed → Option Deed
first_line [] = None
first_line (line ∷ lines) = Some line

-- the line that is due next for a unit, if one is
abbrev pub due : DriveState → Hand → Stage → Option Deed
due d h Waiting = None
due d h (Steps left segment) = Some (due_of_steps d h left segment)
due d h (UnderWay left segment) = None
due d h (AtOnce segment) = Some (guarded d h (transfer_of segment h))
due d h (Moving segment left last) = None
due d h (Saying lines next) = first_line lines
due d h (Ending answer) = Some (End answer)

-- no request is in hand
abbrev pub is_waiting : Stage → Bool
is_waiting Waiting = true
is_waiting stage = false

-- the unit waits for its adapter
abbrev pub waits : Stage → Bool
waits (Steps [] segment) = true
waits stage = false

-- a line of the unit stands directly behind its last one
abbrev pub goes_on : Stage → Bool
goes_on Waiting = false
goes_on (Steps [] segment) = false
goes_on (Steps (step ∷ left) segment) = true
goes_on (UnderWay left segment) = false
goes_on (AtOnce segment) = true
goes_on (Moving segment left last) = false
goes_on (Saying lines next) = true
goes_on (Ending answer) = true

-- a step is under way
abbrev pub is_under_way : Stage → Bool
is_under_way (UnderWay left segment) = true
is_under_way stage = false

-- a sector was moved, and its verdict was clean
abbrev pub is_clean : Moved → Bool
is_clean verdict.Clean = true
is_clean verdict = false

-- A sector of a segment may come where some are left and each so far was clean; it is the one where the segment stands.
abbrev pub sector_may : Hand → Stage → ℕ → Bool
sector_may h (Moving segment left last) block = is_clean last && (nat_lt 0 left && (block == start_of segment h))
sector_may h stage block = false

-- and the interrupt comes where none is left, or the last one was not clean
abbrev pub intr_may : Stage → Bool
intr_may (Moving segment left last) = left == 0 || not (is_clean last)
intr_may stage = false

-- Which line may come: an event brings the end of a step, its attention, sectors and the interrupt; any other line is the
-- one that is due.
abbrev pub TalkMay : DriveState → Hand → Stage → Deed → Type 0
TalkMay d h stage Arrive = is_under_way stage ≡ true
TalkMay d h stage Attn = is_under_way stage ≡ true
TalkMay d h stage (Sector block verdict) = sector_may h stage block ≡ true
TalkMay d h stage Intr = intr_may stage ≡ true
TalkMay d h stage deed = due d h stage ≡ Some deed

-- HOW FAR IT IS AFTER A SECTOR. A clean one is done, with the bytes that a read gave; a burst keeps its bytes until they are
-- repaired.
abbrev pub progress_tried : Moved → List ℕ → Progress → Progress
progress_tried verdict.Clean bytes p = record p { done = p.done + 1; failures = 0; bytes = p.bytes ++ bytes }
progress_tried (verdict.Burst at pattern) bytes p = record p { struck = bytes }
progress_tried verdict bytes p = p

-- At the interrupt a burst is repaired and done; a failure counts; at a mark the place moves on.
abbrev pub progress_interrupted : Moved → Progress → Progress
progress_interrupted verdict.Clean p = p
progress_interrupted (verdict.Burst at pattern) p =
    record p { done = p.done + 1; failures = 0; bytes = p.bytes ++ repaired_from 0 at pattern p.struck; struck = [] }
progress_interrupted verdict.Hard p = record p { failures = p.failures + 1 }
progress_interrupted (verdict.Faulted kind) p = record p { failures = p.failures + 1 }
progress_interrupted verdict.Marked p = record p { failures = 0 }
progress_interrupted verdict.Offline p = p

-- BEHIND AN INTERRUPT stand DCLR after a verdict that is not clean, RTC where there is an offset, and the try after a failure.
abbrev pub clear_lines : Moved → List Deed
clear_lines verdict.Clean = []
clear_lines verdict = Clear ∷ []

-- RTC where there is an offset
abbrev pub centre_lines : DriveState → List Deed
centre_lines d = if offset_field d.offset == 0 then [] else Centre ∷ []

-- the try after a failure
abbrev pub try_lines : Moved → ℕ → ℕ → List Deed
try_lines verdict.Hard block failures = Try block failures ∷ []
try_lines (verdict.Faulted kind) block failures = Try block failures ∷ []
try_lines verdict block failures = []

-- some lines, if there are any, and then a stage
abbrev pub saying : List Deed → Stage → Stage
saying [] next = next
saying (line ∷ lines) next = Saying (line ∷ lines) next

-- THE RETRY. Its steps: back to cylinder 0 and to the sector's own, and off the centre of the track.
abbrev pub seek_steps : ℕ → List Positioning
seek_steps cylinder = if cylinder == 0 then [] else SeekTo cylinder ∷ []

-- off the centre, where an offset is given
abbrev pub offset_steps : Option OffsetCode → List Positioning
offset_steps None = []
offset_steps (Some code) = OffsetBy code ∷ []

-- what the schedule says
abbrev pub retried : Step → ℕ → Segment → ℕ → Stage
retried retry.Again cylinder segment done = AtOnce segment
retried (retry.Offset code) cylinder segment done = Steps (OffsetBy code ∷ []) segment
retried (retry.Recalibrate offset) cylinder segment done =
    Steps (Recalibrate ∷ seek_steps cylinder ++ offset_steps offset) segment
retried retry.GiveUp cylinder segment done = Ending (Failed Fault done)

-- a failure: the schedule by the failures at the place, and the cylinder of the sector that failed
abbrev pub failed : Hand → Segment → Stage
failed h segment =
    retried (step_after h.progress.failures (not (is_write h))) (place_at h.kind (start_of segment h)).cylinder segment h.progress.done

-- A MARK. The entry of the table that lists a block of the pack, if one does
abbrev pub entry_of : Hand → ℕ → Option ℕ
entry_of h block = index_in h.table (place_at h.kind block)

-- to the replacement of an entry, or to the end
abbrev pub forwarded : Hand → Option ℕ → Stage
forwarded h (Some i) = AtOnce (Replacement (replacement_at h.kind i))
forwarded h None = Ending (Failed Unforwarded h.progress.done)

-- a mark on an own sector, or on a replacement
abbrev pub marked : Hand → Segment → Stage
marked h OwnBlocks = forwarded h (entry_of h (start_of OwnBlocks h))
marked h (Replacement block) = Ending (Failed Unforwarded h.progress.done)

-- BLOCKS WERE DONE: the request is complete, or goes on from its next block, with the adapter kept.
abbrev pub ok_answer : Hand → Answer
ok_answer h = if is_write h then WriteOk else ReadOk h.progress.bytes

-- the end where all is done; else the next segment
abbrev pub continued : Hand → Stage
continued h = if h.progress.done == h.request.count then Ending (ok_answer h) else AtOnce OwnBlocks

-- what a verdict leads to
abbrev pub outcome : Moved → Hand → Segment → Stage
outcome verdict.Clean h segment = continued h
outcome (verdict.Burst at pattern) h segment = continued h
outcome verdict.Hard h segment = failed h segment
outcome (verdict.Faulted fault) h segment = failed h segment
outcome verdict.Marked h segment = marked h segment
outcome verdict.Offline h segment = Ending (Failed Offline h.progress.done)

-- the hand is that after the interrupt
abbrev pub interrupted_by : Moved → DriveState → Hand → Segment → Stage
interrupted_by verdict d h segment =
    saying (clear_lines verdict ++ centre_lines d ++ try_lines verdict (start_of segment h) h.progress.failures)
    (outcome verdict h segment)

-- WHAT A LINE LEAVES.
abbrev pub segment_of : Stage → Segment
segment_of (Steps left segment) = segment
segment_of (UnderWay left segment) = segment
segment_of (AtOnce segment) = segment
segment_of (Moving segment left last) = segment
segment_of stage = OwnBlocks

-- the last verdict, and how many sectors are left
abbrev pub last_of : Stage → Moved
last_of (Moving segment left last) = last
last_of stage = verdict.Clean

abbrev pub left_of : Stage → ℕ
left_of (Moving segment left last) = left
left_of stage = 0

-- a step's command was given
abbrev pub step_taken : Stage → Stage
step_taken (Steps left segment) = UnderWay (drop 1 left) segment
step_taken stage = stage

-- a step's attention was taken
abbrev pub step_ended : Stage → Stage
step_ended (UnderWay left segment) = Steps left segment
step_ended stage = stage

-- the first of the lines was said
abbrev pub said : Stage → Stage
said (Saying lines next) = saying (drop 1 lines) next
said stage = stage

-- how far the request is after a line
abbrev pub progress_after : Stage → Deed → List ℕ → Progress → Progress
progress_after stage (Sector block verdict) bytes p = progress_tried verdict bytes p
progress_after stage Intr bytes p = progress_interrupted (last_of stage) p
progress_after stage (End answer) bytes p = not_begun
progress_after stage deed bytes p = p

-- with the drive, the hand and the next head after the line
abbrev pub stage_after : Stage → Deed → DriveState → Hand → Option Request → Stage
stage_after stage (Search cylinder sector) d h next = step_taken stage
stage_after stage (Seek cylinder) d h next = step_taken stage
stage_after stage Recal d h next = step_taken stage
stage_after stage (Offset code) d h next = step_taken stage
stage_after stage Centre d h next = said stage
stage_after stage Clear d h next = said stage
stage_after stage Pack d h next = stage
stage_after stage (Transfer write block count) d h next = Moving (segment_of stage) count verdict.Clean
stage_after stage Arrive d h next = stage
stage_after stage (Sector block verdict) d h next = Moving (segment_of stage) (left_of stage - 1) verdict
stage_after stage Intr d h next = interrupted_by (last_of stage) d h (segment_of stage)
stage_after stage (Try block failures) d h next = said stage
stage_after stage Attn d h next = step_ended stage
stage_after stage (End answer) d h next = begun d next
