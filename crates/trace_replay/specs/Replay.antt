-- THE REPLAY. One state of all drives, adapters, packs and requests, as the lines so far leave it; and which line may come next.
--
-- There is one state, and not one for each rule, since the order of lines inside an event, the order of ready units, the noise and
-- the packs concern several units at once: each rule would have to keep the states of the others to know when it applies. Each rule
-- reads only the part that it needs.
use Rattle.std.specs.Prelude.{◌≡◌, ℕ, ◌<◌, ◌+◌, ◌-◌, ◌*◌, ◌==◌, ◌&&◌, ◌||◌, nat_lt, nat_le, Bool, true, false, not, if◌then◌else◌, List, [], ◌∷◌, drop, filter, Option, None, Some, is_some, unwrap_or}
use Rattle.std.specs.List.{list_all}
use Rattle.pack_geometry.specs.declared.DriveKind.{DriveKind}
use Rattle.pack_geometry.specs.declared.DriveKind.TheVariants.{Rp06}
use Rattle.pack_geometry.specs.Geometry.{block_count}
use Rattle.trace_replay.specs.requests.Admission.{Admission}
use Rattle.trace_replay.specs.requests.Admission.TheVariants.{Inside, Eof, Outside}
use Rattle.trace_replay.specs.requests.Partitions.{admission}
use Rattle.pack_geometry.specs.Pack as model
use Rattle.pack_geometry.specs.TableSpelling.{Table}
use Rattle.hardware_table.specs.Drive.{DriveState, is_positioning}
use Rattle.hardware_table.specs.Moves.{was_read}
use Rattle.trace_replay.specs.requests.ServiceOrder.{Service, empty_service}
use Rattle.trace_replay.specs.requests.Requests.{Request, Rejection, AtEnd, Beyond, FramesShort, rejection_answer}
use Rattle.trace_replay.specs.Script.{Input, Submit, ArriveAt, MoveAt, AttendTo, Drain, Turn, Noise, Arm, SetOnline, SetLocked}
use Rattle.trace_replay.specs.Moments.{Deed, Sector, End, Moment, Played, Told, Idle}
use Rattle.trace_replay.specs.Drives.{DriveMay, drive_after, drive_played, attached}
use Rattle.trace_replay.specs.Adapters.{AdapterSeen, AdapterMay, adapter_after, ready_after, with_ready, adapter_of, drive_of, can_move, is_busy_for, free_adapter}
use Rattle.trace_replay.specs.Packs.{Surface, VerdictMay, bytes_read, surface_tried, surface_played}
use Rattle.trace_replay.specs.Service.{ServiceMay, service_after, service_joined, head_of, in_hand, target_of, frames_needed}
use Rattle.trace_replay.specs.Conversation.{Stage, Waiting, Progress, not_begun, Hand, TalkMay, progress_after, stage_after, begun, waits, goes_on, is_waiting}
use Rattle.trace_replay.specs.Events.{Act, Done, Refusing, Arriving, Trying, Serving, NothingToDo, Event, Wish, NoLine, IdleLine, Refusal, wish_of, wanted, is_no_line, act_after, can_attend, serving, drain_act}

-- a unit: its drive, the requests that wait at it, where the one in hand stands, and the table of its pack
pub record UnitSeen : Type 0 where
  pub drive : DriveState
  pub service : Service Request
  pub stage : Stage
  pub progress : Progress
  pub table : Option Table

-- The units that are there, in ascending order, with the others left as they may be; the frames that the outstanding requests
-- need, and how many of them there are.
pub record Replay : Type 0 where
  pub there : List ℕ
  pub units : ℕ → UnitSeen
  pub adapters : ℕ → AdapterSeen
  pub surface : Surface
  pub frames : ℕ
  pub outstanding : ℕ
  pub event : Event

-- AT THE START the drives are attached and nothing is asked.
abbrev pub no_event : Event
no_event = record { line = 0; drains = false; between = false; act = Done; speaker = 0 }

-- the numbers of units
abbrev pub all_units : List ℕ
all_units =
    0 ∷ 1 ∷ 2 ∷ 3 ∷ 4 ∷ 5 ∷ 6 ∷ 7 ∷ 8 ∷ 9 ∷ 10 ∷ 11 ∷ 12 ∷ 13 ∷ 14 ∷ 15 ∷ 16 ∷ 17 ∷ 18 ∷ 19 ∷ 20 ∷ 21 ∷ 22 ∷ 23 ∷ 24 ∷ 25 ∷ 26 ∷ 27 ∷ 28 ∷ 29
    ∷ 30 ∷ 31 ∷ []

-- with the kind of each unit that is there, the table of its pack, and what the packs hold
abbrev pub new_replay : (ℕ → Option DriveKind) → (ℕ → Option Table) → Surface → Replay
new_replay drives tables surface = record {
  there = filter (λ unit. is_some (drives unit)) all_units;
  units = λ unit. record {
    drive = attached (unwrap_or (drives unit) Rp06) unit;
    service = empty_service;
    stage = Waiting;
    progress = not_begun;
    table = tables unit;
  };
  adapters = λ adapter. free_adapter;
  surface = surface;
  frames = 0;
  outstanding = 0;
  event = no_event;
}

-- One state changes, and no other. (By cases and not by `if`: the others are not looked up where they are not asked for.)
abbrev pub this_or : {T : Type 0} → Bool → T → (ℕ → T) → ℕ → T
this_or true state states x = state
this_or false state states x = states x

-- the states with one of them replaced
abbrev pub with_state : {T : Type 0} → (ℕ → T) → ℕ → T → ℕ → T
with_state states k state x = this_or (x == k) state states x

-- the request in hand of a unit
abbrev pub hand_of : UnitSeen → Hand
hand_of u = record { kind = u.drive.kind; request = in_hand u.service; progress = u.progress; table = u.table }

-- the adapter of a unit
abbrev pub at_unit : Replay → ℕ → AdapterSeen
at_unit s unit = s.adapters (adapter_of unit)

-- whose line comes next
abbrev pub next_wish : Replay → Wish
next_wish s = wanted s.adapters s.event (goes_on (s.units s.event.speaker).stage)

-- AT WORK. A unit with a request positions, or its attention is up, or its adapter transfers for it, or the unit is ready and
-- its adapter transfers for another one.
abbrev pub is_at_work : Replay → ℕ → Bool
is_at_work s unit =
    is_waiting (s.units unit).stage
    || (is_positioning (s.units unit).drive.work || ((s.units unit).drive.attention
    || (is_busy_for (at_unit s unit).state unit
    || (waits (s.units unit).stage && ((at_unit s unit).state.busy && not ((at_unit s unit).state.drive == drive_of unit))))))

-- all units that are there
abbrev pub are_at_work : Replay → Bool
are_at_work s = list_all (is_at_work s) s.there

-- between two events of a drain they are
abbrev pub WorkMay : Bool → Replay → Type 0
WorkMay true s = are_at_work s ≡ true
WorkMay false s = Unit {0}

-- WHAT MAY COME. A line of a unit keeps each rule.
pub record LineMay (s : Replay) (line unit id : ℕ) (deed : Deed) : Type 0 where
  pub number : line ≡ s.event.line
  pub wished : next_wish s ≡ wish_of unit deed
  pub service : ServiceMay (s.units unit).service id
  pub talk : TalkMay (s.units unit).drive (hand_of (s.units unit)) (s.units unit).stage deed
  pub drive : DriveMay (s.units unit).drive (target_of (s.units unit).drive.kind (in_hand (s.units unit).service)) deed
  pub adapter : AdapterMay (at_unit s unit).state unit deed
  pub verdict : VerdictMay s.surface unit (s.units unit).drive deed
  pub at_work : WorkMay s.event.between s

-- a request that is refused as it is submitted has its end line at once
pub record RefusalMay (s : Replay) (line unit id : ℕ) (deed : Deed) (refused_unit refused_id : ℕ) (why : Rejection) : Type 0 where
  pub number : line ≡ s.event.line
  pub same_unit : unit ≡ refused_unit
  pub same_id : id ≡ refused_id
  pub answered : deed ≡ End (rejection_answer why)

-- a refusal where one is due; else a line that keeps the rules
abbrev pub ToldMay : Wish → Replay → ℕ → ℕ → ℕ → Deed → Type 0
ToldMay (Refusal refused_unit refused_id why) s line unit id deed = RefusalMay s line unit id deed refused_unit refused_id why
ToldMay wish s line unit id deed = LineMay s line unit id deed

-- a line of the script comes where the event before it is over (a drain's where no request is outstanding) and all units are at
-- work
pub record InputMay (s : Replay) (line : ℕ) : Type 0 where
  pub later : nat_lt s.event.line line ≡ true
  pub over : next_wish s ≡ NoLine
  pub finished : s.event.drains && nat_lt 0 s.outstanding ≡ false
  pub at_work : are_at_work s ≡ true

-- an idle line comes where an event found nothing to do
pub record IdleMay (s : Replay) (line : ℕ) : Type 0 where
  pub number : line ≡ s.event.line
  pub nothing : next_wish s ≡ IdleLine

-- what may come next
abbrev pub MayCome : Replay → Moment → Type 0
MayCome s (Played line input) = InputMay s line
MayCome s (Told line unit id deed) = ToldMay (next_wish s) s line unit id deed
MayCome s (Idle line) = IdleMay s line

-- WHAT A LINE OF THE TRACE LEAVES. The bytes that a sector gives to the request
abbrev pub bytes_of : Replay → ℕ → Deed → List ℕ
bytes_of s unit (Sector block verdict) =
    bytes_read (was_read (s.units unit).drive verdict) s.surface unit (s.units unit).drive block
    (in_hand (s.units unit).service) (s.units unit).progress.done
bytes_of s unit deed = []

-- a unit after a line, given its drive, progress and queue after it
abbrev pub unit_told : Replay → ℕ → Deed → DriveState → Progress → Service Request → UnitSeen
unit_told s unit deed d p service = record {
  drive = d;
  service = service;
  stage = stage_after (s.units unit).stage deed d (record (hand_of (s.units unit)) { progress = p }) (head_of service);
  progress = p;
  table = (s.units unit).table;
}

-- a unit after a line
abbrev pub unit_after : Replay → ℕ → Deed → UnitSeen
unit_after s unit deed = unit_told s unit deed
    (drive_after (s.units unit).drive (at_unit s unit).state (target_of (s.units unit).drive.kind (in_hand (s.units unit).service)) deed)
    (progress_after (s.units unit).stage deed (bytes_of s unit deed) (s.units unit).progress)
    (service_after (s.units unit).service deed)

-- its adapter after the line, given the stage
abbrev pub adapter_told : AdapterSeen → ℕ → Deed → Stage → AdapterSeen
adapter_told a unit deed stage = record {
  state = adapter_after a.state unit deed;
  ready = ready_after (waits stage) unit deed a.ready;
}

-- the surface after a line
abbrev pub surface_after : Replay → ℕ → Deed → Surface
surface_after s unit (Sector block verdict) =
    surface_tried s.surface unit (s.units unit).drive block verdict (in_hand (s.units unit).service) (s.units unit).progress.done
surface_after s unit deed = s.surface

-- the frames and the number of requests that end
abbrev pub frames_after : Replay → ℕ → Deed → ℕ
frames_after s unit (End answer) = s.frames - frames_needed (in_hand (s.units unit).service)
frames_after s unit deed = s.frames

-- how many requests are outstanding after a line
abbrev pub outstanding_after : ℕ → Deed → ℕ
outstanding_after n (End answer) = n - 1
outstanding_after n deed = n

-- the event after a line
abbrev pub event_after : Event → ℕ → Deed → Event
event_after e unit deed = record e { between = false; act = act_after deed e.act; speaker = unit }

-- In a drain the next event follows where one is over, until no request is outstanding.
abbrev pub act_drained : Replay → Act
act_drained s = drain_act s.there (λ unit. is_positioning (s.units unit).drive.work) (λ adapter. (s.adapters adapter).state)

-- the replay with the next event of a drain, where one is due
abbrev pub drained : Replay → Replay
drained s =
    if s.event.drains && (is_no_line (next_wish s) && nat_lt 0 s.outstanding)
    then record s { event = record s.event { between = true; act = act_drained s } } else s

-- the replay after a line, within its event
abbrev pub replay_told : Replay → ℕ → Deed → UnitSeen → Replay
replay_told s unit deed u = record {
  there = s.there;
  units = with_state s.units unit u;
  adapters = with_state s.adapters (adapter_of unit) (adapter_told (at_unit s unit) unit deed u.stage);
  surface = surface_after s unit deed;
  frames = frames_after s unit deed;
  outstanding = outstanding_after s.outstanding deed;
  event = event_after s.event unit deed;
}

-- the same with nothing more to do
abbrev pub act_done : Replay → Replay
act_done s = record s { event = record s.event { act = Done } }

-- the replay after a line: a refusal changes nothing
abbrev pub told_after : Wish → Replay → ℕ → Deed → Replay
told_after (Refusal refused_unit refused_id why) s unit deed = act_done s
told_after wish s unit deed = drained (replay_told s unit deed (unit_after s unit deed))

-- WHAT A LINE OF THE SCRIPT LEAVES. A request that finds its frames joins its unit's queue, and begins where none was there.
abbrev pub has_frames : Replay → Request → Bool
has_frames s r = nat_le (s.frames + frames_needed r) 16384

-- a request begins where none was in hand
abbrev pub stage_joined : Stage → DriveState → Request → Stage
stage_joined Waiting d r = begun d (Some r)
stage_joined stage d r = stage

-- its unit with it
abbrev pub unit_joined : UnitSeen → Request → UnitSeen
unit_joined u r = record u {
  service = service_joined u.drive.kind r u.service;
  stage = stage_joined u.stage u.drive r;
}

-- its adapter
abbrev pub adapter_joined : AdapterSeen → ℕ → Stage → AdapterSeen
adapter_joined a unit stage = record a { ready = with_ready (waits stage) unit a.ready }

-- the replay with a request that joined, given its unit
abbrev pub joined_by : Replay → Request → UnitSeen → Replay
joined_by s r u = record s {
  units = with_state s.units r.unit u;
  adapters = with_state s.adapters (adapter_of r.unit) (adapter_joined (at_unit s r.unit) r.unit u.stage);
  frames = s.frames + frames_needed r;
  outstanding = s.outstanding + 1;
}

-- WHAT A REQUEST MEETS as it is submitted: its partition refuses it, or its frames are not there, or it joins.
pub data Submission : Type 0 where
  Refused : (why : Rejection) → Submission
  Joined : Submission

-- inside its partition, where its frames are there or not
abbrev pub submission_inside : Bool → Submission
submission_inside true = Joined
submission_inside false = Refused FramesShort

-- by its partition and the frames that are there
abbrev pub submission_by : Admission → Bool → Submission
submission_by Eof frames = Refused AtEnd
submission_by Outside frames = Refused Beyond
submission_by (Inside first) frames = submission_inside frames

-- by the request's own unit, partition, block and count
abbrev pub submission : Replay → Request → Submission
submission s r = submission_by (admission (s.units r.unit).drive.kind r.part r.block r.count) (has_frames s r)

-- the replay with a request, where it joins
abbrev pub submitted : Replay → Request → Submission → Replay
submitted s r (Refused why) = s
submitted s r Joined = joined_by s r (unit_joined (s.units r.unit) r)

-- the replay after a line that changes a condition of a drive, or arms noise
abbrev pub conditions_after : Replay → Input → Replay
conditions_after s input = record s {
  units = λ unit. record (s.units unit) { drive = drive_played unit (s.units unit).drive input };
  surface = surface_played s.surface input;
}

-- what an event is to do
abbrev pub attend_act : ℕ → AdapterSeen → Act
attend_act adapter a = if can_attend a.state then serving adapter a.state else NothingToDo

-- a request that joins is followed by its adapter's start
abbrev pub act_submitted : Request → Submission → Act
act_submitted r (Refused why) = Refusing r.unit r.id why
act_submitted r Joined = Serving (adapter_of r.unit) false []

-- what a line of the script is to do
abbrev pub act_of : Replay → Input → Act
act_of s (Submit r) = act_submitted r (submission s r)
act_of s (ArriveAt unit) = if is_positioning (s.units unit).drive.work then Arriving unit else NothingToDo
act_of s (MoveAt adapter) = if can_move (s.adapters adapter).state then Trying adapter else NothingToDo
act_of s (AttendTo adapter) = attend_act adapter (s.adapters adapter)
act_of s Drain = if s.outstanding == 0 then NothingToDo else act_drained s
act_of s input = Done

-- the unit that may speak first
abbrev pub speaker_of : Input → ℕ
speaker_of (Submit r) = r.unit
speaker_of input = 0

-- it is a drain
abbrev pub is_drain : Input → Bool
is_drain Drain = true
is_drain input = false

-- the event of a line of the script
abbrev pub event_of : Replay → ℕ → Input → Event
event_of s line input = record { line = line; drains = is_drain input; between = false; act = act_of s input; speaker = speaker_of input }

-- the replay after a line of the script, its event apart
abbrev pub replay_played : Replay → Input → Replay
replay_played s (Submit r) = submitted s r (submission s r)
replay_played s (Turn unit sector) = conditions_after s (Turn unit sector)
replay_played s (Noise noise) = conditions_after s (Noise noise)
replay_played s (Arm unit kind times) = conditions_after s (Arm unit kind times)
replay_played s (SetOnline unit on) = conditions_after s (SetOnline unit on)
replay_played s (SetLocked unit on) = conditions_after s (SetLocked unit on)
replay_played s input = s

-- what a moment leaves
abbrev pub after_moment : Replay → Moment → Replay
after_moment s (Played line input) = record (replay_played s input) { event = event_of s line input }
after_moment s (Told line unit id deed) = told_after (next_wish s) s unit deed
after_moment s (Idle line) = act_done s

-- A LEGAL TRACE. Each moment may come after those before it; and behind the last drain nothing is left to do.
abbrev pub Follows : Replay → List Moment → Type 0
Follows s [] = Unit {0}
Follows s (m ∷ ms) = MayCome s m × Follows (after_moment s m) ms

-- what moments leave
abbrev pub after_moments : Replay → List Moment → Replay
after_moments s [] = s
after_moments s (m ∷ ms) = after_moments (after_moment s m) ms

-- nothing is left to do: no line is due and no request is outstanding
pub record IsOver (s : Replay) : Type 0 where
  pub over : next_wish s ≡ NoLine
  pub answered : s.outstanding ≡ 0

-- each moment may come, and all is over at the end
pub record Legal (s : Replay) (moments : List Moment) : Type 0 where
  pub follows : Follows s moments
  pub over : IsOver (after_moments s moments)

-- THE PACKS AS THEY ARE LEFT: each sector of each unit that is there is the surface's; what its image had beyond the last sector
-- stays, and is no longer; and its marks are the old ones, byte by byte.
pub record AreLeft (drives : ℕ → Option DriveKind) (old new : ℕ → model.Pack) (s : Surface) : Type 0 where
  pub sectors : (unit : ℕ) (kind : DriveKind) (block : ℕ) → drives unit ≡ Some kind → block < block_count kind
      → model.block_at (new unit).image block ≡ s.sector unit block
  pub beyond : (unit : ℕ) (kind : DriveKind) → drives unit ≡ Some kind
      → drop (512 * block_count kind) (new unit).image ≡ drop (512 * block_count kind) (old unit).image
  pub marks : (unit : ℕ) → (new unit).marks ≡ (old unit).marks
  pub others : (unit : ℕ) → drives unit ≡ None → new unit ≡ old unit
