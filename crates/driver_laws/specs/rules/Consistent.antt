-- THE PARTS AGREE. The stage of each unit, what its drive does, the unit for which its adapter is busy and the units that are ready
-- at the adapter tell one state in four ways, and each moment that may come keeps them in agreement.
use Rattle.std.specs.Prelude.{◌≡◌, ◌⊎◌, ℕ, ◌<◌, ◌==◌, ◌&&◌, ◌||◌, Bool, true, false, not, List, [], ◌∷◌, is_some, ◌*◌}
use Rattle.std.specs.Int.{bit_at}
use Rattle.std.specs.List.{list_any}
use Rattle.hardware_table.specs.Drive.{is_positioning, is_transferring, has_error, on}
use Rattle.hardware_table.specs.Adapter.{AdapterState}
use Rattle.trace_replay.specs.Script.{AreApart}
use Rattle.trace_replay.specs.Moments.{Deed, Clear, Centre, Try}
use Rattle.trace_replay.specs.Adapters.{AdapterSeen, adapter_of, drive_of, is_busy_for, can_move}
use Rattle.trace_replay.specs.Service.{head_of}
use Rattle.trace_replay.specs.Conversation.{Stage, Steps, AtOnce, Moving, Saying, Ending, is_waiting, waits, goes_on, is_under_way, is_clean, left_of}
use Rattle.trace_replay.specs.Events.{Act, Arriving, Trying, Serving}
use Rattle.trace_replay.specs.Replay.{Replay, UnitSeen, at_unit, WorkMay}

-- sectors move, or have moved and the interrupt is still to come
abbrev pub is_moving : Stage → Bool
is_moving (Moving segment left last) = true
is_moving stage = false

-- a number stands in a list
abbrev pub is_listed : ℕ → List ℕ → Bool
is_listed n ns = list_any (λ other. other == n) ns

-- DCLR is the next line
abbrev pub is_cleared_next : List Deed → Bool
is_cleared_next (Clear ∷ lines) = true
is_cleared_next lines = false

-- Error bits may stand from a verdict that is not clean until DCLR behind its interrupt.
abbrev pub may_have_errors : Stage → Bool
may_have_errors (Moving segment left last) = not (is_clean last)
may_have_errors (Saying lines next) = is_cleared_next lines
may_have_errors stage = false

-- DCLR, RTC and the try are the lines that come behind an interrupt
abbrev pub is_behind_interrupt : Deed → Bool
is_behind_interrupt Clear = true
is_behind_interrupt Centre = true
is_behind_interrupt (Try block failures) = true
is_behind_interrupt deed = false

-- each of some lines is one of these
abbrev pub are_behind_interrupt : List Deed → Bool
are_behind_interrupt [] = true
are_behind_interrupt (line ∷ lines) = is_behind_interrupt line && are_behind_interrupt lines

-- and behind them come steps, a transfer or the end
abbrev pub follows_lines : Stage → Bool
follows_lines (Steps left segment) = true
follows_lines (AtOnce segment) = true
follows_lines (Ending answer) = true
follows_lines stage = false

-- Where lines are still to be said, there is one at least, and something follows.
abbrev pub is_well_said : Stage → Bool
is_well_said (Saying [] next) = false
is_well_said (Saying (line ∷ lines) next) = are_behind_interrupt (line ∷ lines) && follows_lines next
is_well_said stage = true

-- A transfer counts: a verdict that is not clean has its completion up; else the adapter has 512 bytes for each sector that is
-- left, and its completion goes up as the last one moves.
pub record Counts (stage : Stage) (a : AdapterState) : Type 0 where
  pub stopped : may_have_errors stage ≡ true → a.completion ≡ true
  pub counted : may_have_errors stage ≡ false → a.byte_count ≡ 512 * left_of stage
  pub finished : may_have_errors stage ≡ false → a.completion ≡ true → left_of stage ≡ 0

-- A UNIT AGREES with its drive and its adapter. A step of it is under way exactly where its drive positions or has its attention
-- up, and never both. Its drive transfers exactly where its sectors move and the completion is down. Its adapter is busy for it
-- exactly where its sectors move, has a bit of attention exactly where its drive has its attention up, and has it among the
-- ready ones exactly where it waits for its adapter. It is waiting exactly where no request is in hand. Its drive has an error
-- only from a verdict that is not clean until that is cleared.
pub record Agrees (u : UnitSeen) (a : AdapterSeen) (unit : ℕ) : Type 0 where
  pub positions : is_under_way u.stage ≡ is_positioning u.drive.work || u.drive.attention
  pub never_both : is_positioning u.drive.work && u.drive.attention ≡ false
  pub transfers : is_transferring u.drive.work ≡ is_moving u.stage && not a.state.completion
  pub busy : is_busy_for a.state unit ≡ is_moving u.stage
  pub attention : bit_at a.state.attentions (drive_of unit) ≡ on u.drive.attention 1
  pub queued : is_listed unit a.ready ≡ waits u.stage
  pub held : is_waiting u.stage ≡ not (is_some (head_of u.service))
  pub errors : has_error u.drive ≡ true → may_have_errors u.stage ≡ true
  pub said : is_well_said u.stage ≡ true
  pub counts : is_moving u.stage ≡ true → Counts u.stage a.state

-- AN ADAPTER names one of its eight drives; its completion is up only where it is busy; and those that are ready at it are
-- units of its own, each once.
pub record IsInOrder (a : AdapterSeen) (adapter : ℕ) : Type 0 where
  pub drive : a.state.drive < 8
  pub completion : a.state.busy ≡ false → a.state.completion ≡ false
  pub own : (unit : ℕ) → is_listed unit a.ready ≡ true → adapter_of unit ≡ adapter
  pub once : AreApart a.ready

-- an adapter is served, whose start is still to come
abbrev pub serves : Act → ℕ → Bool
serves (Serving served interrupt drives) adapter = served == adapter
serves act adapter = false

-- the attentions that are served are those of drives
abbrev pub AreDrives : List ℕ → Type 0
AreDrives [] = Unit {0}
AreDrives (drive ∷ drives) = (drive < 8) × AreDrives drives

-- an event that serves an adapter serves drives of it
abbrev pub IsAct : Act → Type 0
IsAct (Serving adapter interrupt drives) = AreDrives drives
IsAct act = Unit {0}

-- the attentions of these drives are up, and none stands twice
abbrev pub AreUp : ℕ → List ℕ → Type 0
AreUp attentions [] = Unit {0}
AreUp attentions (drive ∷ drives) = (bit_at attentions drive ≡ 1) × (is_listed drive drives ≡ false) × AreUp attentions drives

-- the completion is up where its interrupt is to be served, and so are the attentions
pub record CanServe (a : AdapterState) (interrupt : Bool) (drives : List ℕ) : Type 0 where
  pub completed : interrupt ≡ true → a.busy && a.completion ≡ true
  pub up : AreUp a.attentions drives

-- WHAT IS STILL TO COME of an event can come: the positioning that is to end is under way, a sector can move, an adapter can be
-- served.
abbrev pub IsDue : (ℕ → UnitSeen) → (ℕ → AdapterSeen) → Act → Type 0
IsDue units adapters (Arriving unit) = is_positioning (units unit).drive.work ≡ true
IsDue units adapters (Trying adapter) = can_move (adapters adapter).state ≡ true
IsDue units adapters (Serving adapter interrupt drives) = CanServe (adapters adapter).state interrupt drives
IsDue units adapters act = Unit {0}

-- an interrupt is still to be served
abbrev pub has_interrupt : Act → Bool
has_interrupt (Serving adapter interrupt drives) = interrupt
has_interrupt act = false

-- THE EVENT. Lines are due only for the unit that spoke last, while its adapter is served. An adapter is free with units ready
-- at it only until it is started. No line comes before an interrupt that is served. Between two events of a drain all units are at
-- work.
pub record IsUnderControl (s : Replay) : Type 0 where
  pub speaker : (unit : ℕ) → goes_on (s.units unit).stage ≡ true → unit ≡ s.event.speaker
  pub served : goes_on (s.units s.event.speaker).stage ≡ true → serves s.event.act (adapter_of s.event.speaker) ≡ true
  pub started : (adapter : ℕ) → (s.adapters adapter).state.busy ≡ false → (s.adapters adapter).ready ≡ [] ⊎ (serves s.event.act adapter ≡ true)
  pub act : IsAct s.event.act
  pub due : IsDue s.units s.adapters s.event.act
  pub first : has_interrupt s.event.act ≡ true → goes_on (s.units s.event.speaker).stage ≡ false
  pub at_work : WorkMay s.event.between s

-- THE REPLAY IS CONSISTENT.
pub record IsConsistent (s : Replay) : Type 0 where
  pub units : (unit : ℕ) → Agrees (s.units unit) (at_unit s unit) unit
  pub adapters : (adapter : ℕ) → IsInOrder (s.adapters adapter) adapter
  pub event : IsUnderControl s
