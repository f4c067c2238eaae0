-- THE RULE OF EVENTS. What a line of the script starts, whose line comes next in that event, and when the event is over.
use Rattle.std.specs.Prelude.{ℕ, ◌&&◌, ◌||◌, Bool, true, false, if◌then◌else◌, List, [], ◌∷◌, find, drop, Option, None, Some}
use Rattle.hardware_table.specs.Adapter.{AdapterState}
use Rattle.trace_replay.specs.requests.Requests.{Rejection}
use Rattle.trace_replay.specs.Moments.{Deed, Arrive, Sector, Intr, Attn}
use Rattle.trace_replay.specs.Adapters.{AdapterSeen, unit_on, attentive, can_move}

-- What of an event is still to come: nothing; that a refused request is answered; the end of a positioning; a sector of an
-- adapter; at an adapter the data interrupt, the attentions of some drives, and last its start; or an idle line.
pub data Act : Type 0 where
  Done : Act
  Refusing : (unit id : ℕ) (why : Rejection) → Act
  Arriving : (unit : ℕ) → Act
  Trying : (adapter : ℕ) → Act
  Serving : (adapter : ℕ) (interrupt : Bool) (drives : List ℕ) → Act
  NothingToDo : Act

-- The line of the script, whether it is a drain, whether an event of a drain is over and the next one has not begun, what is
-- still to come, and the unit that spoke last.
pub record Event : Type 0 where
  pub line : ℕ
  pub drains : Bool
  pub between : Bool
  pub act : Act
  pub speaker : ℕ

-- Whose line comes next, and of which sort: no line; a line that is due for a unit by itself; or one that an event brings.
pub data Wish : Type 0 where
  NoLine : Wish
  DueLine : (unit : ℕ) → Wish
  Arrival : (unit : ℕ) → Wish
  SectorLine : (unit : ℕ) → Wish
  Interrupt : (unit : ℕ) → Wish
  Attention : (unit : ℕ) → Wish
  Refusal : (unit id : ℕ) (why : Rejection) → Wish
  IdleLine : Wish

-- the sort of a line
abbrev pub wish_of : ℕ → Deed → Wish
wish_of unit Arrive = Arrival unit
wish_of unit (Sector block verdict) = SectorLine unit
wish_of unit Intr = Interrupt unit
wish_of unit Attn = Attention unit
wish_of unit deed = DueLine unit

-- ADAPTER START. A free adapter takes its first ready unit.
abbrev pub first_ready : List ℕ → Wish
first_ready [] = NoLine
first_ready (unit ∷ rest) = DueLine unit

-- at its start
abbrev pub wish_at_start : AdapterSeen → Wish
wish_at_start a = if a.state.busy then NoLine else first_ready a.ready

-- AN ATTEND: the interrupt, then each attention in ascending order, then the adapter's start.
abbrev pub wish_in_serving : ℕ → AdapterSeen → Bool → List ℕ → Wish
wish_in_serving adapter a true drives = Interrupt (unit_on adapter a.state.drive)
wish_in_serving adapter a false [] = wish_at_start a
wish_in_serving adapter a false (drive ∷ drives) = Attention (unit_on adapter drive)

-- whose line an event brings next
abbrev pub wish_in : (ℕ → AdapterSeen) → Act → Wish
wish_in adapters Done = NoLine
wish_in adapters (Refusing unit id why) = Refusal unit id why
wish_in adapters (Arriving unit) = Arrival unit
wish_in adapters (Trying adapter) = SectorLine (unit_on adapter (adapters adapter).state.drive)
wish_in adapters (Serving adapter interrupt drives) = wish_in_serving adapter (adapters adapter) interrupt drives
wish_in adapters NothingToDo = IdleLine

-- A line that is due for the unit that spoke last stands directly behind its last one.
abbrev pub wanted : (ℕ → AdapterSeen) → Event → (goes_on : Bool) → Wish
wanted adapters e goes_on = if goes_on then DueLine e.speaker else wish_in adapters e.act

-- no line comes
abbrev pub is_no_line : Wish → Bool
is_no_line NoLine = true
is_no_line wish = false

-- WHAT A LINE LEAVES OF AN EVENT.
abbrev pub interrupt_taken : Act → Act
interrupt_taken (Serving adapter interrupt drives) = Serving adapter false drives
interrupt_taken act = act

-- the first attention was taken
abbrev pub attention_taken : Act → Act
attention_taken (Serving adapter interrupt drives) = Serving adapter interrupt (drop 1 drives)
attention_taken act = act

-- what is still to come after a line
abbrev pub act_after : Deed → Act → Act
act_after Arrive act = Done
act_after (Sector block verdict) act = Done
act_after Intr act = interrupt_taken act
act_after Attn act = attention_taken act
act_after deed act = act

-- WHAT AN EVENT IS: an adapter that is attended serves its interrupt and attentions, if it has any.
abbrev pub is_some_drive : List ℕ → Bool
is_some_drive [] = false
is_some_drive (drive ∷ drives) = true

-- an attend finds something to do
abbrev pub can_attend : AdapterState → Bool
can_attend a = (a.busy && a.completion) || is_some_drive (attentive a)

-- what it finds
abbrev pub serving : ℕ → AdapterState → Act
serving adapter a = Serving adapter (a.busy && a.completion) (attentive a)

-- THE DRAIN. The next event: the lowest unit that positions; the lowest adapter that can move; the lowest that can attend.
abbrev pub adapters_there : List ℕ
adapters_there = 0 ∷ 1 ∷ 2 ∷ 3 ∷ []

-- the third choice
abbrev pub act_of_attend : (ℕ → AdapterState) → Option ℕ → Act
act_of_attend adapters None = Done
act_of_attend adapters (Some adapter) = serving adapter (adapters adapter)

-- the second
abbrev pub act_of_move : (ℕ → AdapterState) → Option ℕ → Act
act_of_move adapters None = act_of_attend adapters (find (λ adapter. can_attend (adapters adapter)) adapters_there)
act_of_move adapters (Some adapter) = Trying adapter

-- the first
abbrev pub act_of_arrival : (ℕ → AdapterState) → Option ℕ → Act
act_of_arrival adapters None = act_of_move adapters (find (λ adapter. can_move (adapters adapter)) adapters_there)
act_of_arrival adapters (Some unit) = Arriving unit

-- over the units there, in ascending order, and those of them that position
abbrev pub drain_act : List ℕ → (ℕ → Bool) → (ℕ → AdapterState) → Act
drain_act units positions adapters = act_of_arrival adapters (find positions units)
