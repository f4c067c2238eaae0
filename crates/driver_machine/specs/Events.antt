-- What each event does, act by act, as a function of the world before it.
use Rattle.std.specs.Prelude.{ℕ, zero, suc, ◌+◌, ◌*◌, ◌==◌, nat_le, Bool, true, false, not, ◌||◌, ◌&&◌, if◌then◌else◌, List, [], ◌∷◌, ◌++◌, length, Option, Some, None}
use Rattle.trace_replay.specs.requests.Partitions.{admission}
use Rattle.trace_replay.specs.requests.Admission.{Admission}
use Rattle.trace_replay.specs.requests.Admission.TheVariants.{Inside, Eof, Outside}
use Rattle.hardware_table.specs.Drive.{is_positioning}
use Rattle.hardware_table.specs.Adapter.{next_block}
use Rattle.disksort.specs.declared.Waiter.{Waiter}
use Rattle.trace_replay.specs.requests.Requests.{Request}
use Rattle.trace_replay.specs.Script as script
use Rattle.trace_replay.specs.Script.{Input}
use Rattle.trace_replay.specs.Service.{frames_needed}
use Rattle.trace_replay.specs.declared.requests.answers.AnswerKind.{AnswerKind}
use Rattle.trace_replay.specs.declared.requests.answers.AnswerKind.TheVariants as answer
use Rattle.trace_replay.specs.declared.requests.answers.Cause.TheVariants as cause
use Rattle.driver_machine.specs.declared.Phase.{Phase}
use Rattle.driver_machine.specs.declared.Phase.TheVariants.{Positioning}
use Rattle.driver_machine.specs.World.{World, UnitView, AdapterView, Held, unit_at, adapter_at, held_in, slot_in_hand, unit_on, unit_of, adapter_of}
use Rattle.driver_machine.specs.Acts.{Act, Refuse, Submit, Of, Change, Nothing, Deed, Tried, after_all}
use Rattle.driver_machine.specs.Acts as deed
use Rattle.driver_machine.specs.Due.{next_of, command_of}

-- PARTS OF EVENTS are functions from the world to acts: one after another, one only where a condition holds, one for each
-- of some units, and one again until it has nothing to do, at most so often.
abbrev pub Part : Type 0
Part = World → List Act

abbrev pub followed : List Act → Part → Part
followed acts next w = acts ++ next (after_all w acts)

abbrev pub and_then : Part → Part → Part
and_then first next w = followed (first w) next w

abbrev pub when_by : Bool → Part → Part
when_by true part w = part w
when_by false part w = []

abbrev pub each : (ℕ → Part) → List ℕ → Part
each part [] w = []
each part (u ∷ us) w = followed (part u w) (each part us) w

abbrev pub go_on : List Act → Part → Part
go_on [] again w = []
go_on (act ∷ acts) again w = followed (act ∷ acts) again w

abbrev pub until : ℕ → Part → Part
until zero part w = []
until (suc n) part w = go_on (part w) (until n part) w

-- AT A UNIT: a deed for the request in hand, where there is one; and what is due, until nothing is. Behind an interrupt
-- at most eight deeds come, and then at most three for each request that ends.
abbrev pub in_hand_by : List Waiter → (line u : ℕ) → Deed → Part
in_hand_by [] line u deed w = []
in_hand_by (x ∷ rest) line u deed w = Of line u (held_in w x.number).id deed ∷ []

abbrev pub in_hand : (line u : ℕ) → Deed → Part
in_hand line u deed w = in_hand_by (unit_at w u).queue line u deed w

abbrev pub due_by : Option Deed → (line u : ℕ) → Part
due_by None line u w = []
due_by (Some deed) line u w = in_hand line u deed w

abbrev pub next_acts : (line u : ℕ) → Part
next_acts line u w = due_by (next_of (unit_at w u) (held_in w (slot_in_hand (unit_at w u)))) line u w

abbrev pub due_acts : (line u : ℕ) → Part
due_acts line u w = until (8 + 3 * length (unit_at w u).queue) (next_acts line u) w

-- a deed, and what is due behind it
abbrev pub begun : (line u : ℕ) → Deed → Part
begun line u deed = and_then (in_hand line u deed) (due_acts line u)

-- ADAPTER START. While the adapter has no transfer and its queue is not empty, its first unit gets what is due for its transfer
-- command: PACK, behind which the command is due; the command; or the end of its request, behind which the unit is started.
abbrev pub choose_by : Bool → List ℕ → (line : ℕ) → Part
choose_by true queue line w = []
choose_by false [] line w = []
choose_by false (u ∷ rest) line w = begun line u (command_of (unit_at w u) (held_in w (slot_in_hand (unit_at w u)))) w

abbrev pub choose_acts : (line a : ℕ) → Part
choose_acts line a w = choose_by (adapter_at w a).state.busy (adapter_at w a).queue line w

abbrev pub adapter_start : (line a : ℕ) → Part
adapter_start line a w = until (2 + length w.slots) (choose_acts line a) w

-- SUBMISSION. Outside its partition, at its end, or too many frames: a request is refused. Any other joins.
abbrev pub is_room : Request → World → Bool
is_room r w = nat_le (w.frames + frames_needed r) 16384

abbrev pub refusal_by : Admission → Bool → Option AnswerKind
refusal_by Outside room = Some (answer.Error cause.Partition 0)
refusal_by Eof room = Some answer.Eof
refusal_by (Inside first) true = None
refusal_by (Inside first) false = Some (answer.Error cause.Frames 0)

abbrev pub refusal_of : Request → World → Option AnswerKind
refusal_of r w = refusal_by (admission (unit_at w r.unit).drive.kind r.part r.block r.count) (is_room r w)

-- it joins in a slot, a waiting unit is started, and then comes adapter start
abbrev pub joined_acts : (line p : ℕ) → Held → Part
joined_acts line p h w =
    followed (Submit line p h ∷ []) (and_then (due_acts line h.unit) (adapter_start line (adapter_of h.unit))) w

abbrev pub submit_by : Option AnswerKind → Request → (line p : ℕ) → Held → Part
submit_by (Some refused) r line p h w = followed (Refuse line r refused ∷ []) (adapter_start line (adapter_of r.unit)) w
submit_by None r line p h w = joined_acts line p h w

-- the request's slot, and how it stands there with its frames and blocks, are handed in
abbrev pub submit_acts : Request → (line p : ℕ) → Held → Part
submit_acts r line p h w = submit_by (refusal_of r w) r line p h w

-- WHAT CAN BE DONE: a positioning ends, a sector is moved, an adapter's interrupt is delivered.
abbrev pub can_arrive : UnitView → Bool
can_arrive v = is_positioning v.drive.work

abbrev pub can_move : AdapterView → Bool
can_move a = a.state.busy && not a.state.completion

abbrev pub can_attend : AdapterView → Bool
can_attend a = a.state.completion || not (a.state.attentions == 0)

-- where it can't, the event finds nothing
abbrev pub or_nothing : Bool → ℕ → Part → Part
or_nothing true line part w = part w
or_nothing false line part w = Nothing line ∷ []

-- ARRIVE. The positioning that is under way ends.
abbrev pub arrive_acts : (line u : ℕ) → Part
arrive_acts line u w = or_nothing (can_arrive (unit_at w u)) line (in_hand line u deed.Arrive) w

-- MOVE. One sector is tried.
abbrev pub move_acts : (line a : ℕ) → Tried → Part
move_acts line a tried w =
    or_nothing (can_move (adapter_at w a)) line
    (in_hand line (unit_of w a) (deed.Sector (next_block (adapter_at w a).state) tried)) w

-- ATTEND. The data interrupt, where the completion is up;
abbrev pub data_interrupt : (line a : ℕ) → Part
data_interrupt line a w =
    when_by (adapter_at w a).state.completion
    (begun line (unit_of w a) (deed.Intr (adapter_at w a).state.moved (adapter_at w a).state.verdict)) w

-- each attention that is up, in ascending order of the drives, behind which the retry's next step comes or the unit is ready;
abbrev pub steps_taken : Phase → ℕ
steps_taken (Positioning taken) = taken
steps_taken phase = 0

abbrev pub attention : (line a drive : ℕ) → Part
attention line a drive w =
    when_by (unit_at w (unit_on a drive)).drive.attention
    (begun line (unit_on a drive) (deed.Attn (steps_taken (unit_at w (unit_on a drive)).phase))) w

abbrev pub drives : List ℕ
drives = 0 ∷ 1 ∷ 2 ∷ 3 ∷ 4 ∷ 5 ∷ 6 ∷ 7 ∷ []

-- and last adapter start.
abbrev pub attended : (line a : ℕ) → Part
attended line a = and_then (data_interrupt line a) (and_then (each (attention line a) drives) (adapter_start line a))

abbrev pub attend_acts : (line a : ℕ) → Part
attend_acts line a w = or_nothing (can_attend (adapter_at w a)) line (attended line a) w

-- an event, with the sector that is tried where one is; a submission has its own acts, and a drain is a list of events
abbrev pub event_acts : ℕ → Input → Tried → Part
event_acts line (script.ArriveAt u) tried w = arrive_acts line u w
event_acts line (script.MoveAt a) tried w = move_acts line a tried w
event_acts line (script.AttendTo a) tried w = attend_acts line a w
event_acts line input tried w = Change input ∷ []

-- THE DRAIN. The first of what can be done, of the lowest unit or adapter.
abbrev pub lowest : {A : Type 0} → (A → Bool) → List A → ℕ → Option ℕ
lowest can [] n = None
lowest can (x ∷ xs) n = if can x then Some n else lowest can xs (n + 1)

abbrev pub drain_by : Option ℕ → Option ℕ → Option ℕ → Option Input
drain_by (Some u) moves attends = Some (script.ArriveAt u)
drain_by None (Some a) attends = Some (script.MoveAt a)
drain_by None None (Some a) = Some (script.AttendTo a)
drain_by None None None = None

abbrev pub next_event : World → Option Input
next_event w = drain_by (lowest can_arrive w.units 0) (lowest can_move w.adapters 0) (lowest can_attend w.adapters 0)
