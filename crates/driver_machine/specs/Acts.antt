-- The acts of the driver: what each one is, and what it leaves.
use Rattle.std.specs.Prelude.{ℕ, ◌+◌, ◌-◌, ◌==◌, Bool, true, false, if◌then◌else◌, List, [], ◌∷◌, ◌++◌, drop, slice_set, Option, None, Some}
use Rattle.std.specs.Option.{option_map_or}
use Rattle.pack_geometry.specs.declared.Place.{Place}
use Rattle.pack_geometry.specs.Geometry.{place_at}
use Rattle.drive_registers.specs.Codes.{offset_code}
use Rattle.drive_registers.specs.declared.Function.TheVariants as function
use Rattle.hardware_table.specs.declared.Moved.{Moved}
use Rattle.hardware_table.specs.declared.Moved.TheVariants as verdict
use Rattle.hardware_table.specs.declared.Register.TheVariants as register
use Rattle.hardware_table.specs.Drive.{DriveState, with_register}
use Rattle.hardware_table.specs.Functions.{performed}
use Rattle.hardware_table.specs.Events.{arrived, attention_cleared, turned, fault_armed, online_set, locked_set}
use Rattle.hardware_table.specs.Moves.{was_read}
use Rattle.hardware_table.specs.Noise.{Book, book_struck, book_armed}
use Rattle.hardware_table.specs.Adapter.{AdapterState, loaded, started, stepped, drive_stepped, next_window, completed, attention_raised, attention_lowered}
use Rattle.driver_machine.specs.Repaired.{repaired}
use Rattle.disksort.specs.declared.Waiter.{Waiter}
use Rattle.trace_replay.specs.requests.ServiceOrder.{queue_with}
use Rattle.transfer_engine.specs.declared.job.Segment.{Segment}
use Rattle.transfer_engine.specs.State.{TransferState, begun, moved_on}
use Rattle.transfer_engine.specs.State as transfer
use Rattle.trace_replay.specs.requests.Requests.{Request}
use Rattle.trace_replay.specs.Script as script
use Rattle.trace_replay.specs.Script.{Input}
use Rattle.trace_replay.specs.Drives.{addressed, search_place, offset_written, transfer_function, unoffset}
use Rattle.trace_replay.specs.declared.requests.answers.AnswerKind.{AnswerKind}
use Rattle.driver_machine.specs.declared.Made.{Made}
use Rattle.driver_machine.specs.declared.RetryStep.{RetryStep}
use Rattle.driver_machine.specs.declared.RetryStep.TheVariants.{Recalibrate, Seek, Offset}
use Rattle.driver_machine.specs.declared.Task.{Task}
use Rattle.driver_machine.specs.declared.Task.TheVariants.{Clear, Judge, Steps, Command, GiveUp}
use Rattle.driver_machine.specs.declared.Phase.{Phase}
use Rattle.driver_machine.specs.declared.Phase.TheVariants.{Waiting, Positioning, Queued, Transferring, Due}
use Rattle.driver_machine.specs.World.{World, UnitView, AdapterView, Held, adapter_of, drive_of, unit_at, adapter_at, held_in, slot_in_hand, transfer_of, job_of, frames_of, block_in, with_block_in}

-- one sector that is tried: whether it is marked, its verdict, and the bytes that moved where some did
pub record Tried : Type 0 where
  pub marked : Bool
  pub verdict : Moved
  pub bytes : List ℕ

-- What is done for the request in hand. Each deed carries what it needs, so that what it leaves goes by the deed alone.
pub data Deed : Type 0 where
  -- an event begins it: a positioning ends, a sector is tried, the data interrupt or an attention is taken
  Arrive : Deed
  Sector : (block : ℕ) (tried : Tried) → Deed
  Intr : (moved : ℕ) (verdict : Moved) → Deed
  Attn : (taken : ℕ) → Deed
  -- commands before which the status is read: SEARCH, a step of a retry with the number of those taken then, RCOM or WCOM
  Search : (target : Place) (sector : ℕ) → Deed
  Do : (step : RetryStep) (taken : ℕ) → Deed
  Move : (write : Bool) (segment : Segment) → Deed
  -- and the others
  Pack : Deed
  Dclr : (moved : ℕ) (verdict : Moved) → Deed
  Rtc : Deed
  -- the unit is ready with a transfer; the block is repaired in the buffer; a replacement comes next, or the blocks behind one; a
  -- try failed
  Ready : (transfer : TransferState) → Deed
  Repair : (moved at pattern : ℕ) → Deed
  Forward : (moved index : ℕ) → Deed
  Continue : (moved : ℕ) → Deed
  Try : (moved block number : ℕ) (next : Task) → Deed
  End : (kind : AnswerKind) → Deed

-- A request is refused at its submission, or joins in a slot; a deed is done at a unit for the request of an id; a
-- condition changes, or noise is armed; an event finds nothing to do; an answer is taken.
pub data Act : Type 0 where
  Refuse : (line : ℕ) (r : Request) (kind : AnswerKind) → Act
  Submit : (line p : ℕ) (h : Held) → Act
  Of : (line u id : ℕ) (deed : Deed) → Act
  Change : (input : Input) → Act
  Nothing : (line : ℕ) → Act
  Taken : Act

-- WHAT A DEED CONCERNS: the unit, its adapter, the request in hand, the frames, the noise, and the answers.
pub record Scene : Type 0 where
  pub unit : UnitView
  pub adapter : AdapterView
  pub held : Held
  pub frames : ℕ
  pub book : Book
  pub answers : List Made

-- THE DRIVE. Before a command its place is written.
abbrev pub searching : Place → ℕ → DriveState → DriveState
searching target sector d = performed function.Search (addressed (search_place target.cylinder sector target) d)

abbrev pub stepping : RetryStep → DriveState → DriveState
stepping Recalibrate d = performed function.Recal d
stepping (Seek cylinder) d = performed function.Seek (with_register register.Dc cylinder d)
stepping (Offset code) d = performed function.Offset (offset_written (offset_code code) d)

abbrev pub transferring : Bool → ℕ → DriveState → DriveState
transferring write block d = performed (transfer_function write) (addressed (place_at d.kind block) d)

abbrev pub centred : DriveState → DriveState
centred d = unoffset (performed function.Centre d)

-- THE UNIT.
abbrev pub with_drive : (DriveState → DriveState) → UnitView → UnitView
with_drive f v = record v { drive = f v.drive }

abbrev pub going_to : Phase → (DriveState → DriveState) → UnitView → UnitView
going_to phase f v = record v { phase = phase; drive = f v.drive }

abbrev pub in_phase : Phase → UnitView → UnitView
in_phase phase v = record v { phase = phase }

-- the transfer goes on, and a task comes
abbrev pub with_transfer : Option TransferState → Task → UnitView → UnitView
with_transfer t task v = record v { phase = Due task; transfer = t }

-- behind a failed try the transfer goes on, unless it was the last try
abbrev pub transfer_tried : Task → ℕ → TransferState → Option TransferState
transfer_tried (GiveUp done) moved t = None
transfer_tried task moved t = Some (transfer.failed moved t)

-- what comes behind a data interrupt: DCLR where the verdict was not clean
abbrev pub interrupted : ℕ → Moved → Task
interrupted moved verdict.Clean = Judge moved verdict.Clean
interrupted moved last = Clear moved last

-- THE ADAPTER.
abbrev pub with_state : (AdapterState → AdapterState) → AdapterView → AdapterView
with_state f a = record a { state = f a.state }

abbrev pub waits_too : ℕ → AdapterView → AdapterView
waits_too u a = record a { queue = a.queue ++ u ∷ [] }

-- a unit that waits for its adapter stands in the adapter's queue until its transfer is begun or its request ends
abbrev pub kept_by : Bool → ℕ → List ℕ → List ℕ
kept_by same x rest = if same then rest else x ∷ rest

abbrev pub without : ℕ → List ℕ → List ℕ
without u [] = []
without u (x ∷ xs) = kept_by (x == u) x (without u xs)

abbrev pub no_more_waits : ℕ → AdapterView → AdapterView
no_more_waits u a = record a { queue = without u a.queue }

abbrev pub commanded : ℕ → Held → Bool → Segment → AdapterState → AdapterState
commanded u h write segment a =
    started (drive_of u) segment.block write
    (loaded h.loan.frames h.loan.offset h.loan.count h.loan.last segment.skip segment.count a)

-- THE REQUEST. The next block of its buffer is repaired behind so many that are done.
abbrev pub repaired_at : ℕ → (at pattern : ℕ) → Held → Held
repaired_at k at pattern h = with_block_in k (repaired at pattern (block_in h k)) h

-- an answer to it
abbrev pub answer_at : ℕ → Option ℕ → ℕ → AnswerKind → Made
answer_at line slot id kind = record { slot = slot; answer = record { id = id; at = line; kind = kind } }

-- WHAT A DEED LEAVES, done at a line for the request in slot p of unit u.
abbrev pub effect : (line u p : ℕ) → Deed → Scene → Scene
effect line u p Arrive s = record s {
  unit = with_drive arrived s.unit;
  adapter = with_state (attention_raised (drive_of u)) s.adapter;
}
effect line u p (Sector block t) s = record s {
  unit = with_drive (drive_stepped t.verdict s.adapter.state) s.unit;
  adapter = with_state (stepped t.verdict) s.adapter;
  held = if was_read s.unit.drive t.verdict then with_block_in (next_window s.adapter.state) t.bytes s.held else s.held;
  book = if was_read s.unit.drive t.verdict then book_struck u block s.unit.drive.offset s.book else s.book;
}
effect line u p (Intr moved last) s = record s {
  unit = in_phase (Due (interrupted moved last)) s.unit;
  adapter = with_state completed s.adapter;
  held = record s.held { on_bus = false };
}
effect line u p (Attn taken) s = record s {
  unit = going_to (Due (Steps taken)) attention_cleared s.unit;
  adapter = with_state (attention_lowered (drive_of u)) s.adapter;
}
effect line u p (Search target sector) s = record s {
  unit = record (going_to (Positioning 0) (searching target sector) s.unit) { transfer = Some (begun (job_of s.unit.drive.kind s.held)) };
}
effect line u p (Do step taken) s = record s { unit = going_to (Positioning taken) (stepping step) s.unit }
effect line u p (Move write segment) s = record s {
  unit = going_to Transferring (transferring write segment.block) s.unit;
  adapter = with_state (commanded u s.held write segment) (no_more_waits u s.adapter);
  held = record s.held { on_bus = true };
}
effect line u p Pack s = record s { unit = with_drive (performed function.Pack) s.unit }
effect line u p (Dclr moved last) s = record s { unit = going_to (Due (Judge moved last)) (performed function.Clear) s.unit }
effect line u p Rtc s = record s { unit = with_drive centred s.unit }
effect line u p (Ready t) s = record s {
  unit = record s.unit { phase = Queued; transfer = Some t };
  adapter = waits_too u s.adapter;
}
effect line u p (Repair moved at pattern) s = record s {
  unit = in_phase (Due (Judge (moved + 1) verdict.Clean)) s.unit;
  held = repaired_at ((transfer_of s.unit).done + moved) at pattern s.held;
}
effect line u p (Forward moved index) s =
    record s { unit = with_transfer (Some (transfer.forwarded moved index (transfer_of s.unit))) Command s.unit }
effect line u p (Continue moved) s =
    record s { unit = with_transfer (Some (moved_on ((transfer_of s.unit).done + moved) (transfer_of s.unit))) Command s.unit }
effect line u p (Try moved block number next) s =
    record s { unit = with_transfer (transfer_tried next moved (transfer_of s.unit)) next s.unit }
effect line u p (End kind) s = record s {
  unit = record s.unit { queue = drop 1 s.unit.queue; phase = Waiting; transfer = None };
  adapter = no_more_waits u s.adapter;
  held = record s.held { ended = true };
  frames = s.frames - frames_of s.held;
  answers = s.answers ++ answer_at line (Some p) s.held.id kind ∷ [];
}

-- the scene of a unit, and the world with another one in its place
abbrev pub scene_of : World → ℕ → Scene
scene_of w u = record {
  unit = unit_at w u;
  adapter = adapter_at w (adapter_of u);
  held = held_in w (slot_in_hand (unit_at w u));
  frames = w.frames;
  book = w.book;
  answers = w.answers;
}

abbrev pub with_scene : World → ℕ → ℕ → Scene → World
with_scene w u p s = record {
  units = slice_set w.units u s.unit;
  adapters = slice_set w.adapters (adapter_of u) s.adapter;
  slots = slice_set w.slots p (Some s.held);
  frames = s.frames;
  book = s.book;
  answers = s.answers;
}

-- CONDITIONS. A line of the script changes a drive's, or arms noise.
abbrev pub with_unit_drive : ℕ → (DriveState → DriveState) → World → World
with_unit_drive u f w = record w { units = slice_set w.units u (with_drive f (unit_at w u)) }

abbrev pub changed : Input → World → World
changed (script.Turn u sector) w = with_unit_drive u (turned sector) w
changed (script.Noise noise) w = record w { book = book_armed noise w.book }
changed (script.Arm u kind times) w = with_unit_drive u (fault_armed kind times) w
changed (script.SetOnline u on) w = with_unit_drive u (online_set on) w
changed (script.SetLocked u on) w = with_unit_drive u (locked_set on) w
changed input w = w

-- A REQUEST JOINS. Its cylinder is that of its first block.
abbrev pub waiter_for : ℕ → Held → UnitView → Waiter
waiter_for p h v = record { number = p; cylinder = (place_at v.drive.kind h.first).cylinder }

abbrev pub joined : ℕ → Held → UnitView → UnitView
joined p h v = record v { queue = queue_with (λ (x : Waiter). x.cylinder) (waiter_for p h v) v.queue }

abbrev pub freed : List Made → List (Option Held) → List (Option Held)
freed [] slots = slots
freed (made ∷ rest) slots = option_map_or (λ p. slice_set slots p None) made.slot slots

-- WHAT AN ACT LEAVES.
abbrev pub after : World → Act → World
after w (Refuse line r kind) = record w { answers = w.answers ++ answer_at line None r.id kind ∷ [] }
after w (Submit line p h) = record w {
  units = slice_set w.units h.unit (joined p h (unit_at w h.unit));
  slots = slice_set w.slots p (Some h);
  frames = w.frames + frames_of h;
}
after w (Of line u id deed) =
    with_scene w u (slot_in_hand (unit_at w u)) (effect line u (slot_in_hand (unit_at w u)) deed (scene_of w u))
after w (Change input) = changed input w
after w (Nothing line) = w
after w Taken = record w { slots = freed w.answers w.slots; answers = drop 1 w.answers }

abbrev pub after_all : World → List Act → World
after_all w [] = w
after_all w (act ∷ acts) = after_all (after w act) acts
