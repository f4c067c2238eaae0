-- A script played through the machine: the moments of its run, so that worked rows are computed.
use Rattle.std.specs.Prelude.{◌≡◌, ℕ, zero, suc, ◌+◌, ◌*◌, ◌-◌, ◌^◌, ◌&&◌, ◌++◌, nat_le, Bool, true, false, if◌then◌else◌, List, [], ◌∷◌, map, take, length, replicate, Option, Some, None, unwrap_or, is_none, is_some}
use Rattle.std.specs.List.{position}
use Rattle.pack_geometry.specs.declared.DriveKind.{DriveKind}
use Rattle.hardware_table.specs.declared.Moved.{Moved}
use Rattle.hardware_table.specs.declared.Moved.TheVariants as verdict
use Rattle.hardware_table.specs.Drive.{DriveState, is_writing}
use Rattle.hardware_table.specs.Moves.{stop_of, was_read, was_written}
use Rattle.hardware_table.specs.Noise.{strikes}
use Rattle.hardware_table.specs.Adapter.{next_block, next_window}
use Rattle.main_memory.specs.Blocks.{size_at}
use Rattle.trace_replay.specs.requests.Requests.{Request, first_block}
use Rattle.trace_replay.specs.Script.{Input, Submit, MoveAt, Drain, Numbered, inputs_of}
use Rattle.trace_replay.specs.Moments.{Moment, Played}
use Rattle.trace_replay.specs.Packs.{Surface, with_sector, read_as, bytes_of_write}
use Rattle.trace_replay.specs.Service.{frames_needed}
use Rattle.trace_replay.specs.Replay.{UnitSeen}
use Rattle.driver_machine.specs.World.{World, Held, Setup, unit_at, adapter_at, held_in, slot_in_hand, unit_of, block_in, pieces, new_world}
use Rattle.driver_machine.specs.Acts.{Act, after, Nothing, Taken, Tried, after_all}
use Rattle.driver_machine.specs.Lines.{lines_of_all}
use Rattle.driver_machine.specs.Events.{submit_acts, event_acts, next_event}
use Rattle.trace_rows.specs.Accepted.{Row, start_of, moments_of}
use Rattle.contract_rows.specs.Checks.{sound_by, at_work}

-- the world, what the packs hold, the moments so far, and whether the invariant was met behind each act
pub record State : Type 0 where
  pub world : World
  pub surface : Surface
  pub moments : List Moment
  pub sound : Bool

-- THE SECTOR THAT IS TRIED. Noise of the rows is no alias: it is a short burst, or such as shows that it can't be corrected.
abbrev pub pattern_of : ℕ → List ℕ → ℕ
pattern_of first [] = 0
pattern_of first (k ∷ places) = 2 ^ (k - first) + pattern_of first places

abbrev pub last_of : ℕ → List ℕ → ℕ
last_of k [] = k
last_of k (j ∷ places) = last_of j places

abbrev pub verdict_of_places : List ℕ → Moved
verdict_of_places [] = verdict.Clean
verdict_of_places (k ∷ places) =
    if nat_le (last_of k places) (k + 10) then verdict.Burst (k + 1) (pattern_of k (k ∷ places)) else verdict.Hard

abbrev pub verdict_of_read : Option (List ℕ) → Moved
verdict_of_read None = verdict.Clean
verdict_of_read (Some places) = verdict_of_places places

-- the rules of a move, in their order
abbrev pub verdict_by : Option Moved → Bool → Bool → Option (List ℕ) → Moved
verdict_by (Some stop) marked write places = stop
verdict_by None true write places = verdict.Marked
verdict_by None false true places = verdict.Clean
verdict_by None false false places = verdict_of_read places

-- the bytes that move
abbrev pub bytes_by : (written was_read : Bool) → List ℕ → List ℕ → ℕ → List ℕ
bytes_by true r block sector size = block
bytes_by false true block sector size = take size sector
bytes_by false false block sector size = []

abbrev pub tried_with : Moved → Bool → DriveState → Option (List ℕ) → List ℕ → Held → ℕ → Tried
tried_with v marked d places sector h k = record {
  marked = marked;
  verdict = v;
  bytes = bytes_by (was_written d v) (was_read d v) (block_in h k) (read_as places sector) (size_at h.loan k);
}

abbrev pub tried_at : Surface → World → ℕ → ℕ → ℕ → ℕ → DriveState → Tried
tried_at s w u p block k d =
    tried_with (verdict_by (stop_of d) (s.is_marked u block) (is_writing d.work) (strikes u block d.offset w.book.live))
    (s.is_marked u block) d (strikes u block d.offset w.book.live) (s.sector u block) (held_in w p) k

abbrev pub tried_by : Surface → World → ℕ → ℕ → Tried
tried_by s w a u =
    tried_at s w u (slot_in_hand (unit_at w u)) (next_block (adapter_at w a).state) (next_window (adapter_at w a).state) (unit_at w u).drive

abbrev pub nothing_tried : Tried
nothing_tried = record { marked = false; verdict = verdict.Clean; bytes = [] }

abbrev pub tried_in : Input → State → Tried
tried_in (MoveAt a) s = tried_by s.surface s.world a (unit_of s.world a)
tried_in input s = nothing_tried

-- a sector that is written is filled with zeros
abbrev pub filled : List ℕ → List ℕ
filled bytes = take 512 (bytes ++ replicate 512 0)

abbrev pub surface_by : Bool → Surface → ℕ → ℕ → List ℕ → Surface
surface_by true s u block bytes = with_sector s u block (filled bytes)
surface_by false s u block bytes = s

abbrev pub surface_tried : Input → Tried → State → Surface
surface_tried (MoveAt a) t s =
    surface_by (was_written (unit_at s.world (unit_of s.world a)).drive t.verdict) s.surface (unit_of s.world a)
    (next_block (adapter_at s.world a).state) t.bytes
surface_tried input t s = s.surface

-- ACTS. The invariant is tried behind each, and work behind each event; then the answers are taken.
abbrev pub sound_along : World → List Act → Bool
sound_along w [] = at_work w
sound_along w (act ∷ acts) = sound_by (after w act) && sound_along (after w act) acts

abbrev pub all_taken : State → State
all_taken s = record s { world = after_all s.world (map (λ made. Taken) s.world.answers) }

abbrev pub with_acts : List Moment → List Act → Surface → State → State
with_acts before acts surface s = all_taken (record {
  world = after_all s.world acts;
  surface = surface;
  moments = s.moments ++ before ++ lines_of_all s.world acts;
  sound = s.sound && sound_along s.world acts;
})

-- EVENTS.
abbrev pub happened_with : List Moment → ℕ → Input → Tried → State → State
happened_with before line input t s = with_acts before (event_acts line input t s.world) (surface_tried input t s) s

abbrev pub happened : List Moment → ℕ → Input → State → State
happened before line input s = happened_with before line input (tried_in input s) s

-- a drain takes event by event, or finds nothing
abbrev pub drain_on : Option Input → List Moment → ℕ → (List Moment → State → State) → State → State
drain_on None before line again s = s
drain_on (Some input) before line again s = again [] (happened before line input s)

abbrev pub drained : ℕ → ℕ → List Moment → State → State
drained zero line before s = s
drained (suc n) line before s = drain_on (next_event s.world) before line (drained n line) s

abbrev pub drain_or_idle : Option Input → ℕ → State → State
drain_or_idle None line s = with_acts (Played line Drain ∷ []) (Nothing line ∷ []) s.surface s
drain_or_idle (Some input) line s = drained 5000 line (Played line Drain ∷ []) s

-- SUBMISSION: the lowest free slot, frames by the slot's number, and a write's bytes cut into blocks; a read's are zeros.
abbrev pub numbers : ℕ → ℕ → List ℕ
numbers from zero = []
numbers from (suc n) = from ∷ numbers (from + 1) n

abbrev pub zeros_for : ℕ → ℕ → List (List ℕ)
zeros_for zero last = []
zeros_for (suc zero) last = replicate last 0 ∷ []
zeros_for (suc (suc n)) last = replicate 512 0 ∷ zeros_for (suc n) last

abbrev pub held_for : Request → ℕ → DriveKind → Held
held_for r p kind = record {
  id = r.id;
  unit = r.unit;
  first = first_block kind r;
  write = is_some r.written;
  loan = record { frames = numbers (128 * p) (frames_needed r); offset = r.offset; count = r.count; last = r.last };
  blocks = if is_some r.written then pieces r.count (bytes_of_write r.written) else zeros_for r.count r.last;
  on_bus = false;
  ended = false;
}

abbrev pub submitted_in : ℕ → ℕ → Request → State → State
submitted_in line p r s =
    with_acts (Played line (Submit r) ∷ []) (submit_acts r line p (held_for r p (unit_at s.world r.unit).drive.kind) s.world) s.surface s

abbrev pub free_slot : List (Option Held) → ℕ
free_slot slots = unwrap_or (position (λ (x : Option Held). is_none x) slots) 0

abbrev pub played_at : ℕ → Input → State → State
played_at line (Submit r) s = submitted_in line (free_slot s.world.slots) r s
played_at line Drain s = drain_or_idle (next_event s.world) line s
played_at line input s = happened (Played line input ∷ []) line input s

-- A SCRIPT, with its last drain.
abbrev pub plays : List Numbered → State → State
plays [] s = s
plays (x ∷ rest) s = plays rest (played_at x.line x.input s)

abbrev pub setups_of : List ℕ → (ℕ → UnitSeen) → List Setup
setups_of [] units = []
setups_of (u ∷ us) units = record { unit = u; kind = (units u).drive.kind; table = (units u).table } ∷ setups_of us units

abbrev pub outcome : Row → State
outcome row = plays (inputs_of row.script) (record {
  world = record (new_world (setups_of (start_of row).there (start_of row).units) (length row.script.lines) (length row.script.lines)) { frames = (start_of row).frames };
  surface = (start_of row).surface;
  moments = [];
  sound = true;
})

-- the moments alone, from a start at which frames are used by none of its requests
abbrev pub Tells : Row → Type 0
Tells row = (outcome row).moments ≡ moments_of row

-- WHAT THE MACHINE GIVES of a row's script from its start is just its moments, and the invariant is met behind each act.
pub record Gives (row : Row) : Type 0 where
  pub told : Tells row
  pub sound : (outcome row).sound ≡ true
