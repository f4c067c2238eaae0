-- The state of the driver between two acts: units, adapters, the slots of requests, noise, and answers that wait.
use Rattle.std.specs.Prelude.{ℕ, zero, suc, take, drop, Bool, true, false, List, [], ◌∷◌, ◌++◌, replicate, slice_index_or, slice_set, Option, None, unwrap_or}
use Rattle.pack_geometry.specs.declared.DriveKind.{DriveKind}
use Rattle.pack_geometry.specs.declared.DriveKind.TheVariants.{Rp06}
use Rattle.pack_geometry.specs.TableSpelling.{Table}
use Rattle.hardware_table.specs.Drive.{DriveState}
use Rattle.hardware_table.specs.Adapter.{AdapterState, new_adapter}
use Rattle.hardware_table.specs.Noise.{Book, empty_book}
use Rattle.main_memory.specs.Blocks.{Loan}
use Rattle.main_memory.specs.Frames.{frames_needed}
use Rattle.disksort.specs.declared.Waiter.{Waiter}
use Rattle.transfer_engine.specs.declared.job.Job.{Job}
use Rattle.transfer_engine.specs.State.{TransferState, begun}
use Rattle.trace_replay.specs.Drives.{attached}
pub use Rattle.trace_replay.specs.Adapters.{adapter_of, drive_of, unit_on}
use Rattle.driver_machine.specs.declared.Made.{Made}
use Rattle.driver_machine.specs.declared.Phase.{Phase}
use Rattle.driver_machine.specs.declared.Phase.TheVariants.{Waiting}

-- A unit: whether it is set up, those that wait at it in service order, where it is with the first of them, the transfer of
-- that one once it is begun, its drive, and the table of its pack.
pub record UnitView : Type 0 where
  pub declared : Bool
  pub queue : List Waiter
  pub phase : Phase
  pub transfer : Option TransferState
  pub drive : DriveState
  pub table : Option Table

-- an adapter: the units that wait for it in the order in which they became ready, and its state
pub record AdapterView : Type 0 where
  pub queue : List ℕ
  pub state : AdapterState

-- A request in its slot: what is asked, its buffer, and the blocks that this holds. The adapter has the buffer in a
-- transfer. A request that has ended keeps its slot until its answer is taken.
pub record Held : Type 0 where
  pub id : ℕ
  pub unit : ℕ
  pub first : ℕ
  pub write : Bool
  pub loan : Loan
  pub blocks : List (List ℕ)
  pub on_bus : Bool
  pub ended : Bool

abbrev pub no_loan : Loan
no_loan = record { frames = []; offset = 0; count = 0; last = 0 }

abbrev pub no_held : Held
no_held = record { id = 0; unit = 0; first = 0; write = false; loan = no_loan; blocks = []; on_bus = false; ended = false }

-- how many blocks it asks for, and how many frames it needs
abbrev pub count_of : Held → ℕ
count_of h = h.loan.count

abbrev pub frames_of : Held → ℕ
frames_of h = frames_needed h.loan.count h.loan.offset h.loan.last

-- what it asks of a drive of this kind
abbrev pub job_of : DriveKind → Held → Job
job_of kind h = record { kind = kind; first = h.first; count = h.loan.count; write = h.write }

-- block k of its buffer
abbrev pub block_in : Held → ℕ → List ℕ
block_in h k = slice_index_or h.blocks k []

abbrev pub with_block_in : ℕ → List ℕ → Held → Held
with_block_in k block h = record h { blocks = slice_set h.blocks k block }

-- all bytes of its buffer
abbrev pub bytes_in : List (List ℕ) → List ℕ
bytes_in [] = []
bytes_in (block ∷ blocks) = block ++ bytes_in blocks

-- the bytes of a write, cut into so many blocks
abbrev pub pieces : ℕ → List ℕ → List (List ℕ)
pieces zero bytes = []
pieces (suc n) bytes = take 512 bytes ∷ pieces n (drop 512 bytes)

-- The frames are those that all outstanding requests need.
pub record World : Type 0 where
  pub units : List UnitView
  pub adapters : List AdapterView
  pub slots : List (Option Held)
  pub frames : ℕ
  pub book : Book
  pub answers : List Made

abbrev pub no_unit : UnitView
no_unit = record { declared = false; queue = []; phase = Waiting; transfer = None; drive = attached Rp06 0; table = None }

abbrev pub new_adapter_view : AdapterView
new_adapter_view = record { queue = []; state = new_adapter }

abbrev pub unit_at : World → ℕ → UnitView
unit_at w u = slice_index_or w.units u no_unit

abbrev pub adapter_at : World → ℕ → AdapterView
adapter_at w a = slice_index_or w.adapters a new_adapter_view

abbrev pub slot_at : World → ℕ → Option Held
slot_at w p = slice_index_or w.slots p None

abbrev pub held_in : World → ℕ → Held
held_in w p = unwrap_or (slot_at w p) no_held

-- the unit for which an adapter transfers
abbrev pub unit_of : World → ℕ → ℕ
unit_of w a = unit_on a (adapter_at w a).state.drive

-- the slot of the request in hand
abbrev pub slot_in_hand : UnitView → ℕ
slot_in_hand v = (slice_index_or v.queue 0 (record { number = 0; cylinder = 0 })).number

-- the transfer of the request in hand; one that is not begun has done nothing
abbrev pub no_transfer : TransferState
no_transfer = begun (record { kind = Rp06; first = 0; count = 0; write = false })

abbrev pub transfer_of : UnitView → TransferState
transfer_of v = unwrap_or v.transfer no_transfer

-- AT THE START nothing is asked, and the drives that are set up are attached.
pub record Setup : Type 0 where
  pub unit : ℕ
  pub kind : DriveKind
  pub table : Option Table

abbrev pub new_unit : Setup → UnitView
new_unit s = record {
  declared = true;
  queue = [];
  phase = Waiting;
  transfer = None;
  drive = attached s.kind s.unit;
  table = s.table;
}

abbrev pub set_up : List Setup → List UnitView → List UnitView
set_up [] units = units
set_up (s ∷ setups) units = set_up setups (slice_set units s.unit (new_unit s))

abbrev pub new_world : List Setup → ℕ → ℕ → World
new_world setups outstanding noises = record {
  units = set_up setups (replicate 32 no_unit);
  adapters = replicate 4 new_adapter_view;
  slots = replicate outstanding None;
  frames = 0;
  book = empty_book noises;
  answers = [];
}
