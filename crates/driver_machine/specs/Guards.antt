-- When each act may come.
use Rattle.std.specs.Prelude.{List, [], ◌∷◌, ◌≡◌, ◌≢◌, ◌⊎◌, ℕ, ◌+◌, ◌^◌, ◌<◌, ◌≤◌, Bool, true, false, IsTrue, length, drop, None, Some, is_some, Contains}
use Rattle.pack_geometry.specs.declared.DriveKind.{DriveKind}
use Rattle.pack_geometry.specs.Geometry.{sectors_of, block_count, limit_of}
use Rattle.hardware_table.specs.Events.{times_armed}
use Rattle.hardware_table.specs.Moves.{IsVerdict, was_read, was_written}
use Rattle.hardware_table.specs.Noise.{strikes}
use Rattle.hardware_table.specs.Adapter.{AdapterState, next_block, next_window}
use Rattle.main_memory.specs.Blocks.{Loan, IsLoan, size_at}
use Rattle.trace_replay.specs.Noise.{IsNoise}
use Rattle.trace_replay.specs.requests.Requests.{Request, first_block}
use Rattle.trace_replay.specs.Script as script
use Rattle.trace_replay.specs.Script.{Input, IsSpan}
use Rattle.driver_machine.specs.declared.Phase.TheVariants.{Positioning, Queued}
use Rattle.driver_machine.specs.World.{World, Held, unit_at, slot_at, slot_in_hand, drive_of, block_in, pieces, frames_of}
use Rattle.driver_machine.specs.Acts.{Act, Refuse, Submit, Of, Change, Nothing, Taken, Deed, Arrive, Sector, Intr, Attn, Move, Tried, Scene, scene_of}
use Rattle.driver_machine.specs.Due.{next_of, command_of}
use Rattle.driver_machine.specs.Events.{refusal_of, can_arrive}

-- the request of an id is in hand at a unit: it is the head of its queue
pub record InHand (w : World) (u id : ℕ) : Type 0 where
  pub unit : u < 32
  pub some : 0 < length (unit_at w u).queue
  pub held : Held
  pub slot : slot_at w (slot_in_hand (unit_at w u)) ≡ Some held
  pub named : held.id ≡ id

-- the adapter transfers for this drive, and its completion is up or down
pub record IsBusyFor (a : AdapterState) (d : ℕ) (done : Bool) : Type 0 where
  pub busy : a.busy ≡ true
  pub drive : a.drive ≡ d
  pub completion : a.completion ≡ done

-- what is tried is what the rules of the move say, with the noise that is live
pub record IsTried (u block : ℕ) (t : Tried) (s : Scene) : Type 0 where
  pub verdict : IsVerdict s.unit.drive t.marked (strikes u block s.unit.drive.offset s.book.live) t.verdict
  pub bytes : IsTrue (was_written s.unit.drive t.verdict) → t.bytes ≡ block_in s.held (next_window s.adapter.state)
  pub size : IsTrue (was_read s.unit.drive t.verdict) → length t.bytes ≡ size_at s.held.loan (next_window s.adapter.state)

-- the adapter is free, and its first unit gets what is due for its transfer command
pub record IsChosen (u : ℕ) (deed : Deed) (s : Scene) : Type 0 where
  pub phase : s.unit.phase ≡ Queued
  pub first : s.adapter.queue ≡ u ∷ drop 1 s.adapter.queue
  pub free : s.adapter.state.busy ≡ false
  pub due : deed ≡ command_of s.unit s.held

abbrev pub IsNext : (u : ℕ) → Deed → Scene → Type 0
IsNext u deed s = (next_of s.unit s.held ≡ Some deed) ⊎ IsChosen u deed s

-- An event begins with one of four deeds, each where its line of the hardware table lets it, or with a unit that is chosen; any
-- other deed comes where it is due, RCOM and WCOM where the adapter is free too.
abbrev pub May : (u : ℕ) → Deed → Scene → Type 0
May u Arrive s = IsTrue (can_arrive s.unit)
May u (Sector block t) s =
    IsBusyFor s.adapter.state (drive_of u) false × (block ≡ next_block s.adapter.state) × IsTried u block t s
May u (Intr moved last) s =
    IsBusyFor s.adapter.state (drive_of u) true × (moved ≡ s.adapter.state.moved) × (last ≡ s.adapter.state.verdict)
May u (Attn taken) s = (s.unit.phase ≡ Positioning taken) × (s.unit.drive.attention ≡ true)
May u (Move write segment) s = IsNext u (Move write segment) s × (s.adapter.state.busy ≡ false)
May u deed s = IsNext u deed s

-- the frames of a request: as many as it needs, below 16,384, and none of another request
abbrev pub IsApart : List ℕ → List ℕ → Type 0
IsApart frames others = (frame : ℕ) → Contains frames frame → ¬ (Contains others frame)

pub record IsLent (w : World) (loan : Loan) : Type 0 where
  pub is : IsLoan loan
  pub small : (frame : ℕ) → Contains loan.frames frame → frame < 16384
  pub apart : (q : ℕ) (g : Held) → slot_at w q ≡ Some g → IsApart loan.frames g.loan.frames

-- A request as it stands in its slot when it was submitted: its first block is that of its partition and the blocks before, and
-- a write's buffer holds its bytes cut into blocks, of which the last one may be short.
pub record IsHeldFor (kind : DriveKind) (r : Request) (h : Held) : Type 0 where
  pub id : h.id ≡ r.id
  pub unit : h.unit ≡ r.unit
  pub first : h.first ≡ first_block kind r
  pub count : h.loan.count ≡ r.count
  pub last : h.loan.last ≡ r.last
  pub offset : h.loan.offset ≡ r.offset
  pub write : h.write ≡ is_some r.written
  pub content : (bytes : List ℕ) → r.written ≡ Some bytes → h.blocks ≡ pieces r.count bytes

-- An id is fresh where no answer waits and no request that is outstanding has it.
pub record IsFresh (w : World) (id : ℕ) : Type 0 where
  pub taken : w.answers ≡ []
  pub other : (q : ℕ) (g : Held) → slot_at w q ≡ Some g → g.ended ≡ false → g.id ≢ id

-- a unit that is set up
pub record IsSetUp (w : World) (u : ℕ) : Type 0 where
  pub unit : u < 32
  pub declared : (unit_at w u).declared ≡ true

-- a request that may join in a slot
pub record IsNew (w : World) (p : ℕ) (h : Held) : Type 0 where
  pub free : p < length w.slots
  pub slot : slot_at w p ≡ None
  pub unit : IsSetUp w h.unit
  pub lent : IsLent w h.loan
  pub inside : h.first + h.loan.count ≤ limit_of (unit_at w h.unit).drive.kind
  pub room : w.frames + frames_of h ≤ 16384
  pub size : length h.blocks ≡ h.loan.count
  pub whole : (k : ℕ) → k < h.loan.count → length (block_in h k) ≡ size_at h.loan k
  pub on_bus : h.on_bus ≡ false
  pub going_on : h.ended ≡ false
  pub fresh : IsFresh w h.id

-- a condition that may come to a unit that is set up, and noise that may be armed
abbrev pub MayChange : World → Input → Type 0
MayChange w (script.Turn u sector) = IsSetUp w u × (sector < sectors_of (unit_at w u).drive.kind)
MayChange w (script.Noise noise) =
    IsSetUp w noise.unit × (noise.block < block_count (unit_at w noise.unit).drive.kind) × IsNoise noise.places × IsSpan noise.span
    × (w.book.armed < w.book.capacity)
MayChange w (script.Arm u kind times) =
    IsSetUp w u × (1 ≤ times) × (times ≤ 1000) × (times_armed kind (unit_at w u).drive.armed + times < 2 ^ 63)
MayChange w (script.SetOnline u on) = IsSetUp w u
MayChange w (script.SetLocked u on) = IsSetUp w u
MayChange w input = ⊥

abbrev pub Allowed : World → Act → Type 0
Allowed w (Refuse line r kind) = IsSetUp w r.unit × IsFresh w r.id × (refusal_of r w ≡ Some kind)
Allowed w (Submit line p h) = IsNew w p h
Allowed w (Of line u id deed) = InHand w u id × May u deed (scene_of w u)
Allowed w (Change input) = MayChange w input
Allowed w (Nothing line) = Unit {0}
Allowed w Taken = 0 < length w.answers
