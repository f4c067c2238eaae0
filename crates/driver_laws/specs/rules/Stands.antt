-- WHICH MACHINE OF BLOCKS the state of a replay stands for.
use Rattle.std.specs.Prelude.{◌≡◌, ◌≢◌, ℕ, ◌<◌, ◌≤◌, ◌+◌, true, zero, suc, List, [], ◌∷◌, length, take, All, Option, None, Some, is_some, IsSome}
use Rattle.std.specs.List.{AllByRecursion}
use Rattle.pack_geometry.specs.declared.DriveKind.{DriveKind}
use Rattle.pack_geometry.specs.Geometry.{limit_of}
use Rattle.pack_geometry.specs.Pack as model
use Rattle.pack_geometry.specs.TableSpelling.{Table}
use Rattle.pack_geometry.specs.Homes.{home_of}
use Rattle.fire_code.specs.Noise.{IsNoise, IsAlias}
use Rattle.hardware_table.specs.declared.Moved.{Moved}
use Rattle.hardware_table.specs.declared.Moved.TheVariants as verdict
use Rattle.hardware_table.specs.declared.Work.{Work}
use Rattle.hardware_table.specs.Drive.{is_transferring, is_writing}
use Rattle.hardware_table.specs.Noise.{LiveNoise}
use Rattle.trace_replay.specs.requests.ServiceOrder.{Waiting as Waiter}
use Rattle.trace_replay.specs.requests.Requests.{Request, IsRequest, first_block, Answer, ReadOk, WriteOk, rejection_answer}
use Rattle.trace_replay.specs.Script.{Input, Noise, Numbered, IsThere}
use Rattle.trace_replay.specs.Moments.{Answered}
use Rattle.trace_replay.specs.Packs.{size_of_block, repaired_from, surface_of}
use Rattle.trace_replay.specs.Service.{in_hand}
use Rattle.trace_replay.specs.Conversation.{Stage, Moving, Saying, Ending, Progress}
use Rattle.trace_replay.specs.Events.{Wish, Refusal}
use Rattle.trace_replay.specs.Replay.{UnitSeen, Replay, new_replay, next_wish}
use Rattle.driver_laws.specs.rules.Machine.{Blocks, Machine, request_of, frames_of, bytes_or_none, bytes_of_first, blocks_done}

-- What stays through a run: the drives that are declared, the tables of their packs, and the packs as they were first.
pub record Setup : Type 0 where
  pub drives : ℕ → Option DriveKind
  pub tables : ℕ → Option Table
  pub packs : ℕ → model.Pack

-- the home of a block of a unit, if it has one; a unit that is not declared has none
abbrev pub home_at : Option DriveKind → Option Table → model.Pack → ℕ → Option ℕ
home_at None table pack block = None
home_at (Some kind) table pack block = home_of kind table pack block

-- the same by the unit's number
abbrev pub home_in : Setup → ℕ → ℕ → Option ℕ
home_in setup unit block = home_at (setup.drives unit) (setup.tables unit) (setup.packs unit) block

-- what the sectors of a unit hold at a home
abbrev pub held_at : (ℕ → List ℕ) → Option ℕ → Option (List ℕ)
held_at sectors None = None
held_at sectors (Some sector) = Some (sectors sector)

-- SURE SECTORS are those at which no alias is among the noise that was armed so far.
abbrev pub is_sure_among : List LiveNoise → ℕ → ℕ → Type 0
is_sure_among [] unit sector = Unit {0}
is_sure_among (n ∷ armed) unit sector = is_sure_among armed unit sector × (n.unit ≡ unit → n.block ≡ sector → ¬ (IsAlias n.places))

-- a request is sure where the homes of all its blocks are
abbrev pub IsSure : (sure : ℕ → Type 0) → (homes : ℕ → Option ℕ) → (first : ℕ) → Request → Type 0
IsSure sure homes first r = (k sector : ℕ) → k < r.count → homes (first + k) ≡ Some sector → sure sector

-- how many bytes a request asks for of its first n blocks
abbrev pub size_of_first : ℕ → Request → ℕ
size_of_first zero r = 0
size_of_first (suc n) r = size_of_first n r + size_of_block r n

-- THE REQUEST IN HAND of a unit. Its homes hold the map, with the blocks of a write replaced that are done; these are usable; and
-- a read has as many bytes, and these if it is sure.
pub record HandStands (sure : ℕ → Type 0) (homes : ℕ → Option ℕ) (first : ℕ) (r : Request) (p : Progress) (sectors : ℕ → List ℕ)
    (blocks : Blocks) : Type 0 where
  pub contents : (block : ℕ) → held_at sectors (homes block) ≡ blocks_done blocks first r p.done block
  pub usable : (k : ℕ) → k < p.done → IsSome (blocks (first + k))
  pub size : r.written ≡ None → length p.bytes ≡ size_of_first p.done r
  pub read : r.written ≡ None → IsSure sure homes first r → p.bytes ≡ bytes_of_first p.done blocks first r

-- A burst was read from the home of the first block not done: its repair gives what the map has there, if the read is sure.
pub record BurstStands (sure : ℕ → Type 0) (homes : ℕ → Option ℕ) (first : ℕ) (r : Request) (p : Progress) (blocks : Blocks)
    (at pattern : ℕ) : Type 0 where
  pub reads : r.written ≡ None
  pub usable : IsSome (blocks (first + p.done))
  pub size : length p.struck ≡ size_of_block r p.done
  pub repaired : IsSure sure homes first r
      → repaired_from 0 at pattern p.struck ≡ take (size_of_block r p.done) (bytes_or_none (blocks (first + p.done)))

-- of the last verdict: after a burst that holds
abbrev pub LastStands : (sure : ℕ → Type 0) → (homes : ℕ → Option ℕ) → (first : ℕ) → Request → Progress → Blocks → Moved → Type 0
LastStands sure homes first r p blocks (verdict.Burst at pattern) = BurstStands sure homes first r p blocks at pattern
LastStands sure homes first r p blocks last = Unit {0}

-- the answer that a request is to have is a read's with the bytes that it has, or a write's
abbrev pub AnswerStands : Request → Progress → Answer → Type 0
AnswerStands r p (ReadOk bytes) = (r.written ≡ None) × (bytes ≡ p.bytes)
AnswerStands r p WriteOk = is_some r.written ≡ true
AnswerStands r p answer = Unit {0}

-- behind the lines of an interrupt no sector moves
abbrev pub RestStands : Request → Progress → Stage → Type 0
RestStands r p (Moving segment left last) = ⊥
RestStands r p (Saying lines next) = ⊥
RestStands r p (Ending answer) = AnswerStands r p answer
RestStands r p stage = Unit {0}

-- where it stands: sectors move in its direction, and the last one was a burst or was not; or its answer is known
abbrev pub StageStands : (sure : ℕ → Type 0) → (homes : ℕ → Option ℕ) → (first : ℕ) → Request → Progress → Blocks → Work → Stage → Type 0
StageStands sure homes first r p blocks work (Moving segment left last) =
    (is_transferring work ≡ true → is_writing work ≡ is_some r.written) × LastStands sure homes first r p blocks last
StageStands sure homes first r p blocks work (Saying lines next) = RestStands r p next
StageStands sure homes first r p blocks work (Ending answer) = AnswerStands r p answer
StageStands sure homes first r p blocks work stage = Unit {0}

-- A UNIT stands for the blocks that the map gives for it.
pub record UnitStands (sure : ℕ → Type 0) (homes : ℕ → Option ℕ) (u : UnitSeen) (sectors : ℕ → List ℕ) (blocks : Blocks) : Type 0 where
  pub hand : HandStands sure homes (first_block u.drive.kind (in_hand u.service)) (in_hand u.service) u.progress sectors blocks
  pub stage : StageStands sure homes (first_block u.drive.kind (in_hand u.service)) (in_hand u.service) u.progress blocks u.drive.work u.stage

-- A request that waits at a unit is outstanding, and asks for data blocks of it.
pub record IsOutstanding (drives : ℕ → Option DriveKind) (unit : ℕ) (outstanding : List Request) (r : Request) : Type 0 where
  pub unit_is : r.unit ≡ unit
  pub listed : request_of r.id outstanding ≡ Some r
  pub good : IsRequest r
  pub inside : IsThere (drives unit) (λ kind. first_block kind r + r.count ≤ limit_of kind)

-- no id twice
abbrev pub AreDistinct : List (Waiter Request) → Type 0
AreDistinct [] = Unit {0}
AreDistinct (w ∷ rest) = AllByRecursion (λ (other : Waiter Request). other.request.id ≢ w.request.id) rest × AreDistinct rest

-- a queue: each of its requests is outstanding, and none twice
pub record QueueStands (drives : ℕ → Option DriveKind) (unit : ℕ) (outstanding : List Request) (waiting : List (Waiter Request)) : Type 0 where
  pub each : AllByRecursion (λ (w : Waiter Request). IsOutstanding drives unit outstanding w.request) waiting
  pub distinct : AreDistinct waiting

-- live noise is noise, and at a sure sector it is no alias
pub record IsLive (armed : List LiveNoise) (n : LiveNoise) : Type 0 where
  pub noise : IsNoise n.places
  pub no_alias : is_sure_among armed n.unit n.block → ¬ (IsAlias n.places)

-- THE STATE OF A REPLAY STANDS FOR A MACHINE. What no block has for its home is as it was first.
pub record StandsFor (setup : Setup) (armed : List LiveNoise) (s : Replay) (m : Machine) : Type 0 where
  pub units : (unit : ℕ) → UnitStands (is_sure_among armed unit) (home_in setup unit) (s.units unit) (s.surface.sector unit) (m.blocks unit)
  pub queues : (unit : ℕ) → QueueStands setup.drives unit m.outstanding (s.units unit).service.waiting
  pub frames : s.frames ≡ frames_of m.outstanding
  pub counted : s.outstanding ≡ length m.outstanding
  pub noise : All (IsLive armed) s.surface.live
  pub sizes : (unit sector : ℕ) → length (s.surface.sector unit sector) ≡ 512
  pub others : (unit sector : ℕ) → ((block : ℕ) → home_in setup unit block ≢ Some sector)
      → s.surface.sector unit sector ≡ model.block_at (setup.packs unit).image sector

-- the start over the packs as they were first
abbrev pub start_over : Setup → Replay
start_over setup = new_replay setup.drives setup.tables (surface_of setup.packs)

-- the answer of a refused request whose end line is still to come
abbrev pub owed_by : Wish → ℕ → List Answered
owed_by (Refusal unit id why) line = record { line = line; id = id; answer = rejection_answer why } ∷ []
owed_by wish line = []

-- the same of a state
abbrev pub owed : Replay → List Answered
owed s = owed_by (next_wish s) s.event.line

-- the noise that was armed, the last first: after an input
abbrev pub armed_by : List LiveNoise → Input → List LiveNoise
armed_by armed (Noise noise) = noise ∷ armed
armed_by armed input = armed

-- and after inputs
abbrev pub armed_behind : List LiveNoise → List Numbered → List LiveNoise
armed_behind armed [] = armed
armed_behind armed (n ∷ inputs) = armed_behind (armed_by armed n.input) inputs
