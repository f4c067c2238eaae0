-- PIECES OF A RANGE, each of as many blocks as one request has.
use Rattle.std.specs.Prelude.{◌≡◌, ◌≢◌, ◌⊎◌, ℕ, ◌+◌, ◌*◌, ◌<◌, ◌≤◌, Bool, true, false, IsTrue, List, take, drop, length, Some}
use Rattle.pack_geometry.specs.declared.DriveKind.{DriveKind}
use Rattle.partitions.specs.declared.Part.{Part}
use Rattle.blocking_io.specs.FrontsPasses.{asked, Stage, setup_at}
use Rattle.partitions.specs.Partitions.{first_of}
use Rattle.driver_laws.specs.rules.Machine.{Blocks}
use Rattle.driver_laws.specs.rules.Sessions.{told_in}
use Rattle.driver_laws.specs.rules.Rest.{HasTables}
use Rattle.blocking_io.specs.Fronts.{OthersStay}
use Rattle.driver_laws.specs.rules.Laid.{laid}
use Rattle.raw_io.specs.declared.pieces.Piece.{Piece}
use Rattle.driver_laws.specs.rules.Bytes.{range, Touches, with_range}
use Rattle.raw_io.specs.Transfers.{Transfers, AreClean}
use Rattle.blocking_io.specs.Blocks.{AreBlocks}
use Rattle.blocking_io.specs.Sites.{kind_at, map_at, left_map, IsUnchanged}
use Rattle.raw_io.specs.Calls.{ReadsRange, WritesRange}
use Rattle.driver_laws.specs.rules.Pieces.{Reaches, bytes_among}

-- a piece begins in the first of its blocks, and ends in the last one
pub record IsCut (p : Piece) : Type 0 where
  pub skip : p.skip < 512
  pub some : 0 < p.size
  pub fits : p.skip + p.size ≤ 512 * p.request.count
  pub ends : 512 * p.request.count < p.skip + p.size + 512

-- the first piece of a range
pub record IsPiece (unit : ℕ) (part : Part) (write : Bool) (place left : ℕ) (p : Piece) : Type 0 where
  pub unit_is : p.request.unit ≡ unit
  pub part_is : p.request.part ≡ part
  pub write_is : p.request.write ≡ write
  pub id : p.request.id ≡ 0
  pub last : p.request.last ≡ 512
  pub offset : p.request.offset ≡ 0
  pub few : p.request.count ≤ 127
  pub cut : IsCut p
  pub begins : place ≡ 512 * p.request.block + p.skip
  pub size : p.size ≤ left
  pub whole : (p.size ≡ left) ⊎ (p.skip + p.size ≡ 512 * p.request.count)

-- it is whole blocks, or lies in one
abbrev pub IsWhole : Piece → Type 0
IsWhole p = (p.skip ≡ 0) × (p.size ≡ 512 * p.request.count)

abbrev pub IsWholeOrOne : Piece → Type 0
IsWholeOrOne p = IsWhole p ⊎ (p.request.count ≡ 1)

-- where its partition begins
abbrev pub start_at : Stage → Piece → ℕ
start_at s p = first_of (kind_at s.world p.request.unit) p.request.part

-- A PIECE THAT WAS READ: the bytes before the first block that can't be used
pub record ReadsPiece (p : Piece) (blocks size : ℕ) (into into' : List ℕ) (old new : Stage) : Type 0 where
  pub reaches : Reaches (map_at old p.request.unit) (start_at old p + p.request.block) p.request.count blocks
  pub bytes : into' ≡ laid (range size (map_at old p.request.unit) (start_at old p) (512 * p.request.block + p.skip)) into
  pub same : IsUnchanged old new

pub record GivesPiece (p : Piece) (size : ℕ) (into into' : List ℕ) (old new : Stage) : Type 0 where
  pub blocks : ℕ
  pub few : blocks ≤ p.request.count
  pub size_is : size ≡ bytes_among blocks p.skip p.size
  pub transfers : Transfers true p.request.unit p.request.part old new
  pub told : IsTrue new.packs_tell → HasTables (setup_at old) → ReadsPiece p blocks size into into' old new
  pub clean : IsTrue new.packs_tell → HasTables (setup_at old) → AreClean p.request.unit (start_at old p + p.request.block) (λ k. k < blocks) (told_in transfers.parts) old

-- a piece to write, and its bytes
pub record IsWritten (kind : DriveKind) (p : Piece) (bytes : List ℕ) : Type 0 where
  pub write_is : p.request.write ≡ true
  pub inside : AreBlocks kind (asked p.request bytes)
  pub cut : IsCut p
  pub size : length bytes ≡ p.size

-- A PIECE THAT WAS WRITTEN: it goes on with any range that was written up to it.
abbrev pub Continues : (p : Piece) (first size : ℕ) → (bytes : List ℕ) → (now next : Blocks) → Type 0
Continues p first size bytes now next = (blocks : Blocks) (at d : ℕ) (from : List ℕ) → ((block : ℕ) (content : List ℕ) → blocks block ≡ Some content → length content ≡ 512)
    → ((block : ℕ) → now block ≡ with_range blocks first at (take d from) block)
    → bytes ≡ take p.size (drop d from) → at + d ≡ 512 * p.request.block + p.skip → (d ≡ 0) ⊎ (p.skip ≡ 0) → d + p.size ≤ length from
    → (block : ℕ) → next block ≡ with_range blocks first at (take (d + size) from) block

pub record WritesPiece (p : Piece) (blocks size : ℕ) (bytes : List ℕ) (old new : Stage) : Type 0 where
  pub reaches : Reaches (map_at old p.request.unit) (start_at old p + p.request.block) p.request.count blocks
  pub continues : Continues p (start_at old p) size bytes (map_at old p.request.unit) (map_at new p.request.unit)
  pub map : (u block : ℕ) → u ≢ p.request.unit → map_at new u block ≡ map_at old u block

pub record PutsPiece (p : Piece) (size : ℕ) (bytes : List ℕ) (old new : Stage) : Type 0 where
  pub blocks : ℕ
  pub few : blocks ≤ p.request.count
  pub size_is : size ≡ bytes_among blocks p.skip p.size
  pub transfers : Transfers false p.request.unit p.request.part old new
  pub told : IsTrue new.packs_tell → HasTables (setup_at old) → WritesPiece p blocks size bytes old new

-- or stopped
pub record StopsPiece (p : Piece) (bytes : List ℕ) (old new : Stage) : Type 0 where
  pub blocks : ℕ
  pub few : blocks ≤ p.request.count
  pub continues : Continues p (start_at old p) (bytes_among blocks p.skip p.size) bytes (map_at old p.request.unit) (left_map old new p.request.unit)
  pub map : (u block : ℕ) → u ≢ p.request.unit → left_map old new u block ≡ map_at old u block
  pub others : OthersStay (setup_at old) new.held

-- ---- RANGES
abbrev pub start_of : Stage → ℕ → Part → ℕ
start_of s unit part = first_of (kind_at s.world unit) part

-- that was read, each block of which a byte was given moved clean
pub record GivesRange (unit : ℕ) (part : Part) (at done : ℕ) (into into' : List ℕ) (old new : Stage) : Type 0 where
  pub few : done ≤ length into
  pub transfers : Transfers true unit part old new
  pub told : IsTrue new.packs_tell → HasTables (setup_at old) → ReadsRange unit (start_of old unit part) at done into into' old new
  pub clean : IsTrue new.packs_tell → HasTables (setup_at old) → AreClean unit (start_of old unit part) (Touches at done) (told_in transfers.parts) old

-- or written
pub record PutsRange (unit : ℕ) (part : Part) (at done : ℕ) (from : List ℕ) (old new : Stage) : Type 0 where
  pub few : done ≤ length from
  pub transfers : Transfers false unit part old new
  pub told : IsTrue new.packs_tell → HasTables (setup_at old) → WritesRange unit (start_of old unit part) at done from old new
