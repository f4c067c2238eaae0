-- The move of the next sector.
use Rattle.std.specs.Prelude.{◌≡◌, ◌<◌, ℕ, Bool, true, false, if◌then◌else◌, List, Result, Ok, Err}
use Rattle.pack_geometry.specs.Geometry.{block_count}
use Rattle.pack_geometry.specs.Pack.{Pack}
use Rattle.main_memory.specs.Blocks.{Loan, size_at}
use Rattle.main_memory.specs.Memory.{Memory, IsLent, with_block}
use Rattle.hardware_table.specs.declared.Moved.{Moved}
use Rattle.hardware_table.specs.declared.Work.TheVariants.{Transfer}
use Rattle.hardware_table.specs.Drive.{DriveState}
use Rattle.hardware_table.specs.Noise.{Book}
use Rattle.hardware_table.specs.Adapter.{AdapterState, next_block, next_window, stepped, drive_stepped}
use Rattle.drive_model.specs.Move.{Scene, TriesSector, has_read}
use Rattle.mba_adapter.specs.Loaded.{loaded_buffer, next_bytes}

-- a transfer of this drive is under way, with a block left to it
pub record IsUnderWay (adapter : AdapterState) (drive : DriveState) : Type 0 where
  pub busy : adapter.busy ≡ true
  pub going_on : adapter.completion ≡ false
  pub transfer : drive.work ≡ Transfer adapter.write
  pub block : next_block adapter < block_count drive.kind

-- IT MAY COME: a transfer is under way, into or out of the loaded buffer, which that memory lent.
pub record MayMove (adapter : AdapterState) (drive : DriveState) (loan : Loan) (memory : Memory) : Type 0 where
  pub loaded : loan ≡ loaded_buffer adapter
  pub lent : IsLent memory loan
  pub is : IsUnderWay adapter drive

-- what a step works on: the adapter, its drive, the book of noise, and the store that has the buffer
pub record Bench (Store : Type 0) : Type 0 where
  pub adapter : AdapterState
  pub drive : DriveState
  pub book : Book
  pub store : Store

-- the block of a store that the next sector moves: how many bytes it has, these bytes, and the store with others in their place
pub record NextBlock (Store : Type 0) : Type 0 where
  pub size : Store → ℕ
  pub bytes : Store → List ℕ
  pub put : List ℕ → Store → Store

abbrev pub buffer_block : AdapterState → Loan → NextBlock Memory
buffer_block a loan = record { size = λ memory. size_at loan (next_window a); bytes = next_bytes a loan; put = with_block loan (next_window a) }

abbrev pub scene_of : {Store : Type 0} → NextBlock Store → Bench Store → Scene
scene_of block bench = record { book = bench.book; window = block.bytes bench.store }

-- a step that the packs failed leaves the adapter and its drive
abbrev pub adapter_after : {E : Type 0} → Result Moved E → AdapterState → AdapterState
adapter_after (Ok verdict) a = stepped verdict a
adapter_after (Err failed) a = a

abbrev pub drive_behind : {E : Type 0} → Result Moved E → AdapterState → DriveState → DriveState
drive_behind (Ok verdict) a drive = drive_stepped verdict a drive
drive_behind (Err failed) a drive = drive

-- THE NEXT SECTOR IS TRIED: as the drive tries it, with what the adapter makes of the verdict. In the store no byte changes but those
-- of the block that is read.
pub record StepsSector {Q E Store : Type 0} (tells : Q → Bool) (held : Q → ℕ → Pack) (faults : Q → ℕ) (packs packs' : Q) (unit : ℕ) (block : NextBlock Store) (old new : Bench Store) (result : Result Moved E) : Type 0 where
  pub tries : TriesSector tells held faults packs packs' unit (next_block old.adapter) old.drive (block.size old.store) (scene_of block old) (scene_of block new) result
  pub adapter : new.adapter ≡ adapter_after result old.adapter
  pub drive : new.drive ≡ drive_behind result old.adapter old.drive
  pub store : new.store ≡ (if has_read old.drive result then block.put (block.bytes new.store) old.store else old.store)
