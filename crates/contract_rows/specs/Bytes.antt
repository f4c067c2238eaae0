-- What wrong bodies would leave of packs, buffers and tables, refused by what the driver bears of a map.
use Rattle.std.specs.Prelude.{ℕ, ◌≡◌, ◌≢◌, ◌⊎◌, ◌<◌, ◌≤◌, ◌+◌, true, false, List, Option, Some, None}
use Rattle.pack_geometry.specs.declared.DriveKind.{DriveKind}
use Rattle.pack_geometry.specs.Geometry.{place_at}
use Rattle.pack_geometry.specs.Pack.{Pack, block_at, is_marked}
use Rattle.pack_geometry.specs.TableSpelling.{Table}
use Rattle.pack_geometry.specs.PackTable.{IsTableOf}
use Rattle.pack_geometry.specs.Homes.{home_of, content_of, index_in}
use Rattle.hardware_table.specs.declared.Moved.{Moved}
use Rattle.hardware_table.specs.declared.Moved.TheVariants.{Burst}
use Rattle.hardware_table.specs.Adapter.{AdapterState}
use Rattle.hardware_table.specs.Noise.{LiveNoise}
use Rattle.main_memory.specs.Bytes.{filled}
use Rattle.driver_machine.specs.Repaired.{repaired}
use Rattle.transfer_engine.specs.State.{TransferState}
use Rattle.trace_replay.specs.declared.requests.answers.AnswerKind.TheVariants.{ReadOk}
use Rattle.driver_laws.specs.rules.Machine.{Blocks}
use Rattle.driver_laws.specs.rules.Stands.{is_sure_among}
use Rattle.driver_machine.specs.World.{UnitView, Held, block_in}
use Rattle.driver_laws.specs.shown.Bytes.{asked_of, IsSureFor, HandBears, UnitBears, IsStep}

pub record BytesRefused : Type 0 where
  -- a block that a write has done is not at its home
  pub write_not_at_its_home : (armed : List LiveNoise) (u : ℕ) (kind : DriveKind) (table : Option Table) (pack : Pack) (blocks : Blocks) (h : Held) (t : TransferState) (done k sector : ℕ) (last : Moved)
      → HandBears (is_sure_among armed u) kind table pack blocks h t done last → h.write ≡ true → k < done → home_of kind table pack (h.first + k) ≡ Some sector
      → block_at pack.image sector ≢ filled 512 (block_in h k) → ⊥
  -- a block is written that no request has done
  pub neighbour_written : (armed : List LiveNoise) (u : ℕ) (kind : DriveKind) (table : Option Table) (pack : Pack) (blocks : Blocks) (h : Held) (t : TransferState) (done block : ℕ) (last : Moved)
      → HandBears (is_sure_among armed u) kind table pack blocks h t done last → (block < h.first) ⊎ (h.first + done ≤ block)
      → content_of kind table pack block ≢ blocks block → ⊥
  -- a read has another block in its buffer
  pub other_block_read : (armed : List LiveNoise) (u : ℕ) (kind : DriveKind) (table : Option Table) (pack : Pack) (blocks : Blocks) (h : Held) (t : TransferState) (done k : ℕ) (last : Moved)
      → HandBears (is_sure_among armed u) kind table pack blocks h t done last → h.write ≡ false → IsSureFor (is_sure_among armed u) kind table pack h → k < done
      → block_in h k ≢ asked_of h k (blocks (h.first + k)) → ⊥
  -- a burst that was found is not the one in the buffer
  pub burst_elsewhere : (armed : List LiveNoise) (u : ℕ) (kind : DriveKind) (table : Option Table) (pack : Pack) (blocks : Blocks) (h : Held) (t : TransferState) (done at pattern : ℕ)
      → HandBears (is_sure_among armed u) kind table pack blocks h t done (Burst at pattern) → IsSureFor (is_sure_among armed u) kind table pack h
      → repaired at pattern (block_in h done) ≢ asked_of h done (blocks (h.first + done)) → ⊥
  -- a block is done that cannot be used
  pub unusable_block_done : (armed : List LiveNoise) (u : ℕ) (kind : DriveKind) (table : Option Table) (pack : Pack) (blocks : Blocks) (h : Held) (t : TransferState) (done k : ℕ) (last : Moved)
      → HandBears (is_sure_among armed u) kind table pack blocks h t done last → k < done → blocks (h.first + k) ≡ None → ⊥
  -- a block is forwarded that is not marked, or to the replacement of another one
  pub unmarked_block_forwarded : (armed : List LiveNoise) (u : ℕ) (kind : DriveKind) (table : Option Table) (pack : Pack) (blocks : Blocks) (h : Held) (t : TransferState) (done i : ℕ) (last : Moved)
      → HandBears (is_sure_among armed u) kind table pack blocks h t done last → t.index ≡ Some i → is_marked pack (h.first + t.done) ≡ false → ⊥
  pub other_entry_forwarded : (armed : List LiveNoise) (u : ℕ) (kind : DriveKind) (table : Option Table) (pack : Pack) (blocks : Blocks) (h : Held) (t : TransferState) (done i : ℕ) (last : Moved)
      → HandBears (is_sure_among armed u) kind table pack blocks h t done last → t.index ≡ Some i → index_in table (place_at kind (h.first + t.done)) ≢ Some i → ⊥
  -- a unit has the table of another pack
  pub table_of_another_pack : (armed : List LiveNoise) (u : ℕ) (pack : Pack) (blocks : Blocks) (v : UnitView) (a : AdapterState) (h : Held) (table : Option Table)
      → UnitBears (is_sure_among armed u) pack blocks v a h → IsTableOf v.drive.kind pack table → v.table ≢ table → ⊥
  -- a read is answered with other bytes
  pub answered_with_other_bytes : (armed : List LiveNoise) (u sector : ℕ) (blocks : Blocks) (h : Held) (count last k : ℕ) → IsStep (is_sure_among armed u sector) blocks h (ReadOk count last) → is_sure_among armed u sector → k < count
      → block_in h k ≢ asked_of h k (blocks (h.first + k)) → ⊥
