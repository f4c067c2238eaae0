-- What wrong bodies would leave of a drive, its adapter and its pack, refused by the words of their contracts.
use Rattle.std.specs.Prelude.{ℕ, ◌≡◌, ◌≢◌, ◌<◌, ◌≤◌, ◌+◌, ◌*◌, true, false, List, [], ◌∷◌, Option, Some, length, slice_index}
use Rattle.fire_code.specs.Verdict.{Judges}
use Rattle.fire_code.specs.declared.Verdict.TheVariants as code
use Rattle.hardware_table.specs.declared.FaultKind.{FaultKind}
use Rattle.hardware_table.specs.declared.Moved.TheVariants.{Clean, Marked}
use Rattle.hardware_table.specs.declared.NoiseSpan.TheVariants.{Times}
use Rattle.hardware_table.specs.Drive.{DriveState, is_writing}
use Rattle.hardware_table.specs.Moves.{IsVerdict, first_armed}
use Rattle.hardware_table.specs.Noise.{strikes}
use Rattle.hardware_table.specs.Adapter.{AdapterState, loaded, stepped}
use Rattle.main_memory.specs.Bytes.{filled}
use Rattle.pack_geometry.specs.Pack.{block_at, is_marked}
use Rattle.drive_model.specs.Move.{Site, MovesSector}
use Rattle.pack_format.specs.declared.testing.station.Polled.{Polled}
use Rattle.pack_format.specs.testing.Polls.{Sides, Polls}

-- a sector was written clean
pub record IsWritten (unit block : ℕ) (drive : DriveState) (size : ℕ) (old new : Site) : Type 0 where
  pub moves : MovesSector unit block drive size true old new Clean
  pub writes : is_writing drive.work ≡ true
  pub few : length old.window ≤ 512

pub record DriveRefused : Type 0 where
  -- the fire code names a burst of twelve places
  pub twelve_place_burst : (at remainder : ℕ) → Judges (code.Burst at 2049) remainder → ⊥
  -- or a burst that ends behind the last place
  pub burst_past_the_end : (remainder : ℕ) → Judges (code.Burst 4128 3) remainder → ⊥
  -- and the packs hold what they held, though the block differs
  pub writes_forgotten : (unit block : ℕ) (drive : DriveState) (size : ℕ) (old new : Site) → IsWritten unit block drive size old new
      → new.held ≡ old.held → block_at (old.held unit).image block ≢ filled 512 old.window → ⊥
  -- or the sector has what it had, whatever came and went between
  pub write_held_back : (unit block : ℕ) (drive : DriveState) (size : ℕ) (old new : Site) → IsWritten unit block drive size old new
      → block_at (new.held unit).image block ≡ block_at (old.held unit).image block
      → block_at (old.held unit).image block ≢ filled 512 old.window → ⊥
  -- or a byte behind a short window is not zero
  pub sector_written_without_its_zeros : (unit block : ℕ) (drive : DriveState) (size : ℕ) (old new : Site) (at : ℕ) → IsWritten unit block drive size old new
      → length old.window ≤ at → slice_index (block_at (new.held unit).image block) at ≢ 0 → ⊥
  -- the mark comes before a fault that is armed
  pub mark_tested_before_the_armed_fault : (drive : DriveState) (places : Option (List ℕ)) (kind : FaultKind) → drive.online ≡ true
      → first_armed drive.armed ≡ Some kind → IsVerdict drive true places Marked → ⊥
  -- of two noises of a sector that are live the newer strikes
  pub newest_noise_strikes : (unit block word times : ℕ) (older newer : List ℕ) → older ≢ newer
      → strikes unit block word ((record { unit = unit; block = block; span = Times times; places = older })
      ∷ (record { unit = unit; block = block; span = Times times; places = newer }) ∷ []) ≡ Some newer → ⊥
  -- the byte count of a buffer's last block is that of a whole one
  pub byte_count_not_shortened : (a : AdapterState) (frames : List ℕ) (offset skip count last : ℕ) → 1 ≤ count → last < 512
      → (loaded frames offset (skip + count) last skip count a).byte_count ≡ 512 * count → ⊥
  -- the completion is up though bytes are left
  pub completion_one_sector_early : (a : AdapterState) → 512 < a.byte_count → (stepped Clean a).completion ≡ true → ⊥
  -- a marked sector lets the transfer go on
  pub marked_sector_let_through : (a : AdapterState) → (stepped Marked a).completion ≡ false → ⊥
  -- a poll that writes finds its block marked, and the block differs from what it was
  pub marked_block_written : (unit block : ℕ) (old new : Sides) (polled : Polled) → Polls unit block true true old new polled
      → is_marked (old.held unit) block ≡ true → block_at (new.held unit).image block ≢ block_at (old.held unit).image block → ⊥
