-- The state of an adapter, and what each act does to it.
use Rattle.std.specs.Prelude.{◌≡◌, ℕ, ◌+◌, ◌-◌, ◌*◌, ◌/◌, ◌^◌, ◌≤◌, ◌<◌, ◌==◌, min, Bool, true, false, if◌then◌else◌, List, [], ◌++◌, take, drop, length, replicate, bit_or, bit_and}
use Rattle.hardware_table.specs.declared.FaultKind.{FaultKind}
use Rattle.hardware_table.specs.declared.FaultKind.TheVariants.{Late}
use Rattle.hardware_table.specs.declared.Moved.{Moved}
use Rattle.hardware_table.specs.declared.Moved.TheVariants.{Clean, Burst, Hard, Marked, Faulted, Offline}
use Rattle.hardware_table.specs.Drive.{DriveState}
use Rattle.hardware_table.specs.Events.{transfer_ended}
use Rattle.hardware_table.specs.Moves.{after_move}

pub record AdapterState : Type 0 where
  -- the 256 map registers, the virtual address, and the byte count
  pub map_registers : List ℕ
  pub address : ℕ
  pub byte_count : ℕ
  -- its flags, and a bit for each drive whose attention is up
  pub busy : Bool
  pub completion : Bool
  pub data_late : Bool
  pub attentions : ℕ
  -- what was loaded: the first block and the number of blocks, and the buffer's frames, offset and number of blocks,
  -- and how many bytes its last block has
  pub skip : ℕ
  pub count : ℕ
  pub frames : List ℕ
  pub offset : ℕ
  pub blocks : ℕ
  pub last : ℕ
  -- what was started: the drive, the first block on the pack, and the direction
  pub drive : ℕ
  pub block : ℕ
  pub write : Bool
  -- how many sectors moved clean, and the last verdict
  pub moved : ℕ
  pub verdict : Moved

-- THE MAP. So many registers, of which the first ones hold frames and the others 0.
unfoldable pub registers_of : ℕ → List ℕ → List ℕ
registers_of size frames = frames ++ replicate (size - length frames) 0

-- how many bytes blocks skip to skip + count - 1 of a buffer have, whose last block has `last` bytes and the others 512
abbrev pub bytes_between : ℕ → ℕ → ℕ → ℕ → ℕ
bytes_between blocks last skip count = if skip + count == blocks then 512 * count - (512 - last) else 512 * count

-- so many bytes from a place of the first frame on use one register for each frame that they reach
abbrev pub registers_used : ℕ → ℕ → ℕ
registers_used bytes offset = (offset + bytes + 511) / 512

-- the frames of a buffer that so many bytes use from its block skip on
abbrev pub frames_used : List ℕ → ℕ → ℕ → ℕ → List ℕ
frames_used frames offset skip bytes = take (registers_used bytes offset) (drop skip frames)

-- a new adapter is free, with all flags off and all numbers 0
abbrev pub new_adapter : AdapterState
new_adapter = record {
  map_registers = registers_of 256 [];
  address = 0;
  byte_count = 0;
  busy = false;
  completion = false;
  data_late = false;
  attentions = 0;
  skip = 0;
  count = 0;
  frames = [];
  offset = 0;
  blocks = 0;
  last = 0;
  drive = 0;
  block = 0;
  write = false;
  moved = 0;
  verdict = Clean;
}

-- THE ACTS. Loading takes a buffer, of which it is given the frames, the offset, the number of blocks, and how many
-- bytes the last of them has.
abbrev pub loaded : List ℕ → ℕ → ℕ → ℕ → ℕ → ℕ → AdapterState → AdapterState
loaded frames offset blocks last skip count a = record a {
  map_registers = registers_of 256 (frames_used frames offset skip (bytes_between blocks last skip count));
  address = offset;
  byte_count = bytes_between blocks last skip count;
  skip = skip;
  count = count;
  frames = frames;
  offset = offset;
  blocks = blocks;
  last = last;
}

-- how many bytes were loaded
abbrev pub bytes_loaded : AdapterState → ℕ
bytes_loaded a = bytes_between a.blocks a.last a.skip a.count

-- loaded with so many blocks, and none has moved since
pub record IsLoaded (a : AdapterState) (count : ℕ) : Type 0 where
  pub some : 1 ≤ count
  pub counted : a.count ≡ count
  pub whole : a.byte_count ≡ bytes_loaded a

abbrev pub started : ℕ → ℕ → Bool → AdapterState → AdapterState
started drive block write a =
    record a { drive = drive; block = block; write = write; busy = true; completion = false; data_late = false; moved = 0 }

-- the block of the pack and the block of the buffer between which the next sector moves
abbrev pub next_block : AdapterState → ℕ
next_block a = a.block + a.moved

abbrev pub next_window : AdapterState → ℕ
next_window a = a.skip + a.moved

-- how many bytes the next sector moves: 512, or what is left of the byte count where that is less
abbrev pub step_bytes : AdapterState → ℕ
step_bytes a = min 512 a.byte_count

-- a fault that is data late shows here, and not in the drive
abbrev pub late_after : FaultKind → Bool → Bool
late_after Late late = true
late_after _ late = late

-- a verdict other than clean ends the transfer, and the sector does not count
abbrev pub stopped_by : Moved → AdapterState → AdapterState
stopped_by verdict a = record a { completion = true; verdict = verdict }

-- a step: one sector was tried, with this verdict. A clean one counts, and ends the transfer where it was the last
abbrev pub stepped : Moved → AdapterState → AdapterState
stepped Clean a = record a {
  address = a.address + step_bytes a;
  byte_count = a.byte_count - step_bytes a;
  moved = a.moved + 1;
  completion = a.byte_count - step_bytes a == 0;
  verdict = Clean;
}
stepped (Faulted kind) a = record (stopped_by (Faulted kind) a) { data_late = late_after kind a.data_late }
stepped (Burst at pattern) a = stopped_by (Burst at pattern) a
stepped Hard a = stopped_by Hard a
stepped Marked a = stopped_by Marked a
stepped Offline a = stopped_by Offline a

-- the drive after a step: the move's effect, and its transfer ends exactly where the completion goes up
abbrev pub drive_stepped : Moved → AdapterState → DriveState → DriveState
drive_stepped verdict a d =
    if (stepped verdict a).completion then transfer_ended (after_move verdict (next_block a) d)
    else after_move verdict (next_block a) d

-- the data interrupt was taken: the adapter is free
abbrev pub completed : AdapterState → AdapterState
completed a = record a { busy = false; completion = false; data_late = false }

-- the attention bit of a drive, 0 to 7, goes on and off
abbrev pub attention_raised : ℕ → AdapterState → AdapterState
attention_raised drive a = record a { attentions = bit_or a.attentions (2 ^ drive) }

abbrev pub attention_lowered : ℕ → AdapterState → AdapterState
attention_lowered drive a = record a { attentions = bit_and a.attentions (255 - 2 ^ drive) }

-- WHAT EVERY ADAPTER KEEPS. What was loaded lies in the buffer, whose last block has from 1 to 512 bytes; the address
-- goes up as the byte count goes down; in a transfer each sector that moved took its bytes, and some are left until the
-- completion goes up.
pub record IsAdapter (a : AdapterState) : Type 0 where
  pub inside : a.skip + a.count ≤ a.blocks
  pub few : a.blocks ≤ 127
  pub offset : a.offset < 512
  pub last_some : 1 ≤ a.blocks → 1 ≤ a.last
  pub last_few : a.last ≤ 512
  pub place : a.address + a.byte_count ≡ a.offset + bytes_loaded a
  pub counted : a.busy ≡ true → a.byte_count ≡ bytes_loaded a - 512 * a.moved
  pub left : a.busy ≡ true → a.completion ≡ false → 0 < a.byte_count
