-- A good drive with an adapter and a frame of memory, between two polls and within one.
use Rattle.std.specs.Prelude.{◌≡◌, ℕ, ◌<◌, Bool, true, false, [], length}
use Rattle.pack_geometry.specs.declared.DriveKind.{DriveKind}
use Rattle.pack_geometry.specs.Geometry.{block_count, place_at, track_and_sector}
use Rattle.hardware_table.specs.declared.Work.{Work}
use Rattle.hardware_table.specs.declared.Work.TheVariants.{Ready, Transfer}
use Rattle.hardware_table.specs.Adapter.{AdapterState}
use Rattle.hardware_table.specs.Drive.{DriveState, none_armed}
use Rattle.main_memory.specs.Blocks.{Loan}
use Rattle.main_memory.specs.Memory.{IsLent}
use Rattle.mba_adapter.specs.Loaded.{loaded_buffer}
use Rattle.pack_format.specs.declared.testing.station.Station.{Station}

-- a drive of this kind that is online and unlocked, with no fault armed, and does this
pub record Does (kind : DriveKind) (work : Work) (d : DriveState) : Type 0 where
  pub kind_is : d.kind ≡ kind
  pub work_is : d.work ≡ work
  pub online : d.online ≡ true
  pub unlocked : d.locked ≡ false
  pub none : d.armed ≡ none_armed

-- its address names a block, and its heads stand on the block's cylinder
pub record IsAimed (kind : DriveKind) (block : ℕ) (d : DriveState) : Type 0 where
  pub cylinder : d.dc ≡ (place_at kind block).cylinder
  pub track_and_sector : d.da ≡ track_and_sector (place_at kind block)
  pub heads : d.cc ≡ (place_at kind block).cylinder

-- it begins to move that block
pub record HasBegun (kind : DriveKind) (block : ℕ) (write : Bool) (d : DriveState) : Type 0 where
  pub good : Does kind (Transfer write) d
  pub aimed : IsAimed kind block d

-- A BLOCK OF A UNIT
pub record IsSector (kind : DriveKind) (unit block : ℕ) : Type 0 where
  pub few : unit < 32
  pub below : block < block_count kind

-- A STATION AT REST: the drive is good and ready, the adapter free, no noise live, and a frame of memory is free
pub record IsAtRest (kind : DriveKind) (station : Station) : Type 0 where
  pub drive : Does kind Ready station.drive
  pub free : station.adapter.busy ≡ false
  pub frame : 0 < length station.memory.free
  pub quiet : station.book.live ≡ []

-- a buffer that is one whole frame
pub record IsFrame (loan : Loan) : Type 0 where
  pub count : loan.count ≡ 1
  pub offset : loan.offset ≡ 0
  pub last : loan.last ≡ 512
  pub frames : length loan.frames ≡ 1

-- a transfer between a block and that frame is started, and the sector has not been tried
pub record IsStarted (loan : Loan) (block : ℕ) (write : Bool) (a : AdapterState) : Type 0 where
  pub loaded : loan ≡ loaded_buffer a
  pub busy : a.busy ≡ true
  pub under_way : a.completion ≡ false
  pub first : a.skip ≡ 0
  pub none_moved : a.moved ≡ 0
  pub block_is : a.block ≡ block
  pub write_is : a.write ≡ write
  pub bytes : a.byte_count ≡ 512

-- A STATION WITH A FRAME of its memory: the drive is good and ready, the adapter free, and no noise live;
pub record HasFrame (kind : DriveKind) (loan : Loan) (station : Station) : Type 0 where
  pub drive : Does kind Ready station.drive
  pub free : station.adapter.busy ≡ false
  pub frame : IsFrame loan
  pub lent : IsLent station.memory loan
  pub quiet : station.book.live ≡ []

-- and one where the transfer between the block and the frame is begun.
pub record IsBegun (kind : DriveKind) (loan : Loan) (block : ℕ) (write : Bool) (station : Station) : Type 0 where
  pub drive : Does kind (Transfer write) station.drive
  pub aimed : IsAimed kind block station.drive
  pub started : IsStarted loan block write station.adapter
  pub frame : IsFrame loan
  pub lent : IsLent station.memory loan
  pub quiet : station.book.live ≡ []

-- and one where its only sector was tried
pub record HasMoved (kind : DriveKind) (loan : Loan) (station : Station) : Type 0 where
  pub drive : Does kind Ready station.drive
  pub completion : station.adapter.completion ≡ true
  pub loaded : loan ≡ loaded_buffer station.adapter
  pub lent : IsLent station.memory loan
  pub quiet : station.book.live ≡ []
