-- The state of a drive, and its registers.
use Rattle.std.specs.Prelude.{ℕ, ◌/◌, ◌%◌, ◌==◌, ◌&&◌, Bool, true, false, not, if◌then◌else◌, bit_or}
use Rattle.pack_geometry.specs.declared.DriveKind.{DriveKind}
use Rattle.pack_geometry.specs.declared.DriveKind.TheVariants.{Rp06, Rm03, Rm05}
use Rattle.drive_registers.specs.Bits as bits
use Rattle.drive_registers.specs.Codes.{rp06_type, rm03_type, rm05_type}
use Rattle.hardware_table.specs.declared.Armed.{Armed}
use Rattle.hardware_table.specs.declared.Work.{Work}
use Rattle.hardware_table.specs.declared.Work.TheVariants.{Ready, Positioning, Transfer}
use Rattle.hardware_table.specs.declared.Register.{Register}
use Rattle.hardware_table.specs.declared.Register.TheVariants as register

pub record DriveState : Type 0 where
  pub kind : DriveKind
  pub serial : ℕ
  -- the registers that are kept; the others follow from the state
  pub cs1 : ℕ
  pub er1 : ℕ
  pub er2 : ℕ
  pub offset : ℕ
  pub da : ℕ
  pub dc : ℕ
  pub cc : ℕ
  pub la : ℕ
  pub ec1 : ℕ
  pub ec2 : ℕ
  -- what is under way
  pub work : Work
  -- its condition: online, write locked, volume valid, attention raised and not cleared
  pub online : Bool
  pub locked : Bool
  pub valid : Bool
  pub attention : Bool
  -- the faults that are armed
  pub armed : Armed

abbrev pub none_armed : Armed
none_armed = record { seek = 0; opi = 0; dte = 0; hcrc = 0; late = 0 }

-- a new drive is online and unlocked, its volume is not valid, and nothing is under way or armed
abbrev pub new_drive : DriveKind → ℕ → DriveState
new_drive kind serial = record {
  kind = kind;
  serial = serial;
  cs1 = 0;
  er1 = 0;
  er2 = 0;
  offset = 0;
  da = 0;
  dc = 0;
  cc = 0;
  la = 0;
  ec1 = 0;
  ec2 = 0;
  work = Ready;
  online = true;
  locked = false;
  valid = false;
  attention = false;
  armed = none_armed;
}

abbrev pub is_ready : Work → Bool
is_ready Ready = true
is_ready (Positioning cylinder sector) = false
is_ready (Transfer write) = false

abbrev pub is_positioning : Work → Bool
is_positioning Ready = false
is_positioning (Positioning cylinder sector) = true
is_positioning (Transfer write) = false

abbrev pub is_transferring : Work → Bool
is_transferring Ready = false
is_transferring (Positioning cylinder sector) = false
is_transferring (Transfer write) = true

abbrev pub is_writing : Work → Bool
is_writing Ready = false
is_writing (Positioning cylinder sector) = false
is_writing (Transfer write) = write

-- an error register is not zero
abbrev pub has_error : DriveState → Bool
has_error d = not ((d.er1 == 0) && (d.er2 == 0))

-- a bit where a condition holds, and 0 where it does not
abbrev pub on : Bool → ℕ → ℕ
on condition bit = if condition then bit else 0

-- the drive status: each bit with its condition
abbrev pub status : DriveState → ℕ
status d =
    bit_or (on d.attention bits.attention)
    (bit_or (on (has_error d) bits.error)
    (bit_or (on (is_positioning d.work) bits.positioning)
    (bit_or (on d.online bits.medium_on_line)
    (bit_or (on d.locked bits.write_locked)
    (bit_or bits.drive_present
    (bit_or (on (is_ready d.work) bits.drive_ready) (on d.valid bits.volume_valid)))))))

-- the word in the drive type register
abbrev pub type_word : DriveKind → ℕ
type_word Rp06 = rp06_type
type_word Rm03 = rm03_type
type_word Rm05 = rm05_type

-- what a register holds
abbrev pub register_of : Register → DriveState → ℕ
register_of register.Cs1 d = d.cs1
register_of register.Ds d = status d
register_of register.Er1 d = d.er1
register_of register.Er2 d = d.er2
register_of register.Of d = d.offset
register_of register.Da d = d.da
register_of register.Dc d = d.dc
register_of register.Cc d = d.cc
register_of register.La d = d.la
register_of register.Dt d = type_word d.kind
register_of register.Sn d = d.serial
register_of register.Ec1 d = d.ec1
register_of register.Ec2 d = d.ec2

-- the registers that can be written
abbrev pub is_writable : Register → Bool
is_writable register.Of = true
is_writable register.Da = true
is_writable register.Dc = true
is_writable _ = false

abbrev pub with_register : Register → ℕ → DriveState → DriveState
with_register register.Of word d = record d { offset = word }
with_register register.Da word d = record d { da = word }
with_register register.Dc word d = record d { dc = word }
with_register _ word d = d

-- the track and the sector of a word in Da
abbrev pub track_in : ℕ → ℕ
track_in da = da / 256

abbrev pub sector_in : ℕ → ℕ
sector_in da = da % 256
