-- A drive stays one whose registers name places of it, whatever it does.
use Rattle.std.proofs.Common.{◌≡◌, ℕ, ◌+◌, ◌%◌, ◌<◌, Bool, true, false, Some, None, refl, arith, rules}
use Rattle.std.specs.Prelude.{if◌then◌else◌, ◌&&◌, bit_or, nat_lt}
use Rattle.std.proofs.lemmas.Bool.Decides.{Decides-ltb}
use Rattle.pack_geometry.specs.declared.DriveKind.{DriveKind}
use Rattle.pack_geometry.specs.declared.DriveKind.TheVariants.{Rp06}
use Rattle.pack_geometry.specs.declared.Place.{Place}
use Rattle.pack_geometry.specs.Geometry.{cylinders_of, sectors_of, block_count, limit_of, IsInside, place_at, track_and_sector}
use Rattle.drive_registers.specs.declared.Function.TheVariants as function
use Rattle.drive_registers.specs.declared.OffsetCode.{OffsetCode}
use Rattle.drive_registers.specs.declared.OffsetCode.TheVariants as code
use Rattle.drive_registers.specs.Codes.{function_code, offset_code}
use Rattle.drive_registers.specs.Bits as bits
use Rattle.hardware_table.specs.declared.Armed.{Armed}
use Rattle.hardware_table.specs.declared.FaultKind.{FaultKind}
use Rattle.hardware_table.specs.declared.FaultKind.TheVariants as fault
use Rattle.hardware_table.specs.declared.Moved.{Moved}
use Rattle.hardware_table.specs.declared.Moved.TheVariants as verdict
use Rattle.hardware_table.specs.declared.Work.{Work}
use Rattle.hardware_table.specs.declared.Work.TheVariants as work
use Rattle.hardware_table.specs.declared.Register.TheVariants as register
use Rattle.hardware_table.specs.Drive.{DriveState, with_register}
use Rattle.hardware_table.specs.Functions.{is_addressed, performed}
use Rattle.hardware_table.specs.Events.{arrived_from, transfer_ended, attention_cleared, turned, fault_armed, online_set, locked_set}
use Rattle.hardware_table.specs.Moves.{passed, after_move, with_mark_bits, with_fault_bits, fault_used}
use Rattle.hardware_table.specs.Adapter.{AdapterState, stepped, drive_stepped, next_block}
use Rattle.trace_replay.specs.Drives.{addressed, offset_written, transfer_function}
use Rattle.driver_machine.specs.Acts.{centred}
use Rattle.driver_machine.specs.Sound.{IsDrive, IsGoal, code_word}

-- PLACES. A block of the pack lies on the drive.
pub place_inside : (kind : DriveKind) (block : ℕ) → block < block_count kind → IsInside kind (place_at kind block)
place_inside Rp06 block lt = record { cylinder = omega arith; track = omega arith; sector = omega arith }
place_inside other block lt = record { cylinder = omega arith; track = omega arith; sector = omega arith }

pub below_limit : (kind : DriveKind) (block : ℕ) → block < limit_of kind → block < block_count kind
below_limit Rp06 block lt = omega arith
below_limit other block lt = omega arith

pub some_cylinder : (kind : DriveKind) → 0 < cylinders_of kind
some_cylinder Rp06 = omega arith
some_cylinder other = omega arith

pub sector_below : (kind : DriveKind) (n : ℕ) → n % sectors_of kind < sectors_of kind
sector_below Rp06 n = omega arith
sector_below other n = omega arith

-- the registers name a sector of the drive
pub is_addressed-addressed : (d : DriveState) (place : Place) → IsInside d.kind place → is_addressed (addressed place d) ≡ true
is_addressed-addressed d place inside = first_of (search rules, grind arith)

pub performed-search : (d : DriveState) (place : Place) → IsInside d.kind place → performed function.Search (addressed place d)
    ≡ record d { cs1 = function_code function.Search; dc = place.cylinder; da = track_and_sector place; work = work.Positioning place.cylinder (Some place.sector) }
performed-search d place inside = first_of (search rules, grind arith)

pub performed-seek : (d : DriveState) (cylinder : ℕ) → cylinder < cylinders_of d.kind → is_addressed d ≡ true
    → performed function.Seek (with_register register.Dc cylinder d)
    ≡ record d { cs1 = function_code function.Seek; dc = cylinder; work = work.Positioning cylinder None }
performed-seek d cylinder lt is = first_of (search rules, grind arith)

pub performed-transfer : (write : Bool) (d : DriveState) (place : Place) → IsInside d.kind place → write && d.locked ≡ false
    → performed (transfer_function write) (addressed place d)
    ≡ record d { cs1 = function_code (transfer_function write); dc = place.cylinder; da = track_and_sector place; work = work.Transfer write }
performed-transfer write d place h0 h1 = first_of (search rules, grind arith)

-- WHAT STAYS where neither the heads nor the registers of places change
pub drive_as : (d : DriveState) (cs1 er1 er2 ec1 ec2 : ℕ) (does : Work) (attention : Bool) (armed : Armed) → IsDrive d
    → IsDrive (record d { cs1 = cs1; er1 = er1; er2 = er2; ec1 = ec1; ec2 = ec2; work = does; attention = attention; armed = armed })
drive_as d cs1 er1 er2 ec1 ec2 does attention armed is = first_of (search rules, grind arith)

-- FUNCTIONS
pub drive_search : (d : DriveState) (place : Place) → IsInside d.kind place → IsDrive d → IsDrive (performed function.Search (addressed place d))
drive_search d place inside is = first_of (search rules, grind arith)

pub drive_transfer : (write : Bool) (d : DriveState) (place : Place) → IsInside d.kind place → write && d.locked ≡ false → IsDrive d
    → IsDrive (performed (transfer_function write) (addressed place d))
drive_transfer write d place inside free is = first_of (search rules, grind arith)

pub drive_seek : (d : DriveState) (cylinder : ℕ) → cylinder < cylinders_of d.kind → IsDrive d
    → IsDrive (performed function.Seek (with_register register.Dc cylinder d))
drive_seek d cylinder lt is = first_of (search rules, grind arith)

pub drive_recal : (d : DriveState) → IsDrive d → IsDrive (performed function.Recal d)
drive_recal d is = drive_as d _ _ _ _ _ _ _ _ is

pub drive_clear : (d : DriveState) → IsDrive d → IsDrive (performed function.Clear d)
drive_clear d is = drive_as d _ _ _ _ _ _ _ _ is

pub drive_pack : (d : DriveState) → d.online ≡ true → IsDrive d → IsDrive (performed function.Pack d)
drive_pack d online is = first_of (search rules, grind arith)

pub drive_centred : (d : DriveState) → IsDrive d → IsDrive (centred d)
drive_centred d is = first_of (search rules, grind arith)

word_sum : (c : OffsetCode) → bit_or bits.sixteen_bit_format (offset_code c) ≡ bits.sixteen_bit_format + code_word (Some c)
word_sum code.Plus400 = refl
word_sum other = refl

pub drive_offset : (d : DriveState) (c : OffsetCode) → IsDrive d → IsDrive (performed function.Offset (offset_written (offset_code c) d))
drive_offset d c is = record {
  cylinder = is.cylinder;
  look = is.look;
  look_ahead = is.look_ahead;
  sector = is.sector;
  address = is.address;
  code = Some c;
  offset = word_sum c;
  valid = is.valid;
}

-- EVENTS
pub drive_arrived : (k : Work) (d : DriveState) → IsGoal d.kind k → IsDrive d → IsDrive (arrived_from k d)
drive_arrived work.Ready d goal is = absurd goal
drive_arrived (work.Transfer write) d goal is = absurd goal
drive_arrived (work.Positioning cylinder None) d goal is = record {
  cylinder = goal;
  look = is.look;
  look_ahead = is.look_ahead;
  sector = is.sector;
  address = is.address;
  code = is.code;
  offset = is.offset;
  valid = is.valid;
}
drive_arrived (work.Positioning cylinder (Some sector)) d goal is = record {
  cylinder = goal.0;
  look = sector;
  look_ahead = refl;
  sector = goal.1;
  address = is.address;
  code = is.code;
  offset = is.offset;
  valid = is.valid;
}

pub drive_attended : (d : DriveState) → IsDrive d → IsDrive (attention_cleared d)
drive_attended d is = drive_as d _ _ _ _ _ _ _ _ is

-- a block has passed: the registers name the next one, where there is one
address_by : (b : Bool) (d : DriveState) (place : Place) → (b ≡ true → IsInside d.kind place) → is_addressed d ≡ true
    → is_addressed (record d { dc = if b then place.cylinder else d.dc; da = if b then track_and_sector place else d.da }) ≡ true
address_by true d place inside is = is_addressed-addressed d place (inside refl)
address_by false d place inside is = is

pub drive_passed : (d : DriveState) (block : ℕ) → block < block_count d.kind → IsDrive d → IsDrive (passed block d)
drive_passed d block lt is = record {
  cylinder = (place_inside d.kind block lt).cylinder;
  look = ((place_at d.kind block).sector + 1) % sectors_of d.kind;
  look_ahead = refl;
  sector = sector_below d.kind ((place_at d.kind block).sector + 1);
  address = address_by (nat_lt (block + 1) (block_count d.kind)) d (place_at d.kind (block + 1))
      (λ more. place_inside d.kind (block + 1) ((Decides-ltb (block + 1) (block_count d.kind)).0 more)) is.address;
  code = is.code;
  offset = is.offset;
  valid = is.valid;
}

drive_marked : (kind : DriveKind) (d : DriveState) → IsDrive d → IsDrive (with_mark_bits kind d)
drive_marked Rp06 d is = drive_as d _ _ _ _ _ _ _ _ is
drive_marked other d is = drive_as d _ _ _ _ _ _ _ _ is

drive_faulted : (kind : FaultKind) (d : DriveState) → IsDrive d → IsDrive (with_fault_bits kind (fault_used kind d))
drive_faulted fault.Seek d is = drive_as d _ _ _ _ _ _ _ _ is
drive_faulted other d is = drive_as d _ _ _ _ _ _ _ _ is

drive_moved : (v : Moved) (block : ℕ) (d : DriveState) → block < block_count d.kind → IsDrive d → IsDrive (after_move v block d)
drive_moved verdict.Clean block d lt is = drive_passed d block lt is
drive_moved verdict.Marked block d lt is = drive_marked d.kind d is
drive_moved (verdict.Faulted kind) block d lt is = drive_faulted kind d is
drive_moved verdict.Offline block d lt is = drive_as d _ _ _ _ _ _ _ _ is
drive_moved other block d lt is = drive_as (passed block d) _ _ _ _ _ _ _ _ (drive_passed d block lt is)

-- what holds of both values of a choice holds of it
pub by_if : {A : Type 0} (b : Bool) (P : A → Type 0) (x y : A) → P x → P y → P (if b then x else y)
by_if true P x y h g = h
by_if false P x y h g = g

pub drive_after_step : (v : Moved) (a : AdapterState) (d : DriveState) → next_block a < block_count d.kind → IsDrive d → IsDrive (drive_stepped v a d)
drive_after_step v a d lt is =
    let moved : IsDrive (after_move v (next_block a) d) = drive_moved v (next_block a) d lt is in
    by_if (stepped v a).completion IsDrive (transfer_ended (after_move v (next_block a) d)) (after_move v (next_block a) d)
    (drive_as (after_move v (next_block a) d) _ _ _ _ _ _ _ _ moved) moved

-- CONDITIONS
pub drive_turned : (d : DriveState) (sector : ℕ) → sector < sectors_of d.kind → IsDrive d → IsDrive (turned sector d)
drive_turned d sector lt is = first_of (search rules, grind arith)

pub drive_armed : (d : DriveState) (kind : FaultKind) (times : ℕ) → IsDrive d → IsDrive (fault_armed kind times d)
drive_armed d kind times is = drive_as d _ _ _ _ _ _ _ _ is

pub drive_online : (d : DriveState) (is_on : Bool) → IsDrive d → IsDrive (online_set is_on d)
drive_online d is_on h0 = first_of (search rules, grind arith)

pub drive_locked : (d : DriveState) (is_on : Bool) → IsDrive d → IsDrive (locked_set is_on d)
drive_locked d is_on is = first_of (search rules, grind arith)
