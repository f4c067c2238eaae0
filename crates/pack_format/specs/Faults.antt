-- Why a pack is not formatted, and what that leaves of it.
use Rattle.std.specs.Prelude.{◌≡◌, ◌⊎◌, ℕ, ◌*◌, ◌<◌, ◌≤◌, Bool, IsTrue, List, Result, IsErrOf, length}
use Rattle.pack_geometry.specs.declared.DriveKind.{DriveKind}
use Rattle.pack_geometry.specs.Geometry.{block_count, copy_at}
use Rattle.pack_geometry.specs.Pack.{Pack}
use Rattle.pack_geometry.specs.TableSpelling.{Table, Spells}
use Rattle.outside_traits.specs.Causes.{Rose}
use Rattle.pack_format.specs.Steps.{Seen}
use Rattle.pack_format.specs.testing.Stages.{IsTested}
use Rattle.pack_format.specs.testing.Stops.{CameBack}
use Rattle.pack_format.specs.Formatted.{HasNoCopy, IsPartly, IsSpare, IsTooLong, IsTooMany, found}
use Rattle.pack_format.specs.declared.fault.FormatFault.{FormatFault}
use Rattle.pack_format.specs.declared.fault.FormatFault.TheVariants.{Memory, TooLong, TooMany, Spare, NoCopy, Differs, Store}

-- the reason of each refusal, by what the pack held; each comes where those before it do not. Over packs that tell, no byte comes back
-- otherwise than it was written.
abbrev pub IsWhy : DriveKind → Pack → FormatFault → Type 0
IsWhy kind pack (TooLong size) = IsTooLong kind pack × (size ≡ length pack.image)
IsWhy kind pack (TooMany number) = ¬ (IsTooLong kind pack) × IsTooMany kind pack × (number ≡ found kind pack)
IsWhy kind pack (Spare index) = ¬ (IsTooLong kind pack) × ¬ (IsTooMany kind pack) × IsSpare kind pack index
IsWhy kind pack NoCopy = ¬ (IsTooLong kind pack) × ¬ (IsTooMany kind pack) × ((index : ℕ) → ¬ (IsSpare kind pack index)) × HasNoCopy kind pack
IsWhy kind pack (Differs block at wrote read) = ⊥
IsWhy kind pack Memory = ¬ (IsTooLong kind pack)
IsWhy kind pack Store = Unit {0}

-- what it leaves of all packs: a refusal, and want of memory, change nothing
abbrev pub Leaves : DriveKind → (serial unit : ℕ) → (old new : ℕ → Pack) → FormatFault → Type 0
Leaves kind serial unit old new Store = (new ≡ old) ⊎ IsPartly kind serial (old unit) (new unit)
Leaves kind serial unit old new (Differs block at wrote read) = ⊥
Leaves kind serial unit old new _ = new ≡ old

-- which bytes are written to a block: those of a test to a data block or a replacement, and to a copy those that spell a table with the serial
-- number
abbrev pub IsTableText : DriveKind → (serial : ℕ) → List ℕ → Type 0
IsTableText kind serial bytes = (table : Table) × (table.kind ≡ kind) × (table.serial ≡ serial) × Spells bytes table

abbrev pub Formats : DriveKind → (serial block : ℕ) → (bytes : List ℕ) → Type 0
Formats kind serial block bytes = ((block < copy_at kind 0) × IsTested bytes) ⊎ ((k : ℕ) × (k < 5) × (block ≡ copy_at kind k) × IsTableText kind serial bytes)

-- WHAT IS SAID OF A FAULT whatever the packs tell: a length or a number is above its bound, and a byte came back otherwise than it was written, the
-- first one of its block
abbrev pub IsFault : DriveKind → (serial : ℕ) → FormatFault → Type 0
IsFault kind serial (Differs block at wrote read) = CameBack (Formats kind serial) block at wrote read
IsFault kind serial (TooLong size) = 512 * block_count kind < size
IsFault kind serial (TooMany number) = 126 < number
IsFault kind serial (Spare index) = index < 126
IsFault kind serial _ = Unit {0}

-- A FAULT, by what the pack held: its reason, and what is said of it whatever the packs tell
pub record IsReason (kind : DriveKind) (serial : ℕ) (told : Bool) (pack : Pack) (reason : FormatFault) : Type 0 where
  pub why : IsTrue told → IsWhy kind pack reason
  pub fault : IsFault kind serial reason

-- and what it leaves
pub record IsEnd (kind : DriveKind) (serial unit : ℕ) (old new : Seen) (fault : FormatFault) : Type 0 where
  pub reason : IsReason kind serial new.told (old.held unit) fault
  pub left : IsTrue new.told → Leaves kind serial unit old.held new.held fault

-- the packs fail only where their count of faults rose, which never falls
pub record IsCaused {T : Type 0} (before now : ℕ) (result : Result T FormatFault) : Type 0 where
  pub later : before ≤ now
  pub store : IsErrOf result Store → Rose before now
