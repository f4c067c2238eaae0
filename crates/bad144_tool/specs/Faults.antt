-- When the calls of the tool answer each fault.
use Rattle.std.specs.Prelude.{◌≡◌, ℕ, ◌<◌, ◌≤◌, ◌*◌, Result, IsErrOf}
use Rattle.outside_traits.specs.Causes.{Rose}
use Rattle.pack_geometry.specs.declared.DriveKind.{DriveKind}
use Rattle.pack_geometry.specs.Geometry.{block_count}
use Rattle.pack_geometry.specs.Pack.{Pack}
use Rattle.bad144_table.specs.declared.table.InsertFault.{InsertFault}
use Rattle.bad144_table.specs.declared.table.InsertFault.TheVariants as insert_fault
use Rattle.bad144_tool.specs.declared.fault.ToolFault.{ToolFault}
use Rattle.bad144_tool.specs.declared.fault.ToolFault.TheVariants.{NoTable, Reserved, Listed, Full, Spare, TooLong, Store, Sink}
use Rattle.bad144_tool.specs.Adding.{IsTooLong, HasNone, IsReserved, IsListed, IsFull, IsSpare, IsStopped}
use Rattle.bad144_tool.specs.Marking.{IsMarkingStopped}
use Rattle.bad144_tool.specs.declared.edit.AddWay.{AddWay}

abbrev pub from_insert : InsertFault → ToolFault
from_insert insert_fault.Reserved = Reserved
from_insert (insert_fault.Listed i) = Listed i
from_insert insert_fault.Full = Full

-- the faults that `fresh` has, those that `list` has, and those that `add` has, over all packs; a length that is too long
-- is above its bound
abbrev pub IsFreshFault : DriveKind → ToolFault → Type 0
IsFreshFault kind (TooLong n) = 512 * block_count kind < n
IsFreshFault kind Store = Unit {0}
IsFreshFault kind _ = ⊥

abbrev pub IsListFault : DriveKind → ToolFault → Type 0
IsListFault kind (TooLong n) = 512 * block_count kind < n
IsListFault kind Store = Unit {0}
IsListFault kind Sink = Unit {0}
IsListFault kind _ = ⊥

abbrev pub IsAddFault : DriveKind → ToolFault → Type 0
IsAddFault kind (TooLong n) = 512 * block_count kind < n
IsAddFault kind Sink = ⊥
IsAddFault kind _ = Unit {0}

-- the faults that `mark` has, over all packs
abbrev pub IsMarkFault : DriveKind → ToolFault → Type 0
IsMarkFault kind (TooLong n) = 512 * block_count kind < n
IsMarkFault kind NoTable = Unit {0}
IsMarkFault kind Store = Unit {0}
IsMarkFault kind _ = ⊥

abbrev pub IsSpareFault : ToolFault → Type 0
IsSpareFault (Spare j) = Unit {0}
IsSpareFault Store = Unit {0}
IsSpareFault _ = ⊥

-- WHY A CALL ANSWERS A FAULT, by what the unit's pack held
abbrev pub IsWhy : DriveKind → Pack → ℕ → ToolFault → Type 0
IsWhy kind pack block (TooLong n) = IsTooLong kind pack n
IsWhy kind pack block NoTable = HasNone kind pack
IsWhy kind pack block Reserved = IsReserved kind pack block
IsWhy kind pack block (Listed i) = IsListed kind pack block i
IsWhy kind pack block Full = IsFull kind pack block
IsWhy kind pack block (Spare j) = IsSpare kind pack block j
IsWhy kind pack block _ = Unit {0}

-- what `add` leaves where it answers a fault: a refusal changes nothing
abbrev pub Leaves : DriveKind → ℕ → ℕ → AddWay → (ℕ → Pack) → (ℕ → Pack) → ToolFault → Type 0
Leaves kind unit block way old new Store = IsStopped kind unit block way old new
Leaves kind unit block way old new _ = new ≡ old

-- what `mark` leaves where it answers a fault: a refusal changes nothing
abbrev pub LeavesMarks : DriveKind → ℕ → (ℕ → Pack) → (ℕ → Pack) → ToolFault → Type 0
LeavesMarks kind unit old new Store = IsMarkingStopped kind unit old new
LeavesMarks kind unit old new _ = new ≡ old

-- a refusal, which is no failure of the packs or of the sink
abbrev pub IsRefusal : ToolFault → Type 0
IsRefusal Store = ⊥
IsRefusal Sink = ⊥
IsRefusal _ = Unit {0}

-- the count has not fallen, and it rose where the answer is this fault
pub record IsCounted {T : Type 0} (fault : ToolFault) (before now : ℕ) (result : Result T ToolFault) : Type 0 where
  pub later : before ≤ now
  pub rose : IsErrOf result fault → Rose before now
