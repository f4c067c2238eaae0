-- What runs of `bad144` have done.
use Rattle.std.specs.Prelude.{◌≡◌, ◌⊎◌, ℕ, ◌<◌, ◌≤◌, ◌*◌, Bool, IsTrue, List, [], ◌∷◌, ◌++◌, codes, decimal}
use Rattle.pack_geometry.specs.declared.DriveKind.{DriveKind}
use Rattle.pack_geometry.specs.Geometry.{block_count}
use Rattle.outside_traits.specs.Causes.{Rose}
use Rattle.outside_traits.specs.Puts.{TakesFront}
use Rattle.pack_geometry.specs.Pack.{Pack}
use Rattle.pack_geometry.specs.TableSpelling.{table_text}
use Rattle.bad144_tool.specs.Adding.{Adds, Fits, HasNone, IsStopped, IsTooLong}
use Rattle.bad144_tool.specs.Changes.{IsCutShort, with_changes}
use Rattle.bad144_tool.specs.Edit.{copies}
use Rattle.bad144_tool.specs.Faults.{IsWhy}
use Rattle.bad144_tool.specs.Marking.{IsMarkingStopped, Marks}
use Rattle.bad144_tool.specs.Texts.{Lists, ListsFront}
use Rattle.bad144_tool.specs.declared.edit.AddWay.{AddWay}
use Rattle.bad144_tool.specs.declared.fault.ToolFault.{ToolFault}
use Rattle.bad144_tool.specs.declared.fault.ToolFault.TheVariants as fault
use Rattle.command_parts.specs.declared.status.Status.{Status}
use Rattle.command_parts.specs.declared.status.Status.TheVariants.{SinkFailed, PacksFailed, TooLong, ToolRefused}
use Rattle.command_parts.specs.Lines.{Told, too_long_text}

-- the status of a fault, and what is printed of it
abbrev pub fault_status : ToolFault → Status
fault_status (fault.TooLong n) = TooLong
fault_status fault.Store = PacksFailed
fault_status fault.Sink = SinkFailed
fault_status refusal = ToolRefused

-- nothing further is printed where the packs or the sink failed
unfoldable pub fault_text : ℕ → ToolFault → List ℕ
fault_text unit fault.NoTable = codes "refused no table" ++ 10 ∷ []
fault_text unit fault.Reserved = codes "refused reserved" ++ 10 ∷ []
fault_text unit (fault.Listed i) = codes "refused listed " ++ decimal i ++ 10 ∷ []
fault_text unit fault.Full = codes "refused full" ++ 10 ∷ []
fault_text unit (fault.Spare j) = codes "refused spare " ++ decimal j ++ 10 ∷ []
fault_text unit (fault.TooLong n) = too_long_text unit n
fault_text unit why = []

-- `entry I`, `serial S`, and `marked K`
abbrev pub entry_text : ℕ → List ℕ
entry_text i = codes "entry " ++ decimal i ++ 10 ∷ []

abbrev pub serial_text : ℕ → List ℕ
serial_text serial = codes "serial " ++ decimal serial ++ 10 ∷ []

abbrev pub marked_text : ℕ → List ℕ
marked_text count = codes "marked " ++ decimal count ++ 10 ∷ []

-- an image that is longer than its pack: nothing was changed, and the text names unit and length
pub record RunsTooLong (kind : DriveKind) (unit : ℕ) (tells : Bool) (pack : Pack) (out_tells : Bool) (taken after : List ℕ) (faults faults_after : ℕ) : Type 0 where
  pub length : ℕ
  pub above : 512 * block_count kind < length
  pub is : IsTrue tells → IsTooLong kind pack length
  pub told : IsTrue out_tells → Told taken after (too_long_text unit length) faults faults_after

-- `bad144 list`: nothing is changed; the list of a table is printed, which is the pack's where the packs tell; or a front of it where the sink
-- failed
pub record RunsList (kind : DriveKind) (unit code : ℕ) (tells : Bool) (old new : ℕ → Pack) (out_tells : Bool) (taken after : List ℕ) (faults faults_after : ℕ) : Type 0 where
  pub statuses : (code ≡ 0) ⊎ (code ≡ 5) ⊎ (code ≡ 6) ⊎ (code ≡ 7)
  pub same : IsTrue tells → new ≡ old
  pub listed : code ≡ 0 → Lists kind tells (old unit) out_tells taken after
  pub front : code ≡ 5 → ListsFront kind tells (old unit) out_tells taken after
  pub too_long : code ≡ 7 → RunsTooLong kind unit tells (old unit) out_tells taken after faults faults_after
  pub silent : code ≡ 6 → IsTrue out_tells → after ≡ taken

-- an index of a table was printed, that of the block's entry where the packs tell; or a front of that, where the sink failed
pub record RunsAdded (kind : DriveKind) (unit block : ℕ) (way : AddWay) (code : ℕ) (tells : Bool) (old new : ℕ → Pack) (out_tells : Bool) (taken after : List ℕ) (faults faults_after : ℕ) : Type 0 where
  pub index : ℕ
  pub few : index < 126
  pub adds : IsTrue tells → Adds kind unit block way old new index
  pub told : code ≡ 0 → IsTrue out_tells → after ≡ taken ++ entry_text index
  pub front : code ≡ 5 → Rose faults faults_after × (IsTrue out_tells → TakesFront taken after (entry_text index))

-- the tool refused, and why is printed
pub record RunsRefused (kind : DriveKind) (unit block : ℕ) (tells : Bool) (old : ℕ → Pack) (out_tells : Bool) (taken after : List ℕ) (faults faults_after : ℕ) : Type 0 where
  pub fault : ToolFault
  pub refusal : fault_status fault ≡ ToolRefused
  pub why : IsTrue tells → IsWhy kind (old unit) block fault
  pub told : IsTrue out_tells → Told taken after (fault_text unit fault) faults faults_after

-- `bad144 add`
pub record RunsAdd (kind : DriveKind) (unit block : ℕ) (way : AddWay) (code : ℕ) (tells : Bool) (old new : ℕ → Pack) (out_tells : Bool) (taken after : List ℕ) (faults faults_after : ℕ) : Type 0 where
  pub statuses : (code ≡ 0) ⊎ (code ≡ 5) ⊎ (code ≡ 6) ⊎ (code ≡ 7) ⊎ (code ≡ 8)
  pub added : (code ≡ 0) ⊎ (code ≡ 5) → RunsAdded kind unit block way code tells old new out_tells taken after faults faults_after
  pub stopped : code ≡ 6 → IsTrue tells → IsStopped kind unit block way old new
  pub silent : code ≡ 6 → IsTrue out_tells → after ≡ taken
  pub too_long : code ≡ 7 → RunsTooLong kind unit tells (old unit) out_tells taken after faults faults_after
  pub unchanged : (code ≡ 7) ⊎ (code ≡ 8) → IsTrue tells → new ≡ old
  pub refused : code ≡ 8 → RunsRefused kind unit block tells old out_tells taken after faults faults_after

-- `bad144 fresh`: the five copies of an empty table are written, and its serial number is printed; or a front of that, where the sink failed
pub record RunsFresh (kind : DriveKind) (unit serial code : ℕ) (tells : Bool) (old new : ℕ → Pack) (out_tells : Bool) (taken after : List ℕ) (faults faults_after : ℕ) : Type 0 where
  pub statuses : (code ≡ 0) ⊎ (code ≡ 5) ⊎ (code ≡ 6) ⊎ (code ≡ 7)
  pub fits : (code ≡ 0) ⊎ (code ≡ 5) → IsTrue tells → Fits kind (old unit)
  pub done : (code ≡ 0) ⊎ (code ≡ 5) → IsTrue tells → new ≡ with_changes old unit (copies kind (table_text serial []))
  pub told : code ≡ 0 → IsTrue out_tells → after ≡ taken ++ serial_text serial
  pub front : code ≡ 5 → Rose faults faults_after × (IsTrue out_tells → TakesFront taken after (serial_text serial))
  pub stopped : code ≡ 6 → IsTrue tells → IsCutShort old new unit (copies kind (table_text serial []))
  pub silent : code ≡ 6 → IsTrue out_tells → after ≡ taken
  pub too_long : code ≡ 7 → RunsTooLong kind unit tells (old unit) out_tells taken after faults faults_after
  pub unchanged : code ≡ 7 → IsTrue tells → new ≡ old

-- a count of a table's entries is printed, that of the listed blocks that were marked where the packs tell; or a front of that, where the sink
-- failed
pub record RunsMarked (kind : DriveKind) (unit code : ℕ) (tells : Bool) (old new : ℕ → Pack) (out_tells : Bool) (taken after : List ℕ) (faults faults_after : ℕ) : Type 0 where
  pub count : ℕ
  pub few : count ≤ 126
  pub marks : IsTrue tells → Marks kind unit old new count
  pub told : code ≡ 0 → IsTrue out_tells → after ≡ taken ++ marked_text count
  pub front : code ≡ 5 → Rose faults faults_after × (IsTrue out_tells → TakesFront taken after (marked_text count))

-- the pack has no table, and that is printed
pub record RunsNoTable (kind : DriveKind) (unit : ℕ) (tells : Bool) (old : ℕ → Pack) (out_tells : Bool) (taken after : List ℕ) (faults faults_after : ℕ) : Type 0 where
  pub none : IsTrue tells → HasNone kind (old unit)
  pub told : IsTrue out_tells → Told taken after (fault_text unit fault.NoTable) faults faults_after

-- `bad144 mark`
pub record RunsMark (kind : DriveKind) (unit code : ℕ) (tells : Bool) (old new : ℕ → Pack) (out_tells : Bool) (taken after : List ℕ) (faults faults_after : ℕ) : Type 0 where
  pub statuses : (code ≡ 0) ⊎ (code ≡ 5) ⊎ (code ≡ 6) ⊎ (code ≡ 7) ⊎ (code ≡ 8)
  pub marked : (code ≡ 0) ⊎ (code ≡ 5) → RunsMarked kind unit code tells old new out_tells taken after faults faults_after
  pub stopped : code ≡ 6 → IsTrue tells → IsMarkingStopped kind unit old new
  pub silent : code ≡ 6 → IsTrue out_tells → after ≡ taken
  pub too_long : code ≡ 7 → RunsTooLong kind unit tells (old unit) out_tells taken after faults faults_after
  pub unchanged : (code ≡ 7) ⊎ (code ≡ 8) → IsTrue tells → new ≡ old
  pub refused : code ≡ 8 → RunsNoTable kind unit tells old out_tells taken after faults faults_after
