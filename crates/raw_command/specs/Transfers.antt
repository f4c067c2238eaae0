-- WHAT A TRANSFER COMES TO over the packs, by the contents of its unit's data blocks.
use Rattle.std.specs.Prelude.{◌≡◌, ◌⊎◌, ℕ, ◌+◌, ◌<◌, ◌≤◌, Bool, true, false, IsTrue, List, ◌++◌, take, length, Option, Some, IfSome}
use Rattle.pack_geometry.specs.Geometry.{block_count}
use Rattle.pack_geometry.specs.Pack.{Pack, block_at}
use Rattle.pack_geometry.specs.Homes.{IsHome, content_of}
use Rattle.pack_geometry.specs.PackTable.{IsTableOf}
use Rattle.pack_geometry.specs.TableSpelling.{Table}
use Rattle.partitions.specs.Partitions.{first_of}
use Rattle.trace_replay.specs.Replay.{Replay, IsOver}
use Rattle.trace_replay.specs.Text.{trace_text}
use Rattle.driver_laws.specs.rules.Machine.{Blocks}
use Rattle.driver_laws.specs.rules.Stands.{start_over}
use Rattle.driver_laws.specs.shown.Lengths.{AreAsLong}
use Rattle.driver_laws.specs.declared.answers.outcome.Stop.{Stop}
use Rattle.driver_laws.specs.declared.answers.outcome.Stop.TheVariants as stopped
use Rattle.raw_io.specs.Passes.{LeftAt, LongAt, Stay, Took, moments_in}
use Rattle.driver_laws.specs.rules.Sessions.{Part, IsSession, behind_all, told_in}
use Rattle.driver_laws.specs.rules.Cleans.{MovedClean}
use Rattle.driver_laws.specs.rules.Bytes.{range, Touches, ComesTo, with_range}
use Rattle.driver_laws.specs.rules.Pieces.{EndsBlock}
use Rattle.raw_io.specs.Transfers.{AreBegun, AreWaited}
use Rattle.outside_traits.specs.declared.traits.PackCall.{PackCall}
use Rattle.mba_autoconf.specs.Attach.{Fits, IsAttaching}
use Rattle.raw_command.specs.Faults.{done_by}
use Rattle.raw_command.specs.Units.{at_unit, unit_setup, KeepsUnit}
use Rattle.raw_command.specs.declared.fault.TransferFault.{TransferFault}
use Rattle.raw_command.specs.declared.fault.TransferFault.TheVariants as fault
use Rattle.command_parts.specs.declared.words.Target.{Target}

-- the contents of the unit's data blocks, and where its partition begins
abbrev pub blocks_in : Target → Option Table → (ℕ → Pack) → Blocks
blocks_in t table held = content_of t.kind table (held t.unit)

abbrev pub first_in : Target → ℕ
first_in t = first_of t.kind t.part

-- the replay of a script that declares the unit, at its start
abbrev pub start_at : Target → Option Table → (ℕ → Pack) → Replay
start_at t table held = start_over (unit_setup t.unit t.kind table held)

-- THE TABLE is that of the unit's pack, whose image fits. What is no home of a data block stays, and so do marks, what the image has beyond
-- the drive, and the packs of all other units.
pub record StaysElse (t : Target) (table : Option Table) (held held' : ℕ → Pack) : Type 0 where
  pub table_is : IsTableOf t.kind (held t.unit) table
  pub fits : Fits t.kind (held t.unit)
  pub sectors : (sector : ℕ) → sector < block_count t.kind → ¬ (IsHome t.kind table (held t.unit) sector)
      → block_at (held' t.unit).image sector ≡ block_at (held t.unit).image sector
  pub stay : Stay (at_unit t.unit (Some t.kind)) held held'

-- IT CAME TO AN END. The lines are those of requests of whole blocks of the partition, each waited for before the next one: a legal session
-- from the start over the packs, behind which all is answered, and the sectors are those of the replay behind it; and each image is as long as the
-- blocks that were written make it.
pub record Transferred (reads : Bool) (t : Target) (held held' : ℕ → Pack) (trace_tells : Bool) (taken taken' : List ℕ) : Type 0 where
  pub table : Option Table
  pub stays : StaysElse t table held held'
  pub parts : List Part
  pub waited : AreWaited reads t.unit t.part parts
  pub session : IsSession (start_at t table held) parts
  pub over : IsOver (behind_all (start_at t table held) parts)
  pub long : AreAsLong (start_at t table held) (moments_in parts) held held'
  pub left : (block : ℕ) → block_at (held' t.unit).image block ≡ (behind_all (start_at t table held) parts).surface.sector t.unit block
  pub trace : IsTrue trace_tells → taken' ≡ taken ++ trace_text (told_in parts)

-- A READ of so many bytes came so far, and these are its bytes. All packs stay, byte for byte; and each block of which a byte was read has
-- its clean line.
pub record HasRead (t : Target) (size done : ℕ) (bytes : List ℕ) (held held' : ℕ → Pack) (trace_tells : Bool) (taken taken' : List ℕ) : Type 0 where
  pub moved : Transferred true t held held' trace_tells taken taken'
  pub comes : ComesTo (blocks_in t moved.table held) (first_in t) t.at size done
  pub is : bytes ≡ range done (blocks_in t moved.table held) (first_in t) t.at
  pub same : held' ≡ held
  pub clean : (k : ℕ) → Touches t.at done k → MovedClean (unit_setup t.unit t.kind moved.table held) t.unit (first_in t + k) (told_in moved.parts)

-- A WRITE of bytes came so far: these are replaced, and no other byte of a data block is.
pub record HasWritten (t : Target) (done : ℕ) (from : List ℕ) (held held' : ℕ → Pack) (trace_tells : Bool) (taken taken' : List ℕ) : Type 0 where
  pub moved : Transferred false t held held' trace_tells taken taken'
  pub comes : ComesTo (blocks_in t moved.table held) (first_in t) t.at (length from) done
  pub written : (block : ℕ) → blocks_in t moved.table held' block ≡ with_range (blocks_in t moved.table held) (first_in t) t.at (take done from) block

-- IT STOPPED. The lines are those of such requests, the last one with its lines so far: a legal session from the start over the packs. The trace
-- took a front of them where it failed, and all of them where only the packs did; and the packs are left as the replay behind them has them, or,
-- where they failed, with the next block of a write besides; and so long each image is.
pub record Broke (reads : Bool) (t : Target) (stop : Stop) (table : Option Table) (held held' : ℕ → Pack) (trace_tells : Bool) (taken taken' : List ℕ) : Type 0 where
  pub parts : List Part
  pub begun : AreBegun reads t.unit t.part parts
  pub session : IsSession (start_at t table held) parts
  pub packs : LeftAt stop (at_unit t.unit (Some t.kind)) held held' (behind_all (start_at t table held) parts)
  pub long : LongAt stop parts held held' (start_at t table held)
  pub trace : IsTrue trace_tells → Took stop taken taken' (trace_text (told_in parts))

-- Of a read all packs stay, byte for byte;
pub record LeavesAll (t : Target) (stop : Stop) (held held' : ℕ → Pack) (trace_tells : Bool) (taken taken' : List ℕ) : Type 0 where
  pub table : Option Table
  pub broke : Broke true t stop table held held' trace_tells taken taken'
  pub stays : StaysElse t table held held'
  pub same : held' ≡ held

-- of a write a front of the bytes is there, up to the end of a block: each block is whole.
pub record LeavesFront (t : Target) (stop : Stop) (from : List ℕ) (held held' : ℕ → Pack) (trace_tells : Bool) (taken taken' : List ℕ) : Type 0 where
  pub table : Option Table
  pub broke : Broke false t stop table held held' trace_tells taken taken'
  pub stays : StaysElse t table held held'
  pub done : ℕ
  pub few : done ≤ length from
  pub whole : EndsBlock t.at (length from) done
  pub written : (block : ℕ) → blocks_in t table held' block ≡ with_range (blocks_in t table held) (first_in t) t.at (take done from) block

-- WHAT IS LEFT where the packs or the trace failed; the packs may fail as the unit is attached, before anything is transferred, and then no line
-- is told.
pub record IsUnbegun (t : Target) (call : PackCall) (held held' : ℕ → Pack) (trace_tells : Bool) (taken taken' : List ℕ) : Type 0 where
  pub attaching : IsAttaching t.kind t.unit call
  pub packs : held' ≡ held
  pub trace : IsTrue trace_tells → taken' ≡ taken

abbrev pub LeftRead : TransferFault → Target → PackCall → (held held' : ℕ → Pack) → (trace_tells : Bool) → (taken taken' : List ℕ) → Type 0
LeftRead fault.Store t call held held' trace_tells taken taken' =
    IsUnbegun t call held held' trace_tells taken taken' ⊎ LeavesAll t stopped.Store held held' trace_tells taken taken'
LeftRead fault.Sink t call held held' trace_tells taken taken' = LeavesAll t stopped.Sink held held' trace_tells taken taken'
LeftRead why t call held held' trace_tells taken taken' = Unit {0}

abbrev pub LeftWritten : TransferFault → Target → PackCall → (from : List ℕ) → (held held' : ℕ → Pack) → (trace_tells : Bool) → (taken taken' : List ℕ) → Type 0
LeftWritten fault.Store t call from held held' trace_tells taken taken' =
    IsUnbegun t call held held' trace_tells taken taken' ⊎ LeavesFront t stopped.Store from held held' trace_tells taken taken'
LeftWritten fault.Sink t call from held held' trace_tells taken taken' = LeavesFront t stopped.Sink from held held' trace_tells taken taken'
LeftWritten why t call from held held' trace_tells taken taken' = Unit {0}

-- WHAT A CALL OVER ONE UNIT has done, by the fault that it answered, if it did: a read into a buffer,
pub record ReadsUnit {Q O : Type 0} (holds : Q → Bool) (held : Q → ℕ → Pack) (packs_faults : Q → ℕ) (failed_at : Q → PackCall) (tells : O → Bool)
    (taken : O → List ℕ) (faults : O → ℕ) (t : Target) (into into' : List ℕ) (packs packs' : Q) (trace trace' : O) (why : Option TransferFault) : Type 0 where
  pub few : (done : ℕ) → done_by (length into) why ≡ Some done → done ≤ length into
  pub unusable : (done : ℕ) → why ≡ Some (fault.Unusable done) → done < length into
  pub reads : (done : ℕ) → done_by (length into) why ≡ Some done → IsTrue (holds packs')
      → HasRead t (length into) done (take done into') (held packs) (held packs') (tells trace') (taken trace) (taken trace')
  pub stops : IfSome why (λ f. IsTrue (holds packs') → LeftRead f t (failed_at packs') (held packs) (held packs') (tells trace') (taken trace) (taken trace'))
  pub keeps : KeepsUnit holds held packs_faults tells faults t.unit t.kind packs packs' trace trace' why

-- and a write of bytes.
pub record WritesUnit {Q O : Type 0} (holds : Q → Bool) (held : Q → ℕ → Pack) (packs_faults : Q → ℕ) (failed_at : Q → PackCall) (tells : O → Bool)
    (taken : O → List ℕ) (faults : O → ℕ) (t : Target) (from : List ℕ) (packs packs' : Q) (trace trace' : O) (why : Option TransferFault) : Type 0 where
  pub unusable : (done : ℕ) → why ≡ Some (fault.Unusable done) → done < length from
  pub writes : (done : ℕ) → done_by (length from) why ≡ Some done → IsTrue (holds packs')
      → HasWritten t done from (held packs) (held packs') (tells trace') (taken trace) (taken trace')
  pub stops : IfSome why (λ f. IsTrue (holds packs') → LeftWritten f t (failed_at packs') from (held packs) (held packs') (tells trace') (taken trace) (taken trace'))
  pub keeps : KeepsUnit holds held packs_faults tells faults t.unit t.kind packs packs' trace trace' why
