-- REQUESTS OF A TRANSFER: of whole blocks of one partition, at line 1 and with id 0, each waited for before the next one.
use Rattle.std.specs.Prelude.{◌≡◌, ℕ, ◌+◌, ◌≤◌, Bool, true, IsTrue, List, [], ◌∷◌, None}
use Rattle.partitions.specs.declared.Part.{Part}
use Rattle.trace_replay.specs.requests.Requests.{Request}
use Rattle.trace_replay.specs.Script.{Submit, Drain}
use Rattle.trace_replay.specs.Moments.{Moment}
use Rattle.driver_laws.specs.declared.answers.outcome.Stop.{Stop}
use Rattle.blocking_io.specs.FrontsPasses.{Stage, setup_at, GoesOn, ImagesStay}
use Rattle.blocking_io.specs.Stopping.{StopsIn}
use Rattle.driver_laws.specs.rules.Sessions.{Part as SessionPart}
use Rattle.driver_laws.specs.rules.Rest.{HasTables}
use Rattle.driver_laws.specs.rules.Cleans.{MovedClean}
use Rattle.blocking_io.specs.Fronts.{OthersStay}

-- a request of one, which only reads where the transfer does
pub record IsAsk (reads : Bool) (unit : ℕ) (part : Part) (r : Request) : Type 0 where
  pub id : r.id ≡ 0
  pub unit_is : r.unit ≡ unit
  pub part_is : r.part ≡ part
  pub some : 1 ≤ r.count
  pub few : r.count ≤ 127
  pub last : r.last ≡ 512
  pub offset : r.offset ≡ 0
  pub only : reads ≡ true → r.written ≡ None

-- it is submitted and drained
pub record IsWaited (reads : Bool) (unit : ℕ) (part : Part) (submitted drained : SessionPart) : Type 0 where
  pub request : Request
  pub ask : IsAsk reads unit part request
  pub submitted_is : submitted ≡ record { line = 1; input = Submit request; told = submitted.told }
  pub drained_is : drained ≡ record { line = 1; input = Drain; told = drained.told }

abbrev pub AreWaited : Bool → ℕ → Part → List SessionPart → Type 0
AreWaited reads unit part [] = Unit {0}
AreWaited reads unit part (one ∷ []) = ⊥
AreWaited reads unit part (submitted ∷ drained ∷ parts) = IsWaited reads unit part submitted drained × AreWaited reads unit part parts

-- the last one may have come no further than its submission
pub record IsSubmitted (reads : Bool) (unit : ℕ) (part : Part) (submitted : SessionPart) : Type 0 where
  pub request : Request
  pub ask : IsAsk reads unit part request
  pub is : submitted ≡ record { line = 1; input = Submit request; told = submitted.told }

abbrev pub AreBegun : Bool → ℕ → Part → List SessionPart → Type 0
AreBegun reads unit part [] = Unit {0}
AreBegun reads unit part (one ∷ []) = IsSubmitted reads unit part one
AreBegun reads unit part (submitted ∷ drained ∷ parts) = IsWaited reads unit part submitted drained × AreBegun reads unit part parts

-- WHERE IT STOPPED the last one is the one that did, with its lines so far; of all lines the trace took a front, and where only the packs failed
-- all of them. Where it only reads, each image stays.
pub record Breaks (reads : Bool) (unit : ℕ) (part : Part) (stop : Stop) (old new : Stage) : Type 0 where
  pub parts : List SessionPart
  pub begun : AreBegun reads unit part parts
  pub stops : StopsIn stop parts old new
  pub images : IsTrue new.packs_tell → reads ≡ true → ImagesStay old.held new.held

-- WHERE NOTHING STOPS IT they follow one another, from each replay that stands for the driver before; and what is no home of a data block
-- stays; and where it only reads, each image does.
pub record Transfers (reads : Bool) (unit : ℕ) (part : Part) (old new : Stage) : Type 0 where
  pub parts : List SessionPart
  pub waited : AreWaited reads unit part parts
  pub goes : GoesOn parts old new
  pub others : IsTrue new.packs_tell → HasTables (setup_at old) → OthersStay (setup_at old) new.held
  pub images : IsTrue new.packs_tell → reads ≡ true → ImagesStay old.held new.held

-- Blocks of a partition MOVED CLEAN, as lines tell: those of them, counted from one on.
abbrev pub AreClean : (unit first : ℕ) → (which : ℕ → Type 0) → List Moment → Stage → Type 0
AreClean unit first which told old = (k : ℕ) → which k → MovedClean (setup_at old) unit (first + k) told
