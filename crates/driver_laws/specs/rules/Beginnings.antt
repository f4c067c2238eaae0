-- What is promised of a run that was begun, however it goes on. It holds of a run that stopped as well as of one that came to its
-- end.
use Rattle.std.specs.Prelude.{◌≡◌, ◌⊎◌, ℕ, ◌<◌, ◌≤◌, true, false, List, [], ◌∷◌, ◌++◌, Option, None, Some, is_some}
use Rattle.pack_geometry.specs.declared.DriveKind.{DriveKind}
use Rattle.pack_geometry.specs.Geometry.{limit_of, block_count}
use Rattle.pack_geometry.specs.Pack as model
use Rattle.pack_geometry.specs.TableSpelling.{Table}
use Rattle.pack_geometry.specs.PackTable.{AreTablesOf}
use Rattle.pack_geometry.specs.Homes.{contents_of, IsHome}
use Rattle.trace_replay.specs.requests.Requests.{Request, Answer, first_block}
use Rattle.trace_replay.specs.Script.{Script, IsScript, Numbered, drives_of, inputs_of}
use Rattle.trace_replay.specs.Moments.{Moment, Told, Sector, End, Answered, played, answers_in}
use Rattle.trace_replay.specs.Replay.{Replay, UnitSeen, hand_of, Follows, AreLeft, after_moments}
use Rattle.trace_replay.specs.History.{is_refusal, lines_of}
use Rattle.trace_replay.specs.Causes.{IsExplained}
use Rattle.trace_replay.specs.Runs.{start_of as run_start}
use Rattle.trace_replay.specs.Packs.{Surface, with_sector, sector_of_block}
use Rattle.trace_replay.specs.Service.{in_hand}
use Rattle.trace_replay.specs.Conversation.{Segment, Moving, start_of}
use Rattle.hardware_table.specs.declared.Moved.TheVariants.{Clean}
use Rattle.driver_laws.specs.rules.Machine.{Blocks, Machine, idle, blocks_done}
use Rattle.driver_laws.specs.rules.LegalAnswers.{AnswersTo, unaliased, times_answered}
use Rattle.driver_laws.specs.rules.LastWrites.{asked_in, left_behind}

-- A RUN THAT WAS BEGUN: its moments follow from the start over the packs as they were, with their tables, and play the first inputs of
-- the script.
pub record IsBegun (script : Script) (tables : ℕ → Option Table) (old : ℕ → model.Pack) (moments : List Moment) : Type 0 where
  pub good : IsScript script
  pub later : List Numbered
  pub inputs : inputs_of script ≡ played moments ++ later
  pub tables_read : AreTablesOf (drives_of script) old tables
  pub follows : Follows (run_start script tables old) moments

-- a request to a unit that was submitted and is not answered
pub record IsUnanswered (inputs : List Numbered) (answers : List Answered) (unit : ℕ) (r : Request) : Type 0 where
  pub asked : asked_in r.id inputs ≡ Some r
  pub unit_is : r.unit ≡ unit
  pub never : times_answered r.id answers ≡ 0

-- A UNIT'S PACK HOLDS what the answered writes left in each data block, but for one request at most that is not answered yet: where that
-- one writes, so many of its first blocks are there.
pub record HoldsButOne (drives : ℕ → Option DriveKind) (tables : ℕ → Option Table) (packs : ℕ → model.Pack) (inputs : List Numbered) (answers : List Answered)
    (map : ℕ → Blocks) (unit : ℕ) (kind : DriveKind) : Type 0 where
  pub request : Request
  pub done : ℕ
  pub few : done ≤ request.count
  pub whose : (done ≡ 0) ⊎ IsUnanswered inputs answers unit request
  pub holds : (block : ℕ) → block < limit_of kind
      → contents_of drives tables packs unit block ≡ blocks_done (map unit) (first_block kind request) request done block

-- WHAT IS PROMISED of it, where the packs are left as the replay has them.
pub record PromisesSoFar (script : Script) (tables : ℕ → Option Table) (old new : ℕ → model.Pack) (moments : List Moment) : Type 0 where
  -- the answers so far, and one more where a refused request is to be told so, are those of a machine of blocks to the inputs so far
  pub owed : List Answered
  pub machine : Machine
  pub legal : AnswersTo (drives_of script) (unaliased (drives_of script) tables old (played moments)) (idle (contents_of (drives_of script) tables old))
      (played moments) (answers_in moments ++ owed) machine
  -- each answer that is no refusal has its cause
  pub explained : (line unit id : ℕ) (answer : Answer) (before after : List Moment) → moments ≡ before ++ Told line unit id (End answer) ∷ after
      → is_refusal answer ≡ false → IsExplained ((after_moments (run_start script tables old) before).units unit) (lines_of unit before) answer
  -- the packs hold what the answered writes left, but for one request of each unit
  pub held : (unit : ℕ) (kind : DriveKind) → drives_of script unit ≡ Some kind → HoldsButOne (drives_of script) tables new (played moments) (answers_in moments)
      (left_behind (drives_of script) (played moments) (contents_of (drives_of script) tables old) (answers_in moments)) unit kind
  -- what is no home of a data block, each mark and each other pack is as at first
  pub sectors : (unit sector : ℕ) (kind : DriveKind) → drives_of script unit ≡ Some kind → sector < block_count kind
      → ((IsHome kind (tables unit) (old unit) sector) → ⊥) → model.block_at (new unit).image sector ≡ model.block_at (old unit).image sector
  pub marks : (unit : ℕ) → (new unit).marks ≡ (old unit).marks
  pub others : (unit : ℕ) → drives_of script unit ≡ None → new unit ≡ old unit

-- of each run that was begun
abbrev pub BeginningsKeep : Type 0
BeginningsKeep = (script : Script) (tables : ℕ → Option Table) (old new : ℕ → model.Pack) (moments : List Moment) → IsBegun script tables old moments
    → AreLeft (drives_of script) old new (after_moments (run_start script tables old) moments).surface → PromisesSoFar script tables old new moments

-- MOMENTS WITHOUT A SECTOR leave the packs alone: what is left as the replay has it before them is so behind them.
abbrev pub IsNoSector : Moment → Type 0
IsNoSector (Told line unit id (Sector block verdict)) = ⊥
IsNoSector moment = Unit {0}

abbrev pub AreNoSectors : List Moment → Type 0
AreNoSectors [] = Unit {0}
AreNoSectors (m ∷ ms) = IsNoSector m × AreNoSectors ms

abbrev pub QuietMomentsKeep : Type 0
QuietMomentsKeep = (drives : ℕ → Option DriveKind) (old new : ℕ → model.Pack) (start : Replay) (moments more : List Moment) → AreNoSectors more
    → AreLeft drives old new (after_moments start moments).surface → AreLeft drives old new (after_moments start (moments ++ more)).surface

-- CUT ANYWHERE. Where the packs are left as the replay has them behind the first moments, and some that come behind these tell of no
-- sector, the same is promised of them all, however the run goes on.
abbrev pub FrontsKeep : Type 0
FrontsKeep = (script : Script) (tables : ℕ → Option Table) (old new : ℕ → model.Pack) (moments front rest : List Moment)
    → IsBegun script tables old (moments ++ (front ++ rest)) → AreNoSectors front
    → AreLeft (drives_of script) old new (after_moments (run_start script tables old) moments).surface → PromisesSoFar script tables old new (moments ++ front)

-- THE NEXT BLOCK of a write whose sectors move: each so far was clean, some are left, and the next one is not marked.
pub record IsNextSector (u : UnitSeen) (pack : model.Pack) (block : ℕ) : Type 0 where
  pub segment : Segment
  pub left : ℕ
  pub stage : u.stage ≡ Moving segment left Clean
  pub some : 1 ≤ left
  pub writes : is_some (in_hand u.service).written ≡ true
  pub is : block ≡ start_of segment (hand_of u)
  pub unmarked : model.is_marked pack block ≡ false

-- the surface with it
abbrev pub with_next : Replay → (unit block : ℕ) → Surface
with_next s unit block = with_sector s.surface unit block (sector_of_block (in_hand (s.units unit).service) (s.units unit).progress.done)

-- Where that one block is there already, and all else is left as the replay has it, the same is promised.
abbrev pub NextBlocksKeep : Type 0
NextBlocksKeep = (script : Script) (tables : ℕ → Option Table) (old new : ℕ → model.Pack) (moments : List Moment) (unit block : ℕ) (kind : DriveKind)
    → IsBegun script tables old moments → drives_of script unit ≡ Some kind
    → IsNextSector ((after_moments (run_start script tables old) moments).units unit) (old unit) block
    → AreLeft (drives_of script) old new (with_next (after_moments (run_start script tables old) moments) unit block) → PromisesSoFar script tables old new moments
