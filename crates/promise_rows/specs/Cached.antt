-- Wrong outcomes of a script of the cache.
use Rattle.std.specs.Prelude.{◌≡◌, ◌≢◌, ◌⊎◌, ℕ, ◌+◌, ◌-◌, ◌*◌, ◌^◌, ◌<◌, ◌≤◌, false, IsTrue, List, [], ◌∷◌, ◌++◌, length, take, Option, None, Some, Err}
use Rattle.pack_geometry.specs.declared.DriveKind.{DriveKind}
use Rattle.pack_geometry.specs.Geometry.{block_count, limit_of}
use Rattle.pack_geometry.specs.Pack.{Pack}
use Rattle.partitions.specs.declared.Admission.TheVariants.{Inside}
use Rattle.trace_replay.specs.requests.Requests.{Request, WriteOk}
use Rattle.trace_replay.specs.Script.{Input, Submit, Drain, Numbered, Script, drives_of, inputs_of}
use Rattle.trace_replay.specs.Runs.{start_of}
use Rattle.driver_laws.specs.shown.Lengths.{length_behind}
use Rattle.driver_laws.specs.rules.Requests.{reads, writes}
use Rattle.driver_laws.specs.rules.Machine.{Blocks}
use Rattle.driver_laws.specs.rules.Entries.{State}
use Rattle.script_reader.specs.declared.cached.statement.Line.{Line}
use Rattle.script_reader.specs.declared.cached.statement.Statement.TheVariants as says
use Rattle.script_reader.specs.cached.Formed.{IsScript}
use Rattle.script_runs.specs.Stops.{Took}
use Rattle.script_runs.specs.declared.fault.PlayFault.TheVariants.{Sink}
use Rattle.driver_laws.specs.declared.answers.outcome.Stop.TheVariants as stopped
use Rattle.cached_run.specs.Passes.{moments_in}
use Rattle.cached_run.specs.Sessions.{Call, requests_in, parts_in, parts_till}
use Rattle.cached_run.specs.Answers.{after, answers_of, text_of, answer_to, first_by, map_of_inputs, met_by, replacements_of}
use Rattle.script_runs.specs.Faults.{Rise}
use Rattle.cached_run.specs.Going.{Halts, IsFar, Scene}
use Rattle.cached_run.specs.Theorem.{CachedPlays, CachedStops, HasAskedTill, contents}

-- THE LAST SYNC IS FORGOTTEN: at the end a data block does not hold what the requests left.
abbrev pub LastSyncForgotten : Type 0
LastSyncForgotten = (capacity : ℕ) (script : Script) (old new : ℕ → Pack) (out trace : Took) → (plays : CachedPlays capacity script old new out trace) → (unit block : ℕ) (kind : DriveKind)
    → drives_of script unit ≡ Some kind → block < limit_of kind
    → ¬ (contents script plays.tables new unit block ≢ map_of_inputs (drives_of script) (contents script plays.tables old) (inputs_of script) unit block)

-- A BLOCK OLDER THAN THE LAST SYNC: where playing stopped, a data block holds what no replacements leave that have those before it among them.
abbrev pub BlockOlderThanTheLastSync : Type 0
BlockOlderThanTheLastSync = (capacity : ℕ) (script : Script) (old new : ℕ → Pack) (out trace : Took) → (stops : CachedStops capacity script old new out trace) → (unit block : ℕ) (kind : DriveKind)
    → drives_of script unit ≡ Some kind → block < limit_of kind
    → ((number : ℕ) → length (replacements_of (drives_of script) (contents script stops.tables old) stops.synced) ≤ number
    → contents script stops.tables new unit block
    ≢ after (take number (replacements_of (drives_of script) (contents script stops.tables old) (stops.before ++ stops.at ∷ []))) (contents script stops.tables old) unit block) → ⊥

-- BYTES BEYOND THE DRIVE: an image that fitted its drive is longer than it, be it by zeros; or shorter or longer than the blocks that the
-- cache wrote make it.
abbrev pub CachedBytesBeyondTheDrive : Type 0
CachedBytesBeyondTheDrive = (capacity : ℕ) (script : Script) (old new : ℕ → Pack) (out trace : Took) → CachedPlays capacity script old new out trace ⊎ CachedStops capacity script old new out trace
    → (unit : ℕ) (kind : DriveKind) → drives_of script unit ≡ Some kind → length (old unit).image ≤ 512 * block_count kind → ¬ (512 * block_count kind < length (new unit).image)

abbrev pub PlayedNotAsLongAsWritten : Type 0
PlayedNotAsLongAsWritten = (capacity : ℕ) (script : Script) (old new : ℕ → Pack) (out trace : Took) → (plays : CachedPlays capacity script old new out trace) → (unit : ℕ)
    → ¬ (length (new unit).image ≢ length_behind (start_of script plays.tables old) (moments_in (parts_in plays.asked.sessions)) unit (length (old unit).image))

-- be it where the trace failed
abbrev pub StoppedNotAsLongAsWritten : Type 0
StoppedNotAsLongAsWritten = (capacity : ℕ) (script : Script) (old new : ℕ → Pack) (out trace : Took) → (stops : CachedStops capacity script old new out trace)
    → (till : HasAskedTill capacity script stops.tables old new trace stops.before stops.at) → till.stop ≡ stopped.Sink → (unit : ℕ)
    → ¬ (length (new unit).image ≢ length_behind (start_of script stops.tables old) (moments_in (parts_till till.cut)) unit (length (old unit).image))

abbrev pub CachedNotAsLongAsWritten : Type 0
CachedNotAsLongAsWritten = PlayedNotAsLongAsWritten × StoppedNotAsLongAsWritten

-- LATER LINES ARE PLAYED behind a sink that failed: it has less than the answers before the line of the stop.
abbrev pub LaterLinesPlayedBehindASinkThatFailed : Type 0
LaterLinesPlayedBehindASinkThatFailed = (capacity : ℕ) (script : Script) (old new : ℕ → Pack) (out trace : Took) → (stops : CachedStops capacity script old new out trace) → IsTrue out.tells
    → ¬ (length out.after < length (out.before ++ text_of (answers_of (drives_of script) (contents script stops.tables old) stops.before)))

-- A CACHE OF ANOTHER SIZE: one block is written, another read, and the first one read again, through a cache of one block, which memory
-- refuses none; and other requests were made than these.
abbrev pub at_line : ℕ → Request → Numbered
at_line line r = record { line = line; input = Submit r }

abbrev pub called_at : ℕ → Input → Call
called_at line input = record { at = record { line = line; input = input }; refuses = false }

abbrev pub CacheOfAnotherSize : Type 0
CacheOfAnotherSize = (script : Script) (old new : ℕ → Pack) (out trace : Took) (from one other : List ℕ) → (plays : CachedPlays 1 script old new out trace)
    → contents script plays.tables old 0 5 ≡ Some one → contents script plays.tables old 0 6 ≡ Some other
    → plays.asked.asks.calls ≡ called_at 2 (Submit (writes 0 5 from)) ∷ called_at 3 (Submit (reads 0 6)) ∷ called_at 4 (Submit (reads 0 5)) ∷ called_at 5 Drain ∷ []
    → ¬ (requests_in plays.asked.sessions ≢ at_line 2 (reads 0 5) ∷ at_line 3 (reads 0 6) ∷ at_line 3 (writes 0 5 from) ∷ at_line 4 (reads 0 5) ∷ [])

-- A SYNC THAT WRITES NOTHING: a block was written and a sync ended, which has no write of it; and it stopped at a later line.
abbrev pub SyncThatWritesNothing : Type 0
SyncThatWritesNothing = (script : Script) (old new : ℕ → Pack) (out trace : Took) (from one : List ℕ) (more : List Call) → (stops : CachedStops 1 script old new out trace)
    → (till : HasAskedTill 1 script stops.tables old new trace stops.before stops.at) → contents script stops.tables old 0 5 ≡ Some one
    → till.cut.done ≡ called_at 2 (Submit (writes 0 5 from)) ∷ called_at 3 Drain ∷ more → ¬ (take 2 (requests_in till.cut.sessions) ≢ at_line 2 (reads 0 5) ∷ at_line 3 (writes 0 5 from) ∷ [])

-- THE LAST UNUSABLE BLOCK IS ANSWERED OK: of the blocks of a write one can't be used, be it the last.
abbrev pub LastUnusableBlockOk : Type 0
LastUnusableBlockOk = (drives : ℕ → Option DriveKind) (map : ℕ → Blocks) (r : Request) (at k : ℕ) → met_by drives r ≡ Inside at → k < r.count
    → map r.unit (first_by drives r + k) ≡ None → ¬ (answer_to drives map r ≡ WriteOk)

-- A FAULT OF THE PACKS IS CALLED THAT OF A SINK: of neither sink the count of faults rose.
abbrev pub FaultCalledThatOfASink : Type 0
FaultCalledThatOfASink = (packs packs' out trace : ℕ) → out < 2 ^ 64 - 1 → trace < 2 ^ 64 - 1 → ¬ Rise {T = Unit {0}} packs packs' out out trace trace (Err Sink)

-- A WRITE IS ANSWERED BEFORE IT IS DONE: it was stopped, the sink for the answers did not fail, and more was said than before it.
abbrev pub WriteAnsweredBeforeItIsDone : Type 0
WriteAnsweredBeforeItIsDone = (n : Numbered) (inputs : List Numbered) (byte : ℕ) (text : List ℕ) (begun s : State) (first old new : Scene) → IsFar first begun inputs s old → IsTrue old.out_tells → IsTrue new.out_tells
    → first.out_faults < 2 ^ 64 - 1 → new.out_faults ≡ first.out_faults → new.said ≡ old.said ++ byte ∷ text → ¬ Halts (n ∷ []) s old new

-- A UNIT BEHIND A SYNC: a script's first line is a sync, and its second one declares a unit.
abbrev pub UnitBehindASync : Type 0
UnitBehindASync = (first second unit count : ℕ) (kind : DriveKind) (lines : List Line)
    → ¬ IsScript (record { lines = record { number = first; statement = says.Sync } ∷ record { number = second; statement = says.Unit unit kind } ∷ lines; count = count })
