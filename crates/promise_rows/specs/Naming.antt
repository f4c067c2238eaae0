-- Wrong outcomes of `play` that name another unit, another length, another run, or lengthen what is only read.
use Rattle.std.specs.Prelude.{◌≡◌, ◌≢◌, ℕ, ◌*◌, ◌<◌, ◌≤◌, Bool, true, false, List, [], ◌∷◌, ◌++◌, length, Option, Some, is_some}
use Rattle.pack_geometry.specs.declared.DriveKind.{DriveKind}
use Rattle.pack_geometry.specs.Geometry.{block_count}
use Rattle.pack_geometry.specs.Pack.{Pack}
use Rattle.pack_geometry.specs.TableSpelling.{Table}
use Rattle.trace_replay.specs.Moments.{Moment, Played, Told, Deed, played}
use Rattle.trace_replay.specs.Replay.{after_moments}
use Rattle.trace_replay.specs.Runs.{IsLegalRun, start_of}
use Rattle.trace_replay.specs.Script.{Script, Input, Numbered, Submit, Drain, drives_in, drives_of, inputs_of}
use Rattle.driver_laws.specs.rules.Drains.{event_by}
use Rattle.driver_laws.specs.rules.Promises.{Promises}
use Rattle.driver_laws.specs.shown.Lengths.{length_behind}
use Rattle.script_runs.specs.declared.fault.PlayFault.TheVariants as faults
use Rattle.event_player.specs.Plays.{Plays}
use Rattle.script_runs.specs.Lengths.{NamesTooLong}
use Rattle.script_runs.specs.Stops.{Took}
use Rattle.event_player.specs.Stops.{StopsPlaying}
use Rattle.hpsim_run.specs.SoFar.{Keeps}

-- A LATER UNIT NAMED: the image of a unit that a line before declares is too long, and another unit is named.
abbrev pub LaterUnitNamed : Type 0
LaterUnitNamed = (script : Script) (packs : ℕ → Pack) (unit n : ℕ) → (named : NamesTooLong script true packs unit n) → (other : ℕ) (kind : DriveKind)
    → drives_in named.before other ≡ Some kind → ¬ (512 * block_count kind < length (packs other).image)

-- A LENGTH NAMED THAT FITS, of packs that tell nothing
abbrev pub FittingLengthNamed : Type 0
FittingLengthNamed = (script : Script) (packs : ℕ → Pack) (unit n : ℕ) (kind : DriveKind) → drives_of script unit ≡ Some kind → n ≤ 512 * block_count kind
    → ¬ NamesTooLong script false packs unit n

-- THE FIRST EVENT OF A DRAIN UNTOLD: requests are outstanding, and behind the line that drains comes another line than one of an event.
abbrev pub FirstEventUntold : Type 0
FirstEventUntold = (script : Script) (tables : ℕ → Option Table) (old new : ℕ → Pack) (moments : List Moment) → Promises script tables old new moments
    → (number line unit id : ℕ) (deed : Deed) (before after : List Moment) → moments ≡ before ++ Played number Drain ∷ Told line unit id deed ∷ after
    → 1 ≤ (after_moments (start_of script tables old) before).outstanding → ¬ (event_by deed ≡ 0)

-- ANOTHER RUN BY OTHER TABLES
abbrev pub OtherRunByOtherTables : Type 0
OtherRunByOtherTables = (script : Script) (tables others : ℕ → Option Table) (old new left : ℕ → Pack) (moments told : List Moment) → Promises script tables old new moments
    → IsLegalRun script others old left told → ¬ (told ≢ moments)

-- AN IMAGE LENGTHENED BY READS: nothing is written to a unit, and its image is another one, be it by zeros at its end.
abbrev pub WritesTo : ℕ → Input → Type 0
WritesTo unit (Submit r) = (r.unit ≡ unit) × (is_some r.written ≡ true)
WritesTo unit input = ⊥

abbrev pub NoneWrites : ℕ → List Numbered → Type 0
NoneWrites unit [] = Unit {0}
NoneWrites unit (next ∷ inputs) = (¬ WritesTo unit next.input) × NoneWrites unit inputs

abbrev pub ReadsLengthen : Type 0
ReadsLengthen = (script : Script) (old new : ℕ → Pack) (out_tells : Bool) (said said' : List ℕ) (trace_tells : Bool) (taken taken' : List ℕ)
    → Plays script old new out_tells said said' trace_tells taken taken' → (unit : ℕ) → NoneWrites unit (inputs_of script) → ¬ ((new unit).image ≢ (old unit).image)

-- AN IMAGE LONGER OR SHORTER than the blocks that the run wrote make it, be it by zeros at its end
abbrev pub NotAsLongAsWritten : Type 0
NotAsLongAsWritten = (script : Script) (old new : ℕ → Pack) (out_tells : Bool) (said said' : List ℕ) (trace_tells : Bool) (taken taken' : List ℕ)
    → (plays : Plays script old new out_tells said said' trace_tells taken taken') → (unit : ℕ)
    → ¬ (length (new unit).image ≢ length_behind (start_of script plays.tables old) plays.moments unit (length (old unit).image))

-- A MARK GONE BEHIND A FAILURE: the packs failed, and in what is left a mark is another one.
abbrev pub MarkGoneBehindAFailure : Type 0
MarkGoneBehindAFailure = (script : Script) (first left : ℕ → Pack) (out trace : Took) → StopsPlaying faults.Store script first left out trace → Keeps faults.Store script first left out trace
    → (unit : ℕ) → ¬ ((left unit).marks ≢ (first unit).marks)
