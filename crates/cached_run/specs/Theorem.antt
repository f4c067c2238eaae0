-- THE THEOREM on scripts of the cache.
use Rattle.std.specs.Prelude.{◌≡◌, ◌⊎◌, ℕ, ◌<◌, ◌≤◌, IsTrue, List, [], ◌∷◌, ◌++◌, length, take, Option, Some}
use Rattle.outside_traits.specs.Causes.{Rose}
use Rattle.outside_traits.specs.Puts.{TakesFront}
use Rattle.pack_geometry.specs.declared.DriveKind.{DriveKind}
use Rattle.pack_geometry.specs.Geometry.{limit_of}
use Rattle.pack_geometry.specs.Pack.{Pack}
use Rattle.pack_geometry.specs.TableSpelling.{Table}
use Rattle.pack_geometry.specs.PackTable.{AreTablesOf}
use Rattle.pack_geometry.specs.Homes.{contents_of}
use Rattle.trace_replay.specs.Script.{Drain, Numbered, Script, drives_of, inputs_of}
use Rattle.driver_laws.specs.rules.Machine.{Blocks}
use Rattle.driver_laws.specs.rules.LegalAnswers.{AreLegal, all_claimed}
use Rattle.driver_laws.specs.rules.Laws.{HoldMap, RestStays}
use Rattle.driver_laws.specs.shown.RunsRuns.{Stay}
use Rattle.script_runs.specs.Stops.{Took, IsUnplayed}
use Rattle.outside_traits.specs.declared.traits.PackCall.{PackCall}
use Rattle.script_runs.specs.declared.fault.PlayFault.{PlayFault}
use Rattle.script_runs.specs.declared.fault.PlayFault.TheVariants as faults
use Rattle.trace_replay.specs.Runs.{start_of}
use Rattle.trace_replay.specs.Text.{trace_text}
use Rattle.driver_laws.specs.rules.Sessions.{IsSession, told_in}
use Rattle.script_runs.specs.StopsPasses.{AreAsLong}
use Rattle.driver_laws.specs.declared.answers.outcome.Stop.{Stop}
use Rattle.driver_laws.specs.declared.answers.outcome.Stop.TheVariants.{Sink}
use Rattle.driver_laws.specs.rules.Entries.{empty_cache}
use Rattle.buffer_cache.specs.Passes.{LongAt, moments_in, Took as TookLines}
use Rattle.cached_run.specs.Sessions.{Session, calls_for, AsksFor, parts_in, AsksUpTo, parts_till}
use Rattle.cached_run.specs.Answers.{Replacement, answers_of, map_of_inputs, text_of, replacements_of, after}

-- what the packs hold, with these tables
abbrev pub contents : Script → (ℕ → Option Table) → (ℕ → Pack) → ℕ → Blocks
contents script tables packs = contents_of (drives_of script) tables packs

-- THE REQUESTS were those that an empty cache of so many blocks asks for, each a session of its own, legal from the start over the packs.
-- Where the trace tells, it took just their lines; and each image is just as long as the blocks that they wrote make it.
pub record HasAsked (capacity : ℕ) (script : Script) (tables : ℕ → Option Table) (old new : ℕ → Pack) (trace : Took) (inputs : List Numbered) : Type 0 where
  pub sessions : List Session
  pub asks : AsksFor capacity (drives_of script) (contents script tables old) inputs sessions
  pub lawful : IsSession (start_of script tables old) (parts_in sessions)
  pub told : IsTrue trace.tells → trace.after ≡ trace.before ++ trace_text (told_in (parts_in sessions))
  pub long : AreAsLong (start_of script tables old) (moments_in (parts_in sessions)) old new

-- OR IT STOPPED in one of those for the last input, and the sessions up to there are legal. The trace took their lines: of the last one those
-- that the driver told before the packs failed; or where the trace failed itself, so that its count rose, a front of all. Each image is just as
-- long as the blocks that all these lines wrote make it, or the next one besides where the packs failed.
pub record HasAskedTill (capacity : ℕ) (script : Script) (tables : ℕ → Option Table) (old new : ℕ → Pack) (trace : Took) (before : List Numbered) (at : Numbered) : Type 0 where
  pub stop : Stop
  pub rose : stop ≡ Sink → Rose trace.faults trace.faults_after
  pub cut : AsksUpTo (contents script tables old) (empty_cache capacity) (calls_for (drives_of script) (contents script tables old) before)
      (calls_for (drives_of script) (map_of_inputs (drives_of script) (contents script tables old) before) (at ∷ []))
  pub lawful : IsSession (start_of script tables old) (parts_till cut)
  pub told : IsTrue trace.tells → TookLines stop trace.before trace.after (trace_text (told_in (parts_till cut)))
  pub long : LongAt stop (parts_till cut) old new (start_of script tables old)

-- PLAYED TO ITS END: with the tables of the packs, the answers are those that the map gives one by one, each request at its own line. They are
-- legal, with the bytes of all reads, from what the packs held first to what they hold now; the rest of the packs is as it was, with what
-- images have beyond their drives; and where `out` tells it took just their text. And the requests were those for these inputs.
pub record CachedPlays (capacity : ℕ) (script : Script) (old new : ℕ → Pack) (out trace : Took) : Type 0 where
  pub tables : ℕ → Option Table
  pub read : AreTablesOf (drives_of script) old tables
  pub legal : AreLegal (drives_of script) all_claimed (inputs_of script) (answers_of (drives_of script) (contents script tables old) (inputs_of script)) (contents script tables old)
      (map_of_inputs (drives_of script) (contents script tables old) (inputs_of script))
  pub held : HoldMap (drives_of script) tables new (map_of_inputs (drives_of script) (contents script tables old) (inputs_of script))
  pub rest : RestStays script tables old new
  pub stay : Stay (drives_of script) old new
  pub said : IsTrue out.tells → out.after ≡ out.before ++ text_of (answers_of (drives_of script) (contents script tables old) (inputs_of script))
  pub asked : HasAsked capacity script tables old new trace (inputs_of script)

-- A BLOCK HOLDS what its first content is after so many of the replacements, not fewer than these.
pub record IsAfter (list : List Replacement) (least : ℕ) (first : ℕ → Blocks) (unit block : ℕ) (now : Option (List ℕ)) : Type 0 where
  pub number : ℕ
  pub from : least ≤ number
  pub to : number ≤ length list
  pub holds : now ≡ after (take number list) first unit block

-- inputs that end with a sync, and inputs with none
abbrev pub EndsWithSync : List Numbered → Type 0
EndsWithSync [] = ⊥
EndsWithSync (n ∷ []) = n.input ≡ Drain
EndsWithSync (n ∷ next ∷ inputs) = EndsWithSync (next ∷ inputs)

abbrev pub HasNoSync : List Numbered → Type 0
HasNoSync [] = Unit {0}
HasNoSync (n ∷ inputs) = (n.input ≡ Drain → ⊥) × HasNoSync inputs

-- SOME INPUTS CAME TO THEIR END; up to `synced` the last sync among them, if there is one.
pub record AreParted (inputs synced since : List Numbered) : Type 0 where
  pub parts : inputs ≡ synced ++ since
  pub ends : (synced ≡ []) ⊎ EndsWithSync synced
  pub none : HasNoSync since

-- STOPPED IN PLAYING, at the line of one input, which may have been answered or not. Each data block holds what some of the replacements up
-- to this line left, not fewer than those before the last sync that ended. The rest of the packs is as it was. `out` took the text of all
-- such answers before this line, and of this line's a front: nothing, unless its own count rose.
pub record CachedStops (capacity : ℕ) (script : Script) (old new : ℕ → Pack) (out trace : Took) : Type 0 where
  pub tables : ℕ → Option Table
  pub read : AreTablesOf (drives_of script) old tables
  pub before : List Numbered
  pub at : Numbered
  pub later : List Numbered
  pub inputs : inputs_of script ≡ before ++ at ∷ later
  pub synced : List Numbered
  pub since : List Numbered
  pub parted : AreParted before synced since
  pub held : (unit block : ℕ) (kind : DriveKind) → drives_of script unit ≡ Some kind → block < limit_of kind
      → IsAfter (replacements_of (drives_of script) (contents script tables old) (before ++ at ∷ []))
      (length (replacements_of (drives_of script) (contents script tables old) synced)) (contents script tables old) unit block (contents script tables new unit block)
  pub rest : RestStays script tables old new
  pub stay : Stay (drives_of script) old new
  pub front : IsTrue out.tells → TakesFront (out.before ++ text_of (answers_of (drives_of script) (contents script tables old) before)) out.after
      (text_of (answers_of (drives_of script) (map_of_inputs (drives_of script) (contents script tables old) before) (at ∷ [])))
  pub whole : (Rose out.faults out.faults_after → ⊥) → IsTrue out.tells
      → out.after ≡ out.before ++ text_of (answers_of (drives_of script) (contents script tables old) before)
  pub asked : HasAsked capacity script tables old new trace (before ++ at ∷ []) ⊎ HasAskedTill capacity script tables old new trace before at

-- WHAT PLAYING LEAVES where it stopped: nothing was played, as the packs failed when a unit was attached; or it stopped in playing.
abbrev pub CachedLeaves : (capacity : ℕ) → PlayFault → Script → (first left : ℕ → Pack) → PackCall → (out trace : Took) → Type 0
CachedLeaves capacity faults.Store script first left call out trace = IsUnplayed script first left call out trace ⊎ CachedStops capacity script first left out trace
CachedLeaves capacity faults.Sink script first left call out trace = CachedStops capacity script first left out trace
CachedLeaves capacity fault script first left call out trace = Unit {0}
