-- What is promised of a run.
use Rattle.std.specs.Prelude.{◌≡◌, ◌⊎◌, ℕ, ◌<◌, ◌+◌, ◌*◌, ◌≤◌, true, false, List, [], ◌∷◌, ◌++◌, Option, Some, None, is_some, Contains}
use Rattle.pack_geometry.specs.declared.DriveKind.{DriveKind}
use Rattle.pack_geometry.specs.Pack.{Pack}
use Rattle.pack_geometry.specs.TableSpelling.{Table}
use Rattle.pack_geometry.specs.Homes.{home_of}
use Rattle.trace_replay.specs.requests.Requests.{Request, Answer, Failed, Offline, Locked, Unforwarded, Fault, first_block}
use Rattle.trace_replay.specs.Script.{Script, Submit, Drain, drives_of, inputs_of, ids_of}
use Rattle.trace_replay.specs.Moments.{Moment, Played, Told, End, played, answers_in}
use Rattle.trace_replay.specs.Service.{in_hand}
use Rattle.trace_replay.specs.Conditions.{online_behind, locked_behind}
use Rattle.trace_replay.specs.Replay.{after_moments}
use Rattle.trace_replay.specs.History.{is_refusal, lines_of}
use Rattle.trace_replay.specs.Causes.{IsExplained, IsOk}
use Rattle.trace_replay.specs.Bounds.{AreClean, transfers_in, searches_in}
use Rattle.trace_replay.specs.Runs.{IsLegalRun, start_of}
use Rattle.driver_laws.specs.rules.Grounds.{IsAskedAt, WasOffline, WasPlayed, ArmsFault, ArmsShownNoise}
use Rattle.driver_laws.specs.rules.Commands.{commands_in}
use Rattle.driver_laws.specs.rules.Measure.{blocks_outstanding}
use Rattle.driver_laws.specs.rules.Drains.{events_in}
use Rattle.driver_laws.specs.rules.LegalAnswers.{unaliased, AreNoAliases, all_claimed, times_answered}
use Rattle.driver_laws.specs.rules.Laws.{HasLegalAnswers, RestStays, ArePassedOn}
use Rattle.driver_laws.specs.rules.Refusals.{IsRefusedBehind}
use Rattle.driver_laws.specs.rules.Completeness.{IsUnhindered}

-- WHAT IS PROMISED of a run, in the words of its script, its packs and its answers.
pub record Promises (script : Script) (tables : ℕ → Option Table) (old new : ℕ → Pack) (moments : List Moment) : Type 0 where
  -- each id that is asked for is answered once, and no other is answered
  pub once : (id : ℕ) → Contains (ids_of script.lines) id → times_answered id (answers_in moments) ≡ 1
  pub no_other : (id : ℕ) → ¬ (Contains (ids_of script.lines) id) → times_answered id (answers_in moments) ≡ 0
  -- each read that is answered ok gives for every block what the writes that were answered before it left, or what the pack held first;
  -- at last the packs hold what all answered writes left. Only the bytes of a read that alias noise may have struck are excepted.
  pub passed_on : ArePassedOn (unaliased (drives_of script) tables old (inputs_of script)) script tables old new moments
  pub all_passed_on : AreNoAliases (inputs_of script) → ArePassedOn all_claimed script tables old new moments
  -- the answers are those of a machine of blocks
  pub legal : HasLegalAnswers (unaliased (drives_of script) tables old (inputs_of script)) script tables old new moments
  -- each other answer has its cause, and comes exactly where that holds
  pub explained : (line unit id : ℕ) (answer : Answer) (before after : List Moment) → moments ≡ before ++ Told line unit id (End answer) ∷ after
      → is_refusal answer ≡ false → IsExplained ((after_moments (start_of script tables old) before).units unit) (lines_of unit before) answer
  -- a refusal comes directly behind the line that submits its request, by what the request meets there
  pub refused : (line unit id : ℕ) (answer : Answer) (before after : List Moment) → moments ≡ before ++ Told line unit id (End answer) ∷ after
      → is_refusal answer ≡ true → IsRefusedBehind (start_of script tables old) unit id answer before
  -- from script and packs alone: offline only where the unit was offline at some line of the request's, locked only where it writes and
  -- the unit is online and locked, unforwarded only where the first block not done has no home, and a fault only where a line before
  -- armed one at the unit, or noise of it that shows
  pub offline : (line unit id done : ℕ) (before after : List Moment) → moments ≡ before ++ Told line unit id (End (Failed Offline done)) ∷ after
      → (r : Request) × IsAskedAt r unit id before × WasOffline r before
  pub locked : (line unit id done : ℕ) (before after : List Moment) → moments ≡ before ++ Told line unit id (End (Failed Locked done)) ∷ after
      → (r : Request) × IsAskedAt r unit id before × (is_some r.written ≡ true) × (online_behind unit true before ≡ true) × (locked_behind unit false before ≡ true)
  pub unforwarded : (line unit id done : ℕ) (kind : DriveKind) (before after : List Moment)
      → moments ≡ before ++ Told line unit id (End (Failed Unforwarded done)) ∷ after → drives_of script unit ≡ Some kind
      → (r : Request) × IsAskedAt r unit id before × (done < r.count) × (home_of kind (tables unit) (old unit) (first_block kind r + done) ≡ None)
  pub fault : (line unit id done : ℕ) (before after : List Moment) → moments ≡ before ++ Told line unit id (End (Failed Fault done)) ∷ after
      → WasPlayed (ArmsFault unit) before ⊎ WasPlayed (ArmsShownNoise unit) before
  -- COMPLETENESS. A request that nothing hinders is answered ok.
  pub complete : (ahead between after : List Moment) (at line : ℕ) (r : Request) (kind : DriveKind) (answer : Answer)
      → moments ≡ ahead ++ Played at (Submit r) ∷ (between ++ Told line r.unit r.id (End answer) ∷ after) → drives_of script r.unit ≡ Some kind
      → IsUnhindered script kind (tables r.unit) (old r.unit) (start_of script tables old) ahead at r between → IsOk answer
  -- a request takes at most 300 commands for each of its blocks, and a drain at most 200 event lines for each block that is outstanding
  pub commands : (line unit id : ℕ) (answer : Answer) (before after : List Moment) → moments ≡ before ++ Told line unit id (End answer) ∷ after
      → is_refusal answer ≡ false → commands_in (lines_of unit before) ≤ 300 * (in_hand ((after_moments (start_of script tables old) before).units unit).service).count
  pub drains : (before drained after : List Moment) → moments ≡ before ++ (drained ++ after) → played drained ≡ []
      → events_in drained ≤ 200 * blocks_outstanding (after_moments (start_of script tables old) before)
  -- each event of a drain has at least one of these lines: nothing else comes where one event is over and the next has begun, nor behind
  -- the line of the script that drains, where requests are outstanding
  pub events : (moment : Moment) (before after : List Moment) → moments ≡ before ++ moment ∷ after
      → (after_moments (start_of script tables old) before).event.between ≡ true → events_in (moment ∷ []) ≡ 1
  pub first_events : (line : ℕ) (moment : Moment) (before after : List Moment) → moments ≡ before ++ Played line Drain ∷ moment ∷ after
      → 1 ≤ (after_moments (start_of script tables old) before).outstanding → events_in (moment ∷ []) ≡ 1
  -- a request that is answered ok and met nothing but clean sectors took one transfer command, and at most one search
  pub undisturbed : (line unit id : ℕ) (answer : Answer) (before after : List Moment) → moments ≡ before ++ Told line unit id (End answer) ∷ after
      → IsOk answer → AreClean (lines_of unit before) → (transfers_in (lines_of unit before) ≡ 1) × (searches_in (lines_of unit before) ≤ 1)
  -- what is no home of a data block, each mark and each other pack stays
  pub rest : RestStays script tables old new
  -- no other trace is a legal run of this script over these packs, with whatever tables
  pub only : (others : ℕ → Option Table) (other : ℕ → Pack) (told : List Moment) → IsLegalRun script others old other told → (others ≡ tables) × (told ≡ moments)
