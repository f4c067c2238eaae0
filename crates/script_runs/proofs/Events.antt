-- One line of the script that is no request and no drain: some sector is tried where one is, and the run goes on.
use Rattle.std.proofs.Common.{inl, ℕ, ◌+◌, ◌<◌, ◌≤◌, List, [], ◌∷◌, ◌++◌, Option, ap, arith, ◌∙◌}
use Rattle.pack_geometry.specs.Pack.{Pack}
use Rattle.pack_geometry.specs.TableSpelling.{Table}
use Rattle.trace_replay.specs.Causes.{AsksSome}
use Rattle.trace_replay.specs.Script.{Script, Input, Numbered, drives_of}
use Rattle.trace_replay.specs.Packs.{surface_of}
use Rattle.trace_replay.specs.Replay.{Replay, after_moments}
use Rattle.trace_replay.specs.Runs.{start_of}
use Rattle.driver_laws.specs.rules.Drains.{IsOf}
use Rattle.driver_machine.specs.World.{World}
use Rattle.driver_machine.specs.Acts.{Act, after_all}
use Rattle.driver_machine.specs.Events.{event_acts}
use Rattle.driver_machine.specs.Runs.{Works}
use Rattle.driver_laws.proofs.invariant.Calls.{event_works}
use Rattle.driver_laws.proofs.invariant.Sound.{sound_after}
use Rattle.driver_laws.specs.answers.Packs.{packs_after_all}
use Rattle.driver_laws.specs.shown.Calls.{Stands}
use Rattle.driver_laws.specs.shown.Runs.{IsOfUnits, with_call}
use Rattle.driver_laws.proofs.shown.Inputted.{calls_are_played}
use Rattle.driver_laws.proofs.shown.Calls.{event_goes_on}
use Rattle.driver_laws.proofs.shown.RunsLaws.{events_keep}
use Rattle.driver_laws.proofs.shown.Asked.{calls_ask}
use Rattle.driver_laws.specs.answers.Counts.{noises_of, faults_of}
use Rattle.driver_laws.proofs.answers.Events.{events_add}
use Rattle.driver_laws.proofs.answers.Ids.{events_add_none}
use Rattle.driver_laws.specs.answers.Waiting.{all_taken}
use Rattle.script_runs.specs.Steps.{Behind}
use Rattle.script_runs.proofs.Taking.{runs_wait, so_far_taken, kept_taken}
use Rattle.script_runs.proofs.Tries.{IsAllowed, Tries, tries}
use Rattle.script_runs.proofs.Fitting.{within_more}
use Rattle.script_runs.proofs.Rooms.{room_behind, few_noises, few_faults, asks_nothing}

one_more : (n a : ℕ) → a ≤ 1 → n + a ≤ n + 1
one_more n a few = omega (arith, few)

pub event_behind : (script : Script) (tables : ℕ → Option Table) (old : ℕ → Pack) (total done : ℕ) (used : List ℕ) (line next : ℕ) (input : Input) (inputs : List Numbered)
    → line < next → (b : Behind script tables old total done used line inputs) → IsAllowed b.world input → IsOfUnits b.world input
    → Behind script tables old total (done + 1) used next (inputs ++ record { line = next; input = input } ∷ [])
event_behind script tables old total done used line next input inputs less b allowed of_units =
    let start : Replay = start_of script tables old in
    let w : World = b.world in
    let stands : Stands b.held w (after_moments start b.moments) = b.far.so_far.left.stands in
    let found : Tries w (after_moments start b.moments) input =
    tries input b.held w (after_moments start b.moments) stands.sound stands.shows stands.packs allowed in
    let acts : List Act = event_acts next input found.tried w in
    let works : Works w acts = event_works sound_after next input found.tried w stands.sound stands.work found.may in
    let asks : AsksSome input × IsOf start.there input = asks_nothing w start.there input allowed in
    record {
      held = packs_after_all w b.held acts;
      world = all_taken (after_all w acts);
      moments = with_call b.moments next input w acts;
      far = record {
        so_far = so_far_taken start next (with_call b.moments next input w acts) (packs_after_all w b.held acts) (after_all w acts)
            (runs_wait w acts stands.sound works.run (inl b.room.none_waits))
            (event_goes_on (drives_of script) tables (surface_of old) line next input found.tried b.moments b.held w b.far.so_far less of_units found.may found.on);
        kept = kept_taken (drives_of script) old (packs_after_all w b.held acts) (after_all w acts) works.sound
            (events_keep (drives_of script) old b.held w next input found.tried stands.sound stands.work found.may b.far.kept);
        plays = calls_are_played b.moments next input w acts ∙ ap (λ (xs : List Numbered). xs ++ record { line = next; input = input } ∷ []) b.far.plays;
        asked = calls_ask start.there b.moments next input w acts b.far.asked asks.0 asks.1;
      };
      room = room_behind script total done (done + 1) used used w acts b.room
          (within_more done (done + 1) (done + noises_of input) (done + 1) (done + faults_of input) (done + 1) (after_all w acts) (omega arith)
          (one_more done (noises_of input) (few_noises input)) (one_more done (faults_of input) (few_faults input))
          (events_add done done done w next input found.tried works.run b.room.within))
          (events_add_none used w next input found.tried stands.sound stands.work found.may b.room.ids);
    }
