-- The bounds of a run: a script that is played over packs.
use Rattle.std.specs.Prelude.{◌≡◌, ℕ, ◌*◌, ◌≤◌, false, List, ◌∷◌, ◌++◌, Option}
use Rattle.pack_geometry.specs.Pack as model
use Rattle.pack_geometry.specs.TableSpelling.{Table}
use Rattle.trace_replay.specs.Script.{Script}
use Rattle.trace_replay.specs.requests.Requests.{Answer}
use Rattle.trace_replay.specs.Moments.{End, Moment, Told}
use Rattle.trace_replay.specs.Service.{in_hand}
use Rattle.trace_replay.specs.Replay.{after_moments}
use Rattle.trace_replay.specs.History.{is_refusal, lines_of}
use Rattle.trace_replay.specs.Runs.{start_of, IsLegalRun}
use Rattle.driver_laws.specs.rules.Commands.{commands_in}

-- EACH REQUEST of a legal run that is not refused as it is submitted ends behind at most 300 commands for each of its blocks.
abbrev pub RunCommandsAreBounded : Type 0
RunCommandsAreBounded = (script : Script) (tables : ℕ → Option Table) (old new : ℕ → model.Pack) (ms ns : List Moment) (line unit id : ℕ) (answer : Answer)
    → IsLegalRun script tables old new (ms ++ Told line unit id (End answer) ∷ ns) → is_refusal answer ≡ false
    → (commands_in (lines_of unit ms) ≤ 300 * (in_hand ((after_moments (start_of script tables old) ms).units unit).service).count)
    × ((in_hand ((after_moments (start_of script tables old) ms).units unit).service).id ≡ id)
