-- Each answer of a legal run is explained.
use Rattle.std.proofs.Common.{[], ◌∷◌, ◌++◌}
use Rattle.trace_replay.specs.Script.{drives_of}
use Rattle.trace_replay.specs.Moments.{End, Told}
use Rattle.trace_replay.specs.Packs.{surface_of}
use Rattle.trace_replay.specs.Replay.{Follows, after_moments}
use Rattle.trace_replay.specs.Runs.{start_of, RunExplained}
use Rattle.trace_replay.proofs.Asking.{run_asks}
use Rattle.trace_replay.proofs.Following.{follow_on}
use Rattle.trace_replay.proofs.Explained.{are_explained}

pub run_explained : RunExplained
run_explained script tables old new ms ns line unit id answer run kept =
    are_explained (drives_of script) tables (surface_of old) ms line unit id answer
    (run_asks script tables old new ms (Told line unit id (End answer) ∷ ns) run) front kept
  where
    parts : Follows (start_of script tables old) ms × Follows (after_moments (start_of script tables old) ms) (Told line unit id (End answer) ∷ ns)
    parts = (follow_on (start_of script tables old) ms (Told line unit id (End answer) ∷ ns)).0 run.trace.follows

    front : Follows (start_of script tables old) (ms ++ Told line unit id (End answer) ∷ [])
    front = (follow_on (start_of script tables old) ms (Told line unit id (End answer) ∷ [])).1 (parts.0, (parts.1.0, tt))
