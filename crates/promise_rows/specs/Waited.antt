-- Wrong outcomes of a request that is waited for.
use Rattle.std.specs.Prelude.{◌≡◌, ◌≢◌, ℕ, ◌+◌, ◌<◌, IsTrue, [], None}
use Rattle.trace_replay.specs.requests.Requests.{Request}
use Rattle.driver_laws.specs.rules.Rest.{HasTables}
use Rattle.driver_laws.specs.rules.Waited.{map_of, first_in}
use Rattle.blocking_io.specs.Passes.{State}
use Rattle.blocking_io.specs.Asking.{IsReady, Answers, setup_at}
use Rattle.blocking_io.specs.FrontsPasses.{Stage}
use Rattle.blocking_io.specs.declared.reached.Reached.TheVariants.{Before}

-- AN ANSWER IS LEFT UNTAKEN: behind the request the driver is ready, and an answer waits.
abbrev pub AnswerLeftUntaken : Type 0
AnswerLeftUntaken = (s : State) → IsReady s → ¬ (s.world.answers ≢ [])

-- THE BAD BLOCK IS COUNTED: one that can't be used is among the blocks that were done before it.
abbrev pub UnforwardedCountsTheBadBlock : Type 0
UnforwardedCountsTheBadBlock = (line bad done : ℕ) (r : Request) (old new : Stage) → Answers line r old new → IsTrue new.packs_tell → HasTables (setup_at old)
    → map_of (setup_at old) r.unit (first_in (setup_at old) r + bad) ≡ None → bad < done → ¬ (new.given.reached ≡ Before done)
