-- One line that is played.
use Rattle.std.proofs.Common.{◌+◌, refl, arith}
use Rattle.trace_replay.specs.Script as says
use Rattle.script_runs.proofs.Rooms.{may_play}
use Rattle.script_runs.proofs.Events.{event_behind}
use Rattle.script_runs.proofs.Submissions.{submission_behind}
use Rattle.script_runs.proofs.Drains.{drains_end}
use Rattle.std.specs.Prelude.{ℕ, List, [], Option, Contains, ◌<◌, ◌^◌, ◌≡◌, ◌∷◌, ◌++◌}
use Rattle.pack_geometry.specs.Pack.{Pack}
use Rattle.pack_geometry.specs.TableSpelling.{Table}
use Rattle.trace_replay.specs.requests.Requests.{Request}
use Rattle.trace_replay.specs.Script.{Script, Input, Numbered, IsInput, drives_of, Plays, with_id}
use Rattle.script_runs.specs.Steps.{Behind, Went}

pub lines_go : (script : Script) (tables : ℕ → Option Table) (old : ℕ → Pack) (total done : ℕ) (used : List ℕ) (line next : ℕ) (input : Input) (inputs : List Numbered)
    → line < next → done < total → total < 2 ^ 32 → IsInput (drives_of script) input
    → ((r : Request) → input ≡ says.Submit r → Contains used r.id → ⊥)
    → Behind script tables old total done used line inputs
    → Went script tables old total done (with_id (Plays input) used) next (inputs ++ record { line = next; input = input } ∷ [])
lines_go script tables old total done used line next (says.Submit r) inputs less room small there fresh b =
    record { done_now = done + 1; few = omega arith; behind = submission_behind script tables old total done used line next r inputs less room there (λ has. fresh r refl has) b }
lines_go script tables old total done used line next says.Drain inputs less room small there fresh b =
    record { done_now = done; few = omega arith; behind = (drains_end script tables old total done used line next inputs less b).behind }
lines_go script tables old total done used line next other inputs less room small there fresh b =
    let may = may_play script total done used b.world b.room room small other (λ e. absurd (cc e)) (λ r e. absurd (cc e)) there in
    record { done_now = done + 1; few = omega arith; behind = event_behind script tables old total done used line next other inputs less b may.0 may.1 }
