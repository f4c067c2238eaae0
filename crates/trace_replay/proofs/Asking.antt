-- The requests of a legal run ask for some blocks.
use Rattle.std.proofs.Common.{ℕ, ◌+◌, List, [], ◌∷◌, ◌++◌, Option, None, Some, sym, subst, All}
use Rattle.std.proofs.lemmas.List.Elements.{All-head, All-tail}
use Rattle.pack_geometry.specs.declared.DriveKind.{DriveKind}
use Rattle.pack_geometry.specs.Pack as model
use Rattle.pack_geometry.specs.TableSpelling.{Table}
use Rattle.trace_replay.specs.requests.Requests.{Request, IsRequest}
use Rattle.trace_replay.specs.Script.{Script, Input, Submit, Drain, Statement, Declares, Plays, Line, Numbered, with_input, inputs_before, drives_of, IsThere, IsInput, IsStatement}
use Rattle.trace_replay.specs.Moments.{Moment, Played, Told, Idle, played}
use Rattle.trace_replay.specs.Causes.{AsksSome, AskSome}
use Rattle.trace_replay.specs.Runs.{IsLegalRun}

-- inputs that ask for some blocks
AllAsk : List Numbered → Type 0
AllAsk [] = Unit {0}
AllAsk (n ∷ ns) = AsksSome n.input × AllAsk ns

pub there_asks : (drive : Option DriveKind) (r : Request) → IsThere drive (λ kind. IsRequest r) → AsksSome (Submit r)
there_asks None r is = absurd is
there_asks (Some kind) r is = is.some

input_asks : (drives : ℕ → Option DriveKind) (input : Input) → IsInput drives input → AsksSome input
input_asks drives (Submit r) is = there_asks (drives r.unit) r is
input_asks drives other is = tt

with_asks : (drives : ℕ → Option DriveKind) (number : ℕ) (statement : Statement) (inputs : List Numbered) → IsStatement drives statement → AllAsk inputs
    → AllAsk (with_input number statement inputs)
unfolding AllAsk
with_asks drives number (Declares unit kind) inputs is all = all
with_asks drives number (Plays input) inputs is all = (input_asks drives input is, all)

lines_ask : (drives : ℕ → Option DriveKind) (last : List Numbered) (lines : List Line) → All (λ (line : Line). IsStatement drives line.statement) lines → AllAsk last
    → AllAsk (inputs_before last lines)
lines_ask drives last [] is all = all
lines_ask drives last (line ∷ lines) is all =
    with_asks drives line.number line.statement (inputs_before last lines) (All-head (λ (l : Line). IsStatement drives l.statement) line lines is)
    (lines_ask drives last lines (All-tail (λ (l : Line). IsStatement drives l.statement) line lines is) all)

moments_ask : (ms ns : List Moment) → AllAsk (played (ms ++ ns)) → AskSome ms
unfolding AllAsk
moments_ask [] ns all = tt
moments_ask (Played line input ∷ ms) ns all = (all.0, moments_ask ms ns all.1)
moments_ask (Told line unit id deed ∷ ms) ns all = moments_ask ms ns all
moments_ask (Idle line ∷ ms) ns all = moments_ask ms ns all

pub run_asks : (script : Script) (tables : ℕ → Option Table) (old new : ℕ → model.Pack) (ms ns : List Moment) → IsLegalRun script tables old new (ms ++ ns) → AskSome ms
unfolding AllAsk
run_asks script tables old new ms ns run =
    moments_ask ms ns (subst AllAsk (sym run.inputs) (lines_ask (drives_of script) (record { line = script.count + 1; input = Drain } ∷ []) script.lines run.good.inputs (tt, tt)))
