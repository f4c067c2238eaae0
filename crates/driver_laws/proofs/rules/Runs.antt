-- A script asks for some blocks of units that are there; so the bounds hold in each legal run.
use Rattle.std.proofs.Common.{◌≡◌, inl, inr, ℕ, zero, suc, ◌+◌, ◌<◌, ◌≤◌, ◌==◌, ◌||◌, Bool, true, false, List, [], ◌∷◌, ◌++◌, filter, Option, None, Some, refl, sym, subst, arith, All}
use Rattle.std.specs.Prelude.{if◌then◌else◌, is_some, ◌*◌}
use Rattle.std.specs.List.{list_any}
use Rattle.std.proofs.lemmas.Bool.Decides.{eqb_tells, nat_tests}
use Rattle.std.proofs.lemmas.List.Elements.{All-head, All-tail}
use Rattle.pack_geometry.specs.declared.DriveKind.{DriveKind}
use Rattle.pack_geometry.specs.Pack as model
use Rattle.pack_geometry.specs.TableSpelling.{Table}
use Rattle.trace_replay.specs.requests.Requests.{Request, IsRequest}
use Rattle.trace_replay.specs.Script.{Input, Submit, Drain, Statement, Declares, Plays, Line, Numbered, Script, with_input, inputs_before, drives_in, drives_of, IsThere, IsInput, IsStatement, IsFirst, AreUnitsFirst, declared_by}
use Rattle.trace_replay.specs.Moments.{End, Moment, Played, Told, Idle, played}
use Rattle.trace_replay.specs.Packs.{surface_of}
use Rattle.trace_replay.specs.Replay.{all_units, Follows, after_moments}
use Rattle.trace_replay.specs.Causes.{AsksSome, AskSome}
use Rattle.trace_replay.specs.Runs.{start_of, IsLegalRun}
use Rattle.trace_replay.proofs.Following.{follow_on}
use Rattle.trace_replay.proofs.Kept.{no}
use Rattle.driver_laws.specs.rules.Drains.{IsOf, AreOf, events_in}
use Rattle.driver_laws.specs.rules.Runs.{RunCommandsAreBounded}
use Rattle.driver_laws.proofs.rules.Commands.{ends_are_bounded}
use Rattle.driver_laws.proofs.rules.Idle.{starts_idle}
use Rattle.driver_laws.proofs.rules.Drain.{drains_are_bounded}
use Rattle.driver_laws.proofs.rules.Working.{yes_second}
use Rattle.driver_laws.specs.rules.Measure.{blocks_outstanding}

-- ---- the units that a script declares are there
abbrev pub from : ℕ → ℕ → List ℕ
from start zero = []
from start (suc n) = start ∷ from (start + 1) n

pub all_from : all_units ≡ from 0 32
all_from = refl

first_true : (b c : Bool) → b ≡ true → b || c ≡ true
first_true true c is = refl
first_true false c is = absurd (no is)

pub from_any : (n start k : ℕ) → start ≤ k → k < start + n → list_any (λ x. x == k) (from start n) ≡ true
from_any zero start k low high = absurd (omega (arith, low, high))
from_any (suc n) start k low high = elim (eqb_tells start k) [
  | inl same ↦ first_true (start == k) (list_any (λ x. x == k) (from (start + 1) n)) same.0
  | inr other ↦ yes_second (start == k) (list_any (λ x. x == k) (from (start + 1) n)) (from_any n (start + 1) k (next start k low (unequal start k other.0)) (omega (arith, high)))
]
  where
    next : (a b : ℕ) → a ≤ b → (a ≡ b → ⊥) → a + 1 ≤ b
    next a b le ne = omega arith

    unequal : (a c : ℕ) → a == c ≡ false → a ≡ c → ⊥
    unequal a c h e = grind (arith, nat_tests)

pub filter_any : (p : ℕ → Bool) (k : ℕ) (xs : List ℕ) → p k ≡ true → list_any (λ x. x == k) xs ≡ true → list_any (λ x. x == k) (filter p xs) ≡ true
filter_any p k [] is any = any
filter_any p k (x ∷ xs) is any = elim (eqb_tells x k) [
  | inl same ↦ here (p x) (subst (λ z. p z ≡ true) (sym same.1) is) same.0
  | inr other ↦ there (p x) (filter_any p k xs is (not_first (x == k) (list_any (λ y. y == k) xs) other.0 any))
]
  where
    not_first : (b c : Bool) → b ≡ false → b || c ≡ true → c ≡ true
    not_first true c off or = absurd (no (sym off))
    not_first false c off or = or

    here : (b : Bool) → b ≡ true → x == k ≡ true → list_any (λ y. y == k) (if b then x ∷ filter p xs else filter p xs) ≡ true
    here true on same = first_true (x == k) (list_any (λ y. y == k) (filter p xs)) same
    here false on same = absurd (no on)

    there : (b : Bool) → list_any (λ y. y == k) (filter p xs) ≡ true → list_any (λ y. y == k) (if b then x ∷ filter p xs else filter p xs) ≡ true
    there true rest = yes_second (x == k) (list_any (λ y. y == k) (filter p xs)) rest
    there false rest = rest

declared_small : (lines : List Line) (k : ℕ) → AreUnitsFirst lines → is_some (drives_in lines k) ≡ true → k < 32
declared_small [] k first is = absurd (no is)
declared_small (line ∷ lines) k first is = at line.statement first.0 is (λ rest. declared_small lines k first.1 rest)
  where
    at : (statement : Statement) → IsFirst statement lines → is_some (declared_by statement k (drives_in lines k)) ≡ true
        → (is_some (drives_in lines k) ≡ true → k < 32) → k < 32
    at (Plays input) f some rest = rest some
    at (Declares u kind) f some rest = elim (eqb_tells k u) [
      | inl same ↦ subst (λ z. z < 32) (sym same.1) f.0
      | inr other ↦ rest (subst (λ b. is_some (if b then Some kind else drives_in lines k) ≡ true) other.0 some)
    ]

there_some : (drive : Option DriveKind) (r : Request) → IsThere drive (λ kind. IsRequest r) → (is_some drive ≡ true) × (1 ≤ r.count)
there_some None r is = absurd is
there_some (Some kind) r is = (refl, is.some)

unit_of_request : (script : Script) (r : Request) → AreUnitsFirst script.lines → is_some (drives_of script r.unit) ≡ true
    → list_any (λ x. x == r.unit) (filter (λ unit. is_some (drives_of script unit)) all_units) ≡ true
unit_of_request script r first is =
    filter_any (λ unit. is_some (drives_of script unit)) r.unit all_units is
    (subst (λ z. list_any (λ x. x == r.unit) z ≡ true) (sym all_from) (from_any 32 0 r.unit (omega arith) (omega (arith, declared_small script.lines r.unit first is))))

-- ---- what each input of a script asks
record Asks (there : List ℕ) (input : Input) : Type 0 where
  some : AsksSome input
  of : IsOf there input

abbrev the_units : Script → List ℕ
the_units script = filter (λ unit. is_some (drives_of script unit)) all_units

input_asks : (script : Script) (input : Input) → AreUnitsFirst script.lines → IsInput (drives_of script) input → Asks (the_units script) input
input_asks script (Submit r) first is = let s = there_some (drives_of script r.unit) r is in record { some = s.1; of = unit_of_request script r first s.0 }
input_asks script other first is = record { some = tt; of = tt }

AllAsk : List ℕ → List Numbered → Type 0
AllAsk there [] = Unit {0}
AllAsk there (n ∷ ns) = Asks there n.input × AllAsk there ns

with_asks : (script : Script) (number : ℕ) (statement : Statement) (inputs : List Numbered) → AreUnitsFirst script.lines → IsStatement (drives_of script) statement
    → AllAsk (the_units script) inputs → AllAsk (the_units script) (with_input number statement inputs)
unfolding AllAsk
with_asks script number (Declares unit kind) inputs first is all = all
with_asks script number (Plays input) inputs first is all = (input_asks script input first is, all)

lines_ask : (script : Script) (last : List Numbered) (lines : List Line) → AreUnitsFirst script.lines → All (λ (line : Line). IsStatement (drives_of script) line.statement) lines
    → AllAsk (the_units script) last → AllAsk (the_units script) (inputs_before last lines)
lines_ask script last [] first is all = all
lines_ask script last (line ∷ lines) first is all =
    with_asks script line.number line.statement (inputs_before last lines) first (All-head (λ (l : Line). IsStatement (drives_of script) l.statement) line lines is)
    (lines_ask script last lines first (All-tail (λ (l : Line). IsStatement (drives_of script) l.statement) line lines is) all)

moments_ask : (there : List ℕ) (ms ns : List Moment) → AllAsk there (played (ms ++ ns)) → AskSome ms × AreOf there ms
unfolding AllAsk
moments_ask there [] ns all = (tt, tt)
moments_ask there (Played line input ∷ ms) ns all = let rest = moments_ask there ms ns all.1 in ((all.0.some, rest.0), (all.0.of, rest.1))
moments_ask there (Told line unit id deed ∷ ms) ns all = moments_ask there ms ns all
moments_ask there (Idle line ∷ ms) ns all = moments_ask there ms ns all

run_asks : (script : Script) (tables : ℕ → Option Table) (old new : ℕ → model.Pack) (ms ns : List Moment) → IsLegalRun script tables old new (ms ++ ns)
    → AskSome ms × AreOf (the_units script) ms
unfolding AllAsk
run_asks script tables old new ms ns run =
    moments_ask (the_units script) ms ns (subst (AllAsk (the_units script)) (sym run.inputs)
    (lines_ask script (record { line = script.count + 1; input = Drain } ∷ []) script.lines run.good.units run.good.inputs (record { some = tt; of = tt }, tt)))

pub run_commands : RunCommandsAreBounded
run_commands script tables old new ms ns line unit id answer run kept =
    ends_are_bounded (drives_of script) tables (surface_of old) ms line unit id answer
    (run_asks script tables old new ms (Told line unit id (End answer) ∷ ns) run).0
    ((follow_on (start_of script tables old) ms (Told line unit id (End answer) ∷ [])).1 (parts.0, (parts.1.0, tt))) kept
  where
    parts : Follows (start_of script tables old) ms × Follows (after_moments (start_of script tables old) ms) (Told line unit id (End answer) ∷ ns)
    parts = (follow_on (start_of script tables old) ms (Told line unit id (End answer) ∷ ns)).0 run.trace.follows

-- EACH DRAIN of a legal run, and each part of one, has at most 200 event lines for each block that is outstanding before it.
pub run_drains : (script : Script) (tables : ℕ → Option Table) (old new : ℕ → model.Pack) (ms ts ns : List Moment)
    → IsLegalRun script tables old new (ms ++ (ts ++ ns)) → played ts ≡ []
    → events_in ts ≤ 200 * blocks_outstanding (after_moments (start_of script tables old) ms)
run_drains script tables old new ms ts ns run none =
    (drains_are_bounded (start_of script tables old) ms ts (starts_idle (drives_of script) tables (surface_of old)) asks.0 asks.1
    ((follow_on (start_of script tables old) ms ts).1 (parts.0, ((follow_on (after_moments (start_of script tables old) ms) ts ns).0 parts.1).0)) none).1
  where
    parts : Follows (start_of script tables old) ms × Follows (after_moments (start_of script tables old) ms) (ts ++ ns)
    parts = (follow_on (start_of script tables old) ms (ts ++ ns)).0 run.trace.follows

    asks : AskSome ms × AreOf (the_units script) ms
    asks = run_asks script tables old new ms (ts ++ ns) run
