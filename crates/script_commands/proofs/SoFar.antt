-- The laws of legal beginnings, of the moments that a script came to before it stopped.
use Rattle.std.proofs.Common.{◌≡◌, ◌⊎◌, inl, inr, ℕ, ◌+◌, ◌==◌, ◌||◌, Bool, true, false, All, List, [], ◌∷◌, ◌++◌, Option, refl, sym, ap, subst, ◌∙◌, append_assoc}
use Rattle.std.specs.List.{list_any}
use Rattle.std.proofs.lemmas.List.Elements.{All-head, All-tail}
use Rattle.pack_geometry.specs.declared.DriveKind.{DriveKind}
use Rattle.pack_geometry.specs.Pack.{Pack}
use Rattle.pack_geometry.specs.PackTable.{AreTablesOf}
use Rattle.pack_geometry.specs.TableSpelling.{Table}
use Rattle.trace_replay.specs.requests.Requests.{Answer}
use Rattle.trace_replay.specs.Script.{Script, Input, Submit, Drain, Statement, Declares, Plays, Line, Numbered, with_input, inputs_before, drives_of, IsInput, IsStatement, IsScript, AreApart}
use Rattle.trace_replay.specs.Moments.{Moment, Played, Told, Idle, End, played}
use Rattle.trace_replay.specs.Packs.{surface_of}
use Rattle.trace_replay.specs.Replay.{Follows, after_moments}
use Rattle.trace_replay.specs.Causes.{AskSome}
use Rattle.trace_replay.specs.Runs.{start_of}
use Rattle.trace_replay.proofs.Following.{follow_on}
use Rattle.trace_replay.proofs.Explained.{are_explained}
use Rattle.driver_laws.proofs.rules.Commands.{ends_are_bounded}
use Rattle.driver_laws.proofs.rules.Kept.{input_asks}
use Rattle.driver_laws.proofs.rules.MachineRuns.{each_beginning, script_ids}
use Rattle.event_player.specs.PlayFault.{PlayFault}
use Rattle.event_player.specs.PlayFault.TheVariants as faults
use Rattle.event_player.specs.Passes.{IsTorn}
use Rattle.event_player.specs.Passes.{Came, Reached, Took}
use Rattle.event_player.proofs.Passes.{rules_hold}
use Rattle.event_player.specs.Stops.{StopsPlaying}
use Rattle.driver_laws.specs.rules.Beginnings.{IsBegun, BeginningsKeep, NextBlocksKeep, PromisesSoFar}
use Rattle.script_commands.specs.SoFar.{KeepsSoFar, Holds, Keeps}
use Rattle.script_commands.proofs.Standing.{FoundBehind, found_behind}
use Rattle.driver_laws.proofs.rules.IdsAsked.{ids_asked, with_asked}
use Rattle.driver_laws.proofs.rules.MomentSteps.{AreGiven}

-- THE INPUTS of a script are good, and so are the first of them.
abbrev AllGood : (ℕ → Option DriveKind) → List Numbered → Type 0
AllGood drives [] = Unit {0}
AllGood drives (n ∷ ns) = IsInput drives n.input × AllGood drives ns

with_good : (drives : ℕ → Option DriveKind) (number : ℕ) (statement : Statement) (inputs : List Numbered) → IsStatement drives statement → AllGood drives inputs
    → AllGood drives (with_input number statement inputs)
with_good drives number (Declares unit kind) inputs is all = all
with_good drives number (Plays input) inputs is all = (is, all)

lines_good : (drives : ℕ → Option DriveKind) (last : List Numbered) (lines : List Line) → All (λ (line : Line). IsStatement drives line.statement) lines → AllGood drives last
    → AllGood drives (inputs_before last lines)
lines_good drives last [] is all = all
lines_good drives last (line ∷ lines) is all =
    with_good drives line.number line.statement (inputs_before last lines) (All-head (λ (l : Line). IsStatement drives l.statement) line lines is)
    (lines_good drives last lines (All-tail (λ (l : Line). IsStatement drives l.statement) line lines is) all)

good_front : (drives : ℕ → Option DriveKind) (ns more : List Numbered) → AllGood drives (ns ++ more) → AllGood drives ns
good_front drives [] more all = tt
good_front drives (n ∷ ns) more all = (all.0, good_front drives ns more all.1)

moments_good : (drives : ℕ → Option DriveKind) (ms : List Moment) → AllGood drives (played ms) → AreGiven drives ms
moments_good drives [] all = tt
moments_good drives (Played line input ∷ ms) all = (all.0, moments_good drives ms all.1)
moments_good drives (Told line unit id deed ∷ ms) all = (tt, moments_good drives ms all)
moments_good drives (Idle line ∷ ms) all = (tt, moments_good drives ms all)

moments_ask : (drives : ℕ → Option DriveKind) (ms ns : List Moment) → AllGood drives (played (ms ++ ns)) → AskSome ms
moments_ask drives [] ns all = tt
moments_ask drives (Played line input ∷ ms) ns all = (input_asks drives input all.0, moments_ask drives ms ns all.1)
moments_ask drives (Told line unit id deed ∷ ms) ns all = moments_ask drives ms ns all
moments_ask drives (Idle line ∷ ms) ns all = moments_ask drives ms ns all

-- THE IDS of the first inputs are apart.
or_front : (b c d : Bool) → (c ≡ false → d ≡ false) → b || c ≡ false → b || d ≡ false
or_front true c d later none = none
or_front false c d later none = later none

any_front : (test : ℕ → Bool) (xs more : List ℕ) → list_any test (xs ++ more) ≡ false → list_any test xs ≡ false
any_front test [] more none = refl
any_front test (x ∷ xs) more none = or_front (test x) (list_any test (xs ++ more)) (list_any test xs) (any_front test xs more) none

apart_front : (ids more : List ℕ) → AreApart (ids ++ more) → AreApart ids
apart_front [] more apart = tt
apart_front (id ∷ ids) more apart = (any_front (λ other. other == id) ids more apart.0, apart_front ids more apart.1)

asked_more : (input : Input) (ids more all : List ℕ) → all ≡ ids ++ more → with_asked input all ≡ with_asked input ids ++ more
asked_more (Submit r) ids more all is = ap (λ (xs : List ℕ). r.id ∷ xs) is
asked_more other ids more all is = is

ids_append : (ns more : List Numbered) → ids_asked (ns ++ more) ≡ ids_asked ns ++ ids_asked more
ids_append [] more = refl
ids_append (n ∷ ns) more = asked_more n.input (ids_asked ns) (ids_asked more) (ids_asked (ns ++ more)) (ids_append ns more)

-- THE MOMENTS that a script came to
module _ (script : Script) (good : IsScript script) (tables : ℕ → Option Table) (first : ℕ → Pack) (read : AreTablesOf (drives_of script) first tables)
    (moments : List Moment) (came : Came script tables first moments) where
  all_good : AllGood (drives_of script) (played moments)
  all_good =
      good_front (drives_of script) (played moments) came.later
      (subst (AllGood (drives_of script)) came.inputs (lines_good (drives_of script) (record { line = script.count + 1; input = Drain } ∷ []) script.lines good.inputs (tt, tt)))

  apart : AreApart (ids_asked (played moments))
  apart =
      apart_front (ids_asked (played moments)) (ids_asked came.later)
      (subst AreApart (sym (script_ids script) ∙ ap ids_asked came.inputs ∙ ids_append (played moments) came.later) good.ids)

  module _ (line unit id : ℕ) (answer : Answer) (before after : List Moment) (is : moments ≡ before ++ Told line unit id (End answer) ∷ after) where
    front : Follows (start_of script tables first) (before ++ Told line unit id (End answer) ∷ [])
    front =
        let parts : Follows (start_of script tables first) before × Follows (after_moments (start_of script tables first) before) (Told line unit id (End answer) ∷ after) =
        (follow_on (start_of script tables first) before (Told line unit id (End answer) ∷ after)).0 (subst (Follows (start_of script tables first)) is came.follows) in
        (follow_on (start_of script tables first) before (Told line unit id (End answer) ∷ [])).1 (parts.0, (parts.1.0, tt))

    asks : AskSome before
    asks = moments_ask (drives_of script) before (Told line unit id (End answer) ∷ after) (subst (λ (ms : List Moment). AllGood (drives_of script) (played ms)) is all_good)

  pub keeps_so_far : KeepsSoFar script tables first moments
  keeps_so_far = record {
    legal = each_beginning (record { drives = drives_of script; tables = tables; packs = first }) moments read (moments_good (drives_of script) moments all_good) apart came.follows;
    explained = λ line unit id answer before after is kept.
        are_explained (drives_of script) tables (surface_of first) before line unit id answer (asks line unit id answer before after is) (front line unit id answer before after is) kept;
    commands = λ line unit id answer before after is kept.
        (ends_are_bounded (drives_of script) tables (surface_of first) before line unit id answer (asks line unit id answer before after is) (front line unit id answer before after is) kept).0;
  }

-- WITH THE PACKS behind them
abbrev HoldBehind : (script : Script) (tables : ℕ → Option Table) (first held left : ℕ → Pack) → Reached script tables first held → Type 0
HoldBehind script tables first held left reached = (front rest : List Moment) → reached.ahead.quiet ≡ front ++ rest
    → PromisesSoFar script tables first left (reached.sent ++ (reached.ahead.move ++ front))

module _ (keep : BeginningsKeep) (script : Script) (good : IsScript script) (tables : ℕ → Option Table) (first held : ℕ → Pack)
    (read : AreTablesOf (drives_of script) first tables) (reached : Reached script tables first held) where
  begun : IsBegun script tables first (reached.sent ++ reached.late)
  begun = record { good = good; later = reached.came.later; inputs = reached.came.inputs; tables_read = read; follows = reached.came.follows }

  hold_so_far : HoldBehind script tables first held held reached
  hold_so_far = rules_hold keep script tables first held reached.sent reached.late begun reached.ahead

holds : (script : Script) (tables : ℕ → Option Table) (first held left : ℕ → Pack) (out : Took) (reached : Reached script tables first held)
    → HoldBehind script tables first held left reached → Holds script tables first held left out reached
holds script tables first held left out reached each =
    let move = reached.ahead.move in
    let f : FoundBehind out.before out.after reached.sent move reached.ahead.quiet = found_behind out.before out.after reached.sent move reached.ahead.quiet reached.ahead.one.silent in
    record {
      so_far = each;
      taken = record {
        front = move ++ f.front;
        rest = f.rest;
        cut = reached.ahead.cut ∙ ap (λ (ms : List Moment). move ++ ms) f.cut ∙ sym (append_assoc move f.front f.rest);
        stand = f.stand;
        hold = each f.front f.rest f.cut;
      };
    }

-- where nothing is late
none_before : (move front rest : List Moment) → [] ≡ move ++ (front ++ rest) → [] ≡ move ++ front
none_before [] [] rest is = refl
none_before [] (m ∷ front) rest is = absurd (cc is)
none_before (m ∷ move) front rest is = absurd (cc is)

hold_none : (script : Script) (tables : ℕ → Option Table) (first held left : ℕ → Pack) (reached : Reached script tables first held) → reached.late ≡ []
    → PromisesSoFar script tables first left (reached.sent ++ reached.late) → HoldBehind script tables first held left reached
hold_none script tables first held left reached none promises front rest cut =
    let move = reached.ahead.move in
    let nothing : [] ≡ move ++ (front ++ rest) = sym none ∙ reached.ahead.cut ∙ ap (λ (ms : List Moment). move ++ ms) cut in
    subst (λ (ms : List Moment). PromisesSoFar script tables first left (reached.sent ++ ms)) (none ∙ none_before move front rest nothing) promises

-- THE PACKS FAILED: with the block that may be new, and without it
module _ (keep : BeginningsKeep) (next : NextBlocksKeep) (script : Script) (good : IsScript script) (first left : ℕ → Pack) (out trace : Took)
    (is : StopsPlaying faults.Store script first left out trace) where
  abbrev At : Reached script is.tables first is.stopped.held
  At = is.stopped.reached

  without : HoldBehind script is.tables first is.stopped.held is.stopped.held At
  without = hold_so_far keep script good is.tables first is.stopped.held is.read At

  left_holds : HoldBehind script is.tables first is.stopped.held left At
  left_holds = by is.stopped.packs
    where
      by : (left ≡ is.stopped.held) ⊎ ((At.late ≡ []) × IsTorn (drives_of script) first is.stopped.held left (after_moments (start_of script is.tables first) (At.sent ++ At.late)))
          → HoldBehind script is.tables first is.stopped.held left At
      by (inl same) = subst (λ (packs : ℕ → Pack). HoldBehind script is.tables first is.stopped.held packs At) (sym same) without
      by (inr torn) =
          hold_none script is.tables first is.stopped.held left At torn.0
          (next script is.tables first left (At.sent ++ At.late) torn.1.at.unit torn.1.at.block torn.1.at.kind
          (begun keep script good is.tables first is.stopped.held is.read At) torn.1.at.declared torn.1.at.next torn.1.at.packs)

pub keeps : BeginningsKeep → NextBlocksKeep → (fault : PlayFault) (script : Script) (first left : ℕ → Pack) (out trace : Took) → IsScript script → Keeps fault script first left out trace
keeps keep next faults.Store script first left out trace good = λ is. (
  keeps_so_far script good is.tables first is.read (is.stopped.reached.sent ++ is.stopped.reached.late) is.stopped.reached.came,
  holds script is.tables first is.stopped.held is.stopped.held out is.stopped.reached (without keep next script good first left out trace is),
  holds script is.tables first is.stopped.held left out is.stopped.reached (left_holds keep next script good first left out trace is),
)
keeps keep next faults.Sink script first left out trace good = λ is. (
  keeps_so_far script good is.tables first is.read (is.stopped.reached.sent ++ is.stopped.reached.late) is.stopped.reached.came,
  holds script is.tables first left left out is.stopped.reached
      (hold_so_far keep script good is.tables first left is.read is.stopped.reached),
)
keeps keep next other script first left out trace good = tt
