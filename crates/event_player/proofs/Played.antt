-- The whole play of a script, from a start of units that are set up to what packs and sinks are.
use Rattle.std.proofs.Common.{◌≡◌, ◌⊎◌, inl, inr, ℕ, ◌+◌, ◌^◌, ◌<◌, ◌≤◌, length, take, get_or, false, true, IsTrue, List, [], ◌++◌, Option, refl, sym, ap, subst, arith, append-nil, ◌∙◌}
use Rattle.std.specs.Prelude.{Result, Ok, Err, IfOk, IsErrAnd, IsErrOf, min}
use Rattle.std.proofs.lemmas.List.{length-map}
use Rattle.outside_traits.specs.Causes.{Rose}
use Rattle.outside_traits.specs.declared.traits.SinkFailed.{SinkFailed}
use Rattle.pack_geometry.specs.PackTable.{AreTablesOf}
use Rattle.pack_geometry.specs.TableSpelling.{Table}
use Rattle.script_reader.specs.Meaning.{line_of, meaning_of}
use Rattle.script_reader.specs.Stored.{Kept, Stored, lines_in, seen as said_by}
use Rattle.trace_replay.specs.Script.{Script, IsScript, Plays, Drain, drives_of}
use Rattle.driver_machine.specs.World.{Setup, new_world}
use Rattle.trace_lines.specs.declared.answers.tally.Tally.{Tally}
use Rattle.trace_lines.specs.answers.Counting.{tally_by}
use Rattle.hp_driver.specs.Subsystem.{State}
use Rattle.script_runs.specs.declared.fault.PlayFault.{PlayFault}
use Rattle.script_runs.specs.declared.fault.PlayFault.TheVariants as faults
use Rattle.script_runs.specs.Faults.{IsBefore, Rise}
use Rattle.script_runs.specs.Steps.{tables_in, AreSetFor}
use Rattle.event_player.specs.Calls.{MayGoOn}
use Rattle.event_player.specs.Plays.{Tallied}
use Rattle.event_player.specs.Playing.{HasRun, counted, one_request, one_noise}
use Rattle.event_player.specs.Saying.{Side}
use Rattle.event_player.specs.Spots.{PacksAt, Spot, Caused, Keeps, Sends, SendsRest, all_for}
use Rattle.event_player.specs.Turns.{Begins, IsAtStart, PlaysAs, PlaysAt, PlaysOver, PlaysTheScript, StopsAs, TurnsOut}
use Rattle.event_player.specs.Steps.{MayPlay, PlaysDrain, PlaysScript, Ready}
use Rattle.event_player.specs.Stops.{StopsAt, StopsInput, StopsScript}
use Rattle.event_player.proofs.Halting.{line_halts, end_halts, sending_halts, stopped_leaves}
use Rattle.event_player.proofs.Rooms.{ReadyBehind}
use Rattle.event_player.proofs.Saying.{is_said, unsent_passes}
use Rattle.event_player.proofs.Spots.{caused_behind, goes_on, keeps_join, keeps_none, sent_keeps, stopped, stopped_behind}
use Rattle.event_player.proofs.Whole.{PlaysTo, here_is, next_may, next_plays, next_ready, plays_end, plays_none_yet, starts_ready, starts_run, tally_whole}

-- SO FAR the first lines are played.
pub record IsPlayedTo (s : Script) (i : ℕ) (start now : Spot) : Type 0 where
  pub going : now.driver.failed ≡ false
  pub outstanding : now.driver.outstanding ≡ start.driver.outstanding
  pub keeps : Keeps start now
  pub ready : ReadyBehind s (take i s.lines) now.driver.world
  pub plays : IsTrue now.packs.tells → PlaysTo s start now i

none_kept : (side : Side) → side.kept ≡ [] → all_for side ≡ side.took
none_kept side none = ap (λ (xs : List ℕ). side.took ++ xs) none ∙ append-nil side.took

pub played_none : (s : Script) (start : Spot) → IsScript s → IsAtStart s start → IsPlayedTo s 0 start start
played_none s start script at = record {
  going = at.may.going;
  outstanding = refl;
  keeps = keeps_none start;
  ready = at.ready;
  plays = λ t. plays_none_yet s start script (sym (none_kept start.out at.kept)) (sym (none_kept start.lines at.sent));
}

-- a line more
module _ (stored : Stored) (i : ℕ) (item : Kept) (is : item ≡ get_or stored.lines i item) (lt : i < length stored.lines) {start mid : Spot} (so : IsPlayedTo (meaning_of stored) i start mid) where
  pub may_next : IsScript (meaning_of stored) → stored.count < 2 ^ 32 → IsAtStart (meaning_of stored) start → MayPlay mid.driver (line_of (said_by stored.text item)).statement
  may_next script small at = next_may stored i item is lt mid.driver script small (so.outstanding ∙ at.outstanding) so.ready

  pub played_next : {V : Type 0} {x : V} {new : Spot} → PlaysAt item.number (line_of (said_by stored.text item)).statement (Ok x) mid new → IsPlayedTo (meaning_of stored) (i + 1) start new
  played_next {new = new} turns = record {
    going = turns.goes.going;
    outstanding = turns.goes.outstanding ∙ so.outstanding;
    keeps = keeps_join so.keeps turns.keeps;
    ready = next_ready stored i item is lt mid.driver.world new.driver.world turns.plays.brings so.ready;
    plays = λ t. next_plays stored i item is lt start mid new (turns.plays.plays t) (so.plays (turns.keeps.told.never_again t));
  }

  pub line_stopped : {V W : Type 0} {new : Spot} (result : Result W PlayFault) (fault : PlayFault) → IsErrAnd result (λ x. x ≡ fault)
      → PlaysAt {V = V} item.number (line_of (said_by stored.text item)).statement (Err fault) mid new → PlaysTheScript (meaning_of stored) result start new
  line_stopped {new = new} result fault err turns =
      stopped_behind result fault err so.keeps turns
      (λ stops t. line_halts (meaning_of stored) i (line_of (said_by stored.text item)) fault start mid new (here_is stored i item is lt)
      (so.plays (turns.keeps.told.never_again t)) (stops t))

-- no line is left
pub played_past : (stored : Stored) (i : ℕ) {lines : List Kept} → lines ≡ stored.lines → length lines ≤ i → length (meaning_of stored).lines ≤ i
played_past stored i is past =
    subst (λ (n : ℕ). n ≤ i) (sym (length-map (lines_in stored) line_of ∙ length-map stored.lines (said_by stored.text))) (subst (λ (xs : List Kept). length xs ≤ i) is past)

-- the drain behind the last one, and the last sending
module _ (s : Script) (i number : ℕ) (all : length s.lines ≤ i) (last : number ≡ s.count + 1) {start mid : Spot} (so : IsPlayedTo s i start mid) where
  pub drain_stopped : {V W : Type 0} {new : Spot} (result : Result W PlayFault) (fault : PlayFault) → IsErrAnd result (λ x. x ≡ fault)
      → TurnsOut {V = V} (PlaysAs (PlaysDrain number) (Plays Drain)) (StopsAs (StopsInput number Drain)) (Err fault) mid new → PlaysTheScript s result start new
  drain_stopped {new = new} result fault err turns =
      stopped_behind result fault err so.keeps turns
      (λ stops t. end_halts s i number fault start mid new all last (stops t) (so.plays (turns.keeps.told.never_again t)))

  module _ {V : Type 0} {x : V} {drained : Spot} (drains : TurnsOut (PlaysAs (PlaysDrain number) (Plays Drain)) (StopsAs (StopsInput number Drain)) (Ok x) mid drained) where
    pub sending_stopped : {A W : Type 0} {e : SinkFailed} {new : Spot} (result : Result W PlayFault) → IsErrAnd result (λ x. x ≡ faults.Sink) → Sends {T = A} true (Err e) drained new → PlaysTheScript s result start new
    sending_stopped {new = new} result err sends =
        let before = keeps_join so.keeps drains.keeps in
        stopped result faults.Sink err (keeps_join before (sent_keeps sends)) (caused_behind new faults.Sink before sends.says.failed)
        (λ t.
        let told = (sent_keeps sends).told.never_again t in
        sending_halts s i number start mid drained new all last (drains.plays.plays told) (so.plays (drains.keeps.told.never_again told))
        (ap (λ (x : Spot). x.packs.held) sends.same)
        (unsent_passes (is_said sends.says)))

    pub script_played : {W : Type 0} {y : Unit {0}} {new : Spot} (z : W) → Sends {E = SinkFailed} true (Ok y) drained new → PlaysTheScript s (Ok z) start new
    script_played {new = new} z sends =
        let driver = ap (λ (x : Spot). x.driver) sends.same in
        record {
          plays = λ t.
              let told = (sent_keeps sends).told.never_again t in
              plays_end s i number start mid drained new all last (drains.plays.plays told) sends (so.plays (drains.keeps.told.never_again told));
          goes = goes_on driver (record { going = drains.goes.going; outstanding = drains.goes.outstanding ∙ so.outstanding });
          stops = tt;
          caused = tt;
          keeps = keeps_join (keeps_join so.keeps drains.keeps) (sent_keeps sends);
        }

err_same : {a b : PlayFault} → ◌≡◌ {A = Result Tally PlayFault} (Err a) (Err b) → a ≡ b
err_same is = cc

-- FROM A START of units that are set up
pub begins_at : {start : Spot} (s : Script) (setups : List Setup) (requests noises : ℕ) → AreSetFor s (tables_in setups) setups
    → start.driver ≡ record { world = new_world setups (min requests 16384) noises; outstanding = requests; failed = false; kept = [] } → start.out.kept ≡ [] → start.lines.kept ≡ []
    → noises ≡ counted one_noise s.lines → requests ≡ counted one_request s.lines → (IsTrue start.packs.tells → AreTablesOf (drives_of s) start.packs.held (tables_in setups))
    → start.tally ≡ tally_by requests [] [] → Begins s start
begins_at {start} s setups requests noises set is kept sent count asked read none_yet = record {
  tables = tables_in setups;
  read = read;
  run = subst (λ (d : State). HasRun s (tables_in setups) start.packs.held start.packs.held 0 [] d.world []) (sym is) (starts_run s setups (min requests 16384) noises start.packs.held set);
  start = record {
    may = subst MayGoOn (sym is) (record { going = refl; none_waits = refl });
    ready = subst (λ (d : State). Ready s 0 0 0 [] d.world) (sym is) (starts_ready s setups requests noises set count);
    outstanding = ap (λ (d : State). d.outstanding) is ∙ asked;
    kept = kept;
    sent = sent;
  };
  tally = none_yet ∙ ap (λ (n : ℕ). tally_by n [] []) asked;
}

module _ (s : Script) (start : Spot) (begins : Begins s start) where
  ends_whole : (new : Spot) → IsScript s → IsTrue start.packs.tells → ((tables : ℕ → Option Table) → PlaysScript s tables start new)
      → Tallied s start.packs.held new.packs.held new.out.tells start.out.took new.out.took new.lines.tells start.lines.took new.lines.took new.tally
  ends_whole new script told goes =
      subst (λ (xs : List ℕ). Tallied s start.packs.held new.packs.held new.out.tells start.out.took new.out.took new.lines.tells xs new.lines.took new.tally) (none_kept start.lines begins.start.sent)
      (subst (λ (xs : List ℕ). Tallied s start.packs.held new.packs.held new.out.tells xs new.out.took new.lines.tells (start.lines.took ++ start.lines.kept) new.lines.took new.tally)
      (none_kept start.out begins.start.kept)
      (tally_whole s begins.tables start new script (begins.read told) begins.tally (goes begins.tables begins.run)))

  ends_stopped : (new : Spot) (fault : PlayFault) → ((tables : ℕ → Option Table) → StopsScript s tables fault start new)
      → StopsAt fault s begins.tables start.packs.held start.out.took start.lines.took new
  ends_stopped new fault stops =
      subst (λ (xs : List ℕ). StopsAt fault s begins.tables start.packs.held start.out.took xs new) (none_kept start.lines begins.start.sent)
      (subst (λ (xs : List ℕ). StopsAt fault s begins.tables start.packs.held xs (start.lines.took ++ start.lines.kept) new) (none_kept start.out begins.start.kept)
      (stops begins.tables begins.run))

  -- ---- what is sent behind it
  module _ (now new : Spot) where
    rest_keeps : SendsRest now new → Keeps now new
    rest_keeps rest = record {
      told = record { never_again = subst (λ (x : Spot). IsTrue x.packs.tells → IsTrue now.packs.tells) (sym rest.same) (λ t. t); never_again_out = rest.again; never_again_trace = rest.again_lines };
      later = subst (λ (x : Spot). now.packs.faults ≤ x.packs.faults) (sym rest.same) (omega arith);
      later_out = rest.later;
      later_lines = rest.later_lines;
      requests = ap (λ (x : Spot). x.tally.requests) rest.same;
      loans = ap (λ (x : Spot). x.loans) rest.same;
    }

    pub behind : (fault : PlayFault) → (fault ≡ faults.Store → SendsRest now new) → ((fault ≡ faults.Store → ⊥) → new ≡ now) → Keeps now new
    behind faults.Store rest same = rest_keeps (rest refl)
    behind faults.Sink rest same = subst (Keeps now) (sym (same (λ e. cc e))) (keeps_none now)
    behind faults.Memory rest same = subst (Keeps now) (sym (same (λ e. cc e))) (keeps_none now)
    behind (faults.TooLong unit n) rest same = subst (Keeps now) (sym (same (λ e. cc e))) (keeps_none now)

    rises : (fault : PlayFault) → Caused fault start now → Keeps start now → Keeps now new
        → Rise {T = Tally} start.packs.faults new.packs.faults start.out.faults new.out.faults start.lines.faults new.lines.faults (Err fault)
    rises faults.Store caused first next =
        let more = next.later in
        record { later = (keeps_join first next).later; later_out = (keeps_join first next).later_out; later_trace = (keeps_join first next).later_lines; store = λ e. omega (arith, caused, more); sink = λ e. absurd (cc e) }
    rises faults.Sink caused first next = record {
      later = (keeps_join first next).later;
      later_out = (keeps_join first next).later_out;
      later_trace = (keeps_join first next).later_lines;
      store = λ e. absurd (cc e);
      sink = λ e. on caused;
    }
      where
        on : Rose start.out.faults now.out.faults ⊎ Rose start.lines.faults now.lines.faults → Rose start.out.faults new.out.faults ⊎ Rose start.lines.faults new.lines.faults
        on (inl rose) = let more = next.later_out in inl (omega (arith, rose, more))
        on (inr rose) = let more = next.later_lines in inr (omega (arith, rose, more))
    rises other caused first next = absurd caused

    never_long : (fault : PlayFault) → Caused fault start now → (unit n : ℕ) → IsErrOf {T = Tally} (Err fault) (faults.TooLong unit n) → ⊥
    never_long faults.Store caused unit n e = cc e
    never_long faults.Sink caused unit n e = cc e
    never_long other caused unit n e = absurd caused

    pub rest_loans : (result : Result Tally PlayFault) → PlaysTheScript s result start now → (IsErrOf result faults.Store → SendsRest now new) → ((IsErrOf result faults.Store → ⊥) → new ≡ now)
        → new.loans ≡ start.loans
    rest_loans (Ok tally) turns rest same = ap (λ (x : Spot). x.loans) (same (λ e. cc e)) ∙ turns.keeps.loans
    rest_loans (Err fault) turns rest same = (behind fault (λ e. rest (ap Err e)) (λ other. same (λ e. other (err_same e)))).loans ∙ turns.keeps.loans

    pub plays_over : (result : Result Tally PlayFault) → IsScript s → PlaysTheScript s result start now → IfOk result (λ tally. tally ≡ now.tally)
        → (IsErrOf result faults.Store → SendsRest now new) → ((IsErrOf result faults.Store → ⊥) → new ≡ now)
        → PlaysOver s result start.packs new.packs (record start.out { kept = [] }) (record new.out { kept = [] }) (record start.lines { kept = [] }) (record new.lines { kept = [] })
    plays_over (Ok tally) script turns told rest same =
        subst (λ (x : Spot). PlaysOver s (Ok tally) start.packs x.packs (record start.out { kept = [] }) (record x.out { kept = [] }) (record start.lines { kept = [] }) (record x.lines { kept = [] }))
        (sym (same (λ e. cc e)))
        (record {
          tallied = λ t. subst (λ (x : Tally). Tallied s start.packs.held now.packs.held now.out.tells start.out.took now.out.took now.lines.tells start.lines.took now.lines.took x) (sym told)
              (ends_whole now script (turns.keeps.told.never_again t) (turns.plays t));
          requests = ap (λ (x : Tally). x.requests) told ∙ turns.keeps.requests ∙ ap (λ (x : Tally). x.requests) begins.tally;
          stopped = tt;
          too_long = λ unit n e. cc e;
          told = turns.keeps.told;
          causes = record { later = turns.keeps.later; later_out = turns.keeps.later_out; later_trace = turns.keeps.later_lines; store = λ e. absurd (cc e); sink = λ e. absurd (cc e) };
        })
    plays_over (Err fault) script turns told rest same =
        let next : Keeps now new = behind fault (λ e. rest (ap Err e)) (λ other. same (λ e. other (err_same e))) in
        record {
          tallied = tt;
          requests = tt;
          stopped = λ t call. stopped_leaves s begins.tables start.packs.held start now new turns.keeps fault call (begins.read (turns.keeps.told.never_again (next.told.never_again t)))
              (ends_stopped now fault (turns.stops (next.told.never_again t))) (λ e. rest (ap Err e)) (λ other. same (λ e. other (err_same e)));
          too_long = never_long fault turns.caused;
          told = (keeps_join turns.keeps next).told;
          causes = rises fault turns.caused turns.keeps next;
        }

-- what was lent comes back as it is left
pub over_at : {s : Script} {result : Result Tally PlayFault} {packs new back : PacksAt} {out new_out back_out lines new_lines back_lines : Side}
    → PlaysOver s result packs new out new_out lines new_lines → new ≡ back → new_out ≡ back_out → new_lines ≡ back_lines → PlaysOver s result packs back out back_out lines back_lines
over_at {s} {result} {packs} {new} {back} {out} {new_out} {back_out} {lines} {new_lines} {back_lines} over same same_out same_lines =
    subst (λ z. PlaysOver s result packs z out back_out lines back_lines) same
    (subst (λ z. PlaysOver s result packs new out z lines back_lines) same_out (subst (PlaysOver s result packs new out new_out lines) same_lines over))

-- nothing but the units and memory stops it before the first line
pub never_before : {s : Script} {result : Result Tally PlayFault} {old new : Spot} → PlaysTheScript s result old new → IsBefore result → ⊥
never_before {result = Ok tally} turns before = before
never_before {result = Err faults.Store} turns before = before
never_before {result = Err faults.Sink} turns before = before
never_before {result = Err other} turns before = turns.caused
