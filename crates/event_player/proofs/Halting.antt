-- What a line of a script leaves where it stopped, and a whole script.
use Rattle.std.proofs.Common.{◌≡◌, ◌⊎◌, inr, ℕ, ◌+◌, ◌*◌, ◌<◌, ◌≤◌, Bool, false, IsTrue, List, [], ◌∷◌, ◌++◌, length, take, drop, Option, Some, None, refl, sym, ap, subst, arith, ◌∙◌, append-nil, append_assoc, take-append-drop}
use Rattle.std.specs.Prelude.{Result, Ok, Err}
use Rattle.std.proofs.lemmas.Bool.{false≢true}
use Rattle.std.proofs.lemmas.List.{take_all, drop_all}
use Rattle.pack_geometry.specs.Pack.{Pack}
use Rattle.pack_geometry.specs.PackTable.{AreTablesOf}
use Rattle.pack_geometry.specs.TableSpelling.{Table}
use Rattle.outside_traits.specs.Puts.{Puts}
use Rattle.outside_traits.specs.declared.traits.SinkFailed.{SinkFailed}
use Rattle.outside_traits.proofs.GatherLaws.{rose_more}
use Rattle.trace_replay.specs.Moments.{Moment, Idle, played}
use Rattle.trace_replay.specs.Script as says
use Rattle.trace_replay.specs.Script.{Script, Input, Statement, Declares, Plays, Line, Numbered, AreNumbered, drives_of, inputs_of, inputs_before}
use Rattle.trace_replay.specs.Replay.{after_moments}
use Rattle.trace_replay.specs.Runs.{start_of}
use Rattle.trace_replay.specs.Text.{trace_text, moment_text}
use Rattle.driver_machine.specs.World.{World}
use Rattle.driver_machine.specs.Acts.{Act, after_all}
use Rattle.driver_machine.specs.Events.{event_acts, next_event}
use Rattle.driver_laws.specs.answers.Outcome.{IsFront}
use Rattle.driver_laws.specs.answers.Packs.{packs_after_all}
use Rattle.driver_laws.proofs.answers.Joined.{front_same, front_more, front_of_front}
use Rattle.outside_traits.specs.declared.traits.PackCall.{PackCall}
use Rattle.script_runs.specs.StopsPasses.{AskBelow, with_call, IsTorn}
use Rattle.trace_lines.specs.answers.AnswerText.{out_text}
use Rattle.hp_driver.specs.Subsystem.{IsThere}
use Rattle.driver_laws.specs.answers.Waiting.{all_taken}
use Rattle.script_runs.specs.declared.fault.PlayFault.{PlayFault}
use Rattle.script_runs.specs.declared.fault.PlayFault.TheVariants as faults
use Rattle.script_runs.specs.Ahead.{IsBetween}
use Rattle.script_runs.specs.Stops.{Came, took, TakesRest, StopsAtStore}
use Rattle.event_player.specs.Steps.{Passes, IsCut, IsAhead, PlaysEvent, PlaysDrain, HasDrained}
use Rattle.event_player.specs.Saying.{Side}
use Rattle.event_player.specs.Spots.{Spot, all_for, taking, Keeps, SendsRest}
use Rattle.event_player.specs.Stops.{EventStops, StopsInput, StopsLine, StopsDraining, StopsScript, StopsAtMove, StopsAt, IsNext, Leaves}
use Rattle.event_player.proofs.Contexts.{first_stops, idle_stops, later_stops}
use Rattle.event_player.proofs.Ahead.{nothing_more, between_by, told_more}
use Rattle.event_player.proofs.Wholes.{Whole, whole_run}
use Rattle.event_player.proofs.Draining.{Draining, SoDrained, first_event_ahead}
use Rattle.event_player.proofs.Going.{line_for, inputs_more, drain_first}
use Rattle.script_runs.proofs.LineLaws.{inputs_append, inputs_end}
use Rattle.event_player.proofs.Whole.{PlayedTo, PlaysTo, EndsAt, ends_at}

-- A DRAIN that stops: its first event,
pub first_halts : (line : ℕ) (fault : PlayFault) (input : Input) (old new : Spot) → next_event old.driver.world ≡ Some input → IsThere old.driver.world input → old.driver.world.answers ≡ []
    → EventStops line input fault old new → IsTrue new.packs.tells → StopsInput line says.Drain fault old new
first_halts line fault input old new is there none stops packs script tables first last done said taken less next told =
    first_stops script tables first last done said taken line old less next told fault input new packs is there none stops

pub idle_halts : (line : ℕ) (old new : Spot) → next_event old.driver.world ≡ None → new.packs.held ≡ old.packs.held
    → Passes old.out.took old.lines.took (all_for old.out) (all_for old.lines ++ moment_text (Idle line)) old new → StopsInput line says.Drain faults.Sink old new
idle_halts line old new over same passes script tables first last done said taken less next told =
    idle_stops script tables first last done said taken line old less next told new over same passes

-- the events behind the first one
pub rest_halts : (line : ℕ) (fault : PlayFault) (input : Input) (old mid new : Spot) → IsTrue mid.packs.tells → next_event old.driver.world ≡ Some input → old.driver.world.answers ≡ [] → PlaysEvent line input old mid
    → StopsDraining line fault mid new → StopsInput line says.Drain fault old new
rest_halts line fault input old mid new packs is none plays stops script tables first last done said taken less next told =
    stops script tables first (done ++ line_for line says.Drain ∷ []) next.later said taken
    (record {
      moments = with_call told.moments line says.Drain old.driver.world acts;
      drained = at_mid;
      inputs = next.inputs ∙ sym (append_assoc (inputs_before [] done) (record { line = line; input = says.Drain } ∷ []) next.later)
          ∙ ap (λ (ns : List Numbered). ns ++ next.later) (sym (inputs_more done line says.Drain));
      rule = first_event_ahead script tables first last done line input old mid said taken none packs told.run plays at_mid told.rule;
    })
  where
    acts : List Act
    acts = event_acts line input plays.tried old.driver.world

    goes : HasDrained script tables first (packs_after_all old.driver.world old.packs.held acts) line (done ++ line_for line says.Drain ∷ []) (all_taken (after_all old.driver.world acts)) (with_call told.moments line says.Drain old.driver.world acts)
    goes = drain_first script tables first last line input plays.tried old.packs.held done old.driver.world told.moments less is none plays.may (plays.reads packs) told.run

    at_mid : HasDrained script tables first mid.packs.held line (done ++ line_for line says.Drain ∷ []) mid.driver.world (with_call told.moments line says.Drain old.driver.world acts)
    at_mid =
        subst (λ (held : ℕ → Pack). HasDrained script tables first held line (done ++ line_for line says.Drain ∷ []) mid.driver.world (with_call told.moments line says.Drain old.driver.world acts)) (sym (plays.packs packs))
        (subst (λ (x : World). HasDrained script tables first (packs_after_all old.driver.world old.packs.held acts) line (done ++ line_for line says.Drain ∷ []) x (with_call told.moments line says.Drain old.driver.world acts)) (sym plays.plays.world) goes)

pub draining_halts : (line turn : ℕ) (fault : PlayFault) (input : Input) (old mid new : Spot) → next_event mid.driver.world ≡ Some input → IsThere mid.driver.world input → mid.driver.world.answers ≡ []
    → Draining line turn old mid → EventStops line input fault mid new → IsTrue new.packs.tells → StopsDraining line fault old new
draining_halts line turn fault input old mid new is there none so stops packs script tables first done later said taken told =
    let now : SoDrained script tables first done told.moments line turn old mid = so script tables first done told.moments told.drained in
    later_stops script tables first line done later said taken mid new fault input
    (record { moments = told.moments ++ now.more; drained = now.drained; inputs = told.inputs; rule = now.rule said taken told.rule })
    packs is there none stops

-- THE WHOLE SCRIPT: a line of it,
next_inputs : (s : Script) (done rest : List Line) (number : ℕ) (input : Input) → s.lines ≡ done ++ line_for number input ∷ rest → IsNext s done number input
next_inputs s done rest number input is =
    let end : List Numbered = record { line = s.count + 1; input = says.Drain } ∷ [] in
    record {
      later = inputs_before end rest;
      inputs = ap (inputs_before end) is ∙ inputs_append end done (line_for number input ∷ rest)
          ∙ inputs_end [] (record { line = number; input = input } ∷ inputs_before end rest) done;
    }

module _ (s : Script) (i : ℕ) (line : Line) (fault : PlayFault) (old mid new : Spot) (here : drop i s.lines ≡ line ∷ drop (i + 1) s.lines) where
  line_by : (statement : Statement) → line.statement ≡ statement → StopsLine line.number statement fault mid new → (tables : ℕ → Option Table) → PlayedTo s tables old mid i → StopsAt fault s tables old.packs.held (all_for old.out) (all_for old.lines) new
  line_by (Declares u kind) at stops tables so = absurd stops
  line_by (Plays input) at stops tables so =
      let ahead : AreNumbered so.last s.count (line ∷ drop (i + 1) s.lines) = subst (AreNumbered so.last s.count) here so.ahead in
      let is : line ≡ line_for line.number input = ap (λ (st : Statement). record { number = line.number; statement = st }) at in
      stops s tables old.packs.held so.last (take i s.lines) (all_for old.out) (all_for old.lines) ahead.0
      (next_inputs s (take i s.lines) (drop (i + 1) s.lines) line.number input
      (sym (take-append-drop i s.lines) ∙ ap (λ (xs : List Line). take i s.lines ++ xs) (here ∙ ap (λ (l : Line). l ∷ drop (i + 1) s.lines) is)))
      (record { moments = so.moments; run = so.run; rule = so.rule })

  pub line_halts : PlaysTo s old mid i → StopsLine line.number line.statement fault mid new → (tables : ℕ → Option Table) → StopsScript s tables fault old new
  line_halts before stops tables run = line_by line.statement refl stops tables (before tables run)

-- or the drain behind the last one
pub end_halts : (s : Script) (i number : ℕ) (fault : PlayFault) (old mid new : Spot) → length s.lines ≤ i → number ≡ s.count + 1 → StopsInput number says.Drain fault mid new → PlaysTo s old mid i
    → (tables : ℕ → Option Table) → StopsScript s tables fault old new
end_halts s i number fault old mid new all is stops before tables run =
    let so : PlayedTo s tables old mid i = before tables run in
    let last : so.last ≤ s.count = subst (AreNumbered so.last s.count) (drop_all i s.lines all) so.ahead in
    let end : List Numbered = record { line = s.count + 1; input = says.Drain } ∷ [] in
    subst (λ (k : ℕ). StopsInput k says.Drain fault mid new) is stops s tables old.packs.held so.last (take i s.lines) (all_for old.out) (all_for old.lines) (behind so.last s.count last)
    (record {
      later = [];
      inputs = ap (inputs_before end) (sym (take_all i s.lines all)) ∙ inputs_end [] end (take i s.lines);
    })
    (record { moments = so.moments; run = so.run; rule = so.rule })
  where
    behind : (a b : ℕ) → a ≤ b → a < b + 1
    behind a b le = omega (arith, le)

-- or the last sending
pub sending_halts : (s : Script) (i number : ℕ) (old mid drained new : Spot) → length s.lines ≤ i → number ≡ s.count + 1 → PlaysDrain number mid drained → PlaysTo s old mid i → new.packs.held ≡ drained.packs.held
    → Passes drained.out.took drained.lines.took (all_for drained.out) (all_for drained.lines) drained new → (tables : ℕ → Option Table) → StopsScript s tables faults.Sink old new
sending_halts s i number old mid drained new all is drains before same passes tables run =
    let ends : EndsAt s tables old drained = ends_at s i number old mid drained all is drains before tables run in
    let whole : Whole s tables old.packs.held drained.packs.held ends.moments = whole_run s tables old.packs.held drained.packs.held (s.count + 1) _ drained.driver.world ends.moments ends.run in
    let inputs : inputs_of s ≡ played ends.moments = sym (ends.run.inputs ∙ inputs_append [] s.lines (line_for (s.count + 1) says.Drain ∷ [])) in
    let cut : IsCut s tables old.packs.held ends.moments (all_for old.out) (all_for old.lines) new =
    (nothing_more ends.rule false new (record { sent = λ on. absurd (false≢true on); kept = λ off. passes }) whole.behind same).0 in
    record {
      reached = record {
        sent = cut.sent;
        late = cut.late;
        came = subst (Came s tables old.packs.held) (sym cut.cut)
            (record { later = []; follows = whole.follows; inputs = inputs ∙ sym (append-nil (played ends.moments)) });
        ahead = cut.ahead;
      };
      texts = cut.texts;
      beyond = λ top below tables_below unit. ap (λ (packs : ℕ → Pack). drop (512 * top unit) (packs unit).image) same
          ∙ whole.reach top (subst (AskBelow top (drives_of s)) inputs below) tables_below unit;
    }

-- THE REST is sent where the packs failed,
pub rest_taken : {O : Type 0} (tells : O → Bool) (took_by : O → List ℕ) (faults_of : O → ℕ) (old new : O) (kept : List ℕ) (result : Result (Unit {0}) SinkFailed)
    → Puts tells took_by faults_of old new result kept → TakesRest (took tells took_by faults_of old new) [] kept
rest_taken tells took_by faults_of old new kept (Ok x) puts = record {
  some = λ t. subst (λ (text : List ℕ). IsBetween text (took_by old ++ kept) (took_by new)) (sym (append-nil (took_by old)))
      (subst (IsBetween (took_by old) (took_by old ++ kept)) (sym (puts.bytes t)) (record { least = front_more (took_by old) kept; most = front_same (took_by old ++ kept) }));
  whole = λ never t. puts.bytes t;
}
rest_taken tells took_by faults_of old new kept (Err e) puts = record {
  some = λ t. subst (λ (text : List ℕ). IsBetween text (took_by old ++ kept) (took_by new)) (sym (append-nil (took_by old)))
      (between_by (took_by old) (took_by new) kept (puts.front t));
  whole = λ never t. absurd (never puts.cause.failed);
}

-- behind what was taken before.
rest_on : (start old new : Side) (sent all : List ℕ) → TakesRest (taking old new) [] old.kept → (IsTrue new.tells → IsTrue old.tells) → start.faults ≤ old.faults
    → (IsTrue old.tells → IsFront (start.took ++ sent) old.took × (old.took ++ old.kept ≡ start.took ++ all)) → TakesRest (taking start new) sent all
rest_on start old new sent all rest again less before = record {
  some = λ t. record {
    least = front_of_front (start.took ++ sent) old.took new.took (before (again t)).0 (subst (λ (text : List ℕ). IsFront text new.took) (append-nil old.took) (rest.some t).least);
    most = subst (IsFront new.took) (before (again t)).1 (rest.some t).most;
  };
  whole = λ never t. rest.whole (λ rose. never (rose_more start.faults old.faults new.faults less rose)) t ∙ (before (again t)).1;
}

-- what was sent by the rule is a front of what each sink took
module _ {script : Script} {tables : ℕ → Option Table} {first : ℕ → Pack} {moments : List Moment} {said taken : List ℕ} {now : Spot}
    (rule : IsAhead script tables first moments said taken now) where
  pub sent_lines : IsTrue now.lines.tells → IsFront (taken ++ trace_text rule.at.sent) now.lines.took
  sent_lines t =
      front_of_front (taken ++ trace_text rule.at.sent) (taken ++ trace_text (rule.at.sent ++ rule.at.texts.told)) now.lines.took
      (record {
        rest = trace_text rule.at.texts.told;
        whole = sym (told_more taken (taken ++ trace_text rule.at.sent) ((taken ++ trace_text rule.at.sent) ++ trace_text rule.at.texts.told) rule.at.sent rule.at.texts.told refl refl);
      }) (rule.at.texts.trace t).least

  pub sent_answers : IsTrue now.out.tells → IsFront (said ++ out_text rule.at.sent) now.out.took
  sent_answers t = (rule.at.texts.out t).least

-- THE WHOLE PLAY, from a start on: it stopped, and where the packs failed the rest was sent.
module _ (s : Script) (tables : ℕ → Option Table) (first : ℕ → Pack) (start old new : Spot) (keeps : Keeps start old) where
  store_stops : StopsAtMove s tables first start.out.took start.lines.took old → SendsRest old new
      → StopsAtStore s tables first old.packs.held (taking start.out new.out) (taking start.lines new.lines)
  store_stops e rest = record {
    held = e.held;
    reached = record { sent = e.rule.at.sent; late = e.rule.at.late; came = subst (Came s tables first) (sym e.rule.at.cut) e.came; ahead = e.rule.at.ahead };
    packs = subst (λ (ms : List Moment). (old.packs.held ≡ e.held) ⊎ ((e.rule.at.late ≡ []) × IsTorn (drives_of s) first e.held old.packs.held (after_moments (start_of s tables first) ms)))
        (sym e.rule.at.cut) e.packs;
    beyond = e.beyond;
    lines = subst (λ (ms : List Moment). TakesRest (taking start.lines new.lines) (trace_text e.rule.at.sent) (trace_text ms)) (sym e.rule.at.cut)
        (rest_on start.lines old.lines new.lines (trace_text e.rule.at.sent) (trace_text e.done) rest.lines rest.again_lines keeps.later_lines (λ t. (sent_lines e.rule t, e.rule.trace t)));
    answers = subst (λ (ms : List Moment). TakesRest (taking start.out new.out) (out_text e.rule.at.sent) (out_text ms)) (sym e.rule.at.cut)
        (rest_on start.out old.out new.out (out_text e.rule.at.sent) (out_text e.done) rest.answers rest.again keeps.later_out (λ t. (sent_answers e.rule t, e.rule.out t)));
  }

  pub stopped_leaves : (fault : PlayFault) (call : PackCall) → AreTablesOf (drives_of s) first tables → StopsAt fault s tables first start.out.took start.lines.took old
      → (fault ≡ faults.Store → SendsRest old new) → ((fault ≡ faults.Store → ⊥) → new ≡ old)
      → Leaves fault s first new.packs.held call (taking start.out new.out) (taking start.lines new.lines)
  stopped_leaves faults.Store call read is rest same =
      subst (λ (x : Spot). Leaves faults.Store s first x.packs.held call (taking start.out new.out) (taking start.lines new.lines)) (sym (rest refl).same)
      (inr (record { tables = tables; read = read; stopped = store_stops is (rest refl) }))
  stopped_leaves faults.Sink call read is rest same =
      subst (λ (x : Spot). Leaves faults.Sink s first x.packs.held call (taking start.out x.out) (taking start.lines x.lines)) (sym (same (λ e. cc e)))
      (record { tables = tables; read = read; stopped = is })
  stopped_leaves it call read is rest same = tt
