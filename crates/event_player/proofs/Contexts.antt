-- Where a call begins: at a line of the script, at the line of a drain, and behind an event of a drain.
use Rattle.std.proofs.Common.{◌≡◌, ℕ, ◌<◌, false, IsTrue, List, [], ◌∷◌, ◌++◌, Option, Some, None, refl, sym, ap, subst, ◌∙◌, append-nil, append_assoc}
use Rattle.std.proofs.lemmas.Bool.{false≢true}
use Rattle.pack_geometry.specs.Pack.{Pack}
use Rattle.pack_geometry.specs.TableSpelling.{Table}
use Rattle.trace_replay.specs.requests.Requests.{Request, IsRequest}
use Rattle.trace_replay.specs.Moments.{Moment, Played, Idle}
use Rattle.trace_replay.specs.Script as says
use Rattle.trace_replay.specs.Script.{Script, Input, Line, Numbered}
use Rattle.trace_replay.specs.Replay.{Replay, Follows, after_moments}
use Rattle.trace_replay.specs.Runs.{start_of}
use Rattle.trace_replay.specs.Text.{moment_text}
use Rattle.driver_laws.specs.rules.Drains.{IsOf}
use Rattle.driver_machine.specs.Acts.{Act}
use Rattle.driver_machine.specs.Lines.{lines_of_all}
use Rattle.driver_machine.specs.Events.{submit_acts, event_acts, next_event}
use Rattle.driver_laws.specs.answers.Outcome.{IsFront}
use Rattle.driver_laws.specs.answers.Packs.{packs_after_all}
use Rattle.driver_laws.proofs.answers.Joined.{front_same}
use Rattle.script_runs.specs.StopsPasses.{ShowsAll, with_call}
use Rattle.script_runs.proofs.StopsPasses.{drained_shows, after_parts}
use Rattle.trace_lines.specs.answers.AnswerText.{said_text}
use Rattle.hp_driver.specs.Subsystem.{IsThere}
use Rattle.script_runs.specs.Writing.{WriteNothing}
use Rattle.script_runs.specs.Stops.{StopsAtSink}
use Rattle.script_runs.proofs.StopsEvents.{submissions_write_nothing, empty_drains_write_nothing}
use Rattle.script_runs.specs.declared.fault.PlayFault.{PlayFault}
use Rattle.script_runs.specs.declared.fault.PlayFault.TheVariants as faults
use Rattle.event_player.specs.Spots.{Spot, all_for}
use Rattle.event_player.specs.Steps.{Passes, IsCut, IsAhead}
use Rattle.event_player.specs.Stops.{HasTold, IsNext, HasDrainedTold, EventStops, SubmissionStops, StopsSubmission, StopsAt}
use Rattle.event_player.proofs.Going.{event_goes, submission_goes, drain_empty, drain_first, drain_more}
use Rattle.event_player.proofs.Ahead.{IsOpened, cut_more, opened_ahead, unopened_ahead, rule_opened}
use Rattle.event_player.proofs.Wholes.{Whole, whole_run, whole_drained}
use Rattle.event_player.proofs.Moves.{move_is}
use Rattle.event_player.proofs.Inputs.{with_said, line_quiet}
use Rattle.event_player.proofs.Draining.{first_quiet, later_quiet}
use Rattle.event_player.proofs.Stopping.{Place, EventContext, same_beyond, event_stops, stops_by, acts_stop, front_follows}

-- AT A LINE, behind a run so far that kept the rule
module _ (script : Script) (tables : ℕ → Option Table) (first : ℕ → Pack) (last : ℕ) (done : List Line) (said taken : List ℕ) (line : ℕ) (input : Input) (old : Spot)
    (less : last < line) (next : IsNext script done line input) (told : HasTold script tables first last done said taken old) where
  pub whole : Whole script tables first old.packs.held told.moments
  whole = whole_run script tables first old.packs.held last done old.driver.world told.moments told.run

  -- with what is said as the line is played
  abbrev pub line_place : (now : Spot) → Place script tables first (with_said old now) (Played line input ∷ [])
  line_place now = record {
    done = told.moments;
    later = record { line = line; input = input } ∷ next.later;
    rest = next.later;
    follows = whole.follows;
    behind = whole.behind;
    inputs = next.inputs ∙ ap (λ (ns : List Numbered). ns ++ record { line = line; input = input } ∷ next.later) (sym told.run.inputs);
    opened = refl;
    declared = told.run.kept.units;
    shows = told.run.so_far.left.stands.shows;
    reach = told.run.reach;
  }

  pub line_event : (now : Spot) → IsOpened line input old (with_said old now) → IsThere old.driver.world input → old.driver.world.answers ≡ []
      → EventContext script tables first said taken (with_said old now) (Played line input ∷ []) line input
  line_event now opened there none = record {
    ctx = line_place now;
    rule = opened_ahead line input (with_said old now) told.rule opened;
    before = λ moves. unopened_ahead line input (with_said old now) told.rule (ap (λ (i : Input). said_text (Played line i)) (move_is input moves).1) opened;
    sound = told.run.so_far.left.stands.sound;
    goes = λ tried may reads. whole_run script tables first (packs_after_all old.driver.world old.packs.held (event_acts line input tried old.driver.world)) line _ _ _
        (event_goes script tables first last line input tried old.packs.held done old.driver.world told.moments less there none may reads told.run);
    quiet = λ tried acts rest all off. line_quiet line input old.driver.world tried acts rest told.run all off;
  }

  -- an event at the line
  pub line_stops : (fault : PlayFault) (now new : Spot) → IsTrue new.packs.tells → IsOpened line input old (with_said old now)
      → IsThere old.driver.world input → old.driver.world.answers ≡ [] → EventStops line input fault (with_said old now) new → StopsAt fault script tables first said taken new
  line_stops fault now new packs opened there none stops = event_stops (line_event now opened there none) new packs fault there stops

  -- where a sink failed before the event: a front of what is said as the line is played was to go out
  pub opening_stops : (new : Spot) → Follows (start_of script tables first) (told.moments ++ Played line input ∷ []) → new.packs.held ≡ old.packs.held
      → Passes old.out.took old.lines.took (all_for old.out ++ said_text (Played line input)) (all_for old.lines) old new
      → StopsAtSink script tables first new.packs.held new.out.tells said new.out.took new.lines.tells taken new.lines.took
  opening_stops new follows same passes =
      stops_by (line_place old) [] new refl follows
      (subst (λ (ms : List Moment). IsCut script tables first ms said taken new) (sym (append-nil (told.moments ++ Played line input ∷ [])))
      (cut_more told.rule false (all_for old.out ++ said_text (Played line input)) (all_for old.lines) (Played line input ∷ []) new
      (record { sent = λ on. absurd (false≢true on); kept = λ off. passes }) (λ off. (same, (refl, tt))) (λ on. absurd (false≢true on))
      (λ tells. subst (λ (text : List ℕ). IsFront (all_for old.out ++ said_text (Played line input)) (all_for old.out ++ text)) (sym (append-nil (said_text (Played line input))))
      (front_same (all_for old.out ++ said_text (Played line input))))
      (λ tells. sym (append-nil (all_for old.lines)))))
      (same_beyond (line_place old) new.packs.held same)

-- A SUBMISSION
module _ (script : Script) (tables : ℕ → Option Table) (first : ℕ → Pack) (last : ℕ) (done : List Line) (said taken : List ℕ) (line : ℕ) (r : Request) (old new : Spot)
    (less : last < line) (next : IsNext script done line (says.Submit r)) (told : HasTold script tables first last done said taken old)
    (none : old.driver.world.answers ≡ []) (is : IsRequest r) (of : IsOf (start_of script tables first).there (says.Submit r)) where
  submission_sink : StopsSubmission line r old new → StopsAtSink script tables first new.packs.held new.out.tells said new.out.took new.lines.tells taken new.lines.took
  submission_sink e =
      let acts : List Act = submit_acts r line e.slot e.held old.driver.world in
      let place : Place script tables first old (Played line (says.Submit r) ∷ []) = line_place script tables first last done said taken line (says.Submit r) old less next told old in
      let follows : Follows (start_of script tables first) (with_call told.moments line (says.Submit r) old.driver.world acts) =
      (submission_goes script tables first last line e.slot r e.held old.packs.held done old.driver.world told.moments less none e.may e.is is.some of told.run).so_far.follows in
      acts_stop place false acts new e.stops (opened_ahead line (says.Submit r) old told.rule (rule_opened told.rule line (says.Submit r) refl))
      (front_follows place acts e.stops.done e.stops.left e.stops.all follows)
      (λ off. (
        e.same,
        subst (λ (s : Replay). WriteNothing s (lines_of_all old.driver.world e.stops.done)) (sym (after_parts (start_of script tables first) told.moments (Played line (says.Submit r) ∷ [])))
            (submissions_write_nothing (after_moments (start_of script tables first) told.moments) old.driver.world line e.slot r e.held e.stops.done e.stops.left e.stops.all).1,
      ))
      (λ on. absurd (false≢true on)) (same_beyond place new.packs.held e.same)

  pub submission_stops : (fault : PlayFault) → SubmissionStops line r fault old new → StopsAt fault script tables first said taken new
  submission_stops faults.Sink e = submission_sink e
  submission_stops other e = absurd e

-- THE LINE OF A DRAIN: its first event,
module _ (script : Script) (tables : ℕ → Option Table) (first : ℕ → Pack) (last : ℕ) (done : List Line) (said taken : List ℕ) (line : ℕ) (old : Spot)
    (less : last < line) (next : IsNext script done line says.Drain) (told : HasTold script tables first last done said taken old) where
  abbrev drain_place : Place script tables first old (Played line says.Drain ∷ [])
  drain_place = line_place script tables first last done said taken line says.Drain old less next told old

  abbrev at_drain : Replay
  at_drain = after_moments (start_of script tables first) told.moments

  pub first_stops : (fault : PlayFault) (input : Input) (new : Spot) → IsTrue new.packs.tells → next_event old.driver.world ≡ Some input → IsThere old.driver.world input → old.driver.world.answers ≡ []
      → EventStops line input fault old new → StopsAt fault script tables first said taken new
  first_stops fault input new packs is there none stops = event_stops {line = line} {input = input} at new packs fault there stops
    where
      at : EventContext script tables first said taken old (Played line says.Drain ∷ []) line input
      at = record {
        ctx = drain_place;
        rule = opened_ahead line says.Drain old told.rule (rule_opened told.rule line says.Drain refl);
        before = λ moves. told.rule;
        sound = told.run.so_far.left.stands.sound;
        goes = λ tried may reads. whole_drained script tables first (packs_after_all old.driver.world old.packs.held (event_acts line input tried old.driver.world)) line _ _ _
            (drain_first script tables first last line input tried old.packs.held done old.driver.world told.moments less is none may reads told.run);
        quiet = λ tried acts rest all off. first_quiet line input old.driver.world tried acts rest told.run all off;
      }

  -- or its idle line, where it finds nothing
  pub idle_stops : (new : Spot) → next_event old.driver.world ≡ None → new.packs.held ≡ old.packs.held
      → Passes old.out.took old.lines.took (all_for old.out) (all_for old.lines ++ moment_text (Idle line)) old new
      → StopsAtSink script tables first new.packs.held new.out.tells said new.out.took new.lines.tells taken new.lines.took
  idle_stops new over same passes =
      let follows : Follows (start_of script tables first) (told.moments ++ Played line says.Drain ∷ Idle line ∷ []) =
      (drain_empty script tables first last line old.packs.held done old.driver.world told.moments less over told.run).so_far.follows in
      stops_by drain_place (Idle line ∷ []) new refl follows
      (subst (λ (ms : List Moment). IsCut script tables first ms said taken new) (sym (append_assoc told.moments (Played line says.Drain ∷ []) (Idle line ∷ [])))
      (cut_more told.rule false (all_for old.out) (all_for old.lines ++ moment_text (Idle line)) (Played line says.Drain ∷ Idle line ∷ []) new
      (record { sent = λ on. absurd (false≢true on); kept = λ off. passes })
      (λ off. (same, empty_drains_write_nothing at_drain old.driver.world line)) (λ on. absurd (false≢true on))
      (λ tells. subst (IsFront (all_for old.out)) (sym (append-nil (all_for old.out))) (front_same (all_for old.out)))
      (λ tells. ap (λ (xs : List ℕ). all_for old.lines ++ xs) (sym (append-nil (moment_text (Idle line)))))))
      (same_beyond drain_place new.packs.held same)

-- BEHIND AN EVENT OF A DRAIN
pub later_stops : (script : Script) (tables : ℕ → Option Table) (first : ℕ → Pack) (line : ℕ) (done : List Line) (later : List Numbered) (said taken : List ℕ) (now new : Spot) (fault : PlayFault) (input : Input)
    → HasDrainedTold script tables first line done later said taken now → IsTrue new.packs.tells
    → next_event now.driver.world ≡ Some input → IsThere now.driver.world input → now.driver.world.answers ≡ [] → EventStops line input fault now new
    → StopsAt fault script tables first said taken new
later_stops script tables first line done later said taken now new fault input told packs is there none stops =
    event_stops {line = line} {input = input} at new packs fault there stops
  where
    whole : Whole script tables first now.packs.held told.moments
    whole = whole_drained script tables first now.packs.held line done now.driver.world told.moments told.drained

    at : EventContext script tables first said taken now [] line input
    at = record {
      ctx = record {
        done = told.moments;
        later = later;
        rest = later;
        follows = whole.follows;
        behind = whole.behind;
        inputs = told.inputs ∙ ap (λ (ns : List Numbered). ns ++ later) (sym told.drained.inputs);
        opened = refl;
        declared = told.drained.kept.units;
        reach = told.drained.reach;
        shows = subst (ShowsAll now.driver.world) (sym told.drained.draining.ends.is) (drained_shows now.driver.world told.drained.draining.ends.last told.drained.draining.ends.over.rests.shows);
      };
      rule = subst (λ (ms : List Moment). IsAhead script tables first ms said taken now) (sym (append-nil told.moments)) told.rule;
      before = λ moves. told.rule;
      sound = told.drained.draining.ends.over.rests.sound;
      goes = λ tried may reads. whole_drained script tables first (packs_after_all now.driver.world now.packs.held (event_acts line input tried now.driver.world)) line _ _ _
          (drain_more script tables first line input tried now.packs.held done now.driver.world told.moments is none may reads told.drained);
      quiet = λ tried acts rest all off. subst (λ (ms : List Moment). WriteNothing (after_moments (start_of script tables first) ms) (lines_of_all now.driver.world acts)) (sym (append-nil told.moments))
          (later_quiet line input now.driver.world tried acts rest told.drained all off);
    }
