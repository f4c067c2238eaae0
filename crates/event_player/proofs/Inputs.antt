-- What a line of the script does is that its input is played, behind any run so far.
use Rattle.std.proofs.Common.{◌≡◌, ℕ, false, IsTrue, List, [], ◌∷◌, ◌++◌, Option, refl, sym, ap, subst, ◌∙◌, append-nil, append_assoc}
use Rattle.std.specs.List.{flat_map}
use Rattle.std.proofs.lemmas.Bool.{false≢true}
use Rattle.pack_geometry.specs.Pack.{Pack}
use Rattle.pack_geometry.specs.TableSpelling.{Table}
use Rattle.trace_replay.specs.requests.Requests.{Request, IsRequest}
use Rattle.trace_replay.specs.Moments.{Moment, Answered, Played, answers_in}
use Rattle.trace_replay.specs.Script as says
use Rattle.trace_replay.specs.Script.{Script, Input, Line}
use Rattle.trace_replay.specs.Replay.{Replay, after_moments}
use Rattle.trace_replay.specs.Runs.{start_of}
use Rattle.driver_laws.specs.rules.Drains.{IsOf}
use Rattle.driver_machine.specs.World.{World}
use Rattle.driver_machine.specs.Acts.{Act, Tried, after_all}
use Rattle.driver_machine.specs.Lines.{lines_of_all}
use Rattle.driver_machine.specs.Events.{submit_acts, event_acts}
use Rattle.driver_laws.specs.answers.Packs.{packs_after_all}
use Rattle.driver_laws.specs.answers.Outcome.{IsFront}
use Rattle.script_runs.specs.StopsPasses.{with_call}
use Rattle.script_runs.proofs.StopsPasses.{lines_play_nothing, after_parts}
use Rattle.driver_laws.specs.answers.Waiting.{waiting, all_taken}
use Rattle.driver_laws.proofs.answers.Waiting.{events_alone, submissions_alone}
use Rattle.trace_lines.specs.answers.AnswerText.{answer_text, said_text, out_text}
use Rattle.trace_lines.specs.answers.Counting.{Counts, CountsAll}
use Rattle.trace_lines.proofs.answers.CountLaws.{counts_none, counts_both, counts_same}
use Rattle.hp_driver.specs.Subsystem.{IsThere, writes_by}
use Rattle.script_runs.specs.Writing.{WriteNothing}
use Rattle.script_runs.specs.Ahead.{AreBehind}
use Rattle.script_runs.proofs.StopsEvents.{events_write_nothing, submissions_write_nothing}
use Rattle.driver_laws.proofs.answers.Taking.{none_waits}
use Rattle.event_player.specs.Playing.{HasRun}
use Rattle.event_player.specs.Spots.{Spot, all_for}
use Rattle.event_player.specs.Steps.{PlaysActs, PlaysEvent, PlaysSubmission, PlaysInput, IsAhead, waiting_text}
use Rattle.event_player.proofs.Texts.{said_lines}
use Rattle.event_player.proofs.Ahead.{ahead_more, IsOpened, opened_ahead, stays_opened}
use Rattle.event_player.proofs.Moves.{one_of, writes_move}
use Rattle.event_player.proofs.Wholes.{whole_run}
use Rattle.event_player.proofs.Going.{line_for, event_goes, submission_goes}

-- THE TEXT of the answers that wait behind acts is that of their lines.
pub waiting_said : (w : World) (acts : List Act) → waiting (after_all w acts) ≡ answers_in (lines_of_all w acts)
    → waiting_text (after_all w acts) ≡ out_text (lines_of_all w acts)
waiting_said w acts is =
    ap (λ (answers : List Answered). flat_map answer_text answers) is ∙ sym (said_lines (lines_of_all w acts) (lines_play_nothing [] w acts))

pub event_said : (line : ℕ) (input : Input) (old new : Spot) → old.driver.world.answers ≡ [] → (plays : PlaysEvent line input old new)
    → waiting_text (after_all old.driver.world (event_acts line input plays.tried old.driver.world)) ≡ out_text (lines_of_all old.driver.world (event_acts line input plays.tried old.driver.world))
event_said line input old new none plays =
    waiting_said old.driver.world (event_acts line input plays.tried old.driver.world)
    (events_alone old.driver.world line input plays.tried plays.plays.sound plays.plays.work plays.may none)

-- and they are counted as those of these lines.
pub event_counted : (line : ℕ) (input : Input) (old new : Spot) → old.driver.world.answers ≡ [] → (plays : PlaysEvent line input old new)
    → CountsAll (lines_of_all old.driver.world (event_acts line input plays.tried old.driver.world)) old.tally new.tally
event_counted line input old new none plays =
    let acts : List Act = event_acts line input plays.tried old.driver.world in
    counts_same old.tally new.tally (waiting (after_all old.driver.world acts)) (answers_in (lines_of_all old.driver.world acts)) (waiting_text (after_all old.driver.world acts)) (out_text (lines_of_all old.driver.world acts))
    plays.plays.tally (events_alone old.driver.world line input plays.tried plays.plays.sound plays.plays.work plays.may none) (event_said line input old new none plays)

-- No answer waits behind it.
pub plays_none : {acts : List Act} {old new : Spot} → PlaysActs acts old new → new.driver.world.answers ≡ []
plays_none {acts} {old} {new} plays = ap (λ (w : World). w.answers) plays.world ∙ none_waits (after_all old.driver.world acts)

-- THE RULE is kept by an event.
pub event_ahead : {script : Script} {tables : ℕ → Option Table} {first : ℕ → Pack} {moments : List Moment} {said taken : List ℕ} (line : ℕ) (input : Input) (now new : Spot)
    → now.driver.world.answers ≡ [] → IsTrue new.packs.tells → (plays : PlaysEvent line input now new)
    → (writes_by now.driver.world input ≡ false → WriteNothing (after_moments (start_of script tables first) moments) (lines_of_all now.driver.world (event_acts line input plays.tried now.driver.world)))
    → AreBehind script tables first new.packs.held (moments ++ lines_of_all now.driver.world (event_acts line input plays.tried now.driver.world))
    → IsAhead script tables first moments said taken now
    → IsAhead script tables first (moments ++ lines_of_all now.driver.world (event_acts line input plays.tried now.driver.world)) said taken new
event_ahead line input now new none told plays quiet behind rule =
    ahead_more rule (writes_by now.driver.world input) (lines_of_all now.driver.world (event_acts line input plays.tried now.driver.world)) new plays.passes
    (λ off. (plays.leaves off told, quiet off))
    (λ on. (one_of line input plays.tried now.driver.world (writes_move now.driver.world input on), behind))
    (λ tells. plays.plays.out tells ∙ ap (λ (xs : List ℕ). all_for now.out ++ xs) (event_said line input now new none plays))
    plays.plays.trace

-- behind the line of the script at which it begins
pub line_quiet : {script : Script} {tables : ℕ → Option Table} {first held : ℕ → Pack} {last : ℕ} {done : List Line} {moments : List Moment} (line : ℕ) (input : Input) (w : World) (tried : Tried) (acts rest : List Act)
    → HasRun script tables first held last done w moments → event_acts line input tried w ≡ acts ++ rest → writes_by w input ≡ false
    → WriteNothing (after_moments (start_of script tables first) (moments ++ Played line input ∷ [])) (lines_of_all w acts)
line_quiet {script} {tables} {first} {held} {last} {done} {moments} line input w tried acts rest run all off =
    subst (λ (s : Replay). WriteNothing s (lines_of_all w acts)) (sym (after_parts (start_of script tables first) moments (Played line input ∷ [])))
    (events_write_nothing (after_moments (start_of script tables first) moments) w line input tried acts rest run.so_far.left.stands.sound run.so_far.left.stands.shows off all).1

-- A PLACE at which perhaps something was said, sent and counted
abbrev pub with_said : Spot → Spot → Spot
with_said old now = record old { out = now.out; lines = now.lines; tally = now.tally }

-- AN EVENT, before which perhaps something is said
pub plays_event : (line : ℕ) (input : Input) (old now new : Spot) → IsTrue new.packs.tells → IsThere old.driver.world input → old.driver.world.answers ≡ []
    → IsOpened line input old (with_said old now) → Counts [] (said_text (Played line input)) old.tally now.tally
    → PlaysEvent line input (with_said old now) new → PlaysInput line input old new
plays_event line input old now new told there none opened counts plays script tables first last done moments less run =
    let w : World = old.driver.world in
    let acts : List Act = event_acts line input plays.tried w in
    let goes : HasRun script tables first (packs_after_all w old.packs.held acts) line (done ++ line_for line input ∷ []) (all_taken (after_all w acts)) (with_call moments line input w acts) =
    event_goes script tables first last line input plays.tried old.packs.held done w moments less there none plays.may (plays.reads told) run in
    let at_new : HasRun script tables first new.packs.held line (done ++ line_for line input ∷ []) new.driver.world (with_call moments line input w acts) =
    subst (λ (held : ℕ → Pack). HasRun script tables first held line (done ++ line_for line input ∷ []) new.driver.world (with_call moments line input w acts)) (sym (plays.packs told))
    (subst (λ (x : World). HasRun script tables first (packs_after_all w old.packs.held acts) line (done ++ line_for line input ∷ []) x (with_call moments line input w acts)) (sym plays.plays.world) goes) in
    let whole : (moments ++ Played line input ∷ []) ++ lines_of_all w acts ≡ with_call moments line input w acts = append_assoc moments (Played line input ∷ []) (lines_of_all w acts) in
    record {
      more = Played line input ∷ lines_of_all w acts;
      run = at_new;
      rule = λ said taken rule. subst (λ (ms : List Moment). IsAhead script tables first ms said taken new) whole
          (event_ahead line input (with_said old now) new none told plays (line_quiet line input w plays.tried acts [] run (sym (append-nil acts)))
          (subst (AreBehind script tables first new.packs.held) (sym whole) (whole_run script tables first new.packs.held line (done ++ line_for line input ∷ []) new.driver.world (with_call moments line input w acts) at_new).behind)
          (opened_ahead line input (with_said old now) rule opened));
      tally = counts_both old.tally now.tally new.tally [] (answers_in (lines_of_all w acts)) (said_text (Played line input)) (out_text (lines_of_all w acts)) counts
          (event_counted line input (with_said old now) new none plays);
    }

-- where nothing is said before it
pub plays_silent : (line : ℕ) (input : Input) (old new : Spot) → IsTrue new.packs.tells → IsThere old.driver.world input → old.driver.world.answers ≡ []
    → IsFront old.out.took (all_for old.out) → IsFront old.lines.took (all_for old.lines) → said_text (Played line input) ≡ [] → PlaysEvent line input old new → PlaysInput line input old new
plays_silent line input old new told there none kept kept_lines silent plays =
    plays_event line input old old new told there none (stays_opened line input old silent (λ tells. kept) (λ tells. kept_lines))
    (counts_same old.tally old.tally [] [] [] (said_text (Played line input)) (counts_none old.tally old.tally refl) refl (sym silent)) plays

-- A SUBMISSION of a request to a unit that is there
pub plays_submission : (line : ℕ) (r : Request) (old new : Spot) → old.driver.world.answers ≡ [] → IsRequest r
    → ((script : Script) (tables : ℕ → Option Table) (first : ℕ → Pack) (last : ℕ) (done : List Line) (moments : List Moment)
    → HasRun script tables first old.packs.held last done old.driver.world moments → IsOf (start_of script tables first).there (says.Submit r))
    → PlaysSubmission line r old new → PlaysInput line (says.Submit r) old new
plays_submission line r old new none is of plays script tables first last done moments less run =
    let w : World = old.driver.world in
    let acts : List Act = submit_acts r line plays.slot plays.held w in
    let goes : HasRun script tables first (packs_after_all w old.packs.held acts) line (done ++ line_for line (says.Submit r) ∷ []) (all_taken (after_all w acts)) (with_call moments line (says.Submit r) w acts) =
    submission_goes script tables first last line plays.slot r plays.held old.packs.held done w moments less none plays.may plays.is is.some (of script tables first last done moments run) run in
    let alone : waiting (after_all w acts) ≡ answers_in (lines_of_all w acts) = submissions_alone w line plays.slot r plays.held plays.plays.sound plays.plays.work plays.may in
    let said : waiting_text (after_all w acts) ≡ out_text (lines_of_all w acts) = waiting_said w acts alone in
    record {
      more = Played line (says.Submit r) ∷ lines_of_all w acts;
      run = subst (λ (held : ℕ → Pack). HasRun script tables first held line (done ++ line_for line (says.Submit r) ∷ []) new.driver.world (with_call moments line (says.Submit r) w acts)) (sym (plays.packs))
          (subst (λ (x : World). HasRun script tables first (packs_after_all w old.packs.held acts) line (done ++ line_for line (says.Submit r) ∷ []) x (with_call moments line (says.Submit r) w acts)) (sym plays.plays.world) goes);
      rule = λ taken_said taken_told rule. ahead_more rule false (Played line (says.Submit r) ∷ lines_of_all w acts) new (record { sent = λ is. absurd (false≢true is); kept = λ is. plays.passes })
          (λ is. (plays.same, submissions_write_nothing (after_moments (start_of script tables first) moments) w line plays.slot r plays.held acts [] (sym (append-nil acts))))
          (λ is. absurd (false≢true is))
          (λ t. plays.plays.out t ∙ ap (λ (xs : List ℕ). all_for old.out ++ xs) said) plays.plays.trace;
      tally = counts_same old.tally new.tally (waiting (after_all w acts)) (answers_in (lines_of_all w acts)) (waiting_text (after_all w acts)) (out_text (lines_of_all w acts))
          plays.plays.tally alone said;
    }
