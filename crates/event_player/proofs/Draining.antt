-- A drain, event by event.
use Rattle.std.proofs.Common.{◌≡◌, ℕ, ◌+◌, ◌-◌, ◌*◌, ◌^◌, ◌<◌, ◌≤◌, false, IsTrue, List, [], ◌∷◌, ◌++◌, length, Option, Some, None, refl, sym, ap, subst, arith, ◌∙◌, append-nil, append_assoc}
use Rattle.std.proofs.lemmas.Bool.{false≢true}
use Rattle.pack_geometry.specs.Pack.{Pack}
use Rattle.pack_geometry.specs.TableSpelling.{Table}
use Rattle.trace_replay.specs.Moments.{Moment, Played, Idle}
use Rattle.trace_replay.specs.Script as says
use Rattle.trace_replay.specs.Script.{Script, Input, Line}
use Rattle.trace_replay.specs.Text.{moment_text}
use Rattle.trace_replay.specs.Replay.{Replay, after_moments}
use Rattle.trace_replay.specs.Runs.{start_of}
use Rattle.driver_laws.specs.rules.Measure.{events_left, blocks_outstanding}
use Rattle.driver_machine.specs.World.{World}
use Rattle.driver_machine.specs.Acts.{Act, Nothing, Tried, after_all}
use Rattle.driver_machine.specs.Lines.{lines_of_all}
use Rattle.driver_machine.specs.Events.{event_acts, next_event}
use Rattle.driver_laws.specs.answers.Packs.{packs_after_all}
use Rattle.script_runs.specs.StopsPasses.{with_call, ShowsAll}
use Rattle.script_runs.proofs.StopsPasses.{drained_shows, after_parts}
use Rattle.trace_lines.specs.answers.Counting.{CountsAll}
use Rattle.trace_lines.proofs.answers.CountLaws.{counts_none, counts_more}
use Rattle.driver_laws.specs.answers.Waiting.{all_taken}
use Rattle.hp_driver.specs.Subsystem.{writes_by}
use Rattle.script_runs.specs.Writing.{WriteNothing}
use Rattle.script_runs.specs.Ahead.{AreBehind}
use Rattle.script_runs.proofs.StopsEvents.{first_events_write_nothing, later_events_write_nothing, empty_drains_write_nothing}
use Rattle.event_player.specs.Playing.{HasRun}
use Rattle.event_player.specs.Spots.{Spot, all_for}
use Rattle.event_player.specs.Steps.{Passes, IsAhead, KeepsAhead, PlaysEvent, HasDrained, EndsDraining, GoesOnDraining, PlaysDrain}
use Rattle.event_player.proofs.Bounds.{blocks_few}
use Rattle.event_player.proofs.Going.{line_for, drain_empty, drain_first, drain_first_falls, drain_more, drain_more_falls, drain_over}
use Rattle.event_player.proofs.Ahead.{ahead_more, opened_ahead, rule_opened}
use Rattle.event_player.proofs.Wholes.{whole_drained}
use Rattle.event_player.proofs.Inputs.{event_ahead, event_counted}

-- HOW FAR A DRAIN IS, so many turns behind its first event: fewer event lines are left with each.
pub record SoDrained (script : Script) (tables : ℕ → Option Table) (first : ℕ → Pack) (done : List Line) (moments : List Moment) (line turn : ℕ) (old now : Spot) : Type 0 where
  pub more : List Moment
  pub drained : HasDrained script tables first now.packs.held line done now.driver.world (moments ++ more)
  pub left : turn + events_left (after_moments (start_of script tables first) (moments ++ more)) ≤ events_left (after_moments (start_of script tables first) moments)
  pub rule : KeepsAhead script tables first moments more old now
  pub tally : CountsAll more old.tally now.tally

abbrev pub Draining : ℕ → ℕ → Spot → Spot → Type 0
Draining line turn old now = (script : Script) (tables : ℕ → Option Table) (first : ℕ → Pack) (done : List Line) (moments : List Moment)
    → HasDrained script tables first old.packs.held line done old.driver.world moments → SoDrained script tables first done moments line turn old now

pub draining_starts : (line : ℕ) (old : Spot) → Draining line 0 old old
draining_starts line old script tables first done moments run =
    let none : moments ++ [] ≡ moments = append-nil moments in
    let same : events_left (after_moments (start_of script tables first) (moments ++ [])) ≡ events_left (after_moments (start_of script tables first) moments) =
    ap (λ (ms : List Moment). events_left (after_moments (start_of script tables first) ms)) none in
    record {
      more = [];
      drained = subst (HasDrained script tables first old.packs.held line done old.driver.world) (sym none) run;
      left = begins (events_left (after_moments (start_of script tables first) (moments ++ []))) (events_left (after_moments (start_of script tables first) moments)) same;
      rule = λ said taken rule. subst (λ (ms : List Moment). IsAhead script tables first ms said taken old) (sym none) rule;
      tally = counts_none old.tally old.tally refl;
    }
  where
    begins : (a b : ℕ) → a ≡ b → 0 + a ≤ b
    begins a b is = omega (arith, is)

-- ONE MORE EVENT
pub first_quiet : {script : Script} {tables : ℕ → Option Table} {first held : ℕ → Pack} {last : ℕ} {done : List Line} {moments : List Moment} (line : ℕ) (input : Input) (w : World) (tried : Tried) (acts rest : List Act)
    → HasRun script tables first held last done w moments → event_acts line input tried w ≡ acts ++ rest → writes_by w input ≡ false
    → WriteNothing (after_moments (start_of script tables first) (moments ++ Played line says.Drain ∷ [])) (lines_of_all w acts)
first_quiet {script} {tables} {first} {held} {last} {done} {moments} line input w tried acts rest run all off =
    subst (λ (s : Replay). WriteNothing s (lines_of_all w acts)) (sym (after_parts (start_of script tables first) moments (Played line says.Drain ∷ [])))
    (first_events_write_nothing (after_moments (start_of script tables first) moments) w line input tried acts rest run.so_far.left.stands.sound run.so_far.left.stands.shows off all).1

pub later_quiet : {script : Script} {tables : ℕ → Option Table} {first held : ℕ → Pack} {done : List Line} {moments : List Moment} (line : ℕ) (input : Input) (w : World) (tried : Tried) (acts rest : List Act)
    → HasDrained script tables first held line done w moments → event_acts line input tried w ≡ acts ++ rest → writes_by w input ≡ false
    → WriteNothing (after_moments (start_of script tables first) moments) (lines_of_all w acts)
later_quiet {script} {tables} {first} {held} {done} {moments} line input w tried acts rest run all off =
    later_events_write_nothing (after_moments (start_of script tables first) moments) w line input tried acts rest run.draining.ends.over.rests.sound
    (subst (ShowsAll w) (sym run.draining.ends.is) (drained_shows w run.draining.ends.last run.draining.ends.over.rests.shows)) off all

pub draining_next : (line turn : ℕ) (input : Input) (old mid new : Spot) → IsTrue new.packs.tells → next_event mid.driver.world ≡ Some input → mid.driver.world.answers ≡ [] → PlaysEvent line input mid new
    → Draining line turn old mid → Draining line (turn + 1) old new
draining_next line turn input old mid new told is none plays before script tables first done moments run =
    let so : SoDrained script tables first done moments line turn old mid = before script tables first done moments run in
    let w : World = mid.driver.world in
    let acts : List Act = event_acts line input plays.tried w in
    let whole : (moments ++ so.more) ++ lines_of_all w acts ≡ moments ++ (so.more ++ lines_of_all w acts) = append_assoc moments so.more (lines_of_all w acts) in
    let goes : HasDrained script tables first (packs_after_all w mid.packs.held acts) line done (all_taken (after_all w acts)) ((moments ++ so.more) ++ lines_of_all w acts) =
    drain_more script tables first line input plays.tried mid.packs.held done w (moments ++ so.more) is none plays.may (plays.reads told) so.drained in
    let falls : events_left (after_moments (start_of script tables first) ((moments ++ so.more) ++ lines_of_all w acts)) < events_left (after_moments (start_of script tables first) (moments ++ so.more)) =
    drain_more_falls script tables first line input plays.tried mid.packs.held done w (moments ++ so.more) is plays.may (plays.reads told) so.drained in
    let at_new : HasDrained script tables first new.packs.held line done new.driver.world ((moments ++ so.more) ++ lines_of_all w acts) =
    subst (λ (held : ℕ → Pack). HasDrained script tables first held line done new.driver.world ((moments ++ so.more) ++ lines_of_all w acts)) (sym (plays.packs told))
    (subst (λ (x : World). HasDrained script tables first (packs_after_all w mid.packs.held acts) line done x ((moments ++ so.more) ++ lines_of_all w acts)) (sym plays.plays.world) goes) in
    record {
      more = so.more ++ lines_of_all w acts;
      drained = subst (HasDrained script tables first new.packs.held line done new.driver.world) whole at_new;
      left = subst (λ (ms : List Moment). (turn + 1) + events_left (after_moments (start_of script tables first) ms) ≤ events_left (after_moments (start_of script tables first) moments)) whole
          (one_more turn (events_left (after_moments (start_of script tables first) ((moments ++ so.more) ++ lines_of_all w acts)))
          (events_left (after_moments (start_of script tables first) (moments ++ so.more))) (events_left (after_moments (start_of script tables first) moments)) falls so.left);
      rule = λ said taken rule. subst (λ (ms : List Moment). IsAhead script tables first ms said taken new) whole
          (event_ahead line input mid new none told plays (later_quiet line input w plays.tried acts [] so.drained (sym (append-nil acts)))
          (whole_drained script tables first new.packs.held line done new.driver.world ((moments ++ so.more) ++ lines_of_all w acts) at_new).behind (so.rule said taken rule));
      tally = counts_more old.tally mid.tally new.tally so.more (lines_of_all w acts) so.tally (event_counted line input mid new none plays);
    }
  where
    one_more : (turn after before all : ℕ) → after < before → turn + before ≤ all → (turn + 1) + after ≤ all
    one_more turn after before all fewer left = omega (arith, fewer, left)

-- THE END, where no event can come; and so many turns are never taken.
pub draining_over : (line turn : ℕ) (old now : Spot) → next_event now.driver.world ≡ None → Draining line turn old now → GoesOnDraining line old now
draining_over line turn old now over before script tables first done moments few run =
    let so : SoDrained script tables first done moments line turn old now = before script tables first done moments run in
    record {
      more = so.more;
      run = drain_over script tables first line now.packs.held done now.driver.world (moments ++ so.more) over so.drained;
      over = over;
      rule = so.rule;
      tally = so.tally;
    }

pub draining_never : (line turn : ℕ) (old now : Spot) → 2 ^ 64 - 1 ≤ turn → Draining line turn old now → GoesOnDraining line old now
draining_never line turn old now far before script tables first done moments few run =
    let so : SoDrained script tables first done moments line turn old now = before script tables first done moments run in
    absurd (never turn (events_left (after_moments (start_of script tables first) (moments ++ so.more))) (events_left (after_moments (start_of script tables first) moments)) (2 ^ 64 - 1) far few so.left)
  where
    never : (turn after before bound : ℕ) → bound ≤ turn → before < bound → turn + after ≤ before → ⊥
    never turn after before bound far few left = omega (arith, far, few, left)

-- THE RULE behind the first event of a drain
pub first_event_ahead : (script : Script) (tables : ℕ → Option Table) (first : ℕ → Pack) (last : ℕ) (done : List Line) (line : ℕ) (input : Input) (old mid : Spot) (said taken : List ℕ) {moments : List Moment}
    → old.driver.world.answers ≡ [] → IsTrue mid.packs.tells → HasRun script tables first old.packs.held last done old.driver.world moments → (plays : PlaysEvent line input old mid)
    → HasDrained script tables first mid.packs.held line (done ++ line_for line says.Drain ∷ []) mid.driver.world (with_call moments line says.Drain old.driver.world (event_acts line input plays.tried old.driver.world))
    → IsAhead script tables first moments said taken old
    → IsAhead script tables first (with_call moments line says.Drain old.driver.world (event_acts line input plays.tried old.driver.world)) said taken mid
first_event_ahead script tables first last done line input old mid said taken {moments} none told run plays at_mid rule =
    let w : World = old.driver.world in
    let acts : List Act = event_acts line input plays.tried w in
    let whole : (moments ++ Played line says.Drain ∷ []) ++ lines_of_all w acts ≡ with_call moments line says.Drain w acts = append_assoc moments (Played line says.Drain ∷ []) (lines_of_all w acts) in
    subst (λ (ms : List Moment). IsAhead script tables first ms said taken mid) whole
    (event_ahead line input old mid none told plays (first_quiet line input w plays.tried acts [] run (sym (append-nil acts)))
    (subst (AreBehind script tables first mid.packs.held) (sym whole)
    (whole_drained script tables first mid.packs.held line (done ++ line_for line says.Drain ∷ []) mid.driver.world (with_call moments line says.Drain w acts) at_mid).behind)
    (opened_ahead line says.Drain old rule (rule_opened rule line says.Drain refl)))

-- THE WHOLE DRAIN: its first event, and those behind it
pub drain_plays : (line : ℕ) (input : Input) (old mid new : Spot) → IsTrue mid.packs.tells
    → next_event old.driver.world ≡ Some input → old.driver.world.answers ≡ [] → length old.driver.world.slots ≤ 65536 → PlaysEvent line input old mid → GoesOnDraining line mid new → PlaysDrain line old new
drain_plays line input old mid new told is none few plays rest_goes script tables first last done moments less run =
    let w : World = old.driver.world in
    let acts : List Act = event_acts line input plays.tried w in
    let goes : HasDrained script tables first (packs_after_all w old.packs.held acts) line (done ++ line_for line says.Drain ∷ []) (all_taken (after_all w acts)) (with_call moments line says.Drain w acts) =
    drain_first script tables first last line input plays.tried old.packs.held done w moments less is none plays.may (plays.reads told) run in
    let at_mid : HasDrained script tables first mid.packs.held line (done ++ line_for line says.Drain ∷ []) mid.driver.world (with_call moments line says.Drain w acts) =
    subst (λ (held : ℕ → Pack). HasDrained script tables first held line (done ++ line_for line says.Drain ∷ []) mid.driver.world (with_call moments line says.Drain w acts)) (sym (plays.packs told))
    (subst (λ (x : World). HasDrained script tables first (packs_after_all w old.packs.held acts) line (done ++ line_for line says.Drain ∷ []) x (with_call moments line says.Drain w acts)) (sym plays.plays.world) goes) in
    let falls : events_left (after_moments (start_of script tables first) (with_call moments line says.Drain w acts)) < 200 * blocks_outstanding (after_moments (start_of script tables first) moments) =
    drain_first_falls script tables first last line input plays.tried old.packs.held done w moments less is plays.may (plays.reads told) run in
    let small : 200 * blocks_outstanding (after_moments (start_of script tables first) moments) < 2 ^ 64 - 1 =
    blocks_few (start_of script tables first) last moments old.packs.held w run.so_far few in
    let rest : EndsDraining script tables first (done ++ line_for line says.Drain ∷ []) (with_call moments line says.Drain w acts) line mid new =
    rest_goes script tables first (done ++ line_for line says.Drain ∷ []) (with_call moments line says.Drain w acts)
    (below (events_left (after_moments (start_of script tables first) (with_call moments line says.Drain w acts))) (200 * blocks_outstanding (after_moments (start_of script tables first) moments)) (2 ^ 64 - 1) falls small) at_mid in
    record {
      goes = record {
        more = (Played line says.Drain ∷ lines_of_all w acts) ++ rest.more;
        run = subst (HasRun script tables first new.packs.held line (done ++ line_for line says.Drain ∷ []) new.driver.world)
            (append_assoc moments (Played line says.Drain ∷ lines_of_all w acts) rest.more) rest.run;
        rule = λ said taken rule. subst (λ (ms : List Moment). IsAhead script tables first ms said taken new) (append_assoc moments (Played line says.Drain ∷ lines_of_all w acts) rest.more)
            (rest.rule said taken (first_event_ahead script tables first last done line input old mid said taken none told run plays at_mid rule));
        tally = counts_more old.tally mid.tally new.tally (Played line says.Drain ∷ lines_of_all w acts) rest.more (event_counted line input old mid none plays) rest.tally;
      };
      over = rest.over;
    }
  where
    below : (a b c : ℕ) → a < b → b < c → a < c
    below a b c less also = omega (arith, less, also)

-- A DRAIN that finds nothing
pub drain_nothing : (line : ℕ) (old new : Spot) → next_event old.driver.world ≡ None → new.driver.world ≡ old.driver.world → new.packs.held ≡ old.packs.held → new.tally ≡ old.tally
    → (IsTrue new.out.tells → all_for new.out ≡ all_for old.out) → (IsTrue new.lines.tells → all_for new.lines ≡ all_for old.lines ++ moment_text (Idle line))
    → Passes old.out.took old.lines.took (all_for new.out) (all_for new.lines) old new → PlaysDrain line old new
drain_nothing line old new over same same_held same_tally unsaid idle passes script tables first last done moments less run =
    let goes : HasRun script tables first old.packs.held line (done ++ line_for line says.Drain ∷ []) old.driver.world (with_call moments line says.Drain old.driver.world (Nothing line ∷ [])) =
    drain_empty script tables first last line old.packs.held done old.driver.world moments less over run in
    record {
      goes = record {
        more = Played line says.Drain ∷ Idle line ∷ [];
        run = subst (λ (held : ℕ → Pack). HasRun script tables first held line (done ++ line_for line says.Drain ∷ []) new.driver.world (with_call moments line says.Drain old.driver.world (Nothing line ∷ []))) (sym same_held)
            (subst (λ (x : World). HasRun script tables first old.packs.held line (done ++ line_for line says.Drain ∷ []) x (with_call moments line says.Drain old.driver.world (Nothing line ∷ []))) (sym same) goes);
        rule = λ said taken rule. ahead_more rule false (Played line says.Drain ∷ Idle line ∷ []) new (record { sent = λ is. absurd (false≢true is); kept = λ is. passes })
            (λ is. (same_held, empty_drains_write_nothing (after_moments (start_of script tables first) moments) old.driver.world line)) (λ is. absurd (false≢true is))
            (λ t. unsaid t ∙ sym (append-nil (all_for old.out)))
            (λ t. idle t ∙ ap (λ (xs : List ℕ). all_for old.lines ++ xs) (sym (append-nil (moment_text (Idle line)))));
        tally = counts_none old.tally new.tally same_tally;
      };
      over = ap next_event same ∙ over;
    }
