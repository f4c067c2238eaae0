-- A run goes on call by call, with the answers that are taken behind each call.
use Rattle.std.proofs.Common.{◌≡◌, inl, ℕ, ◌*◌, ◌<◌, ◌≤◌, List, [], ◌∷◌, ◌++◌, Option, Some, None, sym, ap, subst, arith, ◌∙◌}
use Rattle.pack_geometry.specs.Pack.{Pack}
use Rattle.pack_geometry.specs.TableSpelling.{Table}
use Rattle.trace_replay.specs.requests.Requests.{Request}
use Rattle.trace_replay.specs.Moments.{Moment}
use Rattle.trace_replay.specs.Causes.{AsksSome}
use Rattle.trace_replay.specs.Script as says
use Rattle.trace_replay.specs.Script.{Script, Input, Plays, Line, Numbered, drives_of, inputs_before}
use Rattle.trace_replay.specs.Packs.{surface_of}
use Rattle.trace_replay.specs.Replay.{Replay, after_moments}
use Rattle.trace_replay.specs.Runs.{start_of}
use Rattle.driver_laws.specs.rules.Measure.{events_left, blocks_outstanding}
use Rattle.driver_laws.specs.rules.Drains.{IsOf}
use Rattle.driver_machine.specs.World.{World, Held, unit_at}
use Rattle.driver_machine.specs.Acts.{Act, Nothing, Tried, after_all}
use Rattle.driver_machine.specs.Lines.{lines_of_all}
use Rattle.driver_machine.specs.Events.{refusal_of, submit_acts, event_acts, next_event}
use Rattle.driver_machine.specs.Guards.{IsHeldFor}
use Rattle.driver_machine.specs.Sound.{Sound, AtWork}
use Rattle.driver_machine.specs.Runs.{Works, MaySubmit, MayCome}
use Rattle.driver_laws.proofs.invariant.Calls.{event_works, submit_works}
use Rattle.driver_laws.proofs.invariant.Sound.{sound_after}
use Rattle.driver_laws.specs.answers.Packs.{packs_after_all}
use Rattle.script_runs.specs.StopsPasses.{IsReadOf, ShowsAll, IsOfUnits, with_call}
use Rattle.script_runs.proofs.StopsPasses.{events_go, submissions_go, drains_start, drains_go_on, drain_finds_nothing, drain_ends, calls_are_played, lines_play_nothing, events_keep, submissions_keep, events_keep_reach, submissions_keep_reach, events_keep_lengths, first_events_keep_lengths, later_events_keep_lengths, empty_drains_keep_lengths, submissions_keep_lengths, drained_shows}
use Rattle.script_runs.specs.Passes.{Falls}
use Rattle.script_runs.proofs.Passes.{lines_ask_nothing, calls_ask, first_events_fall, drains_fall}
use Rattle.hp_driver.specs.Subsystem.{IsThere}
use Rattle.driver_laws.specs.answers.Waiting.{all_taken}
use Rattle.script_runs.proofs.LineLaws.{inputs_append, inputs_end}
use Rattle.event_player.specs.Playing.{HasRun}
use Rattle.event_player.specs.Steps.{HasDrained}
use Rattle.script_runs.proofs.Taking.{runs_wait, so_far_taken, draining_taken, kept_taken}
use Rattle.event_player.proofs.Reaching.{call_asks, lines_ask, within_taken}

-- THE INPUTS of lines, with those of one more
abbrev pub line_for : ℕ → Input → Line
line_for number input = record { number = number; statement = Plays input }

pub inputs_more : (done : List Line) (number : ℕ) (input : Input)
    → inputs_before [] (done ++ line_for number input ∷ []) ≡ inputs_before [] done ++ record { line = number; input = input } ∷ []
inputs_more done number input = inputs_append [] done (line_for number input ∷ []) ∙ inputs_end [] (record { line = number; input = input } ∷ []) done

-- WHAT AN EVENT SPEAKS OF is there, and it asks for nothing.
of_units : (w : World) (input : Input) → IsThere w input → IsOfUnits w input
of_units w (says.ArriveAt u) there = there
of_units w (says.MoveAt a) there = there
of_units w (says.AttendTo a) there = there
of_units w other there = tt

asks_nothing : (w : World) (there : List ℕ) (input : Input) → IsThere w input → AsksSome input × IsOf there input
asks_nothing w there (says.Submit r) is = absurd is
asks_nothing w there says.Drain is = absurd is
asks_nothing w there other is = (tt, tt)

module _ (script : Script) (tables : ℕ → Option Table) (first : ℕ → Pack) where
  abbrev start : Replay
  start = start_of script tables first

  -- AN EVENT that is played
  pub event_goes : (line next : ℕ) (input : Input) (tried : Tried) (held : ℕ → Pack) (done : List Line) (w : World) (moments : List Moment)
      → line < next → IsThere w input → w.answers ≡ [] → MayCome w input tried → IsReadOf w held input tried
      → HasRun script tables first held line done w moments
      → HasRun script tables first (packs_after_all w held (event_acts next input tried w)) next (done ++ line_for next input ∷ [])
      (all_taken (after_all w (event_acts next input tried w))) (with_call moments next input w (event_acts next input tried w))
  event_goes line next input tried held done w moments less there none may reads run =
      let acts : List Act = event_acts next input tried w in
      let sound : Sound w = run.so_far.left.stands.sound in
      let work : AtWork w = run.so_far.left.stands.work in
      let works : Works w acts = event_works sound_after next input tried w sound work may in
      let asks : AsksSome input × IsOf start.there input = asks_nothing w start.there input there in
      record {
        so_far = so_far_taken start next (with_call moments next input w acts) (packs_after_all w held acts) (after_all w acts)
            (runs_wait w acts sound works.run (inl none))
            (events_go (drives_of script) tables (surface_of first) line next input tried moments held w run.so_far less (of_units w input there) may reads);
        kept = kept_taken (drives_of script) first (packs_after_all w held acts) (after_all w acts) works.sound
            (events_keep (drives_of script) first held w next input tried sound work may run.kept);
        inputs = calls_are_played moments next input w acts ∙ ap (λ (xs : List Numbered). xs ++ record { line = next; input = input } ∷ []) run.inputs
            ∙ sym (inputs_more done next input);
        asked = calls_ask start.there moments next input w acts run.asked asks.0 asks.1;
        reach = λ ends below tables_below. within_taken ends first (packs_after_all w held acts) (after_all w acts) works.sound
            (events_keep_reach ends first held w next input tried sound work may
            (run.reach ends (call_asks ends (drives_of script) moments next input w acts below).0 tables_below));
        long = events_keep_lengths start moments first held w next input tried sound run.so_far.left.stands.shows works.run run.long;
      }

  -- A SUBMISSION
  pub submission_goes : (line next p : ℕ) (r : Request) (h : Held) (held : ℕ → Pack) (done : List Line) (w : World) (moments : List Moment)
      → line < next → w.answers ≡ [] → MaySubmit w r p h → (refusal_of r w ≡ None → IsHeldFor (unit_at w h.unit).drive.kind r h) → 1 ≤ r.count
      → IsOf start.there (says.Submit r) → HasRun script tables first held line done w moments
      → HasRun script tables first (packs_after_all w held (submit_acts r next p h w)) next (done ++ line_for next (says.Submit r) ∷ [])
      (all_taken (after_all w (submit_acts r next p h w))) (with_call moments next (says.Submit r) w (submit_acts r next p h w))
  submission_goes line next p r h held done w moments less none may is some of run =
      let acts : List Act = submit_acts r next p h w in
      let sound : Sound w = run.so_far.left.stands.sound in
      let work : AtWork w = run.so_far.left.stands.work in
      let works : Works w acts = submit_works sound_after r next p h w sound work may in
      record {
        so_far = so_far_taken start next (with_call moments next (says.Submit r) w acts) (packs_after_all w held acts) (after_all w acts)
            (runs_wait w acts sound works.run (inl none))
            (submissions_go (drives_of script) tables (surface_of first) line next p r h moments held w run.so_far less may is run.asked.some);
        kept = kept_taken (drives_of script) first (packs_after_all w held acts) (after_all w acts) works.sound
            (submissions_keep (drives_of script) first held w next p r h sound work may run.kept);
        inputs = calls_are_played moments next (says.Submit r) w acts
            ∙ ap (λ (xs : List Numbered). xs ++ record { line = next; input = says.Submit r } ∷ []) run.inputs
            ∙ sym (inputs_more done next (says.Submit r));
        asked = calls_ask start.there moments next (says.Submit r) w acts run.asked some of;
        reach = λ ends below tables_below.
            let asks = call_asks ends (drives_of script) moments next (says.Submit r) w acts below in
            within_taken ends first (packs_after_all w held acts) (after_all w acts) works.sound
            (submissions_keep_reach ends (drives_of script) first held w next p r h sound work may is run.kept.units asks.1 (run.reach ends asks.0 tables_below));
        long = submissions_keep_lengths start moments first held w next p r h run.long;
      }

  -- A DRAIN that finds nothing
  pub drain_empty : (line next : ℕ) (held : ℕ → Pack) (done : List Line) (w : World) (moments : List Moment) → line < next → next_event w ≡ None
      → HasRun script tables first held line done w moments
      → HasRun script tables first held next (done ++ line_for next says.Drain ∷ []) w (with_call moments next says.Drain w (Nothing next ∷ []))
  drain_empty line next held done w moments less over run = record {
    so_far = drain_finds_nothing (drives_of script) tables (surface_of first) line next moments held w run.so_far less over;
    kept = run.kept;
    inputs = calls_are_played moments next says.Drain w (Nothing next ∷ []) ∙ ap (λ (xs : List Numbered). xs ++ record { line = next; input = says.Drain } ∷ []) run.inputs
        ∙ sym (inputs_more done next says.Drain);
    asked = calls_ask start.there moments next says.Drain w (Nothing next ∷ []) run.asked tt tt;
    reach = λ ends below tables_below. run.reach ends (call_asks ends (drives_of script) moments next says.Drain w (Nothing next ∷ []) below).0 tables_below;
    long = empty_drains_keep_lengths start moments first held w next run.long;
  }

  -- The first event of a drain
  pub drain_first : (line next : ℕ) (input : Input) (tried : Tried) (held : ℕ → Pack) (done : List Line) (w : World) (moments : List Moment)
      → line < next → next_event w ≡ Some input → w.answers ≡ [] → MayCome w input tried → IsReadOf w held input tried
      → HasRun script tables first held line done w moments
      → HasDrained script tables first (packs_after_all w held (event_acts next input tried w)) next (done ++ line_for next says.Drain ∷ [])
      (all_taken (after_all w (event_acts next input tried w))) (with_call moments next says.Drain w (event_acts next input tried w))
  drain_first line next input tried held done w moments less is none may reads run =
      let acts : List Act = event_acts next input tried w in
      let sound : Sound w = run.so_far.left.stands.sound in
      let work : AtWork w = run.so_far.left.stands.work in
      let works : Works w acts = event_works sound_after next input tried w sound work may in
      record {
        draining = draining_taken start next (with_call moments next says.Drain w acts) (packs_after_all w held acts) (after_all w acts)
            (runs_wait w acts sound works.run (inl none))
            (drains_start (drives_of script) tables (surface_of first) line next input tried moments held w run.so_far less is may reads);
        kept = kept_taken (drives_of script) first (packs_after_all w held acts) (after_all w acts) works.sound
            (events_keep (drives_of script) first held w next input tried sound work may run.kept);
        inputs = calls_are_played moments next says.Drain w acts ∙ ap (λ (xs : List Numbered). xs ++ record { line = next; input = says.Drain } ∷ []) run.inputs
            ∙ sym (inputs_more done next says.Drain);
        asked = calls_ask start.there moments next says.Drain w acts run.asked tt tt;
        reach = λ ends below tables_below. within_taken ends first (packs_after_all w held acts) (after_all w acts) works.sound
            (events_keep_reach ends first held w next input tried sound work may
            (run.reach ends (call_asks ends (drives_of script) moments next says.Drain w acts below).0 tables_below));
        long = first_events_keep_lengths start moments first held w next input tried sound run.so_far.left.stands.shows works.run run.long;
      }

  -- leaves fewer than 200 for each block outstanding,
  pub drain_first_falls : (line next : ℕ) (input : Input) (tried : Tried) (held : ℕ → Pack) (done : List Line) (w : World) (moments : List Moment)
      → line < next → next_event w ≡ Some input → MayCome w input tried → IsReadOf w held input tried
      → HasRun script tables first held line done w moments
      → events_left (after_moments start (with_call moments next says.Drain w (event_acts next input tried w))) < 200 * blocks_outstanding (after_moments start moments)
  drain_first_falls line next input tried held done w moments less is may reads run =
      let falls : Falls (after_moments start moments) (after_moments start (with_call moments next says.Drain w (event_acts next input tried w))) =
      first_events_fall (drives_of script) tables (surface_of first) line next input tried moments held w run.asked run.so_far less is may reads in
      below (events_left (after_moments start (with_call moments next says.Drain w (event_acts next input tried w)))) (events_left (after_moments start moments))
      (200 * blocks_outstanding (after_moments start moments)) falls.fewer falls.few
    where
      below : (a b c : ℕ) → a < b → b ≤ c → a < c
      below a b c less few = omega (arith, less, few)

  -- and so does each later one.
  pub drain_more : (line : ℕ) (input : Input) (tried : Tried) (held : ℕ → Pack) (done : List Line) (w : World) (moments : List Moment)
      → next_event w ≡ Some input → w.answers ≡ [] → MayCome w input tried → IsReadOf w held input tried
      → HasDrained script tables first held line done w moments
      → HasDrained script tables first (packs_after_all w held (event_acts line input tried w)) line done
      (all_taken (after_all w (event_acts line input tried w))) (moments ++ lines_of_all w (event_acts line input tried w))
  drain_more line input tried held done w moments is none may reads run =
      let acts : List Act = event_acts line input tried w in
      let sound : Sound w = run.draining.ends.over.rests.sound in
      let work : AtWork w = run.draining.work in
      let works : Works w acts = event_works sound_after line input tried w sound work may in
      record {
        draining = draining_taken start line (moments ++ lines_of_all w acts) (packs_after_all w held acts) (after_all w acts)
            (runs_wait w acts sound works.run (inl none))
            (drains_go_on (drives_of script) tables (surface_of first) line input tried moments held w run.draining is may reads);
        kept = kept_taken (drives_of script) first (packs_after_all w held acts) (after_all w acts) works.sound
            (events_keep (drives_of script) first held w line input tried sound work may run.kept);
        inputs = lines_play_nothing moments w acts ∙ run.inputs;
        asked = lines_ask_nothing start.there moments w acts run.asked;
        reach = λ ends below tables_below. within_taken ends first (packs_after_all w held acts) (after_all w acts) works.sound
            (events_keep_reach ends first held w line input tried sound work may
            (run.reach ends (lines_ask ends (drives_of script) moments w acts below) tables_below));
        long = later_events_keep_lengths start moments first held w line input tried sound
            (subst (ShowsAll w) (sym run.draining.ends.is) (drained_shows w run.draining.ends.last run.draining.ends.over.rests.shows)) works.run run.long;
      }

  pub drain_more_falls : (line : ℕ) (input : Input) (tried : Tried) (held : ℕ → Pack) (done : List Line) (w : World) (moments : List Moment)
      → next_event w ≡ Some input → MayCome w input tried → IsReadOf w held input tried
      → HasDrained script tables first held line done w moments
      → events_left (after_moments start (moments ++ lines_of_all w (event_acts line input tried w))) < events_left (after_moments start moments)
  drain_more_falls line input tried held done w moments is may reads run =
      (drains_fall (drives_of script) tables (surface_of first) line input tried moments held w run.asked run.draining is may reads).fewer

  -- Where none can come the drain is over.
  pub drain_over : (line : ℕ) (held : ℕ → Pack) (done : List Line) (w : World) (moments : List Moment) → next_event w ≡ None
      → HasDrained script tables first held line done w moments → HasRun script tables first held line done w moments
  drain_over line held done w moments over run = record {
    so_far = drain_ends (drives_of script) tables (surface_of first) line moments held w run.draining over;
    kept = run.kept;
    inputs = run.inputs;
    asked = run.asked;
    reach = run.reach;
    long = run.long;
  }
