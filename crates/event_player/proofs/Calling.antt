-- What a call of the driver comes to, with what was sent ahead of it and what is said behind it.
use Rattle.std.proofs.Common.{◌≡◌, ◌⊎◌, inl, inr, ℕ, Bool, true, false, IsTrue, List, [], ◌++◌, Option, Some, refl, sym, ap, subst, ◌∙◌, append-nil, append_assoc}
use Rattle.std.specs.Prelude.{Result, Ok, Err}
use Rattle.std.proofs.lemmas.List.{append_cancel_right}
use Rattle.outside_traits.specs.declared.traits.SinkFailed.{SinkFailed}
use Rattle.trace_replay.specs.requests.Requests.{Request}
use Rattle.trace_replay.specs.Moments.{Answered}
use Rattle.trace_replay.specs.Script.{Input}
use Rattle.trace_replay.specs.Text.{trace_text}
use Rattle.driver_machine.specs.World.{World}
use Rattle.driver_machine.specs.Acts.{Act, after_all}
use Rattle.driver_machine.specs.Lines.{lines_of_all}
use Rattle.driver_machine.specs.Events.{submit_acts, event_acts}
use Rattle.driver_machine.specs.Sound.{Sound, AtWork}
use Rattle.driver_laws.specs.answers.Outcome.{Does, StopsAtTrace, IsFront, IsNextBlock, Told, stop_in}
use Rattle.driver_laws.specs.declared.answers.outcome.Stop.{Stop}
use Rattle.driver_laws.specs.declared.answers.outcome.Stop.TheVariants as stop
use Rattle.driver_laws.proofs.answers.Joined.{front_same, front_more, front_of_front}
use Rattle.script_runs.specs.StopsPasses.{AllFlip}
use Rattle.driver_laws.specs.answers.Waiting.{waiting, all_taken}
use Rattle.driver_laws.proofs.answers.Waiting.{events_alone, submissions_alone}
use Rattle.trace_lines.specs.answers.AnswerText.{out_text}
use Rattle.trace_lines.specs.declared.answers.tally.Tally.{Tally}
use Rattle.trace_lines.specs.answers.Counting.{Counts}
use Rattle.hp_driver.specs.Subsystem.{State, Comes, seen as as_site, is_move, writes_by}
use Rattle.script_runs.specs.declared.fault.PlayFault.TheVariants as playing
use Rattle.script_runs.specs.Faults.{from_stop}
use Rattle.event_player.specs.Saying.{Side, Says}
use Rattle.event_player.specs.Spots.{PacksAt, Spot, all_for, tells, took, telling, held_at, SaysText, Sends, SubmitsAt, ComesAt}
use Rattle.event_player.specs.Steps.{Passes, PassesAhead, PlaysActs, PlaysEvent, PlaysSubmission, waiting_text}
use Rattle.event_player.specs.Stops.{StopsActs, EventStops, SubmissionStops}
use Rattle.event_player.proofs.Inputs.{waiting_said}
use Rattle.event_player.proofs.Saying.{IsTold, IsSaid, is_said, passes_all, unsent_passes, ahead_said, ahead_told, ahead_passes, all_said, all_told, still_ahead}

-- lines that were told, of which a front was sent
abbrev not_sent : Side → Side → List ℕ → Side
not_sent lines lines' text = record lines' { took = lines.took; kept = lines.kept ++ text }

front_told : (lines lines' : Side) (text : List ℕ) → (IsTrue lines'.tells → IsTrue lines.tells) → IsTold lines (not_sent lines lines' text) text
front_told lines lines' text again = record {
  again = again;
  sent = λ t. front_same lines.took;
  whole = λ t. sym (append_assoc lines.took lines.kept text);
}

front_said : (lines lines' : Side) (text : List ℕ) (out : Side) → (IsTrue lines'.tells → IsFront lines.took lines'.took) → (IsTrue lines'.tells → IsFront lines'.took (all_for lines ++ text))
    → IsSaid out out (not_sent lines lines' text) lines' []
front_said lines lines' text out sent front = record {
  again = λ t. t;
  again_lines = λ t. t;
  front = λ t. record { least = front_same out.took; most = front_more out.took (out.kept ++ []) };
  front_lines = λ t. record { least = sent t; most = subst (IsFront lines'.took) (append_assoc lines.took lines.kept text) (front t) };
  lines_first = inl (λ t. refl);
}

-- what is said leaves the packs
said_packs : {A E : Type 0} {answers : List Answered} {text : List ℕ} {result : Result A E} {mid new : Spot} → SaysText answers text result mid new → record new { packs = mid.packs } ≡ new
said_packs {new = new} said = ap (λ (s : Spot). record new { packs = s.packs }) (sym said.same)

-- THE ACTS OF A CALL, ahead of which text was sent, with their lines
module _ {writes : Bool} {old ahead : Spot} {unit : Unit {0}} (sends : Sends {E = SinkFailed} writes (Ok unit) old ahead)
    (mid : World) (packs : PacksAt) (lines : Side) (again : IsTrue lines.tells → IsTrue ahead.lines.tells) where
  abbrev telling_now : Told
  telling_now = record { packs = packs.tells; trace = lines.tells }

  module _ {acts : List Act} (does : Does telling_now acts (as_site old.driver.world old.packs.held ahead.lines.took ahead.lines.kept) (as_site mid packs.held lines.took lines.kept)) (new : Spot) where
    abbrev behind : Spot
    behind = record new { packs = packs }

    abbrev text : List ℕ
    text = trace_text (lines_of_all old.driver.world acts)

    told_here : IsTold ahead.lines lines text
    told_here = record { again = again; sent = does.sent; whole = does.text }

    passed : IsSaid ahead.out new.out lines new.lines (waiting_text mid) → PassesAhead writes (all_for old.out ++ waiting_text mid) (all_for old.lines ++ text) old behind
    passed = ahead_passes sends behind (waiting_text mid) told_here

    -- behind which the answers that wait are said and counted,
    module _ {A E : Type 0} {x : A} (says : Says {E = E} ahead.out new.out lines new.lines (Ok x) (waiting_text mid)) where
      said_whole : IsTrue new.out.tells → all_for new.out ≡ all_for old.out ++ waiting_text mid
      said_whole = all_said sends behind (waiting_text mid) told_here says

      told_whole : IsTrue new.lines.tells → all_for new.lines ≡ all_for old.lines ++ text
      told_whole = all_told sends behind (waiting_text mid) told_here says

      acts_played : Sound old.driver.world → AtWork old.driver.world → new.driver.world ≡ all_taken mid → Counts (waiting mid) (waiting_text mid) old.tally new.tally → PlaysActs acts old behind
      acts_played sound work taken counts = record {
        sound = sound;
        work = work;
        run = does.does.run;
        world = taken ∙ ap all_taken does.does.world;
        out = λ t. said_whole t ∙ ap (λ (w : World). all_for old.out ++ waiting_text w) does.does.world;
        trace = told_whole;
        tally = subst (λ (w : World). Counts (waiting w) (waiting_text w) old.tally new.tally) does.does.world counts;
      }

      acts_passed : PassesAhead writes (all_for new.out) (all_for new.lines) old behind
      acts_passed = record { sent = λ on. whole ((passed (is_said says)).sent on); kept = λ off. whole ((passed (is_said says)).kept off) }
        where
          whole : {from_out from_lines : List ℕ} → Passes from_out from_lines (all_for old.out ++ waiting_text mid) (all_for old.lines ++ text) old behind
              → Passes from_out from_lines (all_for new.out) (all_for new.lines) old behind
          whole = passes_all said_whole told_whole

    -- or were to be.
    acts_unsaid : waiting_text (after_all old.driver.world acts) ≡ out_text (lines_of_all old.driver.world acts) → IsSaid ahead.out new.out lines new.lines (waiting_text mid) → StopsActs writes acts old behind
    acts_unsaid alone says = record {
      done = acts;
      left = [];
      all = sym (append-nil acts);
      run = does.does.run;
      reads = does.does.reads;
      packs = does.does.packs;
      text = waiting_text mid;
      says = subst (λ (x : List ℕ). IsFront x (out_text (lines_of_all old.driver.world acts))) (sym (ap waiting_text does.does.world ∙ alone)) (front_same (out_text (lines_of_all old.driver.world acts)));
      passes = passed says;
    }

  -- The driver stopped, and nothing is said:
  module _ (d : State) where
    abbrev stopped : Spot
    stopped = record ahead { driver = d; packs = packs; lines = lines }

    -- the trace failed, some acts were done, and of their lines a front was sent;
    acts_halted : {acts : List Act} → StopsAtTrace telling_now acts (as_site old.driver.world old.packs.held ahead.lines.took ahead.lines.kept) (as_site mid packs.held lines.took lines.kept) → StopsActs writes acts old stopped
    acts_halted is =
        let text : List ℕ = trace_text (lines_of_all old.driver.world is.done) in
        record {
          done = is.done;
          left = is.left;
          all = is.all;
          run = is.does.run;
          reads = is.does.reads;
          packs = is.does.packs;
          text = [];
          says = record { rest = out_text (lines_of_all old.driver.world is.done); whole = refl };
          passes = ahead_passes sends stopped [] (front_told ahead.lines lines text again)
              (front_said ahead.lines lines text ahead.out is.sent (λ t. front_of_front lines.took (all_for lines) (all_for ahead.lines ++ text) (front_more lines.took lines.kept) (is.front t)));
        }

    -- or the packs failed, and the trace took no more.
    none_passed : lines.kept ≡ ahead.lines.kept → (IsTrue lines.tells → all_for lines ≡ all_for ahead.lines) → PassesAhead writes (all_for old.out) (all_for old.lines) old stopped
    none_passed unsent same = record { sent = λ on. whole (nothing.sent on); kept = λ off. whole (nothing.kept off) }
      where
        same_took : IsTrue lines.tells → lines.took ≡ ahead.lines.took
        same_took t = append_cancel_right lines.took ahead.lines.took ahead.lines.kept (ap (λ (xs : List ℕ). lines.took ++ xs) (sym unsent) ∙ same t)

        nothing : PassesAhead writes (all_for old.out ++ []) (all_for old.lines ++ []) old stopped
        nothing = ahead_passes sends stopped [] (front_told ahead.lines lines [] again)
            (front_said ahead.lines lines [] ahead.out (λ t. subst (IsFront ahead.lines.took) (sym (same_took t)) (front_same ahead.lines.took))
            (λ t. subst (IsFront lines.took) (sym (append-nil (all_for ahead.lines))) (subst (λ (xs : List ℕ). IsFront xs (all_for ahead.lines)) (sym (same_took t)) (front_more ahead.lines.took ahead.lines.kept))))

        whole : {from_out from_lines : List ℕ} → Passes from_out from_lines (all_for old.out ++ []) (all_for old.lines ++ []) old stopped → Passes from_out from_lines (all_for old.out) (all_for old.lines) old stopped
        whole = passes_all (λ t. sym (append-nil (all_for old.out))) (λ t. sym (append-nil (all_for old.lines)))

-- A SUBMISSION, ahead of which nothing is sent
nothing_sent : (s : Spot) → Sends {T = Unit {0}} {E = SinkFailed} false (Ok tt) s s
nothing_sent s = still_ahead false s refl

module _ {T : Type 0} {line : ℕ} {r : Request} {old mid : Spot} where
  pub asked_halted : {e : SinkFailed} → SubmitsAt {T = T} line r (Err e) old mid → SubmissionStops line r playing.Sink old mid
  asked_halted submits = subst (λ (s : Spot). SubmissionStops line r playing.Sink old s) (sym submits.same) (record {
    slot = submits.does.slot;
    held = submits.does.held;
    may = submits.does.may;
    is = submits.does.is;
    same = refl;
    stops = acts_halted (nothing_sent old) mid.driver.world old.packs mid.lines submits.again mid.driver (submits.does.outcome old.packs.tells old.packs.held);
  })

  module _ {x : T} {A E : Type 0} {new : Spot} (sound : Sound old.driver.world) (work : AtWork old.driver.world) (submits : SubmitsAt line r (Ok x) old mid) where
    asked_says : {result : Result A E} → SaysText (waiting mid.driver.world) (waiting_text mid.driver.world) result mid new → Says old.out new.out mid.lines new.lines result (waiting_text mid.driver.world)
    asked_says {result} said = subst (λ (s : Spot). Says s.out new.out mid.lines new.lines result (waiting_text mid.driver.world)) submits.same said.says

    asked_packs : {result : Result A E} → SaysText (waiting mid.driver.world) (waiting_text mid.driver.world) result mid new → record new { packs = old.packs } ≡ new
    asked_packs said = ap (λ (s : Spot). record new { packs = s.packs }) (sym submits.same) ∙ said_packs said

    pub asked_done : {y : A} → SaysText {E = E} (waiting mid.driver.world) (waiting_text mid.driver.world) (Ok y) mid new → new.driver ≡ record mid.driver { world = all_taken mid.driver.world }
        → PlaysSubmission line r old new
    asked_done said taken =
        let does = submits.does.outcome old.packs.tells old.packs.held in
        subst (λ (s : Spot). PlaysSubmission line r old s) (asked_packs said) (record {
          slot = submits.does.slot;
          held = submits.does.held;
          may = submits.does.may;
          is = submits.does.is;
          packs = (submits.does.outcome true old.packs.held).does.packs refl;
          same = refl;
          passes = (acts_passed (nothing_sent old) mid.driver.world old.packs mid.lines submits.again does new (asked_says said)).kept refl;
          plays = acts_played (nothing_sent old) mid.driver.world old.packs mid.lines submits.again does new (asked_says said) sound work (ap (λ (d : State). d.world) taken)
              (subst (λ (s : Spot). Counts (waiting mid.driver.world) (waiting_text mid.driver.world) s.tally new.tally) submits.same said.counts);
        })

    pub asked_unsaid : {e : E} → SaysText {T = A} (waiting mid.driver.world) (waiting_text mid.driver.world) (Err e) mid new → SubmissionStops line r playing.Sink old new
    asked_unsaid said = subst (λ (s : Spot). SubmissionStops line r playing.Sink old s) (asked_packs said) (record {
      slot = submits.does.slot;
      held = submits.does.held;
      may = submits.does.may;
      is = submits.does.is;
      same = refl;
      stops = acts_unsaid (nothing_sent old) mid.driver.world old.packs mid.lines submits.again (submits.does.outcome old.packs.tells old.packs.held) new
          (waiting_said old.driver.world (submit_acts r line submits.does.slot submits.does.held old.driver.world)
          (submissions_alone old.driver.world line submits.does.slot r submits.does.held sound work submits.does.may)) (is_said (asked_says said));
    })

-- AN EVENT: the sending that was to come ahead of it failed,
pub came_unsent : {A E : Type 0} {line : ℕ} {input : Input} {old ahead : Spot} {failed : E} → Sends {T = A} (writes_by old.driver.world input) (Err failed) old ahead → EventStops line input playing.Sink old ahead
came_unsent sends =
    let same = ap (λ (s : Spot). s.packs.held) sends.same in
    (λ still. same, inl (record { writes = sends.stopped; held = same; passes = unsent_passes (is_said sends.says) }))

abbrev ComesFrom : ℕ → Input → (old ahead mid : Spot) → Option Stop → Type 0
ComesFrom line input old ahead mid halt = Comes telling held_at tells took old.packs mid.packs ahead.lines mid.lines line input old.driver.world mid.driver.world ahead.lines.kept mid.lines.kept halt

module _ {line : ℕ} {input : Input} {old ahead mid : Spot} {unit : Unit {0}} (sends : Sends {E = SinkFailed} (writes_by old.driver.world input) (Ok unit) old ahead) where
  came : {result : Result (Unit {0}) Stop} → ComesAt line input result ahead mid → ComesFrom line input old ahead mid (stop_in result)
  came {result} comes =
      subst (λ (s : Spot). Comes telling held_at tells took s.packs mid.packs ahead.lines mid.lines line input s.driver.world mid.driver.world ahead.lines.kept mid.lines.kept (stop_in result)) sends.same comes.does

  still_held : {result : Result (Unit {0}) Stop} → ComesAt line input result ahead mid → is_move input ≡ false → mid.packs.held ≡ old.packs.held
  still_held comes is = ap held_at (comes.still is) ∙ ap (λ (s : Spot). s.packs.held) sends.same

  -- or the driver stopped in it,
  pub came_halted : {halt : Stop} → AllFlip old.driver.world.book.live → ComesAt line input (Err halt) ahead mid → EventStops line input (from_stop halt) old mid
  came_halted {halt} noise at = subst (λ (s : Spot). EventStops line input (from_stop halt) old s) (sym at.same) (by halt (came at))
    where
      by : (halt : Stop) → ComesFrom line input old ahead mid (Some halt) → EventStops line input (from_stop halt) old (record ahead { driver = mid.driver; packs = mid.packs; lines = mid.lines })
      by stop.Sink comes = (
        still_held at,
        inr (record { tried = comes.tried; noise = noise; leaves = comes.leaves; stops = acts_halted sends mid.driver.world mid.packs mid.lines at.again_lines mid.driver comes.outcome }),
      )
      by stop.Store comes =
          let failed = comes.before refl in
          record {
            move = comes.moves refl;
            packs = λ t. packs_by (writes_by old.driver.world input) refl t (failed.packs t);
            out = λ t. ahead_said sends t;
            trace = λ t. failed.text t ∙ ahead_told sends (at.again_lines t);
            passes = none_passed sends mid.driver.world mid.packs mid.lines at.again_lines mid.driver (comes.unsent refl) failed.text;
          }
        where
          packs_by : (b : Bool) → writes_by old.driver.world input ≡ b → IsTrue mid.packs.tells → (mid.packs.held ≡ old.packs.held) ⊎ IsNextBlock old.driver.world old.packs.held mid.packs.held
              → (mid.packs.held ≡ old.packs.held) ⊎ ((writes_by old.driver.world input ≡ true) × IsNextBlock old.driver.world old.packs.held mid.packs.held)
          packs_by b is t (inl same) = inl same
          packs_by true is t (inr next) = inr (is, next)
          packs_by false is t (inr next) = inl (comes.leaves is t)

  module _ {A E : Type 0} {new : Spot} {done : Unit {0}} (sound : Sound old.driver.world) (work : AtWork old.driver.world) (comes : ComesAt line input (Ok done) ahead mid) (none : old.driver.world.answers ≡ []) where
    came_says : {result : Result A E} → SaysText (waiting mid.driver.world) (waiting_text mid.driver.world) result mid new → Says ahead.out new.out mid.lines new.lines result (waiting_text mid.driver.world)
    came_says {result} said = subst (λ (s : Spot). Says s.out new.out mid.lines new.lines result (waiting_text mid.driver.world)) comes.same said.says

    -- or it came, and its answers were said,
    pub came_done : {y : A} → SaysText {E = E} (waiting mid.driver.world) (waiting_text mid.driver.world) (Ok y) mid new → new.driver ≡ record mid.driver { world = all_taken mid.driver.world }
        → PlaysEvent line input old new
    came_done said taken =
        let is = came comes in
        subst (λ (s : Spot). PlaysEvent line input old s) (said_packs said) (record {
          passes = acts_passed sends mid.driver.world mid.packs mid.lines comes.again_lines is.outcome new (came_says said);
          leaves = is.leaves;
          tried = is.tried;
          may = is.may refl;
          reads = is.reads refl;
          packs = is.outcome.does.packs;
          plays = acts_played sends mid.driver.world mid.packs mid.lines comes.again_lines is.outcome new (came_says said) sound work (ap (λ (d : State). d.world) taken)
              (subst (λ (n : Tally). Counts (waiting mid.driver.world) (waiting_text mid.driver.world) n new.tally) (ap (λ (s : Spot). s.tally) comes.same ∙ ap (λ (s : Spot). s.tally) sends.same) said.counts);
        })

    -- or were to be.
    pub came_unsaid : {e : E} → AllFlip old.driver.world.book.live → SaysText {T = A} (waiting mid.driver.world) (waiting_text mid.driver.world) (Err e) mid new → EventStops line input playing.Sink old new
    came_unsaid noise said =
        let is = came comes in
        let acts : List Act = event_acts line input is.tried old.driver.world in
        subst (λ (s : Spot). EventStops line input playing.Sink old s) (said_packs said) (
          still_held comes,
          inr (record {
            tried = is.tried;
            noise = noise;
            leaves = is.leaves;
            stops = acts_unsaid sends mid.driver.world mid.packs mid.lines comes.again_lines is.outcome new
                (waiting_said old.driver.world acts (events_alone old.driver.world line input is.tried sound work (is.may refl) none)) (is_said (came_says said));
          }),
        )
