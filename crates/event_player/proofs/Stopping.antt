-- A call that stopped behind a run so far leaves what playing leaves.
use Rattle.std.proofs.Common.{◌≡◌, ◌⊎◌, inl, inr, ℕ, Bool, true, false, IsTrue, List, [], ◌∷◌, ◌++◌, ◌*◌, drop, Option, refl, sym, ap, subst, ◌∙◌, append-nil, append_assoc}
use Rattle.std.proofs.lemmas.Bool.{false≢true}
use Rattle.pack_geometry.specs.Pack.{Pack}
use Rattle.pack_geometry.specs.TableSpelling.{Table}
use Rattle.trace_replay.specs.Moments.{Moment, played}
use Rattle.trace_replay.specs.Script.{Script, Input, Numbered, drives_of, inputs_of}
use Rattle.trace_replay.specs.Replay.{Follows, after_moments}
use Rattle.trace_replay.specs.Runs.{start_of}
use Rattle.trace_replay.specs.Text.{trace_text}
use Rattle.driver_machine.specs.Acts.{Act, Tried}
use Rattle.driver_machine.specs.Lines.{lines_of_all}
use Rattle.driver_machine.specs.Events.{event_acts}
use Rattle.driver_machine.specs.Sound.{Sound}
use Rattle.driver_machine.specs.Runs.{Run, MayCome}
use Rattle.driver_laws.specs.answers.Outcome.{IsFront, IsNextBlock}
use Rattle.driver_laws.specs.answers.Packs.{ReadAll, packs_after_all}
use Rattle.script_runs.specs.StopsPasses.{AreDeclared, AskBelow, TablesBelow, IsWithinReach, IsReadOf, ShowsAll, IsTorn}
use Rattle.script_runs.proofs.StopsPasses.{lines_play_nothing, next_blocks_show}
use Rattle.script_runs.proofs.Passes.{event_fronts}
use Rattle.trace_lines.specs.answers.AnswerText.{out_text}
use Rattle.hp_driver.specs.Subsystem.{IsThere, is_move, writes_by}
use Rattle.script_runs.specs.Writing.{WriteNothing}
use Rattle.script_runs.specs.Ahead.{SaysOneSector, AreBehind}
use Rattle.script_runs.specs.Stops.{Came, StaysBeyond, StopsAtSink}
use Rattle.script_runs.specs.declared.fault.PlayFault.{PlayFault}
use Rattle.script_runs.specs.declared.fault.PlayFault.TheVariants as faults
use Rattle.event_player.specs.Spots.{Spot, all_for, holding}
use Rattle.event_player.specs.Steps.{Passes, PassesAhead, IsCut, IsAhead}
use Rattle.event_player.specs.Stops.{StopsActs, StopsEvent, StopsBefore, MoveFails, EventStops, StopsAtMove, StopsAt}
use Rattle.event_player.proofs.Reaching.{ask_parts, left_stays}
use Rattle.event_player.proofs.OneAct.{front_short}
use Rattle.event_player.proofs.Ahead.{cut_more, nothing_more}
use Rattle.event_player.proofs.Wholes.{Whole}
use Rattle.event_player.proofs.Moves.{one_of, IsMoveOf, move_of, still_may, writes_move}
use Rattle.driver_laws.proofs.rules.Fronts.{played_append}

-- WHERE A CALL BEGINS: behind moments that follow, with the packs that they leave.
pub record Place (script : Script) (tables : ℕ → Option Table) (first : ℕ → Pack) (now : Spot) (opening : List Moment) : Type 0 where
  pub done : List Moment
  pub later : List Numbered
  pub rest : List Numbered
  pub follows : Follows (start_of script tables first) done
  pub behind : AreBehind script tables first now.packs.held done
  pub inputs : inputs_of script ≡ played done ++ later
  pub opened : later ≡ played opening ++ rest
  pub declared : AreDeclared (drives_of script) now.driver.world
  pub shows : ShowsAll now.driver.world (after_moments (start_of script tables first) done)
  pub reach : (ends : ℕ → ℕ) → AskBelow ends (drives_of script) (played done) → TablesBelow ends (drives_of script) tables → IsWithinReach ends first now.packs.held now.driver.world

-- the line may as well not have been played
abbrev pub unopened : {script : Script} {tables : ℕ → Option Table} {first : ℕ → Pack} {now : Spot} {opening : List Moment}
    → Place script tables first now opening → Place script tables first now []
unopened at = record {
  done = at.done;
  later = at.later;
  rest = at.later;
  follows = at.follows;
  behind = at.behind;
  inputs = at.inputs;
  opened = refl;
  declared = at.declared;
  shows = at.shows;
  reach = at.reach;
}

module _ {script : Script} {tables : ℕ → Option Table} {first : ℕ → Pack} {now : Spot} {opening : List Moment} (ctx : Place script tables first now opening) where
  inputs_are : (lines : List Moment) → played lines ≡ [] → inputs_of script ≡ played (ctx.done ++ (opening ++ lines)) ++ ctx.rest
  inputs_are lines none =
      let behind : played (ctx.done ++ (opening ++ lines)) ≡ played ctx.done ++ played opening =
      played_append ctx.done (opening ++ lines)
      ∙ ap (λ (ns : List Numbered). played ctx.done ++ ns)
      (played_append opening lines ∙ ap (λ (ns : List Numbered). played opening ++ ns) none ∙ append-nil (played opening)) in
      ctx.inputs ∙ ap (λ (ns : List Numbered). played ctx.done ++ ns) ctx.opened ∙ sym (append_assoc (played ctx.done) (played opening) ctx.rest)
      ∙ ap (λ (ns : List Numbered). ns ++ ctx.rest) (sym behind)

  -- WHAT LIES BEYOND all writes stays, where the packs are as they were, and behind the whole call.
  pub same_beyond : (left : ℕ → Pack) → left ≡ now.packs.held → StaysBeyond script tables first left
  same_beyond left same ends below tables_below unit =
      ap (λ (packs : ℕ → Pack). drop (512 * ends unit) (packs unit).image) same
      ∙ (ctx.reach ends (ask_parts ends (drives_of script) (played ctx.done) ctx.later (subst (AskBelow ends (drives_of script)) ctx.inputs below)).0 tables_below).packs unit

  pub whole_beyond : (lines : List Moment) (left held : ℕ → Pack) → played lines ≡ [] → left ≡ held → Whole script tables first held (ctx.done ++ (opening ++ lines))
      → StaysBeyond script tables first left
  whole_beyond lines left held none same whole ends below tables_below unit =
      ap (λ (packs : ℕ → Pack). drop (512 * ends unit) (packs unit).image) same
      ∙ whole.reach ends (ask_parts ends (drives_of script) (played (ctx.done ++ (opening ++ lines))) ctx.rest (subst (AskBelow ends (drives_of script)) (inputs_are lines none) below)).0 tables_below unit

  -- a front of the acts
  pub front_follows : (acts done left : List Act) → acts ≡ done ++ left → Follows (start_of script tables first) (ctx.done ++ (opening ++ lines_of_all now.driver.world acts))
      → Follows (start_of script tables first) (ctx.done ++ (opening ++ lines_of_all now.driver.world done))
  front_follows acts done left all follows =
      subst (Follows (start_of script tables first)) (append_assoc ctx.done opening (lines_of_all now.driver.world done))
      (event_fronts (start_of script tables first) (ctx.done ++ opening) now.driver.world acts done left
      (subst (Follows (start_of script tables first)) (sym (append_assoc ctx.done opening (lines_of_all now.driver.world acts))) follows) all)

module _ {script : Script} {tables : ℕ → Option Table} {first : ℕ → Pack} {said taken : List ℕ} {now : Spot} {opening : List Moment}
    (ctx : Place script tables first now opening) where
  -- A SINK FAILED in a call that told these lines.
  pub stops_by : (lines : List Moment) (new : Spot) → played lines ≡ [] → Follows (start_of script tables first) (ctx.done ++ (opening ++ lines))
      → IsCut script tables first ((ctx.done ++ opening) ++ lines) said taken new → StaysBeyond script tables first new.packs.held
      → StopsAtSink script tables first new.packs.held new.out.tells said new.out.took new.lines.tells taken new.lines.took
  stops_by lines new none follows cut beyond = record {
    reached = record {
      sent = cut.sent;
      late = cut.late;
      came = subst (Came script tables first) (sym (cut.cut ∙ append_assoc ctx.done opening lines))
          (record { later = ctx.rest; follows = follows; inputs = inputs_are ctx lines none });
      ahead = cut.ahead;
    };
    texts = cut.texts;
    beyond = beyond;
  }

  -- The first acts of it were done.
  pub acts_stop : (writes : Bool) (acts : List Act) (new : Spot) (stops : StopsActs writes acts now new) → IsAhead script tables first (ctx.done ++ opening) said taken now
      → Follows (start_of script tables first) (ctx.done ++ (opening ++ lines_of_all now.driver.world stops.done))
      → (writes ≡ false → (new.packs.held ≡ now.packs.held) × WriteNothing (after_moments (start_of script tables first) (ctx.done ++ opening)) (lines_of_all now.driver.world stops.done))
      → (writes ≡ true → SaysOneSector (lines_of_all now.driver.world stops.done) × AreBehind script tables first new.packs.held ((ctx.done ++ opening) ++ lines_of_all now.driver.world stops.done))
      → StaysBeyond script tables first new.packs.held
      → StopsAtSink script tables first new.packs.held new.out.tells said new.out.took new.lines.tells taken new.lines.took
  acts_stop writes acts new stops rule follows quiet moves beyond =
      stops_by (lines_of_all now.driver.world stops.done) new (lines_play_nothing [] now.driver.world stops.done) follows
      (cut_more rule writes (all_for now.out ++ stops.text) (all_for now.lines ++ trace_text (lines_of_all now.driver.world stops.done)) (lines_of_all now.driver.world stops.done) new stops.passes quiet moves
      (λ tells. record {
        rest = stops.says.rest;
        whole = ap (λ (text : List ℕ). all_for now.out ++ text) stops.says.whole ∙ sym (append_assoc (all_for now.out) stops.text stops.says.rest);
      }) (λ tells. refl)) beyond

-- the place with other packs
passes_held : {said taken : List ℕ} {old new : Spot} {held : ℕ → Pack} (writes : Bool) → PassesAhead writes said taken old new → PassesAhead writes said taken old (holding new held)
passes_held {said} {taken} {old} {new} {held} writes passes = record { sent = λ is. by (passes.sent is); kept = λ is. by (passes.kept is) }
  where
    by : {out trace : List ℕ} → Passes out trace said taken old new → Passes out trace said taken old (holding new held)
    by p = record { again = p.again; again_trace = p.again_trace; out = p.out; trace = p.trace; lines_first = p.lines_first }

still_said_by : {said taken : List ℕ} {old new : Spot} (writes : Bool) → PassesAhead writes said taken old new → IsTrue new.out.tells → IsTrue old.out.tells
still_said_by true passes tells = (passes.sent refl).again tells
still_said_by false passes tells = (passes.kept refl).again tells

still_told_by : {said taken : List ℕ} {old new : Spot} (writes : Bool) → PassesAhead writes said taken old new → IsTrue new.lines.tells → IsTrue old.lines.tells
still_told_by true passes tells = (passes.sent refl).again_trace tells
still_told_by false passes tells = (passes.kept refl).again_trace tells

-- where no act was done nothing was to be said or told
none_text : (old : Spot) (done : List Act) (text : List ℕ) → done ≡ [] → IsFront text (out_text (lines_of_all old.driver.world done))
    → (all_for old.out ++ text ≡ all_for old.out) × (all_for old.lines ++ trace_text (lines_of_all old.driver.world done) ≡ all_for old.lines)
none_text old done text none says = (
  ap (λ (xs : List ℕ). all_for old.out ++ xs) (empty text says.rest (sym says.whole ∙ ap (λ (acts : List Act). out_text (lines_of_all old.driver.world acts)) none)) ∙ append-nil (all_for old.out),
  ap (λ (acts : List Act). all_for old.lines ++ trace_text (lines_of_all old.driver.world acts)) none ∙ append-nil (all_for old.lines),
)
  where
    empty : (xs ys : List ℕ) → xs ++ ys ≡ [] → xs ≡ []
    empty [] ys is = refl
    empty (x ∷ xs) ys is = absurd (cc is)

passes_none : {writes : Bool} {acts : List Act} {old new : Spot} (stops : StopsActs writes acts old new) → stops.done ≡ [] → PassesAhead writes (all_for old.out) (all_for old.lines) old new
passes_none {writes} {acts} {old} {new} stops none =
    let texts : (all_for old.out ++ stops.text ≡ all_for old.out) × (all_for old.lines ++ trace_text (lines_of_all old.driver.world stops.done) ≡ all_for old.lines) = none_text old stops.done stops.text none stops.says in
    subst (λ (text : List ℕ). PassesAhead writes text (all_for old.lines) old new) texts.0
    (subst (λ (text : List ℕ). PassesAhead writes (all_for old.out ++ stops.text) text old new) texts.1 stops.passes)

-- WHERE AN EVENT BEGINS: done whole it would follow, and the packs would be as it leaves them.
pub record EventContext (script : Script) (tables : ℕ → Option Table) (first : ℕ → Pack) (said taken : List ℕ) (now : Spot) (opening : List Moment) (line : ℕ) (input : Input) : Type 0 where
  pub ctx : Place script tables first now opening
  pub rule : IsAhead script tables first (ctx.done ++ opening) said taken now
  pub before : is_move input ≡ true → IsAhead script tables first ctx.done said taken now
  pub sound : Sound now.driver.world
  pub goes : (tried : Tried) → MayCome now.driver.world input tried → IsReadOf now.driver.world now.packs.held input tried
      → Whole script tables first (packs_after_all now.driver.world now.packs.held (event_acts line input tried now.driver.world)) (ctx.done ++ (opening ++ lines_of_all now.driver.world (event_acts line input tried now.driver.world)))
  pub quiet : (tried : Tried) (acts rest : List Act) → event_acts line input tried now.driver.world ≡ acts ++ rest → writes_by now.driver.world input ≡ false
      → WriteNothing (after_moments (start_of script tables first) (ctx.done ++ opening)) (lines_of_all now.driver.world acts)

module _ {script : Script} {tables : ℕ → Option Table} {first : ℕ → Pack} {said taken : List ℕ} {now : Spot} {opening : List Moment} {line : ℕ} {input : Input}
    (at : EventContext script tables first said taken now opening line input) (new : Spot) (told : IsTrue new.packs.tells) where
  abbrev Sink : Type 0
  Sink = StopsAtSink script tables first new.packs.held new.out.tells said new.out.took new.lines.tells taken new.lines.took

  never_writes : is_move input ≡ false → writes_by now.driver.world input ≡ true → ⊥
  never_writes is on = false≢true (sym is ∙ writes_move now.driver.world input on)

  -- EVENTS that do not touch the packs
  still_stops : is_move input ≡ false → IsThere now.driver.world input → new.packs.held ≡ now.packs.held → StopsEvent line input now new → Sink
  still_stops is there same e =
      let acts : List Act = event_acts line input e.tried now.driver.world in
      let may : MayCome now.driver.world input e.tried × IsReadOf now.driver.world now.packs.held input e.tried = still_may input e.tried now.driver.world now.packs.held is there in
      acts_stop at.ctx (writes_by now.driver.world input) acts new e.stops at.rule
      (front_follows at.ctx acts e.stops.done e.stops.left e.stops.all (at.goes e.tried may.0 may.1).follows)
      (λ off. (same, at.quiet e.tried e.stops.done e.stops.left e.stops.all off)) (λ on. absurd (never_writes is on)) (same_beyond at.ctx new.packs.held same)

  -- Nothing was done of a move.
  none_stops : is_move input ≡ true → (writes : Bool) → PassesAhead writes (all_for now.out) (all_for now.lines) now new → new.packs.held ≡ now.packs.held → Sink
  none_stops moves writes passes same =
      stops_by (unopened at.ctx) [] new refl (subst (Follows (start_of script tables first)) (sym (append-nil at.ctx.done)) at.ctx.follows)
      (subst (λ (ms : List Moment). IsCut script tables first ms said taken new)
      (sym (append-nil at.ctx.done) ∙ ap (λ (ms : List Moment). ms ++ []) (sym (append-nil at.ctx.done)))
      (nothing_more (at.before moves) writes new passes at.ctx.behind same).0)
      (same_beyond at.ctx new.packs.held same)

  -- or its one act was
  move_stops : is_move input ≡ true → StopsEvent line input now new → Sink
  move_stops moves e = by (front_short acts e.stops.done e.stops.left is.short e.stops.all)
    where
      acts : List Act
      acts = event_acts line input e.tried now.driver.world

      is : IsMoveOf line input e.tried now.driver.world now.packs.held
      is = move_of line input e.tried now.driver.world now.packs.held moves at.sound e.noise

      none_done : e.stops.done ≡ [] → Sink
      none_done none =
          none_stops moves (writes_by now.driver.world input) (passes_none e.stops none)
          (e.stops.packs told ∙ ap (λ (done : List Act). packs_after_all now.driver.world now.packs.held done) none)

      all_done : e.stops.done ≡ acts → Sink
      all_done all =
          let may : MayCome now.driver.world input e.tried = is.may (subst (Run now.driver.world) all e.stops.run) in
          let reads : IsReadOf now.driver.world now.packs.held input e.tried = is.reads (subst (ReadAll now.driver.world now.packs.held) all (e.stops.reads told)) in
          let whole : Whole script tables first (packs_after_all now.driver.world now.packs.held acts) (at.ctx.done ++ (opening ++ lines_of_all now.driver.world acts)) = at.goes e.tried may reads in
          acts_stop at.ctx (writes_by now.driver.world input) acts new e.stops at.rule
          (front_follows at.ctx acts e.stops.done e.stops.left e.stops.all whole.follows)
          (λ off. (e.leaves off told, at.quiet e.tried e.stops.done e.stops.left e.stops.all off))
          (λ on. (
            subst (λ (done : List Act). SaysOneSector (lines_of_all now.driver.world done)) (sym all) (one_of line input e.tried now.driver.world moves),
            subst (AreBehind script tables first new.packs.held) (sym (append_assoc at.ctx.done opening (lines_of_all now.driver.world e.stops.done)))
                (subst (λ (held : ℕ → Pack). AreBehind script tables first held (at.ctx.done ++ (opening ++ lines_of_all now.driver.world e.stops.done))) (sym (e.stops.packs told))
                (subst (λ (done : List Act). AreBehind script tables first (packs_after_all now.driver.world now.packs.held done) (at.ctx.done ++ (opening ++ lines_of_all now.driver.world done))) (sym all) whole.behind)),
          ))
          (whole_beyond at.ctx (lines_of_all now.driver.world acts) new.packs.held (packs_after_all now.driver.world now.packs.held acts) (lines_play_nothing [] now.driver.world acts)
          (e.stops.packs told ∙ ap (λ (done : List Act). packs_after_all now.driver.world now.packs.held done) all) whole)

      by : (e.stops.done ≡ []) ⊎ (e.stops.done ≡ acts) → Sink
      by (inl none) = none_done none
      by (inr all) = all_done all

  event_sink : IsThere now.driver.world input → EventStops line input faults.Sink now new → Sink
  event_sink there e = by_kind (is_move input) refl e.1
    where
      by_kind : (b : Bool) → is_move input ≡ b → StopsBefore input now new ⊎ StopsEvent line input now new → Sink
      by_kind false is (inl before) = absurd (never_writes is before.writes)
      by_kind false is (inr stops) = still_stops is there (e.0 is) stops
      by_kind true is (inl before) = none_stops is false (record { sent = λ on. absurd (false≢true on); kept = λ off. before.passes }) before.held
      by_kind true is (inr stops) = move_stops is stops

  -- THE PACKS FAILED
  event_store : MoveFails input now new → StopsAtMove script tables first said taken new
  event_store e =
      let before : IsAhead script tables first at.ctx.done said taken now = at.before e.move in
      let writes : Bool = writes_by now.driver.world input in
      let cut : (rule : IsCut script tables first at.ctx.done said taken (holding new now.packs.held)) × (writes ≡ true → rule.late ≡ []) =
      nothing_more before writes (holding new now.packs.held) (passes_held writes e.passes) at.ctx.behind refl in
      record {
        done = at.ctx.done;
        came = record { later = at.ctx.later; follows = at.ctx.follows; inputs = at.ctx.inputs };
        held = now.packs.held;
        rule = record {
          at = cut.0;
          out = λ t. e.out t ∙ before.out (still_said_by writes e.passes t);
          trace = λ t. e.trace t ∙ before.trace (still_told_by writes e.passes t);
        };
        packs = torn cut.0.late cut.1 (e.packs told);
        beyond = λ ends below tables_below. left_stays ends first now.packs.held new.packs.held now.driver.world at.sound
            (at.ctx.reach ends (ask_parts ends (drives_of script) (played at.ctx.done) at.ctx.later (subst (AskBelow ends (drives_of script)) at.ctx.inputs below)).0 tables_below)
            (left_by (e.packs told));
      }
    where
      torn : (late : List Moment) → (writes_by now.driver.world input ≡ true → late ≡ [])
          → (new.packs.held ≡ now.packs.held) ⊎ ((writes_by now.driver.world input ≡ true) × IsNextBlock now.driver.world now.packs.held new.packs.held)
          → (new.packs.held ≡ now.packs.held) ⊎ ((late ≡ []) × IsTorn (drives_of script) first now.packs.held new.packs.held (after_moments (start_of script tables first) at.ctx.done))
      torn late none (inl same) = inl same
      torn late none (inr next) = inr (
        none next.0,
        next_blocks_show (drives_of script) first now.packs.held new.packs.held (after_moments (start_of script tables first) at.ctx.done) now.driver.world at.sound at.ctx.shows
            at.ctx.declared at.ctx.behind.surface next.1,
      )

      left_by : (new.packs.held ≡ now.packs.held) ⊎ ((writes_by now.driver.world input ≡ true) × IsNextBlock now.driver.world now.packs.held new.packs.held) → (new.packs.held ≡ now.packs.held) ⊎ IsNextBlock now.driver.world now.packs.held new.packs.held
      left_by (inl same) = inl same
      left_by (inr next) = inr next.1

  pub event_stops : (fault : PlayFault) → IsThere now.driver.world input → EventStops line input fault now new → StopsAt fault script tables first said taken new
  event_stops faults.Store there e = event_store e
  event_stops faults.Sink there e = event_sink there e
  event_stops other there e = absurd e
