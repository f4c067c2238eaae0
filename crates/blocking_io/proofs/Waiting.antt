-- A request that is asked, and its drain, event by event.
use Rattle.std.proofs.Common.{◌≡◌, ℕ, ◌+◌, ◌≤◌, ◌<◌, Bool, true, false, IsTrue, List, [], ◌∷◌, ◌++◌, length, Option, Some, None, refl, sym, ap, subst, arith, ◌∙◌, append_assoc}
use Rattle.std.proofs.lemmas.Option.{none-some, same_Some}
use Rattle.std.proofs.lemmas.Grind.{flat_map-append}
use Rattle.pack_geometry.specs.declared.DriveKind.{DriveKind}
use Rattle.pack_geometry.specs.Pack.{Pack}
use Rattle.trace_replay.specs.requests.Requests.{Request, IsRequest}
use Rattle.trace_replay.specs.Moments.{Moment, Played, Answered, played, answers_in}
use Rattle.trace_replay.specs.Script as script
use Rattle.trace_replay.specs.Script.{Input}
use Rattle.trace_replay.specs.Text.{trace_text, moment_text}
use Rattle.trace_replay.specs.Replay.{Replay, after_moments}
use Rattle.driver_laws.specs.rules.Stands.{Setup}
use Rattle.driver_machine.specs.World.{World, unit_at}
use Rattle.driver_machine.specs.Acts.{Act, Taken, Tried, after, after_all}
use Rattle.driver_machine.specs.Lines.{lines_of_all}
use Rattle.driver_machine.specs.Events.{submit_acts, event_acts, next_event}
use Rattle.driver_machine.specs.Guards.{IsSetUp}
use Rattle.driver_machine.specs.Sound.{Sound, AtWork}
use Rattle.driver_machine.specs.Runs.{Run, MayCome}
use Rattle.driver_laws.specs.answers.Packs.{packs_after_all}
use Rattle.driver_laws.proofs.answers.Units.{setups_stay}
use Rattle.driver_laws.proofs.answers.Waiting.{events_alone, submissions_alone, answers_in-append as answers_append}
use Rattle.driver_laws.specs.shown.RunsRuns.{AreDeclared, Stay}
use Rattle.driver_laws.specs.shown.Lengths.{AreAsLong}
use Rattle.driver_laws.specs.shown.Within.{ShowsAll}
use Rattle.driver_laws.proofs.shown.Lengths.{drained_shows, first_events_keep_lengths, later_events_keep_lengths, submissions_keep_lengths}
use Rattle.driver_laws.proofs.rules.Quiet.{after_parts}
use Rattle.driver_laws.proofs.shown.RunsLaws.{runs_keep}
use Rattle.driver_laws.proofs.shown.Inputted.{lines_play_nothing}
use Rattle.driver_laws.specs.rules.Sessions.{Part, MayPlay, IsPart, behind}
use Rattle.driver_laws.specs.rules.Waited.{with_packs}
use Rattle.hp_driver.specs.Passes.{IsQuiet, kind_if, setup_of, StandsQuiet, IsOpen, GoesTo, DrainsFrom}
use Rattle.hp_driver.proofs.Passes.{quiet_opens, quiet_submits, drains_begin, drains_continue, takings_open, takings_drain, setup_stays, Waits, Drains, Fewer, first_fewer, later_fewer, waits_taken, drains_taken, submitted_waits}
use Rattle.blocking_io.specs.Given.{Given, gives, gives_all}
use Rattle.driver_laws.specs.answers.Waiting.{takings, all_taken}
use Rattle.blocking_io.specs.Calls.{Stage, GivesSubmission, GivesEvent}
use Rattle.driver_laws.proofs.answers.Taking.{taken_by, none_waits}
use Rattle.blocking_io.proofs.Within.{WritesNone, event_writes_none, submission_writes_none}

-- ---- answers one list behind the other
gives_append : (xs ys : List Answered) (g : Given) → gives_all (xs ++ ys) g ≡ gives_all ys (gives_all xs g)
gives_append [] ys g = refl
gives_append (x ∷ xs) ys g = gives_append xs ys (gives x g)

pub more_given : (first next : List Moment) (old mid new : Given) → mid ≡ gives_all (answers_in first) old → new ≡ gives_all (answers_in next) mid → new ≡ gives_all (answers_in (first ++ next)) old
more_given first next old mid new one two =
    two ∙ ap (gives_all (answers_in next)) one ∙ sym (gives_append (answers_in first) (answers_in next) old) ∙ ap (λ (xs : List Answered). gives_all xs old) (sym (answers_append first next))

pub more_told : (first next : List Moment) (old mid new : List ℕ) → mid ≡ old ++ trace_text first → new ≡ mid ++ trace_text next → new ≡ old ++ trace_text (first ++ next)
more_told first next old mid new one two =
    two ∙ ap (λ (xs : List ℕ). xs ++ trace_text next) one ∙ append_assoc old (trace_text first) (trace_text next)
    ∙ ap (λ (xs : List ℕ). old ++ xs) (sym (flat_map-append moment_text first next))

-- ---- UNITS ARE AS DECLARED
kind_of_some : (b : Bool) (k kind : DriveKind) → kind_if b k ≡ Some kind → k ≡ kind
kind_of_some true k kind is = same_Some k kind is
kind_of_some false k kind is = absurd (none-some kind is)

none_declared : (b : Bool) (k : DriveKind) → kind_if b k ≡ None → b ≡ false
none_declared true k is = absurd (none-some k (sym is))
none_declared false k is = refl

are_declared : (w : World) (held : ℕ → Pack) → AreDeclared (setup_of w held).drives w
are_declared w held = record {
  kinds = λ unit kind is. kind_of_some (unit_at w unit).declared (unit_at w unit).drive.kind kind is;
  others = λ unit none. none_declared (unit_at w unit).declared (unit_at w unit).drive.kind none;
}

pub drives_same : (old now : World) (held left : ℕ → Pack) → setup_of now left ≡ with_packs (setup_of old held) left → (setup_of now left).drives ≡ (setup_of old held).drives
drives_same old now held left is = ap (λ (z : Setup). z.drives) is

pub declared_now : (old now : World) (held left : ℕ → Pack) → setup_of now left ≡ with_packs (setup_of old held) left → AreDeclared (setup_of old held).drives now
declared_now old now held left is = subst (λ (drives : ℕ → Option DriveKind). AreDeclared drives now) (drives_same old now held left is) (are_declared now left)

declared_from : (b c : Bool) (k l : DriveKind) → kind_if c l ≡ kind_if b k → b ≡ true → c ≡ true
declared_from b true k l same is = refl
declared_from true false k l same is = absurd (none-some k same)
declared_from false false k l same is = is

pub still_up : (old now : World) (held left : ℕ → Pack) (u : ℕ) → setup_of now left ≡ with_packs (setup_of old held) left → IsSetUp old u → IsSetUp now u
still_up old now held left u same set = record {
  unit = set.unit;
  declared = declared_from (unit_at old u).declared (unit_at now u).declared (unit_at old u).drive.kind (unit_at now u).drive.kind
      (ap (λ (drives : ℕ → Option DriveKind). drives u) (drives_same old now held left same)) set.declared;
}

-- ---- WHAT IS NO SECTOR stays
pub none_stays : (drives : ℕ → Option DriveKind) (held : ℕ → Pack) → Stay drives held held
none_stays drives held = record { beyond = λ unit kind is. refl; marks = λ unit. refl; others = λ unit none. refl }

pub acts_stay : (drives : ℕ → Option DriveKind) (old held : ℕ → Pack) (w : World) (acts : List Act) → Sound w → Run w acts → AreDeclared drives w → Stay drives old held
    → Stay drives old (packs_after_all w held acts)
acts_stay drives old held w acts sound run units stay = (runs_keep drives old held w acts sound run (record { units = units; packs = stay })).packs

-- THE WORLD of units that are set up
stays_up : (w : World) (acts : List Act) (u : ℕ) → IsSetUp w u → IsSetUp (after_all w acts) u
stays_up w acts u unit = record { unit = unit.unit; declared = (setups_stay w acts u).declared ∙ unit.declared }

taken_setup : (w : World) (held : ℕ → Pack) → setup_of (all_taken w) held ≡ setup_of w held
taken_setup w held = setup_stays w (takings w.answers) held held

both_setup : (old : World) (acts : List Act) (now : World) (held left : ℕ → Pack) → now ≡ all_taken (after_all old acts) → setup_of now left ≡ with_packs (setup_of old held) left
both_setup old acts now held left is =
    ap (λ (w : World). setup_of w left) is ∙ taken_setup (after_all old acts) left ∙ setup_stays old acts held left

-- ---- EACH ANSWER IS TAKEN
record OpenAt (u : ℕ) (held : ℕ → Pack) (s : Replay) (w : World) : Type 0 where
  unit : IsSetUp w u
  opened : IsOpen held w s

open_step : (u : ℕ) (held : ℕ → Pack) (s : Replay) (w : World) → 0 < length w.answers → OpenAt u held s w → OpenAt u held s (after w Taken)
open_step u held s w some at = record { unit = stays_up w (Taken ∷ []) u at.unit; opened = takings_open u held w s at.unit some at.opened }

open_taken : (u : ℕ) (held : ℕ → Pack) (s : Replay) (w : World) → IsSetUp w u → IsOpen held w s → IsOpen held (all_taken w) s
open_taken u held s w unit opened = (taken_by (OpenAt u held s) (open_step u held s) w.answers w refl (record { unit = unit; opened = opened })).opened

record DrainAt (line u : ℕ) (held : ℕ → Pack) (s : Replay) (moments : List Moment) (w : World) : Type 0 where
  unit : IsSetUp w u
  from : DrainsFrom line s moments held w

drain_step : (line u : ℕ) (held : ℕ → Pack) (s : Replay) (moments : List Moment) (w : World) → 0 < length w.answers → DrainAt line u held s moments w → DrainAt line u held s moments (after w Taken)
drain_step line u held s moments w some at = record { unit = stays_up w (Taken ∷ []) u at.unit; from = takings_drain line u held w s moments at.unit some at.from }

drain_taken : (line u : ℕ) (held : ℕ → Pack) (s : Replay) (moments : List Moment) (w : World) → IsSetUp w u → DrainsFrom line s moments held w → DrainsFrom line s moments held (all_taken w)
drain_taken line u held s moments w unit from = (taken_by (DrainAt line u held s moments) (drain_step line u held s moments) w.answers w refl (record { unit = unit; from = from })).from

record WaitAt (left u : ℕ) (w : World) : Type 0 where
  unit : IsSetUp w u
  waits : Waits left w

wait_step : (left u : ℕ) (w : World) → 0 < length w.answers → WaitAt left u w → WaitAt left u (after w Taken)
wait_step left u w some at = record { unit = stays_up w (Taken ∷ []) u at.unit; waits = waits_taken left u w at.unit some at.waits }

all_waits : (left u : ℕ) (w : World) → IsSetUp w u → Waits left w → Waits left (all_taken w)
all_waits left u w unit waits = (taken_by (WaitAt left u) (wait_step left u) w.answers w refl (record { unit = unit; waits = waits })).waits

record LeftAt (line left u : ℕ) (w : World) : Type 0 where
  unit : IsSetUp w u
  drains : Drains line left w

left_step : (line left u : ℕ) (w : World) → 0 < length w.answers → LeftAt line left u w → LeftAt line left u (after w Taken)
left_step line left u w some at = record { unit = stays_up w (Taken ∷ []) u at.unit; drains = drains_taken line left u w at.unit some at.drains }

all_left : (line left u : ℕ) (w : World) → IsSetUp w u → Drains line left w → Drains line left (all_taken w)
all_left line left u w unit drains = (taken_by (LeftAt line left u) (left_step line left u) w.answers w refl (record { unit = unit; drains = drains })).drains

-- ---- BEHIND THE SUBMISSION
abbrev pub first_part : ℕ → Request → List Moment → Part
first_part line r asked = record { line = line; input = script.Submit r; told = asked }

pub record IsAskedTo (line : ℕ) (r : Request) (asked : List Moment) (now : Stage) (s : Replay) : Type 0 where
  pub part : IsPart s (first_part line r asked)
  pub opened : IsOpen now.held now.world (behind s (first_part line r asked))

abbrev pub asked_moments : ℕ → Request → List Moment → List Moment
asked_moments line r asked = Played line (script.Submit r) ∷ asked

pub record SoAsked (line : ℕ) (r : Request) (old now : Stage) : Type 0 where
  pub asked : List Moment
  pub trace : IsTrue now.trace_tells → now.taken ≡ old.taken ++ trace_text asked
  pub given : now.given ≡ gives_all (answers_in asked) old.given
  pub none : now.world.answers ≡ []
  pub unit : IsSetUp now.world r.unit
  pub setup : setup_of now.world now.held ≡ with_packs (setup_of old.world old.held) now.held
  pub waits : Waits 812800 now.world
  pub stay : Stay (setup_of old.world old.held).drives old.held now.held
  pub long : (s : Replay) → StandsQuiet old.held old.world s → AreAsLong s (asked_moments line r asked) old.held now.held
  pub within : r.written ≡ None → WritesNone old.held now.held now.world
  pub far : (s : Replay) → StandsQuiet old.held old.world s → IsAskedTo line r asked now s

pub asked_so : (line : ℕ) (r : Request) (old now : Stage) → Sound old.world → AtWork old.world → IsQuiet old.world → IsRequest r → 1 ≤ line → GivesSubmission line r old now
    → SoAsked line r old now
asked_so line r old now sound work quiet is some gives =
    let acts : List Act = submit_acts r line gives.slot gives.held old.world in
    let lines : List Moment = lines_of_all old.world acts in
    let mid : World = after_all old.world acts in
    let up : IsSetUp mid r.unit = stays_up old.world acts r.unit gives.may.unit in
    record {
      asked = lines;
      trace = gives.acts.trace;
      given = gives.acts.given ∙ ap (λ (xs : List Answered). gives_all xs old.given) (submissions_alone old.world line gives.slot r gives.held sound work gives.may);
      none = ap (λ (w : World). w.answers) gives.acts.world ∙ none_waits mid;
      unit = subst (λ (w : World). IsSetUp w r.unit) (sym gives.acts.world) (stays_up mid (takings mid.answers) r.unit up);
      setup = both_setup old.world acts now.world old.held now.held gives.acts.world;
      waits = subst (Waits 812800) (sym gives.acts.world) (all_waits 812800 r.unit mid up (submitted_waits line gives.slot r gives.held old.world sound work quiet is gives.may gives.is some));
      stay = subst (Stay (setup_of old.world old.held).drives old.held) (sym gives.packs)
          (acts_stay (setup_of old.world old.held).drives old.held old.held old.world acts sound gives.acts.run (are_declared old.world old.held)
          (none_stays (setup_of old.world old.held).drives old.held));
      long = λ s q. subst (AreAsLong s (asked_moments line r lines) old.held) (sym gives.packs)
          (submissions_keep_lengths s [] old.held old.held old.world line gives.slot r gives.held (λ unit. refl));
      within = λ reads. subst (λ (held : ℕ → Pack). WritesNone old.held held now.world) (sym gives.packs)
          (subst (WritesNone old.held (packs_after_all old.world old.held acts)) (sym gives.acts.world)
          (submission_writes_none line gives.slot r gives.held (setup_of old.world old.held).drives old.held old.world sound work quiet gives.may gives.is (are_declared old.world old.held) reads));
      far = λ s q.
          let goes : GoesTo line (script.Submit r) old.held old.world s acts = quiet_submits line gives.slot r gives.held old.held old.world s q gives.may gives.is some in
          record {
            part = record { number = some; may = (quiet_opens old.held old.world s q).may; follows = goes.follows; lines_alone = lines_play_nothing [] old.world acts };
            opened = subst (λ (w : World). IsOpen now.held w (behind s (first_part line r lines))) (sym gives.acts.world)
                (open_taken r.unit now.held (behind s (first_part line r lines)) mid up
                (subst (λ (held : ℕ → Pack). IsOpen held mid (behind s (first_part line r lines))) (sym gives.packs) goes.opened));
          };
    }

-- ---- IN THE DRAIN
pub record IsDrainedTo (line : ℕ) (r : Request) (asked drained : List Moment) (now : Stage) (s : Replay) : Type 0 where
  pub part : IsPart s (first_part line r asked)
  pub may : MayPlay (behind s (first_part line r asked))
  pub from : DrainsFrom line (behind s (first_part line r asked)) drained now.held now.world

abbrev pub drained_moments : ℕ → Request → (asked drained : List Moment) → List Moment
drained_moments line r asked drained = asked_moments line r asked ++ Played line script.Drain ∷ drained

pub record SoDrained (line : ℕ) (r : Request) (old now : Stage) : Type 0 where
  pub asked : List Moment
  pub drained : List Moment
  pub trace : IsTrue now.trace_tells → now.taken ≡ old.taken ++ trace_text (asked ++ drained)
  pub given : now.given ≡ gives_all (answers_in (asked ++ drained)) old.given
  pub none : now.world.answers ≡ []
  pub alone : played drained ≡ []
  pub unit : IsSetUp now.world r.unit
  pub setup : setup_of now.world now.held ≡ with_packs (setup_of old.world old.held) now.held
  pub stay : IsTrue now.packs_tell → Stay (setup_of old.world old.held).drives old.held now.held
  pub long : IsTrue now.packs_tell → (s : Replay) → StandsQuiet old.held old.world s → AreAsLong s (drained_moments line r asked drained) old.held now.held
  pub within : IsTrue now.packs_tell → r.written ≡ None → WritesNone old.held now.held now.world
  pub far : IsTrue now.packs_tell → (s : Replay) → StandsQuiet old.held old.world s → IsDrainedTo line r asked drained now s

-- and all lines are sent
pub drained_sent : (line : ℕ) (r : Request) (old mid : Stage) (w : World) (tells : Bool) (taken : List ℕ) → w ≡ mid.world → (IsTrue tells → IsTrue mid.trace_tells) → (IsTrue tells → taken ≡ mid.taken)
    → SoDrained line r old mid → SoDrained line r old (record mid { world = w; trace_tells = tells; taken = taken })
drained_sent line r old mid w tells taken same still sent so = record {
  asked = so.asked;
  drained = so.drained;
  trace = λ t. sent t ∙ so.trace (still t);
  given = so.given;
  none = ap (λ (v : World). v.answers) same ∙ so.none;
  alone = so.alone;
  unit = subst (λ (v : World). IsSetUp v r.unit) (sym same) so.unit;
  setup = subst (λ (v : World). setup_of v mid.held ≡ with_packs (setup_of old.world old.held) mid.held) (sym same) so.setup;
  stay = so.stay;
  long = so.long;
  within = λ t reads. subst (λ (v : World). WritesNone old.held mid.held v) (sym same) (so.within t reads);
  far = λ t s q.
      let at : IsDrainedTo line r so.asked so.drained mid s = so.far t s q in
      record {
        part = at.part;
        may = at.may;
        from = subst (λ (v : World). DrainsFrom line (behind s (first_part line r so.asked)) so.drained mid.held v) (sym same) at.from;
      };
}

-- how many turns are left
pub record Turns (line turn : ℕ) (w : World) : Type 0 where
  pub left : ℕ
  pub few : turn + left ≤ 812800
  pub drains : Drains line left w

next_setup : (old mid now : Stage) (acts : List Act) → setup_of mid.world mid.held ≡ with_packs (setup_of old.world old.held) mid.held
    → now.world ≡ all_taken (after_all mid.world acts) → setup_of now.world now.held ≡ with_packs (setup_of old.world old.held) now.held
next_setup old mid now acts was is =
    both_setup mid.world acts now.world mid.held now.held is ∙ ap (λ (z : Setup). with_packs z now.held) was

more_within : (line : ℕ) (input : Input) (tried : Tried) (old : ℕ → Pack) (mid now : Stage) → Sound mid.world → AtWork mid.world → MayCome mid.world input tried
    → now.held ≡ packs_after_all mid.world mid.held (event_acts line input tried mid.world) → now.world ≡ all_taken (after_all mid.world (event_acts line input tried mid.world))
    → WritesNone old mid.held mid.world → WritesNone old now.held now.world
more_within line input tried old mid now sound work may packs world within =
    subst (λ (held : ℕ → Pack). WritesNone old held now.world) (sym packs)
    (subst (WritesNone old (packs_after_all mid.world mid.held (event_acts line input tried mid.world))) (sym world)
    (event_writes_none line input tried old mid.held mid.world sound work may within))

pub first_drained : (line : ℕ) (r : Request) (input : Input) (old mid now : Stage) → 1 ≤ line → (IsTrue now.packs_tell → IsTrue mid.packs_tell) → (IsTrue now.trace_tells → IsTrue mid.trace_tells)
    → Sound mid.world → AtWork mid.world → next_event mid.world ≡ Some input → SoAsked line r old mid → GivesEvent line input mid now → SoDrained line r old now
first_drained line r input old mid now some still still_traced sound work is so gives =
    let acts : List Act = event_acts line input gives.tried mid.world in
    let lines : List Moment = lines_of_all mid.world acts in
    let last : World = after_all mid.world acts in
    let up : IsSetUp last r.unit = stays_up mid.world acts r.unit so.unit in
    record {
      asked = so.asked;
      drained = lines;
      trace = λ t. more_told so.asked lines old.taken mid.taken now.taken (so.trace (still_traced t)) (gives.acts.trace t);
      given = more_given so.asked lines old.given mid.given now.given so.given
          (gives.acts.given ∙ ap (λ (xs : List Answered). gives_all xs mid.given) (events_alone mid.world line input gives.tried sound work gives.may so.none));
      none = ap (λ (w : World). w.answers) gives.acts.world ∙ none_waits last;
      alone = lines_play_nothing [] mid.world acts;
      unit = subst (λ (w : World). IsSetUp w r.unit) (sym gives.acts.world) (stays_up last (takings last.answers) r.unit up);
      setup = next_setup old mid now acts so.setup gives.acts.world;
      stay = λ t. subst (Stay (setup_of old.world old.held).drives old.held) (sym (gives.packs t))
          (acts_stay (setup_of old.world old.held).drives old.held mid.held mid.world acts sound gives.acts.run (declared_now old.world mid.world old.held mid.held so.setup) so.stay);
      long = λ t s q. subst (AreAsLong s (drained_moments line r so.asked lines) old.held) (sym (gives.packs t))
          (first_events_keep_lengths s (asked_moments line r so.asked) old.held mid.held mid.world line input gives.tried sound (so.far s q).opened.stands.shows gives.acts.run (so.long s q));
      within = λ t reads. more_within line input gives.tried old.held mid now sound work gives.may (gives.packs t) gives.acts.world (so.within reads);
      far = λ t s q.
          let at : IsAskedTo line r so.asked mid s = so.far s q in
          record {
            part = at.part;
            may = at.opened.may;
            from = subst (λ (w : World). DrainsFrom line (behind s (first_part line r so.asked)) lines now.held w) (sym gives.acts.world)
                (drain_taken line r.unit now.held (behind s (first_part line r so.asked)) lines last up
                (subst (λ (held : ℕ → Pack). DrainsFrom line (behind s (first_part line r so.asked)) lines held last) (sym (gives.packs t))
                (drains_begin line input gives.tried mid.held mid.world (behind s (first_part line r so.asked)) at.opened some is gives.may (gives.reads t))));
          };
    }

pub first_turns : (line : ℕ) (r : Request) (input : Input) (old mid now : Stage) → 1 ≤ line → next_event mid.world ≡ Some input → SoAsked line r old mid → GivesEvent line input mid now → Turns line 0 now.world
first_turns line r input old mid now some is so gives =
    let last : World = after_all mid.world (event_acts line input gives.tried mid.world) in
    let fewer : Fewer line 812800 last = first_fewer line 812800 input gives.tried mid.world some is gives.may so.waits in
    record {
      left = fewer.rest;
      few = less fewer.rest fewer.fewer;
      drains = subst (Drains line fewer.rest) (sym gives.acts.world)
          (all_left line fewer.rest r.unit last (stays_up mid.world (event_acts line input gives.tried mid.world) r.unit so.unit) fewer.drains);
    }
  where
    less : (n : ℕ) → n < 812800 → 0 + n ≤ 812800
    less n lt = omega (arith, lt)

-- the replay behind the moments so far shows the world
shows_drained : (line : ℕ) (r : Request) (asked drained : List Moment) (mid : Stage) (s : Replay) → IsDrainedTo line r asked drained mid s
    → ShowsAll mid.world (after_moments s (drained_moments line r asked drained))
shows_drained line r asked drained mid s at =
    let ends = at.from.draining.ends in
    subst (ShowsAll mid.world) (sym (after_parts s (asked_moments line r asked) (Played line script.Drain ∷ drained)))
    (subst (ShowsAll mid.world) (sym ends.is) (drained_shows mid.world ends.last ends.over.rests.shows))

pub more_drained : (line : ℕ) (r : Request) (input : Input) (old mid now : Stage) → (IsTrue now.packs_tell → IsTrue mid.packs_tell) → (IsTrue now.trace_tells → IsTrue mid.trace_tells)
    → Sound mid.world → AtWork mid.world → next_event mid.world ≡ Some input → SoDrained line r old mid → GivesEvent line input mid now → SoDrained line r old now
more_drained line r input old mid now still still_traced sound work is so gives =
    let acts : List Act = event_acts line input gives.tried mid.world in
    let lines : List Moment = lines_of_all mid.world acts in
    let last : World = after_all mid.world acts in
    let up : IsSetUp last r.unit = stays_up mid.world acts r.unit so.unit in
    let joined : (so.asked ++ so.drained) ++ lines ≡ so.asked ++ (so.drained ++ lines) = append_assoc so.asked so.drained lines in
    record {
      asked = so.asked;
      drained = so.drained ++ lines;
      trace = λ t. more_told (so.asked ++ so.drained) lines old.taken mid.taken now.taken (so.trace (still_traced t)) (gives.acts.trace t) ∙ ap (λ (ms : List Moment). old.taken ++ trace_text ms) joined;
      given = more_given (so.asked ++ so.drained) lines old.given mid.given now.given so.given
          (gives.acts.given ∙ ap (λ (xs : List Answered). gives_all xs mid.given) (events_alone mid.world line input gives.tried sound work gives.may so.none))
          ∙ ap (λ (ms : List Moment). gives_all (answers_in ms) old.given) joined;
      none = ap (λ (w : World). w.answers) gives.acts.world ∙ none_waits last;
      alone = lines_play_nothing so.drained mid.world acts ∙ so.alone;
      unit = subst (λ (w : World). IsSetUp w r.unit) (sym gives.acts.world) (stays_up last (takings last.answers) r.unit up);
      setup = next_setup old mid now acts so.setup gives.acts.world;
      stay = λ t. subst (Stay (setup_of old.world old.held).drives old.held) (sym (gives.packs t))
          (acts_stay (setup_of old.world old.held).drives old.held mid.held mid.world acts sound gives.acts.run (declared_now old.world mid.world old.held mid.held so.setup) (so.stay (still t)));
      long = λ t s q. subst (AreAsLong s (drained_moments line r so.asked (so.drained ++ lines)) old.held) (sym (gives.packs t))
          (subst (λ (ms : List Moment). AreAsLong s ms old.held (packs_after_all mid.world mid.held acts)) (append_assoc (asked_moments line r so.asked) (Played line script.Drain ∷ so.drained) lines)
          (later_events_keep_lengths s (drained_moments line r so.asked so.drained) old.held mid.held mid.world line input gives.tried sound
          (shows_drained line r so.asked so.drained mid s (so.far (still t) s q)) gives.acts.run (so.long (still t) s q)));
      within = λ t reads. more_within line input gives.tried old.held mid now sound work gives.may (gives.packs t) gives.acts.world (so.within (still t) reads);
      far = λ t s q.
          let at : IsDrainedTo line r so.asked so.drained mid s = so.far (still t) s q in
          record {
            part = at.part;
            may = at.may;
            from = subst (λ (w : World). DrainsFrom line (behind s (first_part line r so.asked)) (so.drained ++ lines) now.held w) (sym gives.acts.world)
                (drain_taken line r.unit now.held (behind s (first_part line r so.asked)) (so.drained ++ lines) last up
                (subst (λ (held : ℕ → Pack). DrainsFrom line (behind s (first_part line r so.asked)) (so.drained ++ lines) held last) (sym (gives.packs t))
                (drains_continue line input gives.tried mid.held mid.world (behind s (first_part line r so.asked)) so.drained at.from is gives.may (gives.reads t))));
          };
    }

pub more_turns : (line turn : ℕ) (r : Request) (input : Input) (old mid now : Stage) → next_event mid.world ≡ Some input → SoDrained line r old mid → GivesEvent line input mid now
    → Turns line turn mid.world → Turns line (turn + 1) now.world
more_turns line turn r input old mid now is so gives turns =
    let last : World = after_all mid.world (event_acts line input gives.tried mid.world) in
    let fewer : Fewer line turns.left last = later_fewer line turns.left input gives.tried mid.world is gives.may turns.drains in
    record {
      left = fewer.rest;
      few = less turn turns.left fewer.rest turns.few fewer.fewer;
      drains = subst (Drains line fewer.rest) (sym gives.acts.world)
          (all_left line fewer.rest r.unit last (stays_up mid.world (event_acts line input gives.tried mid.world) r.unit so.unit) fewer.drains);
    }
  where
    less : (turn left rest : ℕ) → turn + left ≤ 812800 → rest < left → (turn + 1) + rest ≤ 812800
    less turn left rest few fewer = omega (arith, few, fewer)
