-- The drain is over: the driver is quiet, and the answer is that of the map.
use Rattle.std.proofs.Common.{◌≡◌, ℕ, ◌≤◌, Bool, IsTrue, List, [], ◌∷◌, ◌++◌, None, refl, sym, ap, subst, ◌∙◌, append-nil}
use Rattle.pack_geometry.specs.Pack.{Pack}
use Rattle.trace_replay.specs.requests.Requests.{Request, IsRequest}
use Rattle.trace_replay.specs.Moments.{Moment, Idle, Answered, answers_in}
use Rattle.trace_replay.specs.Script as script
use Rattle.trace_replay.specs.Script.{IsThere}
use Rattle.trace_replay.specs.Text.{trace_text, moment_text}
use Rattle.trace_replay.specs.Replay.{Replay, IsOver}
use Rattle.driver_laws.specs.rules.Calm.{IsGood, IsCalm}
use Rattle.driver_laws.specs.rules.Stands.{Setup}
use Rattle.driver_machine.specs.World.{World, unit_at}
use Rattle.driver_machine.specs.Acts.{Nothing}
use Rattle.driver_machine.specs.Events.{next_event}
use Rattle.driver_machine.specs.Guards.{IsSetUp}
use Rattle.driver_machine.specs.Sound.{Sound, AtWork}
use Rattle.driver_machine.specs.Runs.{NoneOutstanding}
use Rattle.driver_laws.specs.shown.RunsRuns.{Stay}
use Rattle.driver_laws.specs.shown.Lengths.{AreAsLong}
use Rattle.driver_laws.proofs.shown.Lengths.{empty_drains_keep_lengths}
use Rattle.driver_laws.specs.shown.Calls.{Stands}
use Rattle.driver_laws.proofs.shown.DrainsLaws.{drain_left, none_outstanding}
use Rattle.driver_laws.specs.rules.Sessions.{IsSession, behind, behind_all, waited, told_in}
use Rattle.driver_laws.specs.rules.Rest.{HasTables}
use Rattle.driver_laws.specs.rules.Waited.{map_of, answer_in, with_packs, IsAskable, IsWaitedFor, IsAnswered, AreLeftBy}
use Rattle.driver_laws.proofs.rules.WaitedLaws.{waited_is_answered, all_rest_again, packs_hold_map}
use Rattle.hp_driver.specs.Passes.{IsQuiet, kind_if, setup_of, rested, StandsQuiet, IsOpen, GoesTo}
use Rattle.hp_driver.proofs.Passes.{quiet_rests, drains_are_over, drains_find_nothing, quiet_again, Waits}
use Rattle.blocking_io.specs.Given.{Given, gives_all, reached_by, bytes_by}
use Rattle.blocking_io.specs.Calls.{Stage}
use Rattle.blocking_io.specs.Asking.{Answers, ImagesStay}
use Rattle.blocking_io.proofs.Longer.{long_told}
use Rattle.blocking_io.proofs.Within.{images_stay, same_images}
use Rattle.blocking_io.proofs.Waiting.{first_part, asked_moments, drained_moments, still_up, more_told, more_given, IsAskedTo, SoAsked, IsDrainedTo, SoDrained, Turns}

-- ---- QUIET
quiet_of : (held : ℕ → Pack) (w : World) (s : Replay) → Stands held w s → IsCalm s → NoneOutstanding w → w.answers ≡ [] → IsQuiet w
quiet_of held w s stands calm none taken = record {
  none = none;
  taken = taken;
  good = λ u set. subst IsGood (stands.shows.units u set).drive (calm.drives u);
  live = sym stands.shows.noise ∙ calm.live;
}

pub quiet_waiting : (left : ℕ) (w : World) → Waits left w → NoneOutstanding w → w.answers ≡ [] → IsQuiet w
quiet_waiting left w waits none taken = quiet_of waits.held w waits.replay waits.opened.stands waits.facts.calm none taken

pub quiet_drained : (line turn : ℕ) (w : World) → Turns line turn w → next_event w ≡ None → NoneOutstanding w → w.answers ≡ [] → IsQuiet w
quiet_drained line turn w turns idle none taken =
    quiet_of turns.drains.held w turns.drains.replay (drain_left line turns.drains.held w turns.drains.replay turns.drains.work idle turns.drains.ends).stands turns.drains.facts.calm none taken

-- ---- THE ANSWER
askable : (w : World) (held : ℕ → Pack) (r : Request) → IsSetUp w r.unit → IsRequest r → IsAskable (setup_of w held) r
askable w held r unit is = subst (λ (b : Bool). IsThere (kind_if b (unit_at w r.unit).drive.kind) (λ kind. IsRequest r)) (sym unit.declared) is

-- a session came to its end, behind which the driver is open
pub record Ended (line : ℕ) (r : Request) (asked drained : List Moment) (now : Stage) (s : Replay) : Type 0 where
  pub session : IsSession s (waited line r asked drained)
  pub opened : IsOpen now.held now.world (behind_all s (waited line r asked drained))

ended_over : (line : ℕ) (r : Request) (asked drained : List Moment) (now : Stage) (s : Replay) → next_event now.world ≡ None → Ended line r asked drained now s
    → IsOver (behind_all s (waited line r asked drained))
ended_over line r asked drained now s idle ended = record {
  over = ended.opened.stands.over;
  answered = none_outstanding now.world (behind_all s (waited line r asked drained)).outstanding ended.opened.stands.sound ended.opened.stands.work idle ended.opened.stands.shows.outstanding;
}

one_given : (line : ℕ) (r : Request) (asked drained : List Moment) (setup : Setup) (old now : Given) (s : Replay) → now ≡ gives_all (answers_in (asked ++ drained)) old
    → IsAnswered setup line r (told_in (waited line r asked drained)) s
    → now ≡ record { reached = reached_by (answer_in setup r); bytes = bytes_by (answer_in setup r) old.bytes }
one_given line r asked drained setup old now s is answered =
    is ∙ ap (λ (ms : List Moment). gives_all (answers_in (asked ++ ms)) old) (sym (append-nil drained)) ∙ ap (λ (xs : List Answered). gives_all xs old) answered.one

-- what is asked of such an end, whatever came before
pub record IsEnd (line : ℕ) (r : Request) (asked drained : List Moment) (old now : Stage) : Type 0 where
  pub trace : IsTrue now.trace_tells → now.taken ≡ old.taken ++ trace_text (asked ++ drained)
  pub given : now.given ≡ gives_all (answers_in (asked ++ drained)) old.given
  pub setup : setup_of now.world now.held ≡ with_packs (setup_of old.world old.held) now.held
  pub stay : IsTrue now.packs_tell → Stay (setup_of old.world old.held).drives old.held now.held
  pub long : IsTrue now.packs_tell → (s : Replay) → StandsQuiet old.held old.world s → AreAsLong s (drained_moments line r asked drained) old.held now.held
  pub images : IsTrue now.packs_tell → r.written ≡ None → ImagesStay old.held now.held
  pub ended : IsTrue now.packs_tell → (s : Replay) → StandsQuiet old.held old.world s → Ended line r asked drained now s

module _ (line : ℕ) (r : Request) (asked drained : List Moment) (old now : Stage) (sound : Sound old.world) (work : AtWork old.world) (quiet : IsQuiet old.world)
    (unit : IsSetUp old.world r.unit) (is : IsRequest r) (idle : next_event now.world ≡ None) (end : IsEnd line r asked drained old now) where
  waits_for : IsTrue now.packs_tell → HasTables (setup_of old.world old.held) → (s : Replay) → StandsQuiet old.held old.world s → IsWaitedFor (setup_of old.world old.held) s line r asked drained
  waits_for t tables s q = record {
    tables = tables;
    rest = q.rest;
    askable = askable old.world old.held r unit is;
    session = (end.ended t s q).session;
    over = ended_over line r asked drained now s idle (end.ended t s q);
  }

  abbrev start : Replay
  start = rested old.world old.held

  first : StandsQuiet old.held old.world start
  first = quiet_rests old.world old.held sound work quiet

  left_by : (t : IsTrue now.packs_tell) (s : Replay) (q : StandsQuiet old.held old.world s)
      → AreLeftBy (setup_of old.world old.held) now.held (behind_all s (waited line r asked drained))
  left_by t s q = record {
    sectors = (end.ended t s q).opened.stands.packs.sectors;
    marked = (end.ended t s q).opened.stands.packs.marks;
    marks = (end.stay t).marks;
  }

  given_now : (t : IsTrue now.packs_tell) → HasTables (setup_of old.world old.held)
      → now.given ≡ record { reached = reached_by (answer_in (setup_of old.world old.held) r); bytes = bytes_by (answer_in (setup_of old.world old.held) r) old.given.bytes }
  given_now t tables =
      one_given line r asked drained (setup_of old.world old.held) old.given now.given (behind_all start (waited line r asked drained)) end.given
      (waited_is_answered (setup_of old.world old.held) start line r asked drained (waits_for t tables start first))

  pub answers : Answers line r old now
  answers = record {
    asked = asked;
    drained = drained;
    trace = end.trace;
    units = λ u set. still_up old.world now.world old.held now.held u end.setup set;
    setup = end.setup;
    stays = end.stay;
    long = λ t s q. long_told line r asked drained s old.held now.held (end.long t s q);
    images = end.images;
    mapped = λ t tables. record {
      follows = λ s q. record {
        session = (end.ended t s q).session;
        over = ended_over line r asked drained now s idle (end.ended t s q);
        stands = quiet_again old.held now.held old.world now.world s line r asked drained q (waits_for t tables s q) (end.ended t s q).opened (end.stay t).marks end.setup;
      };
      reached = ap (λ (g : Given). g.reached) (given_now t tables);
      bytes = ap (λ (g : Given). g.bytes) (given_now t tables);
      map = λ unit block.
          ap (λ (z : Setup). map_of z unit block) end.setup
          ∙ packs_hold_map (setup_of old.world old.held) start line r asked drained now.held (waits_for t tables start first) (left_by t start first) unit block;
      others = λ unit sector homeless.
          sym ((left_by t start first).sectors unit sector)
          ∙ (waited_is_answered (setup_of old.world old.held) start line r asked drained (waits_for t tables start first)).others unit sector homeless;
      tables = subst HasTables (sym end.setup)
          (all_rest_again (setup_of old.world old.held) start line r asked drained now.held (waits_for t tables start first) (left_by t start first)).tables;
    };
  }

-- ---- BEHIND THE LAST EVENT
pub drained_answers : (line : ℕ) (r : Request) (old now : Stage) → Sound old.world → AtWork old.world → IsQuiet old.world → IsSetUp old.world r.unit → IsRequest r → 1 ≤ line
    → next_event now.world ≡ None → SoDrained line r old now → Answers line r old now
drained_answers line r old now sound work quiet unit is some idle so =
    answers line r so.asked so.drained old now sound work quiet unit is idle
    (record {
      trace = so.trace;
      given = so.given;
      setup = so.setup;
      stay = so.stay;
      long = so.long;
      images = λ t reads. images_stay old.held now.held now.world (so.within t reads);
      ended = λ t s q.
          let at : IsDrainedTo line r so.asked so.drained now s = so.far t s q in
          record {
            session = (at.part, (record { number = some; may = at.may; follows = at.from.draining.follows; lines_alone = so.alone }, tt));
            opened = drains_are_over line now.held now.world (behind s (first_part line r so.asked)) so.drained at.from idle;
          };
    })

-- ---- WHERE THE DRAIN FOUND NOTHING, and said so
pub nothing_answers : (line : ℕ) (r : Request) (old mid now : Stage) → Sound old.world → AtWork old.world → IsQuiet old.world → IsSetUp old.world r.unit → IsRequest r → 1 ≤ line
    → next_event mid.world ≡ None → now.world ≡ mid.world → now.held ≡ mid.held → now.given ≡ mid.given → (IsTrue now.trace_tells → IsTrue mid.trace_tells)
    → (IsTrue now.trace_tells → now.taken ≡ mid.taken ++ moment_text (Idle line)) → SoAsked line r old mid → Answers line r old now
nothing_answers line r old mid now sound work quiet unit is some idle same_world same_held same_given still_traced said so =
    answers line r so.asked (Idle line ∷ []) old now sound work quiet unit is (ap next_event same_world ∙ idle)
    (record {
      trace = λ t. more_told so.asked (Idle line ∷ []) old.taken mid.taken now.taken (so.trace (still_traced t))
          (said t ∙ ap (λ (text : List ℕ). mid.taken ++ text) (sym (append-nil (moment_text (Idle line)))));
      given = more_given so.asked (Idle line ∷ []) old.given mid.given now.given so.given same_given;
      setup = subst (λ (w : World). setup_of w now.held ≡ with_packs (setup_of old.world old.held) now.held) (sym same_world)
          (subst (λ (held : ℕ → Pack). setup_of mid.world held ≡ with_packs (setup_of old.world old.held) held) (sym same_held) so.setup);
      stay = λ t. subst (Stay (setup_of old.world old.held).drives old.held) (sym same_held) so.stay;
      long = λ t s q. subst (AreAsLong s (drained_moments line r so.asked (Idle line ∷ [])) old.held) (sym same_held)
          (empty_drains_keep_lengths s (asked_moments line r so.asked) old.held mid.held mid.world line (so.long s q));
      images = λ t reads. same_images old.held mid.held now.held same_held (images_stay old.held mid.held mid.world (so.within reads));
      ended = λ t s q.
          let at : IsAskedTo line r so.asked mid s = so.far s q in
          let goes : GoesTo line script.Drain mid.held mid.world (behind s (first_part line r so.asked)) (Nothing line ∷ []) =
          drains_find_nothing line mid.held mid.world (behind s (first_part line r so.asked)) at.opened some idle in
          record {
            session = (at.part, (record { number = some; may = at.opened.may; follows = goes.follows; lines_alone = refl }, tt));
            opened = subst (λ (w : World). IsOpen now.held w (behind_all s (waited line r so.asked (Idle line ∷ [])))) (sym same_world)
                (subst (λ (held : ℕ → Pack). IsOpen held mid.world (behind_all s (waited line r so.asked (Idle line ∷ [])))) (sym same_held) goes.opened);
          };
    })
