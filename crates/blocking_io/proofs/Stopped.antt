-- A request that stopped: in its submission, as the drain found nothing to do, or in an event of its drain.
use Rattle.std.proofs.Common.{◌≡◌, ℕ, ◌≤◌, Bool, true, false, IsTrue, List, [], ◌∷◌, ◌++◌, Option, None, Some, refl, sym, ap, subst, ◌∙◌, append-nil, append_assoc}
use Rattle.std.specs.Prelude.{◌&&◌, nat_lt, if◌then◌else◌, Result, Ok, Err, IfErr, IsErrAnd}
use Rattle.std.proofs.lemmas.Bool.{false≢true}
use Rattle.std.proofs.lemmas.Grind.{flat_map-append}
use Rattle.pack_geometry.specs.declared.DriveKind.{DriveKind}
use Rattle.pack_geometry.specs.Pack.{Pack}
use Rattle.trace_replay.specs.requests.Requests.{Request}
use Rattle.trace_replay.specs.Moments.{Moment, Played, Idle, played}
use Rattle.trace_replay.specs.Script as script
use Rattle.trace_replay.specs.Script.{Input}
use Rattle.trace_replay.specs.Text.{trace_text, moment_text}
use Rattle.trace_replay.specs.Events.{Event, is_no_line}
use Rattle.trace_replay.specs.Replay.{Replay, next_wish, act_drained, drained, are_at_work, WorkMay, AreLeft, after_moment, after_moments}
use Rattle.driver_laws.specs.rules.Beginnings.{QuietMomentsKeep}
use Rattle.driver_machine.specs.World.{World}
use Rattle.driver_machine.specs.Acts.{Act, Nothing, Tried, after_all}
use Rattle.driver_machine.specs.Lines.{lines_of_all}
use Rattle.driver_machine.specs.Events.{submit_acts, event_acts, next_event}
use Rattle.driver_machine.specs.Sound.{Sound, AtWork}
use Rattle.driver_machine.specs.Runs.{Works, MayCome}
use Rattle.driver_laws.proofs.invariant.Calls.{event_works}
use Rattle.driver_laws.proofs.invariant.Sound.{sound_after}
use Rattle.driver_laws.specs.answers.Packs.{packs_after_all}
use Rattle.driver_laws.specs.answers.Outcome.{IsFront}
use Rattle.driver_laws.specs.declared.answers.outcome.Stop.{Stop}
use Rattle.driver_laws.specs.declared.answers.outcome.Stop.TheVariants.{Store, Sink}
use Rattle.driver_laws.proofs.answers.Joined.{front_of_front}
use Rattle.driver_laws.specs.shown.Calls.{Ends, IsSurfaceOf}
use Rattle.driver_laws.proofs.shown.DrainsLaws.{GoesOn, drain_begins, drain_goes_on, drain_between}
use Rattle.driver_laws.proofs.shown.Inputted.{lines_play_nothing}
use Rattle.hp_driver.proofs.Passes.{event_fronts, quiet_opens, quiet_submits, drains_begin, drains_continue, drains_find_nothing}
use Rattle.driver_laws.specs.shown.RunsRuns.{Stay}
use Rattle.driver_laws.specs.shown.Lengths.{AreAsLong}
use Rattle.driver_laws.specs.shown.Within.{ShowsAll}
use Rattle.driver_laws.proofs.rules.Quiet.{after_parts}
use Rattle.driver_laws.proofs.shown.Lengths.{empty_drains_keep_lengths}
use Rattle.driver_laws.specs.shown.NextBlock.{NextBlocksShow}
use Rattle.driver_laws.proofs.shown.Sectors.{submission_quiet}
use Rattle.driver_laws.specs.rules.Sessions.{MayPlay, IsPart, behind, behind_all, told_in, waited}
use Rattle.driver_laws.specs.rules.Waited.{with_packs}
use Rattle.hp_driver.specs.Passes.{setup_of, StandsQuiet, GoesTo, DrainsFrom}
use Rattle.blocking_io.specs.Given.{Given}
use Rattle.blocking_io.specs.Calls.{Stage, SubmissionStops, EventStops}
use Rattle.blocking_io.specs.Asking.{moments_in, setup_at}
use Rattle.blocking_io.specs.Stopping.{TookFront, IsCut, begun, Stops}
use Rattle.blocking_io.proofs.Waiting.{asked_moments, drained_moments, first_part, IsAskedTo, SoAsked, IsDrainedTo, SoDrained, declared_now, acts_stay}
use Rattle.blocking_io.proofs.Longer.{event_long, long_told, move_long, quiet_more}
use Rattle.blocking_io.proofs.Within.{WritesNone, images_stay, same_images, stopped_stays}
use Rattle.blocking_io.proofs.Trying.{Whole, Begins, event_tells, event_fails}

-- ---- TEXTS
told_asked : (line : ℕ) (r : Request) (asked : List Moment) → told_in (begun line r asked None) ≡ asked
told_asked line r asked = append-nil asked

told_drained : (line : ℕ) (r : Request) (asked drained : List Moment) → told_in (begun line r asked (Some drained)) ≡ asked ++ drained
told_drained line r asked drained = ap (λ (ms : List Moment). asked ++ ms) (append-nil drained)

-- a front of a text, behind another that was told
front_on : (first next : List Moment) (before mid after : List ℕ) → mid ≡ before ++ trace_text first → IsFront before after → IsFront after (mid ++ trace_text next)
    → TookFront before after (trace_text (first ++ next))
front_on first next before mid after is least most = record {
  least = least;
  most = subst (IsFront after)
      (ap (λ (text : List ℕ). text ++ trace_text next) is ∙ append_assoc before (trace_text first) (trace_text next)
      ∙ ap (λ (text : List ℕ). before ++ text) (sym (flat_map-append moment_text first next))) most;
}

-- ---- PACKS that hold what a surface has
surface_left : (drives : ℕ → Option DriveKind) (old held : ℕ → Pack) (s : Replay) → IsSurfaceOf held s → Stay drives old held → AreLeft drives old held s.surface
surface_left drives old held s is stay = record {
  sectors = λ unit kind block there less. sym (is.sectors unit block);
  beyond = stay.beyond;
  marks = stay.marks;
  others = stay.others;
}

drained_surface : (s : Replay) → (drained s).surface ≡ s.surface
drained_surface s = by_test (s.event.drains && (is_no_line (next_wish s) && nat_lt 0 s.outstanding)) (record s.event { between = true; act = act_drained s })
  where
    by_test : (b : Bool) (e : Event) → (if b then record s { event = e } else s).surface ≡ s.surface
    by_test true e = refl
    by_test false e = refl

ends_left : (line : ℕ) (drives : ℕ → Option DriveKind) (old held : ℕ → Pack) (w : World) (s : Replay) → Ends line true held w s → Stay drives old held → AreLeft drives old held s.surface
ends_left line drives old held w s ends stay =
    subst (AreLeft drives old held) (sym (ap (λ (r : Replay). r.surface) ends.is ∙ drained_surface ends.last))
    (surface_left drives old held ends.last ends.packs stay)

-- ---- IN ITS SUBMISSION
pub submission_stopped : QuietMomentsKeep → (stop : Stop) (line : ℕ) (r : Request) (old new : Stage) → 1 ≤ line → SubmissionStops stop line r old new → Stops stop line r old new
submission_stopped quiet_keep stop line r old new some e =
    let acts : List Act = submit_acts r line e.slot e.held old.world in
    let lines : List Moment = lines_of_all old.world e.tells.done in
    let none : Stay (setup_at old).drives old.held old.held = record { beyond = λ unit kind is. refl; marks = λ unit. refl; others = λ unit is. refl } in
    subst (λ (s : Stop). Stops s line r old new) (sym e.by)
    (record {
      asked = lines;
      drained = None;
      stops = record {
        trace = λ t. subst (λ (ms : List Moment). TookFront old.taken new.taken (trace_text ms)) (sym (told_asked line r lines)) (record { least = e.tells.least t; most = e.tells.most t });
        cut = λ t tables s q.
            let goes : GoesTo line (script.Submit r) old.held old.world s acts = quiet_submits line e.slot r e.held old.held old.world s q e.may e.is some in
            record {
              session = (
                record {
                  number = some;
                  may = (quiet_opens old.held old.world s q).may;
                  follows = event_fronts (after_moment s (Played line (script.Submit r))) [] old.world acts e.tells.done e.tells.left goes.follows e.tells.all;
                  lines_alone = lines_play_nothing [] old.world e.tells.done;
                },
                tt,
              );
              packs = quiet_keep (setup_at old).drives old.held new.held s [] (Played line (script.Submit r) ∷ lines)
                  (tt, submission_quiet r line e.slot e.held old.world e.tells.done e.tells.left e.tells.all)
                  (subst (λ (held : ℕ → Pack). AreLeft (setup_at old).drives old.held held s.surface) (sym e.same)
                  (surface_left (setup_at old).drives old.held old.held s q.stands.packs none));
              long = subst (λ (ms : List Moment). AreAsLong s (Played line (script.Submit r) ∷ ms) old.held new.held) (sym (append-nil lines))
                  (quiet_more s [] (Played line (script.Submit r) ∷ lines) old.held old.held new.held
                  (tt, submission_quiet r line e.slot e.held old.world e.tells.done e.tells.left e.tells.all) e.same (λ unit. refl));
            };
      };
      images = λ t reads. same_images old.held old.held new.held e.same (λ unit. refl);
    })

-- ---- WHERE THE DRAIN FOUND NOTHING, and not all lines were sent
pub idle_stopped : (line : ℕ) (r : Request) (old mid new : Stage) → 1 ≤ line → (IsTrue new.trace_tells → IsTrue mid.trace_tells) → next_event mid.world ≡ None
    → new.held ≡ mid.held → (IsTrue new.trace_tells → IsFront old.taken new.taken) → (IsTrue new.trace_tells → IsFront new.taken (mid.taken ++ moment_text (Idle line)))
    → SoAsked line r old mid → Stops Sink line r old new
idle_stopped line r old mid new some still idle same least most so = record {
  asked = so.asked;
  drained = Some (Idle line ∷ []);
  stops = record {
    trace = λ t. subst (λ (ms : List Moment). TookFront old.taken new.taken (trace_text ms)) (sym (told_drained line r so.asked (Idle line ∷ [])))
        (front_on so.asked (Idle line ∷ []) old.taken mid.taken new.taken (so.trace (still t)) (least t)
        (subst (λ (text : List ℕ). IsFront new.taken (mid.taken ++ text)) (sym (append-nil (moment_text (Idle line)))) (most t)));
    cut = λ t tables s q.
        let at : IsAskedTo line r so.asked mid s = so.far s q in
        let goes : GoesTo line script.Drain mid.held mid.world (behind s (first_part line r so.asked)) (Nothing line ∷ []) =
        drains_find_nothing line mid.held mid.world (behind s (first_part line r so.asked)) at.opened some idle in
        record {
          session = (at.part, (record { number = some; may = at.opened.may; follows = goes.follows; lines_alone = refl }, tt));
          packs = subst (λ (held : ℕ → Pack). AreLeft (setup_at old).drives old.held held (behind_all s (waited line r so.asked (Idle line ∷ []))).surface) (sym same)
              (surface_left (setup_at old).drives old.held mid.held (behind_all s (waited line r so.asked (Idle line ∷ []))) goes.opened.stands.packs so.stay);
          long = subst (AreAsLong s (asked_moments line r so.asked ++ Played line script.Drain ∷ Idle line ∷ []) old.held) (sym same)
              (empty_drains_keep_lengths s (asked_moments line r so.asked) old.held mid.held mid.world line (so.long s q));
        };
  };
  images = λ t reads. same_images old.held mid.held new.held same (images_stay old.held mid.held mid.world (so.within reads));
}

-- ---- IN AN EVENT of its drain
record InDrain (line : ℕ) (r : Request) (asked moments : List Moment) (input : Input) (old mid : Stage) (s : Replay) : Type 0 where
  part : IsPart s (first_part line r asked)
  may : MayPlay (behind s (first_part line r asked))
  begins : Begins line (setup_at old).drives old.held mid.held mid.world input (after_moment (behind s (first_part line r asked)) (Played line script.Drain)) moments

event_stopped : QuietMomentsKeep → NextBlocksShow → (stop : Stop) (line : ℕ) (r : Request) (asked moments : List Moment) (input : Input) (old mid new : Stage) (sent : List ℕ) → 1 ≤ line → played moments ≡ []
    → (IsTrue new.trace_tells → mid.taken ≡ old.taken ++ trace_text (asked ++ moments)) → (IsTrue new.trace_tells → IsFront old.taken sent)
    → (IsTrue new.packs_tell → (s : Replay) → StandsQuiet old.held old.world s → InDrain line r asked moments input old mid s)
    → (IsTrue new.packs_tell → (s : Replay) → StandsQuiet old.held old.world s → AreAsLong s (drained_moments line r asked moments) old.held mid.held)
    → Sound mid.world → AtWork mid.world → (IsTrue new.packs_tell → r.written ≡ None → WritesNone old.held mid.held mid.world)
    → EventStops stop sent line input mid new → Stops stop line r old new
event_stopped quiet_keep next_shows Sink line r asked moments input old mid new sent some alone trace begins far long sound work within e =
    let lines : List Moment = lines_of_all mid.world e.tells.done in
    record {
      asked = asked;
      drained = Some (moments ++ lines);
      stops = record {
        trace = λ t. subst (λ (ms : List Moment). TookFront old.taken new.taken (trace_text ms))
            (append_assoc asked moments lines ∙ sym (told_drained line r asked (moments ++ lines)))
            (front_on (asked ++ moments) lines old.taken mid.taken new.taken (trace t) (front_of_front old.taken sent new.taken (begins t) (e.tells.least t)) (e.tells.most t));
        cut = λ t tables s q.
            let at : InDrain line r asked moments input old mid s = far t s q in
            let whole : Whole (setup_at old).drives old.held new.held (after_moment (behind s (first_part line r asked)) (Played line script.Drain)) (moments ++ lines) =
            event_tells quiet_keep line (setup_at old).drives old.held mid new input sent (after_moment (behind s (first_part line r asked)) (Played line script.Drain)) moments at.begins t e in
            record {
              session = (at.part, (record { number = some; may = at.may; follows = whole.follows; lines_alone = lines_play_nothing moments mid.world e.tells.done ∙ alone }, tt));
              packs = whole.packs;
              long = long_told line r asked (moments ++ lines) s old.held new.held
                  (subst (λ (ms : List Moment). AreAsLong s ms old.held new.held) (append_assoc (asked_moments line r asked) (Played line script.Drain ∷ moments) lines)
                  (event_long line old.held mid new input sent s (drained_moments line r asked moments) at.begins.sound
                  (subst (ShowsAll mid.world) (sym (after_parts s (asked_moments line r asked) (Played line script.Drain ∷ moments))) at.begins.shows) (long t s q) t e));
            };
      };
      images = λ t reads. stopped_stays Sink line input old.held mid new sent sound work t (within t reads) e;
    }
event_stopped quiet_keep next_shows Store line r asked moments input old mid new sent some alone trace begins far long sound work within e = record {
  asked = asked;
  drained = Some moments;
  stops = record {
    trace = λ t. e.trace t ∙ trace t ∙ ap (λ (ms : List Moment). old.taken ++ trace_text ms) (sym (told_drained line r asked moments));
    cut = λ t tables s q.
        let at : InDrain line r asked moments input old mid s = far t s q in
        record {
          session = (at.part, (record { number = some; may = at.may; follows = at.begins.so_far.follows; lines_alone = alone }, tt));
          packs = event_fails next_shows line (setup_at old).drives old.held mid new input (after_moment (behind s (first_part line r asked)) (Played line script.Drain)) moments at.begins t e;
          long = move_long next_shows (setup_at old).drives line r asked moments old.held mid new input s at.begins.sound at.begins.shows at.begins.units at.begins.so_far.packs
              (long t s q) t e;
        };
  };
  images = λ t reads. stopped_stays Store line input old.held mid new sent sound work t (within t reads) e;
}

event_stay : (old mid : Stage) (line : ℕ) (input : Input) (tried : Tried) → Sound mid.world → AtWork mid.world → MayCome mid.world input tried
    → setup_of mid.world mid.held ≡ with_packs (setup_of old.world old.held) mid.held → Stay (setup_at old).drives old.held mid.held
    → Stay (setup_at old).drives old.held (packs_after_all mid.world mid.held (event_acts line input tried mid.world))
event_stay old mid line input tried sound work may same stay =
    let works : Works mid.world (event_acts line input tried mid.world) = event_works sound_after line input tried mid.world sound work may in
    acts_stay (setup_at old).drives old.held mid.held mid.world (event_acts line input tried mid.world) sound works.run (declared_now old.world mid.world old.held mid.held same) stay

-- the first one,
pub first_stopped : QuietMomentsKeep → NextBlocksShow → (stop : Stop) (line : ℕ) (r : Request) (input : Input) (old mid new : Stage) (sent : List ℕ) → 1 ≤ line → (IsTrue new.trace_tells → IsTrue mid.trace_tells)
    → (IsTrue new.trace_tells → IsFront old.taken sent) → Sound mid.world → AtWork mid.world → next_event mid.world ≡ Some input → SoAsked line r old mid
    → EventStops stop sent line input mid new → Stops stop line r old new
first_stopped quiet_keep next_shows stop line r input old mid new sent some still begins sound work is so e =
    event_stopped quiet_keep next_shows stop line r so.asked [] input old mid new sent some refl
    (λ t. so.trace (still t) ∙ ap (λ (ms : List Moment). old.taken ++ trace_text ms) (sym (append-nil so.asked))) begins
    (λ t s q.
    let at : IsAskedTo line r so.asked mid s = so.far s q in
    let from : Replay = behind s (first_part line r so.asked) in
    let goes : GoesOn line input mid.held mid.world (after_moment from (Played line script.Drain)) =
    drain_begins line input mid.held mid.world from at.opened.stands at.opened.there is in
    record {
      part = at.part;
      may = at.opened.may;
      begins = record {
        sound = sound;
        shows = goes.rests.shows;
        units = declared_now old.world mid.world old.held mid.held so.setup;
        so_far = record { follows = tt; packs = surface_left (setup_at old).drives old.held mid.held (after_moment from (Played line script.Drain)) goes.packs so.stay };
        goes = λ tried may on.
            let acts : List Act = event_acts line input tried mid.world in
            let drains : DrainsFrom line from (lines_of_all mid.world acts) (packs_after_all mid.world mid.held acts) (after_all mid.world acts) =
            drains_begin line input tried mid.held mid.world from at.opened some is may on in
            record {
              follows = drains.draining.follows;
              packs = ends_left line (setup_at old).drives old.held (packs_after_all mid.world mid.held acts) (after_all mid.world acts)
                  (after_moments (after_moment from (Played line script.Drain)) (lines_of_all mid.world acts)) drains.draining.ends
                  (event_stay old mid line input tried sound work may so.setup so.stay);
            };
      };
    }) (λ t s q. quiet_more s (asked_moments line r so.asked) (Played line script.Drain ∷ []) old.held mid.held mid.held (tt, tt) refl (so.long s q))
    sound work (λ t reads. so.within reads) e

-- and a later one
work_of : (b : Bool) (s : Replay) → b ≡ true → WorkMay b s → are_at_work s ≡ true
work_of true s is w = w
work_of false s is w = absurd (false≢true is)

pub later_stopped : QuietMomentsKeep → NextBlocksShow → (stop : Stop) (line : ℕ) (r : Request) (input : Input) (old mid new : Stage) (sent : List ℕ) → 1 ≤ line → (IsTrue new.packs_tell → IsTrue mid.packs_tell)
    → (IsTrue new.trace_tells → IsTrue mid.trace_tells) → (IsTrue new.trace_tells → IsFront old.taken sent) → Sound mid.world → AtWork mid.world → next_event mid.world ≡ Some input
    → SoDrained line r old mid → EventStops stop sent line input mid new → Stops stop line r old new
later_stopped quiet_keep next_shows stop line r input old mid new sent some still still_traced begins sound work is so e =
    event_stopped quiet_keep next_shows stop line r so.asked so.drained input old mid new sent some so.alone (λ t. so.trace (still_traced t)) begins
    (λ t s q.
    let at : IsDrainedTo line r so.asked so.drained mid s = so.far (still t) s q in
    let from : Replay = behind s (first_part line r so.asked) in
    let start : Replay = after_moment from (Played line script.Drain) in
    let now : Replay = after_moments start so.drained in
    let between : now.event.between ≡ true = drain_between line input mid.held mid.world now at.from.draining.ends at.from.draining.work is in
    let goes : GoesOn line input mid.held mid.world now =
    drain_goes_on line input mid.held mid.world now at.from.draining.ends at.from.draining.work at.from.draining.there is
    (work_of now.event.between now between at.from.consistent.event.at_work) in
    record {
      part = at.part;
      may = at.may;
      begins = record {
        sound = sound;
        shows = goes.rests.shows;
        units = declared_now old.world mid.world old.held mid.held so.setup;
        so_far = record { follows = at.from.draining.follows; packs = surface_left (setup_at old).drives old.held mid.held now goes.packs (so.stay (still t)) };
        goes = λ tried may on.
            let acts : List Act = event_acts line input tried mid.world in
            let drains : DrainsFrom line from (so.drained ++ lines_of_all mid.world acts) (packs_after_all mid.world mid.held acts) (after_all mid.world acts) =
            drains_continue line input tried mid.held mid.world from so.drained at.from is may on in
            record {
              follows = drains.draining.follows;
              packs = ends_left line (setup_at old).drives old.held (packs_after_all mid.world mid.held acts) (after_all mid.world acts)
                  (after_moments start (so.drained ++ lines_of_all mid.world acts)) drains.draining.ends
                  (event_stay old mid line input tried sound work may so.setup (so.stay (still t)));
            };
      };
    }) (λ t s q. so.long (still t) s q) sound work (λ t reads. so.within (still t) reads) e

-- ---- BEHIND ITS LAST EVENT, where not all lines were sent
pub drained_stopped : (line : ℕ) (r : Request) (old mid new : Stage) → 1 ≤ line → (IsTrue new.packs_tell → IsTrue mid.packs_tell) → (IsTrue new.trace_tells → IsTrue mid.trace_tells) → new.held ≡ mid.held
    → (IsTrue new.trace_tells → IsFront old.taken new.taken) → (IsTrue new.trace_tells → IsFront new.taken mid.taken) → SoDrained line r old mid → Stops Sink line r old new
drained_stopped line r old mid new some still still_traced same least most so = record {
  asked = so.asked;
  drained = Some so.drained;
  stops = record {
    trace = λ t. subst (λ (ms : List Moment). TookFront old.taken new.taken (trace_text ms)) (sym (told_drained line r so.asked so.drained))
        (record { least = least t; most = subst (IsFront new.taken) (so.trace (still_traced t)) (most t) });
    cut = λ t tables s q.
        let at : IsDrainedTo line r so.asked so.drained mid s = so.far (still t) s q in
        record {
          session = (at.part, (record { number = some; may = at.may; follows = at.from.draining.follows; lines_alone = so.alone }, tt));
          packs = subst (λ (held : ℕ → Pack). AreLeft (setup_at old).drives old.held held (behind_all s (waited line r so.asked so.drained)).surface) (sym same)
              (ends_left line (setup_at old).drives old.held mid.held mid.world (behind_all s (waited line r so.asked so.drained)) at.from.draining.ends (so.stay (still t)));
          long = subst (AreAsLong s (moments_in (waited line r so.asked so.drained)) old.held) (sym same)
              (long_told line r so.asked so.drained s old.held mid.held (so.long (still t) s q));
        };
  };
  images = λ t reads. same_images old.held mid.held new.held same (images_stay old.held mid.held mid.world (so.within (still t) reads));
}

-- what was given is not seen
stops_given : (stop : Stop) (line : ℕ) (r : Request) (old new : Stage) (given : Given) → Stops stop line r old new → Stops stop line r old (record new { given = given })
stops_given stop line r old new given e = record {
  asked = e.asked;
  drained = e.drained;
  stops = record {
    trace = e.stops.trace;
    cut = λ t tables s q.
        let at : IsCut stop (begun line r e.asked e.drained) old new s = e.stops.cut t tables s q in
        record { session = at.session; packs = at.packs; long = at.long };
  };
  images = e.images;
}

-- an error that is handed on
pub stops_on : {T : Type 0} (line : ℕ) (r : Request) (old new : Stage) (given : Given) (result : Result T Stop) (stop : Stop) → IsErrAnd result (λ x. x ≡ stop) → Stops stop line r old new
    → IfErr result (λ halt. Stops halt line r old (record new { given = given }))
stops_on line r old new given (Ok value) stop is e = tt
stops_on line r old new given (Err other) stop is e = subst (λ (halt : Stop). Stops halt line r old (record new { given = given })) (sym is) (stops_given stop line r old new given e)
