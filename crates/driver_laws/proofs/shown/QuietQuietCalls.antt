-- Calls from any state of a replay that is consistent and shows the driver.
use Rattle.std.proofs.Common.{◌≡◌, ℕ, ◌≤◌, ◌&&◌, nat_lt, Bool, true, false, List, [], ◌∷◌, ◌++◌, refl, sym, ap, subst, ◌∙◌, rules}
use Rattle.pack_geometry.specs.Pack.{Pack}
use Rattle.trace_replay.specs.requests.ServiceOrder.{Waiting as Waiter, Service}
use Rattle.trace_replay.proofs.requests.ServiceOrderRuns.{IsService}
use Rattle.trace_replay.specs.requests.Requests.{Request}
use Rattle.trace_replay.specs.Moments.{Played}
use Rattle.trace_replay.specs.Script as script
use Rattle.trace_replay.specs.Script.{Input}
use Rattle.trace_replay.specs.Service.{cylinder_of}
use Rattle.trace_replay.specs.Events.{is_no_line}
use Rattle.trace_replay.specs.Replay.{Replay, WorkMay, after_moment, after_moments}
use Rattle.driver_laws.specs.rules.Consistent.{IsConsistent}
use Rattle.driver_laws.proofs.rules.Consistency.{stays_consistent, moments_consistent}
use Rattle.driver_laws.proofs.rules.Working.{all_at_work}
use Rattle.driver_machine.specs.World.{World}
use Rattle.driver_machine.specs.Acts.{Act, Nothing, Taken, after, after_all}
use Rattle.driver_machine.specs.Lines.{lines_of_all}
use Rattle.driver_machine.specs.Events.{submit_acts, refusal_of, event_acts}
use Rattle.driver_machine.specs.Guards.{IsSetUp}
use Rattle.driver_machine.specs.Sound.{Sound, AtWork}
use Rattle.driver_machine.specs.Runs.{Works}
use Rattle.driver_laws.proofs.invariant.Calls.{submit_works, event_works, taken_works}
use Rattle.driver_laws.proofs.invariant.Next.{next_can}
use Rattle.driver_laws.proofs.invariant.Sound.{sound_after}
use Rattle.driver_laws.specs.answers.Packs.{packs_after_all}
use Rattle.driver_laws.proofs.shown.Rest.{rest_shows}
use Rattle.driver_laws.specs.shown.Calls.{Stands, Ends, IsLeft, AreThere}
use Rattle.driver_laws.proofs.shown.Telling.{IsTold}
use Rattle.driver_laws.specs.shown.Runs.{IsDraining}
use Rattle.driver_laws.proofs.shown.ReadSectors.{tried_on}
use Rattle.driver_laws.proofs.shown.Resting.{shows_one, shows_all}
use Rattle.driver_laws.proofs.shown.Submits.{calm}
use Rattle.driver_laws.proofs.shown.DrainsLaws.{GoesOn, drain_goes_on, drain_between, drain_begins, drain_idle, event_goes, call_left, drain_left}
use Rattle.driver_laws.proofs.shown.TraceRuns.{there_after, played_there}
use Rattle.driver_laws.proofs.shown.Calls.{submit_told}
use Rattle.driver_laws.specs.rules.Sessions.{MayPlay}
use Rattle.driver_laws.proofs.rules.Parts.{numbered, same_behind, may_input}
use Rattle.driver_laws.specs.shown.QuietCalls.{IsOpen, QuietOpens, QuietSubmits, DrainsFindNothing, DrainsBegin, DrainsContinue, DrainsAreOver, TakingsOpen, TakingsDrain}
use Rattle.driver_laws.proofs.rules.Conserved.{work_of}
use Rattle.driver_laws.proofs.rules.Quiet.{after_parts}
use Rattle.trace_replay.proofs.Following.{joined as follows_append}
use Rattle.driver_laws.proofs.shown.Showing.{Shows}

-- ---- consistent, whatever the line before
work_numbered : (b : Bool) (s : Replay) (n : ℕ) → WorkMay b s → WorkMay b (numbered n s)
work_numbered true s n w = w
work_numbered false s n w = tt

numbered_consistent : (s : Replay) (n : ℕ) → IsConsistent s → IsConsistent (numbered n s)
numbered_consistent s n c = search (rules, work_numbered)

pub played_consistent : (s : Replay) (line : ℕ) (input : Input) → 1 ≤ line → MayPlay s → IsConsistent s → IsConsistent (after_moment s (Played line input))
played_consistent s line input some may c =
    subst IsConsistent (same_behind s 0 line input) (stays_consistent (numbered 0 s) (Played line input) (may_input s line some may) (numbered_consistent s 0 c))

may_of : (held : ℕ → Pack) (w : World) (s : Replay) → Stands held w s → IsConsistent s → s.event.drains && nat_lt 0 s.outstanding ≡ false → MayPlay s
may_of held w s stands c finished = record { over = stands.over; finished = finished; at_work = all_at_work s c (ap is_no_line stands.over) }

open_left : (line : ℕ) (held : ℕ → Pack) (w : World) (s : Replay) → IsLeft line held w s → IsConsistent s → AreThere w s → IsOpen held w s
open_left line held w s left c there = record { stands = left.stands; consistent = c; there = there; may = may_of held w s left.stands c left.finished }

pub quiet_opens : QuietOpens
quiet_opens held w s q = record { stands = q.stands; consistent = q.consistent; there = q.there; may = may_of held w s q.stands q.consistent q.finished }

-- ---- A SUBMISSION
order_none : (c : Request → ℕ) (service : Service Request) → service.waiting ≡ [] → IsService c service
order_none c service none =
    subst (λ (z : List (Waiter Request)). IsService c (record { waiting = z; joined = service.joined })) (sym none) (record { placed = tt; ascends = tt })

pub quiet_submits : QuietSubmits
quiet_submits line p r h held w s q may for some =
    let acts : List Act = submit_acts r line p h w in
    let works : Works w acts = submit_works sound_after r line p h w q.stands.sound q.stands.work may in
    let first : Replay = after_moment s (Played line (script.Submit r)) in
    let told : IsTold line false held w first acts =
    submit_told (refusal_of r w) line p r h held w s q.stands refl may
    (λ none. record { allowed = may.new none; for = for none; met = none; order = order_none (cylinder_of (s.units h.unit).drive.kind) (s.units h.unit).service (q.rest.idle.queues h.unit) }) works.run in
    record {
      follows = told.follows;
      opened = open_left line (packs_after_all w held acts) (after_all w acts) (after_moments first (lines_of_all w acts))
          (call_left line (packs_after_all w held acts) (after_all w acts) (after_moments first (lines_of_all w acts)) works.work told.ends)
          (moments_consistent first (lines_of_all w acts) told.follows (played_consistent s line (script.Submit r) some (quiet_opens held w s q).may q.consistent))
          (there_after w acts s (after_moments first (lines_of_all w acts)) q.stands.sound works.run q.there (told.there ∙ played_there s (script.Submit r)));
    }

-- ---- A DRAIN
pub drains_find_nothing : DrainsFindNothing
drains_find_nothing line held w s opened some none =
    let first : Replay = after_moment s (Played line script.Drain) in
    let told : IsTold line true held w first (Nothing line ∷ []) = drain_idle line held w s opened.stands none in
    record {
      follows = told.follows;
      opened = open_left line held w (after_moments first (lines_of_all w (Nothing line ∷ [])))
          (drain_left line held w (after_moments first (lines_of_all w (Nothing line ∷ []))) opened.stands.work none told.ends)
          (moments_consistent first (lines_of_all w (Nothing line ∷ [])) told.follows (played_consistent s line script.Drain some opened.may opened.consistent))
          opened.there;
    }

pub drains_begin : DrainsBegin
drains_begin line input tried held w s opened some is may on =
    let acts : List Act = event_acts line input tried w in
    let works : Works w acts = event_works sound_after line input tried w opened.stands.sound opened.stands.work may in
    let first : Replay = after_moment s (Played line script.Drain) in
    let goes : GoesOn line input held w first = drain_begins line input held w s opened.stands opened.there is in
    let told : IsTold line true held w first acts =
    event_goes line true input tried held w first (next_can w input opened.stands.sound is) goes.rests goes.packs (tried_on input tried held w first goes.rests.shows goes.packs on) works.run in
    record {
      draining = record {
        follows = told.follows;
        ends = told.ends;
        work = works.work;
        there = there_after w acts s (after_moments first (lines_of_all w acts)) opened.stands.sound works.run opened.there told.there;
      };
      consistent = moments_consistent first (lines_of_all w acts) told.follows (played_consistent s line script.Drain some opened.may opened.consistent);
    }

pub drains_continue : DrainsContinue
drains_continue line input tried held w s moments from is may on =
    let acts : List Act = event_acts line input tried w in
    let first : Replay = after_moment s (Played line script.Drain) in
    let now : Replay = after_moments first moments in
    let far : IsDraining first line moments held w = from.draining in
    let works : Works w acts = event_works sound_after line input tried w far.ends.over.rests.sound far.work may in
    let between : now.event.between ≡ true = drain_between line input held w now far.ends far.work is in
    let goes : GoesOn line input held w now = drain_goes_on line input held w now far.ends far.work far.there is (work_of now.event.between now between from.consistent.event.at_work) in
    let told : IsTold line true held w now acts =
    event_goes line true input tried held w now (next_can w input goes.rests.sound is) goes.rests goes.packs (tried_on input tried held w now goes.rests.shows goes.packs on) works.run in
    let at : after_moments first (moments ++ lines_of_all w acts) ≡ after_moments now (lines_of_all w acts) = after_parts first moments (lines_of_all w acts) in
    record {
      draining = record {
        follows = follows_append first moments (lines_of_all w acts) far.follows told.follows;
        ends = subst (Ends line true (packs_after_all w held acts) (after_all w acts)) (sym at) told.ends;
        work = works.work;
        there = subst (AreThere (after_all w acts)) (sym at) (there_after w acts now (after_moments now (lines_of_all w acts)) goes.rests.sound works.run far.there told.there);
      };
      consistent = subst IsConsistent (sym at) (moments_consistent now (lines_of_all w acts) told.follows from.consistent);
    }

pub drains_are_over : DrainsAreOver
drains_are_over line held w s moments from idle =
    open_left line held w (after_moments (after_moment s (Played line script.Drain)) moments)
    (drain_left line held w (after_moments (after_moment s (Played line script.Drain)) moments) from.draining.work idle from.draining.ends) from.consistent from.draining.there

-- ---- AN ANSWER IS TAKEN
pub takings_open : TakingsOpen
takings_open u held w s unit some opened =
    let works : Works w (Taken ∷ []) = taken_works sound_after w opened.stands.sound opened.stands.work some in
    let one : Shows u w s = shows_one u w s unit.unit opened.stands.shows (calm w s u opened.stands.work unit (opened.stands.shows.units u unit)).coming in
    record {
      stands = record {
        sound = works.sound;
        work = works.work;
        shows = shows_all u (after w Taken) s (rest_shows u 0 w s opened.stands.sound one).1 (calm w s u opened.stands.work unit (opened.stands.shows.units u unit)).coming;
        quiet = opened.stands.quiet;
        over = opened.stands.over;
        packs = opened.stands.packs;
      };
      consistent = opened.consistent;
      there = opened.there;
      may = opened.may;
    }

pub ends_taken : (line u : ℕ) (held : ℕ → Pack) (w : World) (s : Replay) → IsSetUp w u → Sound (after w Taken) → AtWork w → Ends line true held w s → Ends line true held (after w Taken) s
ends_taken line u held w s unit sound work ends =
    let last : Replay = ends.last in
    let one : Shows u w last = shows_one u w last unit.unit ends.over.rests.shows (calm w last u work unit (ends.over.rests.shows.units u unit)).coming in
    record {
      last = last;
      is = ends.is;
      over = record {
        act = ends.over.act;
        rests = record {
          sound = sound;
          shows = shows_all u (after w Taken) last (rest_shows u line w last ends.over.rests.sound one).1 (calm w last u work unit (ends.over.rests.shows.units u unit)).coming;
          event = ends.over.rests.event;
          quiet = ends.over.rests.quiet;
        };
        over = ends.over.over;
      };
      packs = ends.packs;
    }

pub takings_drain : TakingsDrain
takings_drain line u held w s moments unit some from = search (rules, taken_works, sound_after, ends_taken)
