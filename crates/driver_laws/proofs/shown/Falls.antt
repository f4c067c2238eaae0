-- How many event lines are left falls with each event of a drain.
use Rattle.std.proofs.Common.{◌≡◌, ℕ, ◌+◌, ◌≤◌, ◌<◌, Bool, true, List, [], ◌∷◌, ◌++◌, Some, refl, sym, ap, subst, arith, append_assoc, rules}
use Rattle.pack_geometry.specs.Pack.{Pack}
use Rattle.trace_replay.specs.Moments.{Moment, Played}
use Rattle.trace_replay.specs.Script as script
use Rattle.trace_replay.specs.Script.{Input}
use Rattle.trace_replay.specs.Replay.{Replay, MayCome, Follows, WorkMay, new_replay, after_moment, after_moments}
use Rattle.trace_replay.proofs.Following.{follow_on, joined}
use Rattle.driver_laws.specs.rules.Measure.{events_left, blocks_outstanding}
use Rattle.driver_laws.specs.rules.Drains.{events_in, IsIdle}
use Rattle.driver_laws.proofs.rules.Idle.{starts_idle}
use Rattle.driver_laws.proofs.rules.Drain.{events_are_few, drains_are_bounded}
use Rattle.driver_laws.proofs.rules.Tells.{events_tell, drains_tell}
use Rattle.driver_laws.specs.rules.Consistent.{IsConsistent}
use Rattle.driver_laws.proofs.rules.Consistency.{moments_consistent, starts_consistent}
use Rattle.driver_machine.specs.World.{World}
use Rattle.driver_machine.specs.Acts.{Act, Tried}
use Rattle.driver_machine.specs.Lines.{lines_of_all}
use Rattle.driver_machine.specs.Events.{event_acts, next_event}
use Rattle.driver_machine.specs.Runs.{Works}
use Rattle.driver_machine.specs.Runs as work
use Rattle.driver_laws.proofs.invariant.Calls.{event_works}
use Rattle.driver_laws.proofs.invariant.Next.{next_can}
use Rattle.driver_laws.proofs.shown.TraceRuns.{sound_after}
use Rattle.driver_laws.specs.shown.Runs.{IsDraining, with_call}
use Rattle.driver_laws.proofs.shown.Telling.{IsTold}
use Rattle.driver_laws.proofs.shown.Named.{IsTriedOn}
use Rattle.driver_laws.proofs.shown.Inputted.{lines_play_nothing}
use Rattle.driver_laws.proofs.shown.ReadSectors.{tried_on}
use Rattle.driver_laws.proofs.shown.DrainsLaws.{GoesOn, event_goes, drain_goes_on, drain_between, drain_begins}
use Rattle.driver_laws.proofs.shown.Calls.{drains_start}
use Rattle.driver_laws.specs.shown.Drains.{CanStart, ScriptsCanStart, Falls, AreAsked, FirstEventsFall, DrainsFall, DrainsFallFrom, DrainsKeep}
use Rattle.driver_laws.proofs.shown.Asked.{drain_asked}
use Rattle.driver_laws.proofs.shown.DrainsTelling.{something_told, some_outstanding}
use Rattle.driver_laws.proofs.rules.Quiet.{after_parts}

-- THE FIRST LINE is an event line.
one_counted : (m : Moment) (ms : List Moment) → events_in (m ∷ []) ≡ 1 → 1 ≤ events_in (m ∷ ms)
one_counted m ms is = search rules

pub some_told : (s : Replay) (ms : List Moment) → (ms ≡ [] → ⊥) → Follows s ms → ((m : Moment) → MayCome s m → events_in (m ∷ []) ≡ 1) → 1 ≤ events_in ms
some_told s [] some follows tells = absurd (some refl)
some_told s (m ∷ ms) some follows tells = one_counted m ms (tells m follows.0)

fewer_by : (n before after : ℕ) → 1 ≤ n → n + after ≤ before → after < before
fewer_by n before after some bounded = omega (arith, some, bounded)

-- FROM SOME MOMENTS to the lines of one more event
fall_from : (start : Replay) (ms : List Moment) (w : World) (acts : List Act) → IsIdle start → AreAsked start.there ms
    → Follows start (ms ++ lines_of_all w acts) → (lines_of_all w acts ≡ [] → ⊥)
    → ((m : Moment) → MayCome (after_moments start ms) m → events_in (m ∷ []) ≡ 1)
    → Falls (after_moments start ms) (after_moments start (ms ++ lines_of_all w acts))
fall_from start ms w acts idle asked follows some tells =
    let parts : Follows start ms × Follows (after_moments start ms) (lines_of_all w acts) = (follow_on start ms (lines_of_all w acts)).0 follows in
    let bounded : events_in (lines_of_all w acts) + events_left (after_moments (after_moments start ms) (lines_of_all w acts)) ≤ events_left (after_moments start ms) =
    (drains_are_bounded start ms (lines_of_all w acts) idle asked.some asked.units follows (lines_play_nothing [] w acts)).0 in
    subst (Falls (after_moments start ms)) (sym (after_parts start ms (lines_of_all w acts)))
    (record {
      fewer = fewer_by (events_in (lines_of_all w acts)) (events_left (after_moments start ms)) (events_left (after_moments (after_moments start ms) (lines_of_all w acts)))
          (some_told (after_moments start ms) (lines_of_all w acts) some parts.1 tells) bounded;
      few = events_are_few start ms idle asked.some parts.0;
    })

pub scripts_can_start : ScriptsCanStart
scripts_can_start drives tables surface = record { idle = starts_idle drives tables surface; consistent = starts_consistent drives tables surface }

-- WHAT A LATER EVENT MEETS in the replay
goes_at : (start : Replay) (line : ℕ) (input : Input) (moments : List Moment) (held : ℕ → Pack) (w : World) → CanStart start
    → IsDraining start line moments held w → next_event w ≡ Some input → GoesOn line input held w (after_moments start moments)
goes_at start line input moments held w can far is =
    let s : Replay = after_moments start moments in
    let consistent : IsConsistent s = moments_consistent start moments far.follows can.consistent in
    drain_goes_on line input held w s far.ends far.work far.there is
    (subst (λ (b : Bool). WorkMay b s) (drain_between line input held w s far.ends far.work is) consistent.event.at_work)

-- it leaves fewer, where the sector that it tries is that of the surface,
pub falls_on : (start : Replay) (line : ℕ) (input : Input) (tried : Tried) (moments : List Moment) (held : ℕ → Pack) (w : World) → CanStart start
    → AreAsked start.there moments → IsDraining start line moments held w → next_event w ≡ Some input → work.MayCome w input tried
    → IsTriedOn w (after_moments start moments) input tried
    → Falls (after_moments start moments) (after_moments start (moments ++ lines_of_all w (event_acts line input tried w)))
falls_on start line input tried moments held w can asked far is may on =
    let s : Replay = after_moments start moments in
    let acts : List Act = event_acts line input tried w in
    let works : Works w acts = event_works sound_after line input tried w far.ends.over.rests.sound far.work may in
    let goes : GoesOn line input held w s = goes_at start line input moments held w can far is in
    let next : work.CanCome w input = next_can w input goes.rests.sound is in
    let told : IsTold line true held w s acts = event_goes line true input tried held w s next goes.rests goes.packs on works.run in
    fall_from start moments w acts can.idle asked (joined start moments (lines_of_all w acts) far.follows told.follows)
    (something_told line true input tried held w s next goes.rests goes.packs on works.run)
    (λ m. λ comes. events_tell start moments m can.idle far.follows (drain_between line input held w s far.ends far.work is) comes)

-- as one that is read from the packs is.
pub falls_from : DrainsFallFrom
falls_from start line input tried moments held w can asked far is may on =
    let goes : GoesOn line input held w (after_moments start moments) = goes_at start line input moments held w can far is in
    falls_on start line input tried moments held w can asked far is may (tried_on input tried held w (after_moments start moments) goes.rests.shows goes.packs on)

-- so it is from the start of a script
pub drains_fall : DrainsFall
drains_fall drives tables surface line input tried moments held w asked far is may on =
    falls_from (new_replay drives tables surface) line input tried moments held w (scripts_can_start drives tables surface) asked far is may on

pub drains_keep : DrainsKeep
drains_keep start moments next = (
  ap events_left (after_parts start moments (Played next script.Drain ∷ [])),
  ap blocks_outstanding (after_parts start moments (Played next script.Drain ∷ [])),
)

-- before the line that drains as many are left as behind it
before_line : (before behind after : Replay) → events_left behind ≡ events_left before → blocks_outstanding behind ≡ blocks_outstanding before
    → Falls behind after → Falls before after
before_line before behind after same blocks falls = search rules

pub first_events_fall : FirstEventsFall
first_events_fall drives tables surface line next input tried moments held w asked far less is may on =
    let s : Replay = after_moments (new_replay drives tables surface) moments in
    let acts : List Act = event_acts next input tried w in
    let works : Works w acts = event_works sound_after next input tried w far.left.stands.sound far.left.stands.work may in
    let goes : GoesOn next input held w (after_moment s (Played next script.Drain)) = drain_begins next input held w s far.left.stands far.there is in
    let can : work.CanCome w input = next_can w input far.left.stands.sound is in
    let behind : moments ++ Played next script.Drain ∷ lines_of_all w acts ≡ (moments ++ Played next script.Drain ∷ []) ++ lines_of_all w acts =
    sym (append_assoc moments (Played next script.Drain ∷ []) (lines_of_all w acts)) in
    let whole : Follows (new_replay drives tables surface) (moments ++ Played next script.Drain ∷ lines_of_all w acts) =
    (drains_start drives tables surface line next input tried moments held w far less is may on).follows in
    let line_may : MayCome s (Played next script.Drain) =
    ((follow_on (new_replay drives tables surface) moments (Played next script.Drain ∷ lines_of_all w acts)).0 whole).1.0 in
    let at : after_moments (new_replay drives tables surface) (moments ++ Played next script.Drain ∷ []) ≡ after_moment s (Played next script.Drain) =
    after_parts (new_replay drives tables surface) moments (Played next script.Drain ∷ []) in
    let falls : Falls (after_moments (new_replay drives tables surface) (moments ++ Played next script.Drain ∷ []))
    (after_moments (new_replay drives tables surface) ((moments ++ Played next script.Drain ∷ []) ++ lines_of_all w acts)) =
    fall_from (new_replay drives tables surface) (moments ++ Played next script.Drain ∷ []) w acts (starts_idle drives tables surface)
    (drain_asked (new_replay drives tables surface).there moments next asked)
    (subst (Follows (new_replay drives tables surface)) behind whole)
    (something_told next true input tried held w (after_moment s (Played next script.Drain)) can goes.rests goes.packs
    (tried_on input tried held w (after_moment s (Played next script.Drain)) goes.rests.shows goes.packs on) works.run)
    (λ m. λ comes. drains_tell (new_replay drives tables surface) moments next m (starts_idle drives tables surface) far.follows line_may
    (some_outstanding s.outstanding _ input w (after_moment s (Played next script.Drain)) can goes.rests.event.act_is)
    (subst (λ (r : Replay). MayCome r m) at comes)) in
    before_line s (after_moments (new_replay drives tables surface) (moments ++ Played next script.Drain ∷ []))
    (after_moments (new_replay drives tables surface) (with_call moments next script.Drain w acts))
    (drains_keep (new_replay drives tables surface) moments next).0 (drains_keep (new_replay drives tables surface) moments next).1
    (subst (λ (ms : List Moment). Falls (after_moments (new_replay drives tables surface) (moments ++ Played next script.Drain ∷ []))
    (after_moments (new_replay drives tables surface) ms)) (sym behind) falls)
