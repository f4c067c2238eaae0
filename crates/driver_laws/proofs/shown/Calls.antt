-- Each call, from what may be asked alone.
use Rattle.std.proofs.Common.{◌≡◌, inr, ℕ, ◌<◌, true, false, List, [], ◌∷◌, ◌++◌, Option, Some, None, refl}
use Rattle.pack_geometry.specs.declared.DriveKind.{DriveKind}
use Rattle.pack_geometry.specs.Pack.{Pack}
use Rattle.pack_geometry.specs.TableSpelling.{Table}
use Rattle.trace_replay.specs.requests.Requests.{Request}
use Rattle.trace_replay.specs.Moments.{Moment, Played}
use Rattle.trace_replay.specs.Packs.{Surface}
use Rattle.trace_replay.specs.Script as script
use Rattle.trace_replay.specs.Script.{Input}
use Rattle.trace_replay.specs.Replay.{Replay, new_replay, after_moment, after_moments}
use Rattle.trace_replay.proofs.Kept.{moments_all, starts}
use Rattle.driver_laws.proofs.rules.Conserved.{is_conserved}
use Rattle.trace_replay.specs.declared.requests.answers.AnswerKind.{AnswerKind}
use Rattle.driver_machine.specs.World.{World, Held}
use Rattle.driver_machine.specs.Acts.{Act, Tried, Taken, after_all}
use Rattle.driver_machine.specs.Lines.{lines_of_all}
use Rattle.driver_machine.specs.Events.{submit_by, submit_acts, refusal_of, event_acts, next_event}
use Rattle.driver_machine.specs.Runs.{Run, Works, MaySubmit, MayCome}
use Rattle.driver_laws.proofs.invariant.Calls.{submit_works, event_works, taken_works}
use Rattle.driver_laws.proofs.invariant.Sound.{sound_after}
use Rattle.driver_laws.specs.answers.Packs.{packs_after_all}
use Rattle.driver_laws.specs.shown.Calls.{Stands, IsReadOf}
use Rattle.driver_laws.proofs.shown.Telling.{IsTold}
use Rattle.driver_laws.proofs.shown.Named.{IsTriedOn}
use Rattle.driver_laws.specs.shown.Runs.{IsSoFar, IsDraining, IsOfUnits, with_call, EventsGo, SubmissionsGo, AnswersGo, DrainsStart, DrainsGoOn}
use Rattle.driver_laws.proofs.shown.Inputs.{arrive_played, attend_played}
use Rattle.driver_laws.proofs.shown.Submits.{MayJoin, change_played, refused_played, joined_played}
use Rattle.driver_laws.proofs.shown.DrainsLaws.{GoesOn, move_played, drain_begins, drain_goes_on, drain_between, event_goes}
use Rattle.driver_laws.proofs.invariant.Next.{next_can}
use Rattle.driver_laws.proofs.shown.TraceRuns.{may_play, call_goes, draining, there_after}
use Rattle.driver_laws.proofs.shown.Start.{taken_goes}
use Rattle.driver_laws.proofs.shown.ReadSectors.{tried_on}

-- AN EVENT
event_told : (next : ℕ) (input : Input) (tried : Tried) (held : ℕ → Pack) (w : World) (s : Replay) → Stands held w s → IsOfUnits w input
    → MayCome w input tried → IsTriedOn w s input tried → Works w (event_acts next input tried w)
    → IsTold next false held w (after_moment s (Played next input)) (event_acts next input tried w)
event_told next (script.ArriveAt u) tried held w s stands of_units may on works = arrive_played next u held w s of_units stands works.run
event_told next (script.MoveAt a) tried held w s stands of_units may on works = move_played next a tried held w s of_units stands on works.run
event_told next (script.AttendTo a) tried held w s stands of_units may on works = attend_played next a held w s of_units stands works.run
event_told next (script.Submit r) tried held w s stands of_units may on works = absurd may
event_told next script.Drain tried held w s stands of_units may on works = absurd may
event_told next other tried held w s stands of_units may on works = change_played next other held w s stands may works.work

-- it goes on with a run, where the sector that it tries is that of the surface,
pub event_goes_on : (drives : ℕ → Option DriveKind) (tables : ℕ → Option Table) (surface : Surface) (line next : ℕ) (input : Input) (tried : Tried)
    (moments : List Moment) (held : ℕ → Pack) (w : World)
    → IsSoFar (new_replay drives tables surface) line moments held w → line < next → IsOfUnits w input → MayCome w input tried
    → IsTriedOn w (after_moments (new_replay drives tables surface) moments) input tried
    → IsSoFar (new_replay drives tables surface) next (with_call moments next input w (event_acts next input tried w))
    (packs_after_all w held (event_acts next input tried w)) (after_all w (event_acts next input tried w))
event_goes_on drives tables surface line next input tried moments held w far less of_units may on =
    let stands : Stands held w (after_moments (new_replay drives tables surface) moments) = far.left.stands in
    let works : Works w (event_acts next input tried w) = event_works sound_after next input tried w stands.sound stands.work may in
    call_goes drives tables surface line next input moments held w (event_acts next input tried w) far less works.run works.work
    (event_told next input tried held w (after_moments (new_replay drives tables surface) moments) stands of_units may on works)

-- as one that is read from the packs is.
pub events_go : EventsGo
events_go drives tables surface line next input tried moments held w far less of_units may on =
    let stands : Stands held w (after_moments (new_replay drives tables surface) moments) = far.left.stands in
    event_goes_on drives tables surface line next input tried moments held w far less of_units may
    (tried_on input tried held w (after_moments (new_replay drives tables surface) moments) stands.shows stands.packs on)

-- A SUBMISSION
pub submit_told : (refused : Option AnswerKind) (next p : ℕ) (r : Request) (h : Held) (held : ℕ → Pack) (w : World) (s : Replay) → Stands held w s
    → refusal_of r w ≡ refused → MaySubmit w r p h → (refusal_of r w ≡ None → MayJoin p h r w s) → Run w (submit_by refused r next p h w)
    → IsTold next false held w (after_moment s (Played next (script.Submit r))) (submit_by refused r next p h w)
submit_told (Some kind) next p r h held w s stands is may joins run = refused_played next r kind held w s stands (may.unit, may.fresh, is)
submit_told None next p r h held w s stands is may joins run = joined_played next p h r held w s stands (joins is) run

pub submissions_go : SubmissionsGo
submissions_go drives tables surface line next p r h moments held w far less may for some =
    let s : Replay = after_moments (new_replay drives tables surface) moments in
    let stands : Stands held w s = far.left.stands in
    let works : Works w (submit_acts r next p h w) = submit_works sound_after r next p h w stands.sound stands.work may in
    call_goes drives tables surface line next (script.Submit r) moments held w (submit_acts r next p h w) far less works.run works.work
    (submit_told (refusal_of r w) next p r h held w s stands refl may
    (λ none. record {
      allowed = may.new none;
      for = for none;
      met = none;
      order = (moments_all (new_replay drives tables surface) moments (λ x. []) some far.follows (starts drives tables surface) h.unit).order;
    }) works.run)

pub answers_go : AnswersGo
answers_go start line u moments held w unit some far =
    let works : Works w (Taken ∷ []) = taken_works sound_after w far.left.stands.sound far.left.stands.work some in
    taken_goes start line u moments held w unit works.sound works.work far

-- A DRAIN: its first event,
pub drain_starts_on : (drives : ℕ → Option DriveKind) (tables : ℕ → Option Table) (surface : Surface) (line next : ℕ) (input : Input) (tried : Tried)
    (moments : List Moment) (held : ℕ → Pack) (w : World)
    → IsSoFar (new_replay drives tables surface) line moments held w → line < next → next_event w ≡ Some input → MayCome w input tried
    → IsTriedOn w (after_moment (after_moments (new_replay drives tables surface) moments) (Played next script.Drain)) input tried
    → IsDraining (new_replay drives tables surface) next (with_call moments next script.Drain w (event_acts next input tried w))
    (packs_after_all w held (event_acts next input tried w)) (after_all w (event_acts next input tried w))
drain_starts_on drives tables surface line next input tried moments held w far less is may on =
    let start : Replay = new_replay drives tables surface in
    let s : Replay = after_moments start moments in
    let first : Replay = after_moment s (Played next script.Drain) in
    let acts : List Act = event_acts next input tried w in
    let works : Works w acts = event_works sound_after next input tried w far.left.stands.sound far.left.stands.work may in
    let goes : GoesOn next input held w first = drain_begins next input held w s far.left.stands far.there is in
    let told : IsTold next true held w first acts =
    event_goes next true input tried held w first (next_can w input far.left.stands.sound is) goes.rests goes.packs on works.run in
    draining start next moments (Played next script.Drain ∷ lines_of_all w acts) (packs_after_all w held acts) (after_all w acts) far.follows
    (may_play drives tables surface line next moments held w far less, told.follows) told.ends works.work
    (there_after w acts s (after_moments first (lines_of_all w acts)) far.left.stands.sound works.run far.there told.there)

pub drains_start : DrainsStart
drains_start drives tables surface line next input tried moments held w far less is may on =
    let s : Replay = after_moments (new_replay drives tables surface) moments in
    let goes : GoesOn next input held w (after_moment s (Played next script.Drain)) = drain_begins next input held w s far.left.stands far.there is in
    drain_starts_on drives tables surface line next input tried moments held w far less is may
    (tried_on input tried held w (after_moment s (Played next script.Drain)) goes.rests.shows goes.packs on)

-- and each of the others, where the driver is at work
pub drain_continues : (start : Replay) (line : ℕ) (input : Input) (tried : Tried) (moments : List Moment) (held : ℕ → Pack) (w : World)
    → IsDraining start line moments held w → next_event w ≡ Some input → MayCome w input tried → GoesOn line input held w (after_moments start moments)
    → IsTriedOn w (after_moments start moments) input tried
    → IsDraining start line (moments ++ lines_of_all w (event_acts line input tried w)) (packs_after_all w held (event_acts line input tried w))
    (after_all w (event_acts line input tried w))
drain_continues start line input tried moments held w far is may goes on =
    let s : Replay = after_moments start moments in
    let acts : List Act = event_acts line input tried w in
    let works : Works w acts = event_works sound_after line input tried w far.ends.over.rests.sound far.work may in
    let told : IsTold line true held w s acts =
    event_goes line true input tried held w s (next_can w input goes.rests.sound is) goes.rests goes.packs on works.run in
    draining start line moments (lines_of_all w acts) (packs_after_all w held acts) (after_all w acts) far.follows told.follows told.ends works.work
    (there_after w acts s (after_moments s (lines_of_all w acts)) goes.rests.sound works.run far.there told.there)

goes : (drives : ℕ → Option DriveKind) (tables : ℕ → Option Table) (surface : Surface) (line : ℕ) (input : Input) (moments : List Moment) (held : ℕ → Pack)
    (w : World) → IsDraining (new_replay drives tables surface) line moments held w → next_event w ≡ Some input
    → GoesOn line input held w (after_moments (new_replay drives tables surface) moments)
goes drives tables surface line input moments held w far is =
    let s : Replay = after_moments (new_replay drives tables surface) moments in
    drain_goes_on line input held w s far.ends far.work far.there is
    (is_conserved drives tables surface moments far.follows (inr (drain_between line input held w s far.ends far.work is)))

pub drain_goes_further : (drives : ℕ → Option DriveKind) (tables : ℕ → Option Table) (surface : Surface) (line : ℕ) (input : Input) (tried : Tried)
    (moments : List Moment) (held : ℕ → Pack) (w : World)
    → IsDraining (new_replay drives tables surface) line moments held w → next_event w ≡ Some input → MayCome w input tried
    → IsTriedOn w (after_moments (new_replay drives tables surface) moments) input tried
    → IsDraining (new_replay drives tables surface) line (moments ++ lines_of_all w (event_acts line input tried w))
    (packs_after_all w held (event_acts line input tried w)) (after_all w (event_acts line input tried w))
drain_goes_further drives tables surface line input tried moments held w far is may =
    drain_continues (new_replay drives tables surface) line input tried moments held w far is may (goes drives tables surface line input moments held w far is)

-- as one that is read from the packs is.
pub continues_read : (start : Replay) (line : ℕ) (input : Input) (tried : Tried) (moments : List Moment) (held : ℕ → Pack) (w : World)
    → IsDraining start line moments held w → next_event w ≡ Some input → MayCome w input tried → GoesOn line input held w (after_moments start moments)
    → IsReadOf w held input tried
    → IsDraining start line (moments ++ lines_of_all w (event_acts line input tried w)) (packs_after_all w held (event_acts line input tried w))
    (after_all w (event_acts line input tried w))
continues_read start line input tried moments held w far is may goes on =
    drain_continues start line input tried moments held w far is may goes
    (tried_on input tried held w (after_moments start moments) goes.rests.shows goes.packs on)

pub drains_go_on : DrainsGoOn
drains_go_on drives tables surface line input tried moments held w far is may =
    continues_read (new_replay drives tables surface) line input tried moments held w far is may (goes drives tables surface line input moments held w far is)
