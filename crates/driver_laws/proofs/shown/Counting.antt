-- OVER ANY PACKS a drain comes to its end. Whatever an event's sector was found to be, some packs hold it so; over these the replay goes on, and
-- how many event lines are left does not depend on what packs hold.
use Rattle.std.proofs.Common.{◌≡◌, ℕ, ◌+◌, ◌≤◌, ◌<◌, Bool, true, List, [], ◌∷◌, length, Some, refl, sym, subst, arith, ◌∙◌, rules}
use Rattle.pack_geometry.specs.Pack.{Pack}
use Rattle.trace_replay.specs.Moments.{Moment, Deed, Played, Told, Idle, played}
use Rattle.trace_replay.specs.Script as script
use Rattle.trace_replay.specs.Script.{Input}
use Rattle.trace_replay.specs.History.{lines_behind}
use Rattle.trace_replay.specs.Causes.{AskSome}
use Rattle.trace_replay.specs.Replay.{Replay, MayCome, WorkMay, after_moment, after_moments}
use Rattle.trace_replay.proofs.Kept.{AllFit, moments_all}
use Rattle.driver_laws.specs.rules.Measure.{events_left}
use Rattle.driver_laws.specs.rules.Drains.{AreOf, events_in}
use Rattle.driver_laws.proofs.rules.Drain.{IsThere, IsAt, moments_at, drained_falls}
use Rattle.driver_laws.proofs.rules.Tells.{HasBegun, Between, begun_tells, moments_between, some_counted}
use Rattle.driver_laws.specs.rules.Consistent.{IsConsistent}
use Rattle.driver_laws.proofs.rules.Consistency.{moments_consistent}
use Rattle.driver_laws.specs.rules.Calm.{IsCalm}
use Rattle.driver_laws.proofs.rules.CalmLaws.{runs_stay_calm, other_event}
use Rattle.driver_laws.proofs.rules.WaitedLaws.{lines_calm}
use Rattle.driver_machine.specs.World.{World}
use Rattle.driver_machine.specs.Acts.{Act, Taken, Tried, after, after_all}
use Rattle.driver_machine.specs.Lines.{lines_of_all}
use Rattle.driver_machine.specs.Events.{event_acts, next_event}
use Rattle.driver_machine.specs.Guards.{IsSetUp}
use Rattle.driver_machine.specs.Sound.{Sound, AtWork}
use Rattle.driver_machine.specs.Runs.{Works}
use Rattle.driver_machine.specs.Runs as machine
use Rattle.driver_laws.proofs.invariant.Calls.{event_works, taken_works}
use Rattle.driver_laws.proofs.invariant.Next.{next_can}
use Rattle.driver_laws.proofs.invariant.Sound.{sound_after}
use Rattle.driver_laws.specs.answers.Packs.{packs_after_all}
use Rattle.driver_laws.specs.shown.Calls.{Stands, Ends, AreThere, IsReadOf}
use Rattle.driver_laws.proofs.shown.Telling.{IsTold}
use Rattle.driver_laws.proofs.shown.Named.{IsTriedOn}
use Rattle.driver_laws.proofs.shown.ReadSectors.{tried_on}
use Rattle.driver_laws.proofs.shown.Inputted.{lines_play_nothing}
use Rattle.driver_laws.proofs.shown.DrainsLaws.{GoesOn, drain_goes_on, drain_between, drain_begins, event_goes}
use Rattle.driver_laws.proofs.shown.TraceRuns.{there_after}
use Rattle.driver_laws.proofs.shown.Falls.{some_told}
use Rattle.driver_laws.proofs.shown.DrainsTelling.{something_told, some_outstanding}
use Rattle.driver_laws.specs.shown.QuietCalls.{IsOpen}
use Rattle.driver_laws.proofs.shown.QuietQuietCalls.{played_consistent, ends_taken, takings_open}
use Rattle.driver_laws.proofs.shown.Fitting.{fitting, fits, over, over_stands, over_ends, over_consistent, over_calm, over_at, over_between}

-- WHAT HOLDS of a replay in which few event lines are left, whatever the packs hold
pub record Facts (left : ℕ) (w : World) (s : Replay) : Type 0 where
  pub lines : ℕ → List Deed
  pub there : AreThere w s
  pub consistent : IsConsistent s
  pub calm : IsCalm s
  pub fit : AllFit s lines
  pub at : IsAt s.there s
  pub few : events_left s ≤ left

-- before the line that drains,
pub record Waits (left : ℕ) (w : World) : Type 0 where
  pub held : ℕ → Pack
  pub replay : Replay
  pub opened : IsOpen held w replay
  pub facts : Facts left w replay

-- and behind one of the drain's events
pub record Drains (line left : ℕ) (w : World) : Type 0 where
  pub held : ℕ → Pack
  pub replay : Replay
  pub ends : Ends line true held w replay
  pub work : AtWork w
  pub between : Between replay
  pub facts : Facts left w replay

-- ---- over other packs
over_facts : (held : ℕ → Pack) (left : ℕ) (w : World) (s : Replay) → Facts left w s → Facts left w (over held s)
over_facts held left w s facts = search (rules, over_consistent, over_calm, over_at)

-- ---- lines of a trace play nothing
pub lines_ask : (ms : List Moment) → played ms ≡ [] → AskSome ms
lines_ask [] none = tt
lines_ask (Played line input ∷ ms) none = absurd (grind (arith, none))
lines_ask (Told line unit id deed ∷ ms) none = lines_ask ms none
lines_ask (Idle line ∷ ms) none = lines_ask ms none

pub lines_of_units : (there : List ℕ) (ms : List Moment) → played ms ≡ [] → AreOf there ms
lines_of_units there [] none = tt
lines_of_units there (Played line input ∷ ms) none = absurd (grind (arith, none))
lines_of_units there (Told line unit id deed ∷ ms) none = lines_of_units there ms none
lines_of_units there (Idle line ∷ ms) none = lines_of_units there ms none

-- ---- ONE MORE EVENT, from where its lines begin
record Begun (line left : ℕ) (input : Input) (tried : Tried) (held : ℕ → Pack) (w : World) (s : Replay) : Type 0 where
  facts : Facts left w s
  works : Works w (event_acts line input tried w)
  sound : Sound w
  told : IsTold line true held w s (event_acts line input tried w)
  some : lines_of_all w (event_acts line input tried w) ≡ [] → ⊥
  tells : (m : Moment) → MayCome s m → events_in (m ∷ []) ≡ 1
  between : Between s

pub record Fewer (line left : ℕ) (w : World) : Type 0 where
  pub rest : ℕ
  pub fewer : rest < left
  pub drains : Drains line rest w

one_more : (line left : ℕ) (input : Input) (tried : Tried) (held : ℕ → Pack) (w : World) (s : Replay) → Begun line left input tried held w s
    → Fewer line left (after_all w (event_acts line input tried w))
one_more line left input tried held w s b =
    let acts : List Act = event_acts line input tried w in
    let lines : List Moment = lines_of_all w acts in
    let none : played lines ≡ [] = lines_play_nothing [] w acts in
    let last : Replay = after_moments s lines in
    let at : IsAt s.there last = moments_at s.there s lines (lines_of_units s.there lines none) b.told.follows b.facts.at in
    record {
      rest = events_left last;
      fewer = less (events_in lines) (events_left last) (events_left s) left (some_told s lines b.some b.told.follows b.tells)
          (drained_falls s.there s lines b.facts.lines b.told.follows none b.facts.fit b.facts.at) b.facts.few;
      drains = record {
        held = packs_after_all w held acts;
        replay = last;
        ends = b.told.ends;
        work = b.works.work;
        between = moments_between s lines b.told.follows b.between;
        facts = record {
          lines = λ x. lines_behind x (b.facts.lines x) lines;
          there = there_after w acts s last b.sound b.works.run b.facts.there b.told.there;
          consistent = moments_consistent s lines b.told.follows b.facts.consistent;
          calm = runs_stay_calm s lines b.told.follows (lines_calm lines none) b.facts.calm;
          fit = moments_all s lines b.facts.lines (lines_ask lines none) b.told.follows b.facts.fit;
          at = record { same = refl; held = λ x waits. subst (λ there. IsThere there x) (sym at.same) (at.held x waits) };
          few = same (events_left last);
        };
      };
    }
  where
    less : (told after before left : ℕ) → 1 ≤ told → told + after ≤ before → before ≤ left → after < left
    less told after before left some falls few = omega (arith, some, falls, few)

    same : (n : ℕ) → n ≤ n
    same n = omega arith

-- the first event of a drain,
pub first_fewer : (line left : ℕ) (input : Input) (tried : Tried) (w : World) → 1 ≤ line → next_event w ≡ Some input → machine.MayCome w input tried
    → Waits left w → Fewer line left (after_all w (event_acts line input tried w))
first_fewer line left input tried w some is may waits =
    let acts : List Act = event_acts line input tried w in
    let old : Stands waits.held w waits.replay = waits.opened.stands in
    let held : ℕ → Pack = fitting w input tried in
    let s : Replay = over held waits.replay in
    let first : Replay = after_moment s (Played line script.Drain) in
    let stands : Stands held w s = over_stands held waits.held w waits.replay old in
    let facts : Facts left w s = over_facts held left w waits.replay waits.facts in
    let works : Works w acts = event_works sound_after line input tried w stands.sound stands.work may in
    let goes : GoesOn line input held w first = drain_begins line input held w s stands facts.there is in
    let can : machine.CanCome w input = next_can w input stands.sound is in
    let on : IsReadOf w held input tried = fits w input tried stands.sound (sym stands.shows.noise ∙ facts.calm.live) may in
    let tried_so : IsTriedOn w first input tried = tried_on input tried held w first goes.rests.shows goes.packs on in
    let many : 1 ≤ s.outstanding = some_outstanding s.outstanding _ input w first can goes.rests.event.act_is in
    let begun : HasBegun first = record { quiet = stands.quiet 0; act = rw (some_counted s.outstanding many).0 refl; drains = (some_counted s.outstanding many).1 } in
    one_more line left input tried held w first
    (record {
      facts = record {
        lines = facts.lines;
        there = facts.there;
        consistent = played_consistent s line script.Drain some (record { over = waits.opened.may.over; finished = waits.opened.may.finished; at_work = waits.opened.may.at_work }) facts.consistent;
        calm = other_event s first.event facts.calm;
        fit = facts.fit;
        at = record { same = refl; held = facts.at.held };
        few = facts.few;
      };
      works = works;
      sound = stands.sound;
      told = event_goes line true input tried held w first can goes.rests goes.packs tried_so works.run;
      some = something_told line true input tried held w first can goes.rests goes.packs tried_so works.run;
      tells = λ m. λ comes. begun_tells first m begun comes;
      between = λ on. begun;
    })

-- and each later one
pub later_fewer : (line left : ℕ) (input : Input) (tried : Tried) (w : World) → next_event w ≡ Some input → machine.MayCome w input tried
    → Drains line left w → Fewer line left (after_all w (event_acts line input tried w))
later_fewer line left input tried w is may drains =
    let acts : List Act = event_acts line input tried w in
    let held : ℕ → Pack = fitting w input tried in
    let s : Replay = over held drains.replay in
    let ends : Ends line true held w s = over_ends line held drains.held w drains.replay drains.ends in
    let facts : Facts left w s = over_facts held left w drains.replay drains.facts in
    let sound : Sound w = ends.over.rests.sound in
    let works : Works w acts = event_works sound_after line input tried w sound drains.work may in
    let on_now : s.event.between ≡ true = drain_between line input held w s ends drains.work is in
    let goes : GoesOn line input held w s =
    drain_goes_on line input held w s ends drains.work facts.there is (subst (λ (b : Bool). WorkMay b s) on_now facts.consistent.event.at_work) in
    let can : machine.CanCome w input = next_can w input goes.rests.sound is in
    let on : IsReadOf w held input tried = fits w input tried sound (sym goes.rests.shows.noise ∙ facts.calm.live) may in
    let tried_so : IsTriedOn w s input tried = tried_on input tried held w s goes.rests.shows goes.packs on in
    let between : Between s = over_between held drains.replay drains.between in
    one_more line left input tried held w s
    (record {
      facts = facts;
      works = works;
      sound = sound;
      told = event_goes line true input tried held w s can goes.rests goes.packs tried_so works.run;
      some = something_told line true input tried held w s can goes.rests goes.packs tried_so works.run;
      tells = λ m. λ comes. begun_tells s m (between on_now) comes;
      between = between;
    })

-- ---- AN ANSWER IS TAKEN
taken_facts : (left : ℕ) (w : World) (s : Replay) → Facts left w s → Facts left (after w Taken) s
taken_facts left w s facts = search rules

pub waits_taken : (left u : ℕ) (w : World) → IsSetUp w u → 0 < length w.answers → Waits left w → Waits left (after w Taken)
waits_taken left u w unit some waits = search (rules, takings_open, taken_facts)

pub drains_taken : (line left u : ℕ) (w : World) → IsSetUp w u → 0 < length w.answers → Drains line left w → Drains line left (after w Taken)
drains_taken line left u w unit some drains =
    let works : Works w (Taken ∷ []) = taken_works sound_after w drains.ends.over.rests.sound drains.work some in
    record {
      held = drains.held;
      replay = drains.replay;
      ends = ends_taken line u drains.held w drains.replay unit works.sound drains.work drains.ends;
      work = works.work;
      between = drains.between;
      facts = taken_facts left w drains.replay drains.facts;
    }
