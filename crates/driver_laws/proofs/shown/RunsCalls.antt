-- From the start of a run on each call keeps the reach.
use Rattle.std.proofs.Common.{◌≡◌, ℕ, ◌+◌, ◌≤◌, true, List, [], ◌∷◌, Option, Some, None, refl, sym, ap, subst, arith, ◌∙◌, rules}
use Rattle.std.specs.Prelude.{is_some, unwrap_or}
use Rattle.std.proofs.lemmas.Bool.{false≢true}
use Rattle.std.proofs.lemmas.Option.{none-some}
use Rattle.pack_geometry.specs.declared.DriveKind.{DriveKind}
use Rattle.pack_geometry.specs.declared.DriveKind.TheVariants.{Rp06}
use Rattle.pack_geometry.specs.Geometry.{block_count}
use Rattle.pack_geometry.specs.Pack.{Pack}
use Rattle.pack_geometry.specs.TableSpelling.{Table}
use Rattle.trace_replay.specs.requests.Requests.{Request, first_block}
use Rattle.trace_replay.specs.Script as script
use Rattle.trace_replay.specs.declared.requests.answers.AnswerKind.{AnswerKind}
use Rattle.driver_machine.specs.World.{World, UnitView, Held, new_world, no_held, unit_at}
use Rattle.driver_machine.specs.Acts.{Act, Taken, after, after_all}
use Rattle.driver_machine.specs.Events.{submit_acts, submit_by, event_acts, refusal_of}
use Rattle.driver_machine.specs.Guards.{IsHeldFor, IsNew}
use Rattle.driver_machine.specs.Sound.{Sound}
use Rattle.driver_machine.specs.Runs.{Run, Works, MaySubmit}
use Rattle.driver_laws.proofs.invariant.Calls.{submit_works, event_works}
use Rattle.driver_laws.proofs.invariant.Starts.{sound_new}
use Rattle.driver_laws.proofs.invariant.Sound.{sound_after}
use Rattle.driver_laws.proofs.answers.Parts.{AreAll, Holds, all_submitted, all_of_event}
use Rattle.driver_laws.specs.answers.Packs.{packs_after, packs_after_all}
use Rattle.driver_laws.specs.shown.RunsRuns.{AreDeclared}
use Rattle.driver_laws.proofs.shown.RunsLaws.{is_small}
use Rattle.driver_laws.specs.shown.Reach.{AsksBelow, IsWithinReach, JoinsBelow, StartsWithinReach, EventsKeepReach, SubmissionsKeepReach, AnswersKeepReach}
use Rattle.driver_laws.proofs.shown.ReachActs.{acts_keep_reach}
use Rattle.driver_laws.proofs.answers.Ids.{replicate_at}

-- ACTS one after another
runs_keep_reach : (ends : ℕ → ℕ) (old held : ℕ → Pack) (w : World) (acts : List Act) → Sound w → Run w acts → AreAll (JoinsBelow ends) acts
    → IsWithinReach ends old held w → IsWithinReach ends old (packs_after_all w held acts) (after_all w acts)
runs_keep_reach ends old held w [] sound run joins within = within
runs_keep_reach ends old held w (act ∷ acts) sound run joins within =
    runs_keep_reach ends old (packs_after w held act) (after w act) acts (sound_after w act sound run.0) run.1 joins.1
    (acts_keep_reach ends old held w act sound run.0 joins.0 within)

-- in an event no request joins
none_join : (ends : ℕ → ℕ) → Holds (JoinsBelow ends)
none_join ends = record { of = λ line u id d. tt; nothing = λ line. tt }

pub events_keep_reach : EventsKeepReach
events_keep_reach ends old held w line input tried sound work may within =
    let works : Works w (event_acts line input tried w) = event_works sound_after line input tried w sound work may in
    runs_keep_reach ends old held w (event_acts line input tried w) sound works.run (all_of_event (JoinsBelow ends) (none_join ends) line input tried w tt) within

pub answers_keep_reach : AnswersKeepReach
answers_keep_reach ends old held w sound some within = acts_keep_reach ends old held w Taken sound some tt within

-- A SUBMISSION. A request that joins is on a unit that is declared.
kind_below : (ends : ℕ → ℕ) (drives : ℕ → Option DriveKind) (w : World) (r : Request) (unit : ℕ) (drive : Option DriveKind) → drives unit ≡ drive → unit ≡ r.unit
    → AreDeclared drives w → (unit_at w unit).declared ≡ true → AsksBelow ends drives (script.Submit r)
    → is_some r.written ≡ true → first_block (unit_at w unit).drive.kind r + r.count ≤ ends unit
kind_below ends drives w r unit drive is same declared on asks writes = search rules

held_below : (ends : ℕ → ℕ) (h : Held) (first count : ℕ) → h.first ≡ first → h.loan.count ≡ count → first + count ≤ ends h.unit → h.first + h.loan.count ≤ ends h.unit
held_below ends h first count is many below =
    subst (λ (f : ℕ). f + h.loan.count ≤ ends h.unit) (sym is) (subst (λ (n : ℕ). first + n ≤ ends h.unit) (sym many) below)

-- one that is refused leaves no trace of its slot
none_below : (ends : ℕ → ℕ) → no_held.write ≡ true → no_held.first + no_held.loan.count ≤ ends no_held.unit
none_below ends writes = omega arith

joins_below : (ends : ℕ → ℕ) (drives : ℕ → Option DriveKind) (w : World) (line p : ℕ) (r : Request) (h : Held) → MaySubmit w r p h
    → (refusal_of r w ≡ None → IsHeldFor (unit_at w h.unit).drive.kind r h) → AreDeclared drives w → AsksBelow ends drives (script.Submit r)
    → AreAll (JoinsBelow ends) (submit_acts r line p h w)
joins_below ends drives w line p r h may is declared asks = by_refusal (refusal_of r w) refl
  where
    by_refusal : (refused : Option AnswerKind) → refusal_of r w ≡ refused → AreAll (JoinsBelow ends) (submit_acts r line p h w)
    by_refusal None met =
        let held : IsHeldFor (unit_at w h.unit).drive.kind r h = is met in
        let new : IsNew w p h = may.new met in
        all_submitted (JoinsBelow ends) (none_join ends) r line p h w (λ kind. tt)
        (λ writes. held_below ends h (first_block (unit_at w h.unit).drive.kind r) r.count held.first held.count
        (kind_below ends drives w r h.unit (drives h.unit) refl held.unit declared new.unit.declared asks (sym held.write ∙ writes)))
    by_refusal (Some kind) met =
        let all : AreAll (JoinsBelow ends) (submit_by (refusal_of r w) r line p no_held w) =
        all_submitted (JoinsBelow ends) (none_join ends) r line p no_held w (λ k. tt) (none_below ends) in
        let refuses : AreAll (JoinsBelow ends) (submit_by (Some kind) r line p no_held w) =
        subst (λ (o : Option AnswerKind). AreAll (JoinsBelow ends) (submit_by o r line p no_held w)) met all in
        subst (λ (o : Option AnswerKind). AreAll (JoinsBelow ends) (submit_by o r line p h w)) (sym met) refuses

pub submissions_keep_reach : SubmissionsKeepReach
submissions_keep_reach ends drives old held w line p r h sound work may is declared asks within =
    let works : Works w (submit_acts r line p h w) = submit_works sound_after r line p h w sound work may in
    runs_keep_reach ends old held w (submit_acts r line p h w) sound works.run (joins_below ends drives w line p r h may is declared asks) within

-- THE START
table_below : (ends : ℕ → ℕ) (unit : ℕ) (drive : Option DriveKind) (table : Table) → is_some drive ≡ true
    → ((kind : DriveKind) → drive ≡ Some kind → block_count kind ≤ ends unit) → block_count (unwrap_or drive Rp06) ≤ ends unit
table_below ends unit None table some below = absurd (false≢true some)
table_below ends unit (Some kind) table some below = below kind refl

pub starts_within_reach : StartsWithinReach
starts_within_reach ends drives tables held setups outstanding noises are set declared below =
    let w : World = new_world setups outstanding noises in
    let sound : Sound w = sound_new setups outstanding noises are in
    record {
      reaches = record {
        requests = λ p h e. absurd (none-some h (sym (replicate_at outstanding p None) ∙ e));
        tables = λ unit table on is some.
            let is_set = set unit (record { unit = is_small w unit sound on; declared = on }) in
            subst (λ (k : DriveKind). block_count k ≤ ends unit) (sym (ap (λ (v : UnitView). v.drive.kind) is_set))
            (table_below ends unit (drives unit) table (declared unit ∙ on)
            (λ kind there. below unit kind table there (sym (ap (λ (v : UnitView). v.table) is_set) ∙ is) some));
      };
      packs = λ unit. refl;
    }
