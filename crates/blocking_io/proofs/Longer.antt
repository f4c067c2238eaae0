-- How long images are where a request stopped.
use Rattle.std.proofs.Common.{◌≡◌, ◌⊎◌, inl, inr, ℕ, ◌==◌, Bool, true, false, IsTrue, Option, List, [], ◌∷◌, ◌++◌, length, refl, sym, ap, subst, ◌∙◌, append-nil}
use Rattle.std.specs.Prelude.{not, slice_index}
use Rattle.pack_geometry.specs.declared.DriveKind.{DriveKind}
use Rattle.pack_geometry.specs.Pack.{Pack}
use Rattle.trace_replay.specs.requests.Requests.{Request}
use Rattle.trace_replay.specs.Moments.{Moment, Played}
use Rattle.trace_replay.specs.Script as script
use Rattle.trace_replay.specs.Script.{Input}
use Rattle.trace_replay.specs.Replay.{Replay, AreLeft, after_moments}
use Rattle.driver_laws.specs.rules.Beginnings.{AreNoSectors}
use Rattle.driver_machine.specs.World.{World}
use Rattle.driver_machine.specs.Acts.{Act}
use Rattle.driver_machine.specs.Lines.{lines_of_all}
use Rattle.driver_machine.specs.Events.{event_acts}
use Rattle.driver_machine.specs.Sound.{Sound}
use Rattle.driver_machine.specs.Runs.{Run}
use Rattle.driver_laws.specs.answers.Packs.{packs_after_all}
use Rattle.driver_laws.specs.answers.Outcome.{IsNextBlock}
use Rattle.driver_laws.specs.declared.answers.outcome.Stop.TheVariants.{Store}
use Rattle.driver_laws.specs.shown.Within.{ShowsAll}
use Rattle.driver_laws.specs.shown.NextBlock.{IsTorn, NextBlocksShow}
use Rattle.driver_laws.specs.shown.RunsRuns.{AreDeclared}
use Rattle.driver_laws.specs.shown.Lengths.{length_behind, AreAsLong}
use Rattle.driver_laws.proofs.shown.Lengths.{long_append, quiet_long, later_events_keep_lengths}
use Rattle.driver_laws.proofs.shown.Sectors.{event_quiet}
use Rattle.driver_laws.specs.rules.Sessions.{behind_all, waited}
use Rattle.hp_driver.specs.Subsystem.{is_move}
use Rattle.blocking_io.specs.Asking.{moments_in}
use Rattle.blocking_io.specs.Calls.{Stage, EventTellsFront, MoveFails}
use Rattle.blocking_io.specs.Stopping.{IsLongerByOne, LongAt}
use Rattle.blocking_io.proofs.Trying.{IsMoveOf, move_of, no_move, one_front}
use Rattle.blocking_io.proofs.Waiting.{asked_moments, drained_moments}

-- the moments of a request, and those of its parts
pub long_told : (line : ℕ) (r : Request) (asked drained : List Moment) (s : Replay) (old held : ℕ → Pack) → AreAsLong s (drained_moments line r asked drained) old held
    → AreAsLong s (moments_in (waited line r asked drained)) old held
long_told line r asked drained s old held long =
    subst (λ (ms : List Moment). AreAsLong s ms old held)
    (ap (λ (ms : List Moment). asked_moments line r asked ++ Played line script.Drain ∷ ms) (sym (append-nil drained))) long

-- moments that tell of no sector
pub quiet_more : (s : Replay) (ms more : List Moment) (old held left : ℕ → Pack) → AreNoSectors more → left ≡ held → AreAsLong s ms old held → AreAsLong s (ms ++ more) old left
quiet_more s ms more old held left quiet same long unit =
    ap (λ (packs : ℕ → Pack). length (packs unit).image) same ∙ long unit
    ∙ sym (quiet_long (after_moments s ms) more unit (length_behind s ms unit (length (old unit).image)) quiet)
    ∙ sym (long_append s ms more unit (length (old unit).image))

-- an event whose lines the trace did not take whole
abbrev Lengthens : Replay → List Moment → (old left : ℕ → Pack) → World → List Act → Type 0
Lengthens s ms old left w done = AreAsLong s (ms ++ lines_of_all w done) old left

pub event_long : (line : ℕ) (old : ℕ → Pack) (mid new : Stage) (input : Input) (sent : List ℕ) (s : Replay) (ms : List Moment) → Sound mid.world → ShowsAll mid.world (after_moments s ms)
    → AreAsLong s ms old mid.held → IsTrue new.packs_tell → (e : EventTellsFront sent line input mid new) → AreAsLong s (ms ++ lines_of_all mid.world e.tells.done) old new.held
event_long line old mid new input sent s ms sound shows long told e = by (is_move input) refl
  where
    its : is_move input ≡ true → IsMoveOf line input e.tried mid.world mid.held
    its is = move_of line input e.tried mid.world mid.held is sound e.noise

    left_by : (done : List Act) → e.tells.done ≡ done → new.held ≡ packs_after_all mid.world mid.held done
    left_by done is = e.tells.packs told ∙ ap (λ (acts : List Act). packs_after_all mid.world mid.held acts) is

    none_done : e.tells.done ≡ [] → Lengthens s ms old new.held mid.world e.tells.done
    none_done none =
        subst (Lengthens s ms old new.held mid.world) (sym none)
        (subst (λ (xs : List Moment). AreAsLong s xs old new.held) (sym (append-nil ms)) (subst (AreAsLong s ms old) (sym (left_by [] none)) long))

    all_done : e.tells.done ≡ event_acts line input e.tried mid.world → Lengthens s ms old new.held mid.world e.tells.done
    all_done all =
        subst (Lengthens s ms old new.held mid.world) (sym all)
        (subst (AreAsLong s (ms ++ lines_of_all mid.world (event_acts line input e.tried mid.world)) old) (sym (left_by (event_acts line input e.tried mid.world) all))
        (later_events_keep_lengths s ms old mid.held mid.world line input e.tried sound shows (subst (Run mid.world) all e.tells.run) long))

    moves : (e.tells.done ≡ []) ⊎ (e.tells.done ≡ event_acts line input e.tried mid.world) → Lengthens s ms old new.held mid.world e.tells.done
    moves (inl none) = none_done none
    moves (inr all) = all_done all

    by : (b : Bool) → is_move input ≡ b → Lengthens s ms old new.held mid.world e.tells.done
    by false is =
        quiet_more s ms (lines_of_all mid.world e.tells.done) old mid.held new.held
        (event_quiet line input e.tried mid.world e.tells.done e.tells.left (no_move input is) e.tells.all) (e.still is) long
    by true is = moves (one_front (event_acts line input e.tried mid.world) e.tells.done e.tells.left (its is).one.0 (its is).one.1 e.tells.all)

-- a move at which the packs failed
pub move_long : NextBlocksShow → (drives : ℕ → Option DriveKind) (line : ℕ) (r : Request) (asked moments : List Moment) (old : ℕ → Pack) (mid new : Stage) (input : Input) (s : Replay) → Sound mid.world
    → ShowsAll mid.world (behind_all s (waited line r asked moments)) → AreDeclared drives mid.world → AreLeft drives old mid.held (behind_all s (waited line r asked moments)).surface
    → AreAsLong s (drained_moments line r asked moments) old mid.held → IsTrue new.packs_tell → MoveFails input mid new
    → LongAt Store (waited line r asked moments) old new.held s
move_long next_shows drives line r asked moments old mid new input s sound shows units packs long told e = by (e.packs told)
  where
    torn : IsTorn drives old mid.held new.held (behind_all s (waited line r asked moments)) → IsLongerByOne (waited line r asked moments) old new.held s
    torn t = record {
      held = mid.held;
      long = long_told line r asked moments s old mid.held long;
      unit = t.at.unit;
      block = t.at.block;
      next = record {
        segment = t.at.next.segment;
        left = t.at.next.left;
        stage = t.at.next.stage;
        some = t.at.next.some;
        writes = t.at.next.writes;
        is = t.at.next.is;
        unmarked = ap (λ (marks : List ℕ). not (slice_index marks t.at.block == 0)) (packs.marks t.at.unit) ∙ t.at.next.unmarked;
      };
      is = t.is;
    }

    by : (new.held ≡ mid.held) ⊎ IsNextBlock mid.world mid.held new.held → LongAt Store (waited line r asked moments) old new.held s
    by (inl same) = inl (subst (AreAsLong s (moments_in (waited line r asked moments)) old) (sym same) (long_told line r asked moments s old mid.held long))
    by (inr next) = inr (torn (next_shows drives old mid.held new.held (behind_all s (waited line r asked moments)) mid.world sound shows units packs next))
