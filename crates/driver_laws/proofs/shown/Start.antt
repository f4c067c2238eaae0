-- The start of a run, and answers that are taken between two calls.
use Rattle.std.proofs.Common.{◌≡◌, ℕ, List, [], Option, refl}
use Rattle.std.specs.Prelude.{is_some}
use Rattle.pack_geometry.specs.declared.DriveKind.{DriveKind}
use Rattle.pack_geometry.specs.Pack.{Pack}
use Rattle.pack_geometry.specs.TableSpelling.{Table}
use Rattle.trace_replay.specs.Moments.{Moment}
use Rattle.trace_replay.specs.Packs.{surface_of}
use Rattle.trace_replay.specs.Replay.{Replay, all_units, new_replay, after_moments}
use Rattle.driver_machine.specs.World.{World, Setup, new_world, unit_at}
use Rattle.driver_machine.specs.Acts.{Taken, after}
use Rattle.driver_machine.specs.Guards.{IsSetUp}
use Rattle.driver_machine.specs.Sound.{Sound, AtWork}
use Rattle.driver_laws.specs.invariant.Setups.{AreSetups}
use Rattle.driver_laws.proofs.invariant.Starts.{sound_new, rests_new}
use Rattle.driver_laws.specs.shown.Acts.{AreSetUp}
use Rattle.driver_laws.proofs.shown.Rest.{start_is_shown, rest_shows, waiting_calm}
use Rattle.driver_laws.specs.shown.Calls.{Stands}
use Rattle.driver_laws.specs.shown.Runs.{IsSoFar}
use Rattle.driver_laws.proofs.shown.Resting.{shows_one, shows_all}
use Rattle.driver_laws.proofs.shown.Submits.{calm}
use Rattle.driver_laws.proofs.shown.TraceRuns.{filter_by}
use Rattle.driver_laws.proofs.shown.Showing.{Shows}

-- AT THE START, where the drives and tables are those of the units that are set up
pub starts : (drives : ℕ → Option DriveKind) (tables : ℕ → Option Table) (held : ℕ → Pack) (setups : List Setup) (outstanding noises : ℕ)
    → AreSetups setups → AreSetUp drives tables (new_world setups outstanding noises)
    → ((x : ℕ) → is_some (drives x) ≡ (unit_at (new_world setups outstanding noises) x).declared)
    → IsSoFar (new_replay drives tables (surface_of held)) 0 [] held (new_world setups outstanding noises)
starts drives tables held setups outstanding noises are set declared =
    let w : World = new_world setups outstanding noises in
    let s : Replay = new_replay drives tables (surface_of held) in
    record {
      follows = tt;
      left = record {
        stands = record {
          sound = sound_new setups outstanding noises are;
          work = rests_new setups outstanding noises are;
          shows = shows_all 0 w s (start_is_shown 0 drives tables (surface_of held) setups outstanding noises set refl)
              (waiting_calm (unit_at w 0).phase);
          quiet = λ x. refl;
          over = refl;
          packs = record { sectors = λ unit block. refl; marks = λ unit block. refl };
        };
        line_is = refl;
        finished = refl;
      };
      there = filter_by (λ x. is_some (drives x)) (λ x. (unit_at w x).declared) all_units declared;
    }

-- AN ANSWER THAT IS TAKEN changes nothing that is seen.
pub taken_goes : (start : Replay) (line u : ℕ) (moments : List Moment) (held : ℕ → Pack) (w : World) → IsSetUp w u
    → Sound (after w Taken) → AtWork (after w Taken) → IsSoFar start line moments held w → IsSoFar start line moments held (after w Taken)
taken_goes start line u moments held w unit sound work far =
    let s : Replay = after_moments start moments in
    let stands : Stands held w s = far.left.stands in
    let one : Shows u w s = shows_one u w s unit.unit stands.shows (calm w s u stands.work unit (stands.shows.units u unit)).coming in
    record {
      follows = far.follows;
      left = record {
        stands = record {
          sound = sound;
          work = work;
          shows = shows_all u (after w Taken) s (rest_shows u line w s stands.sound one).1 (calm w s u stands.work unit (stands.shows.units u unit)).coming;
          quiet = stands.quiet;
          over = stands.over;
          packs = stands.packs;
        };
        line_is = far.left.line_is;
        finished = far.left.finished;
      };
      there = far.there;
    }
