-- EACH MOMENT that may come is a step of the machine; and the start stands for what the packs hold.
use Rattle.std.proofs.Common.{◌≡◌, ℕ, ◌==◌, List, [], ◌∷◌, ◌++◌, Option, None, Some, refl, sym, ap, ◌∙◌}
use Rattle.std.proofs.lemmas.List.Elements.{All-nil}
use Rattle.pack_geometry.specs.declared.DriveKind.{DriveKind}
use Rattle.pack_geometry.specs.Pack as model
use Rattle.pack_geometry.specs.Content.{bytes_at}
use Rattle.pack_geometry.specs.TableSpelling.{Table}
use Rattle.pack_geometry.specs.PackTable.{AreTablesOf}
use Rattle.pack_geometry.specs.Homes.{home_of, content_at, contents_of}
use Rattle.pack_geometry.proofs.PackLaws.{length-block_at}
use Rattle.hardware_table.specs.Drive.{is_positioning}
use Rattle.hardware_table.specs.Noise.{LiveNoise}
use Rattle.trace_replay.specs.requests.Requests.{first_block}
use Rattle.trace_replay.specs.Script.{Input, Submit, ArriveAt, MoveAt, AttendTo, Drain, Turn, Noise, IsInput}
use Rattle.trace_replay.specs.Moments.{Moment, Played, Told, Idle, Deed}
use Rattle.trace_replay.specs.Adapters.{can_move}
use Rattle.trace_replay.specs.Packs.{surface_of}
use Rattle.trace_replay.specs.Service.{no_request}
use Rattle.trace_replay.specs.Events.{Done, Arriving, Trying, NothingToDo, can_attend, serving}
use Rattle.trace_replay.specs.Replay.{Replay, new_replay, next_wish, InputMay, MayCome, Follows, after_moment, after_moments, act_done, act_drained, event_of, replay_played}
use Rattle.driver_laws.specs.rules.Machine.{Machine, idle}
use Rattle.driver_laws.specs.rules.Stands.{Setup, start_over, home_at, home_in, held_at, IsLive, is_sure_among, StandsFor}
use Rattle.driver_laws.proofs.rules.Hands.{begins}
use Rattle.driver_laws.proofs.rules.Noises.{armed_live}
use Rattle.driver_laws.proofs.rules.MachineUnits.{Keeps}
use Rattle.driver_laws.proofs.rules.Keeping.{calm_either, calm_drain}
use Rattle.driver_laws.proofs.rules.Kept.{moment_kept, all_quiet}
use Rattle.driver_laws.proofs.rules.Lines.{other_event, state_owes, ToldStep, told_step}
use Rattle.driver_laws.proofs.rules.Inputs.{conditions_stand, given_noise, idle_owes, silent_step, submit_step}
use Rattle.driver_laws.proofs.rules.MomentSteps.{AreGiven, IsGiven, IsNew, MomentStep}

-- ---- a line of the script
played_step : (setup : Setup) (armed : List LiveNoise) (s : Replay) (m : Machine) (line : ℕ) (input : Input) → Keeps setup s → StandsFor setup armed s m → InputMay s line
    → IsInput setup.drives input → IsNew m (Played line input) → MomentStep setup armed s m (Played line input)
played_step setup armed s m line (Submit r) k h may given new = submit_step setup armed s m line r k h may (all_quiet setup s line k may r.unit) given new
played_step setup armed s m line (ArriveAt u) k h may given new =
    silent_step setup armed s m line (ArriveAt u) may refl refl (calm_either (is_positioning (s.units u).drive.work) (Arriving u) NothingToDo tt tt) (other_event setup armed s m (event_of s line (ArriveAt u)) h)
played_step setup armed s m line (MoveAt a) k h may given new =
    silent_step setup armed s m line (MoveAt a) may refl refl (calm_either (can_move (s.adapters a).state) (Trying a) NothingToDo tt tt) (other_event setup armed s m (event_of s line (MoveAt a)) h)
played_step setup armed s m line (AttendTo a) k h may given new =
    silent_step setup armed s m line (AttendTo a) may refl refl (calm_either (can_attend (s.adapters a).state) (serving a (s.adapters a).state) NothingToDo tt tt) (other_event setup armed s m (event_of s line (AttendTo a)) h)
played_step setup armed s m line Drain k h may given new =
    silent_step setup armed s m line Drain may refl refl (calm_either (s.outstanding == 0) NothingToDo (act_drained s) tt (calm_drain s)) (other_event setup armed s m (event_of s line Drain) h)
played_step setup armed s m line (Turn u y) k h may given new =
    silent_step setup armed s m line (Turn u y) may refl refl tt (other_event setup armed (replay_played s (Turn u y)) m (event_of s line (Turn u y)) (conditions_stand setup armed s m (Turn u y) h refl h.noise (λ unit x is. is)))
played_step setup armed s m line (Noise n) k h may given new =
    silent_step setup armed s m line (Noise n) may refl refl tt
    (other_event setup (n ∷ armed) (replay_played s (Noise n)) m (event_of s line (Noise n))
    (conditions_stand setup armed s m (Noise n) h refl (armed_live armed s.surface.live n (given_noise (setup.drives n.unit) n given) h.noise) (λ unit x is. is.0)))
played_step setup armed s m line other k h may given new =
    silent_step setup armed s m line other may refl refl tt
    (other_event setup armed (replay_played s other) m (event_of s line other) (conditions_stand setup armed s m other h refl h.noise (λ unit x is. is)))

-- ---- any moment
told_moment : (setup : Setup) (armed : List LiveNoise) (s : Replay) (m : Machine) (line unit id : ℕ) (deed : Deed) → ToldStep setup armed s m (next_wish s) (after_moment s (Told line unit id deed)) line unit id deed
    → MomentStep setup armed s m (Told line unit id deed)
told_moment setup armed s m line unit id deed t = record { later = t.later; new = t.new; order = t.order; steps = t.steps; stands = t.stands }

pub moment_step : (setup : Setup) (armed : List LiveNoise) (s : Replay) (m : Machine) (moment : Moment) → AreTablesOf setup.drives setup.packs setup.tables → Keeps setup s → StandsFor setup armed s m
    → MayCome s moment → IsGiven setup.drives moment → IsNew m moment → MomentStep setup armed s m moment
moment_step setup armed s m (Played line input) are k h may given new = played_step setup armed s m line input k h may given new
moment_step setup armed s m (Told line unit id deed) are k h may given new = told_moment setup armed s m line unit id deed (told_step setup armed s m (next_wish s) line unit id deed are k h may)
moment_step setup armed s m (Idle line) are k h may given new = record {
  later = [];
  new = m;
  order = state_owes (act_done s) tt ∙ sym (ap (λ z. z ++ []) (idle_owes (next_wish s) s.event.line may.nothing));
  steps = refl;
  stands = other_event setup armed s m (record s.event { act = Done }) h;
}

-- ---- a state that is reached keeps what all keep
pub beginning_kept : (setup : Setup) (s : Replay) (ms : List Moment) → Keeps setup s → AreGiven setup.drives ms → Follows s ms → Keeps setup (after_moments s ms)
beginning_kept setup s [] k given follows = k
beginning_kept setup s (m ∷ ms) k given follows = beginning_kept setup (after_moment s m) ms (moment_kept setup s m k given.0 follows.0) given.1 follows.1

-- ---- the start
held_is : (pack : model.Pack) (home : Option ℕ) → held_at (λ b. model.block_at pack.image b) home ≡ bytes_at pack home
held_is pack None = refl
held_is pack (Some x) = refl

first_held : (drive : Option DriveKind) (table : Option Table) (pack : model.Pack) (b : ℕ) → held_at (λ x. model.block_at pack.image x) (home_at drive table pack b) ≡ content_at drive table pack b
first_held None table pack b = refl
first_held (Some kind) table pack b = held_is pack (home_of kind table pack b)

-- THE START stands for the contents of the packs, with nothing outstanding and no noise armed.
pub start_stands : (setup : Setup) → AreTablesOf setup.drives setup.packs setup.tables
    → StandsFor setup [] (start_over setup) (idle (contents_of setup.drives setup.tables setup.packs))
start_stands setup are = record {
  units = λ u. record {
    hand = begins (is_sure_among [] u) (home_in setup u) (first_block ((new_replay setup.drives setup.tables (surface_of setup.packs)).units u).drive.kind no_request) no_request
        (λ x. model.block_at (setup.packs u).image x) (contents_of setup.drives setup.tables setup.packs u) (λ b. first_held (setup.drives u) (setup.tables u) (setup.packs u) b);
    stage = tt;
  };
  queues = λ u. record { each = tt; distinct = tt };
  frames = refl;
  counted = refl;
  noise = All-nil (IsLive []);
  sizes = λ u x. length-block_at (setup.packs u).image x;
  others = λ u x homeless. refl;
}
