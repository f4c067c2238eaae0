-- Each moment that may come keeps what every reached state keeps.
use Rattle.std.proofs.Common.{◌≡◌, ℕ, true, false, List, [], Option, refl, ap, ◌∙◌, rules}
use Rattle.std.specs.Prelude.{if◌then◌else◌}
use Rattle.pack_geometry.specs.declared.DriveKind.{DriveKind}
use Rattle.pack_geometry.specs.Pack as model
use Rattle.trace_replay.specs.requests.Requests.{Request}
use Rattle.trace_replay.specs.Script.{Input, Submit, ArriveAt, MoveAt, AttendTo, Drain, IsInput}
use Rattle.trace_replay.specs.Moments.{Deed, Moment, Played, Told, Idle}
use Rattle.trace_replay.specs.Packs.{surface_of}
use Rattle.trace_replay.specs.Conversation.{goes_on}
use Rattle.trace_replay.specs.Events.{NothingToDo, Event, Wish, Refusal, can_attend, serving}
use Rattle.trace_replay.specs.Replay.{Replay, UnitSeen, next_wish, ToldMay, InputMay, MayCome, after_moment, unit_after, replay_told, told_after, Submission, Refused, Joined, submission, submitted, unit_joined, replay_played, event_of, act_submitted}
use Rattle.trace_replay.specs.History.{lines_after}
use Rattle.trace_replay.specs.Causes.{AsksSome}
use Rattle.trace_replay.proofs.Unchanged.{told_keeps, surface_marks, with_other}
use Rattle.trace_replay.proofs.Kept.{AllFit, told_all, played_all, starts, after_kind, played_kind}
use Rattle.driver_laws.specs.rules.Machine.{kind_of}
use Rattle.driver_laws.specs.rules.Stands.{Setup, start_over}
use Rattle.driver_laws.proofs.rules.MachineUnits.{Keeps}
use Rattle.driver_laws.proofs.rules.Keeping.{with_each, Events, line_events, told_true, calm_first, calm_either}
use Rattle.trace_replay.proofs.Histories.{WasMarked}
use Rattle.trace_replay.proofs.Asking.{there_asks}
use Rattle.trace_replay.proofs.Unusable.{attached_kind}
use Rattle.driver_laws.proofs.rules.MomentSteps.{IsGiven}

-- ---- kinds, tables and marks stay
pub record Steady (setup : Setup) (s : Replay) : Type 0 where
  pub kinds : (unit : ℕ) → (s.units unit).drive.kind ≡ kind_of setup.drives unit
  pub tables : (unit : ℕ) → (s.units unit).table ≡ setup.tables unit
  pub marks : (unit block : ℕ) → s.surface.is_marked unit block ≡ model.is_marked (setup.packs unit) block

line_steady : (setup : Setup) (s : Replay) (unit : ℕ) (deed : Deed) (event : Event) → Steady setup s → Steady setup (record (replay_told s unit deed (unit_after s unit deed)) { event = event })
line_steady setup s unit deed event h = search (rules, with_each, after_kind, surface_marks)

told_steady : (setup : Setup) (wish : Wish) (s : Replay) (unit : ℕ) (deed : Deed) → Steady setup s → Steady setup (told_after wish s unit deed)
told_steady setup wish s unit deed h =
    told_keeps (Steady setup) wish s unit deed (λ event. record { kinds = h.kinds; tables = h.tables; marks = h.marks }) (λ event. line_steady setup s unit deed event h)

joined_steady : (setup : Setup) (s : Replay) (r : Request) (met : Submission) → Steady setup s → Steady setup (submitted s r met)
joined_steady setup s r (Refused why) h = h
joined_steady setup s r Joined h = record {
  kinds = with_each (λ x (u : UnitSeen). u.drive.kind ≡ kind_of setup.drives x) s.units r.unit (unit_joined (s.units r.unit) r) (h.kinds r.unit) (λ x apart. h.kinds x);
  tables = with_each (λ x (u : UnitSeen). u.table ≡ setup.tables x) s.units r.unit (unit_joined (s.units r.unit) r) (h.tables r.unit) (λ x apart. h.tables x);
  marks = h.marks;
}

played_steady : (setup : Setup) (s : Replay) (input : Input) → Steady setup s → Steady setup (replay_played s input)
played_steady setup s input h = search (rules, joined_steady, played_kind)

-- ---- who goes on
told_events : (wish : Wish) (s : Replay) (line unit id : ℕ) (deed : Deed) → Events s → ToldMay wish s line unit id deed → Events (told_after wish s unit deed)
told_events (Refusal u i why) s line unit id deed e may = record { quiet = e.quiet; refusing = tt }
told_events other s line unit id deed e may = line_events s line unit id deed e may

-- before a line of the script no unit goes on
all_rest : (s : Replay) (line : ℕ) → Events s → InputMay s line → (unit : ℕ) → goes_on (s.units unit).stage ≡ false
all_rest s line e may unit = search rules

submitted_events : (s : Replay) (r : Request) (line : ℕ) (met : Submission) → ((unit : ℕ) → goes_on (s.units unit).stage ≡ false)
    → Events (record (submitted s r met) { event = record { line = line; drains = false; between = false; act = act_submitted r met; speaker = r.unit } })
submitted_events s r line (Refused why) rest = record { quiet = λ x apart. rest x; refusing = rest r.unit }
submitted_events s r line Joined rest = record {
  quiet = λ x apart. ap (λ (z : UnitSeen). goes_on z.stage) (with_other s.units r.unit (unit_joined (s.units r.unit) r) x apart) ∙ rest x;
  refusing = tt;
}

played_events : (s : Replay) (line : ℕ) (input : Input) → ((unit : ℕ) → goes_on (s.units unit).stage ≡ false) → Events (after_moment s (Played line input))
played_events s line (Submit r) rest = submitted_events s r line (submission s r) rest
played_events s line (ArriveAt u) rest = search rules
played_events s line (MoveAt a) rest = search rules
played_events s line (AttendTo a) rest = record {
  quiet = λ x apart. rest x;
  refusing = calm_first (if can_attend (s.adapters a).state then serving a (s.adapters a).state else NothingToDo) (goes_on (s.units 0).stage)
      (calm_either (can_attend (s.adapters a).state) (serving a (s.adapters a).state) NothingToDo tt tt);
}
played_events s line Drain rest = search rules
played_events s line other rest = record { quiet = λ x apart. rest x; refusing = tt }

-- ---- inputs ask for some blocks

pub input_asks : (drives : ℕ → Option DriveKind) (input : Input) → IsInput drives input → AsksSome input
input_asks drives (Submit r) is = there_asks (drives r.unit) r is
input_asks drives other is = tt

-- ---- ALL OF IT
keeps_from : (setup : Setup) (s : Replay) (lines : ℕ → List Deed) → AllFit s lines → ((unit block : ℕ) → WasMarked block (lines unit) → model.is_marked (setup.packs unit) block ≡ true)
    → Steady setup s → Events s → Keeps setup s
keeps_from setup s lines fits marked steady events = search rules

steady_of : (setup : Setup) (s : Replay) → Keeps setup s → Steady setup s
steady_of setup s k = record { kinds = k.kinds; tables = k.tables; marks = k.marks }

events_of : (setup : Setup) (s : Replay) → Keeps setup s → Events s
events_of setup s k = record { quiet = k.quiet; refusing = k.refusing }

again : (setup : Setup) (s : Replay) (event : Event) → Steady setup s → Steady setup (record s { event = event })
again setup s event h = record { kinds = h.kinds; tables = h.tables; marks = h.marks }

pub all_quiet : (setup : Setup) (s : Replay) (line : ℕ) → Keeps setup s → InputMay s line → (unit : ℕ) → goes_on (s.units unit).stage ≡ false
all_quiet setup s line k may unit = all_rest s line (events_of setup s k) may unit

pub moment_kept : (setup : Setup) (s : Replay) (moment : Moment) → Keeps setup s → IsGiven setup.drives moment → MayCome s moment → Keeps setup (after_moment s moment)
moment_kept setup s (Played line input) k given may =
    keeps_from setup (after_moment s (Played line input)) k.lines (played_all s input k.lines (input_asks setup.drives input given) k.fits) k.marked
    (again setup (replay_played s input) (event_of s line input) (played_steady setup s input (steady_of setup s k)))
    (played_events s line input (all_rest s line (events_of setup s k) may))
moment_kept setup s (Told line unit id deed) k given may =
    keeps_from setup (after_moment s (Told line unit id deed)) (λ x. lines_after x (Told line unit id deed) (k.lines x)) (told_all (next_wish s) s line unit id deed k.lines may k.fits)
    (told_true setup (next_wish s) s line unit id deed k.lines k.marks may k.marked) (told_steady setup (next_wish s) s unit deed (steady_of setup s k))
    (told_events (next_wish s) s line unit id deed (events_of setup s k) may)
moment_kept setup s (Idle line) k given may = search rules

pub start_kept : (setup : Setup) → Keeps setup (start_over setup)
start_kept setup = record {
  lines = λ unit. [];
  fits = starts setup.drives setup.tables (surface_of setup.packs);
  marked = λ unit block was. absurd was;
  kinds = λ unit. attached_kind (kind_of setup.drives unit) unit;
  tables = λ unit. refl;
  marks = λ unit block. refl;
  quiet = λ unit apart. refl;
  refusing = tt;
}
