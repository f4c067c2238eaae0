-- A replay at rest keeps what every state keeps that a legal beginning reaches, and stands for what its packs hold.
use Rattle.std.proofs.Common.{◌≡◌, ℕ, false, List, [], Option, None, Some, refl, sym, ap, ◌∙◌, subst, rules}
use Rattle.std.specs.Prelude.{All, length}
use Rattle.std.proofs.lemmas.List.Elements.{All-nil}
use Rattle.pack_geometry.specs.declared.DriveKind.{DriveKind}
use Rattle.pack_geometry.specs.Pack as model
use Rattle.pack_geometry.specs.TableSpelling.{Table}
use Rattle.pack_geometry.specs.Content.{bytes_at}
use Rattle.pack_geometry.specs.Homes.{home_of, content_at, contents_of}
use Rattle.pack_geometry.proofs.PackLaws.{length-block_at}
use Rattle.hardware_table.specs.Noise.{LiveNoise}
use Rattle.trace_replay.specs.requests.ServiceOrder.{Waiting as Waiter}
use Rattle.trace_replay.specs.requests.Requests.{Request}
use Rattle.trace_replay.specs.Conversation.{Waiting, not_begun, goes_on}
use Rattle.trace_replay.specs.Events.{Act, Refusing}
use Rattle.trace_replay.specs.Replay.{Replay}
use Rattle.driver_laws.proofs.rules.Idle.{unit_is, idle_fits}
use Rattle.driver_laws.specs.rules.Machine.{Blocks, idle}
use Rattle.driver_laws.specs.rules.Stands.{Setup, home_at, home_in, held_at, IsLive, is_sure_among, UnitStands, QueueStands, StandsFor}
use Rattle.driver_laws.proofs.rules.MachineUnits.{Keeps, IsFirst}
use Rattle.driver_laws.specs.rules.Rest.{IsAtRest, StartRests}

first_by : (act : Act) (goes : _) → goes ≡ false → IsFirst act goes
first_by (Refusing u i why) goes is = is
first_by other goes is = tt

pub rest_keeps : (setup : Setup) (s : Replay) → IsAtRest setup s → Keeps setup s
rest_keeps setup s rest = record {
  lines = λ unit. [];
  fits = idle_fits s rest.idle;
  marked = λ unit block was. absurd was;
  kinds = rest.kinds;
  tables = rest.tables;
  marks = rest.marks;
  quiet = λ unit apart. ap goes_on (rest.idle.stages unit);
  refusing = first_by s.event.act (goes_on (s.units s.event.speaker).stage) (ap goes_on (rest.idle.stages s.event.speaker));
}

-- ---- what the homes hold
held_is : (pack : model.Pack) (sectors : ℕ → List ℕ) (home : Option ℕ) → ((b : ℕ) → sectors b ≡ model.block_at pack.image b) → held_at sectors home ≡ bytes_at pack home
held_is pack sectors None same = refl
held_is pack sectors (Some x) same = ap Some (same x)

pub held_there : (drive : Option DriveKind) (table : Option Table) (pack : model.Pack) (sectors : ℕ → List ℕ) (b : ℕ) → ((b : ℕ) → sectors b ≡ model.block_at pack.image b)
    → held_at sectors (home_at drive table pack b) ≡ content_at drive table pack b
held_there None table pack sectors b same = refl
held_there (Some kind) table pack sectors b same = held_is pack sectors (home_of kind table pack b) same

-- ---- a unit at rest stands for what its pack holds
stands_rest : (sure : ℕ → Type 0) (homes : ℕ → Option ℕ) (d : _) (joined : ℕ) (table : Option Table) (sectors : ℕ → List ℕ) (blocks : Blocks) → ((b : ℕ) → held_at sectors (homes b) ≡ blocks b)
    → UnitStands sure homes (record { drive = d; service = record { waiting = []; joined = joined }; stage = Waiting; progress = not_begun; table = table }) sectors blocks
stands_rest sure homes d joined table sectors blocks holds = search rules

none_waits : (drives : ℕ → Option DriveKind) (unit : ℕ) (outstanding : List Request) (waiting : List (Waiter Request)) → waiting ≡ [] → QueueStands drives unit outstanding waiting
none_waits drives unit outstanding waiting none = subst (QueueStands drives unit outstanding) (sym none) (record { each = tt; distinct = tt })

pub rest_stands : (setup : Setup) (s : Replay) → IsAtRest setup s → StandsFor setup [] s (idle (contents_of setup.drives setup.tables setup.packs))
rest_stands setup s rest = record {
  units = λ u. subst (λ z. UnitStands (is_sure_among [] u) (home_in setup u) z (s.surface.sector u) (contents_of setup.drives setup.tables setup.packs u))
      (unit_is (s.units u) (rest.idle.stages u) (rest.idle.queues u) (rest.idle.fresh u))
      (stands_rest (is_sure_among [] u) (home_in setup u) (s.units u).drive (s.units u).service.joined (s.units u).table (s.surface.sector u) (contents_of setup.drives setup.tables setup.packs u)
      (λ b. held_there (setup.drives u) (setup.tables u) (setup.packs u) (s.surface.sector u) b (rest.sectors u)));
  queues = λ u. none_waits setup.drives u [] (s.units u).service.waiting (rest.idle.queues u);
  frames = rest.frames;
  counted = rest.outstanding;
  noise = subst (λ (z : List LiveNoise). All (IsLive []) z) (sym rest.calm.live) (All-nil (IsLive []));
  sizes = λ u x. ap length (rest.sectors u x) ∙ length-block_at (setup.packs u).image x;
  others = λ u x homeless. rest.sectors u x;
}

-- ---- the start rests
pub start_rests : StartRests
start_rests setup = search rules
