-- A line of a unit, its end apart, leaves it standing for the same blocks of the map.
use Rattle.std.proofs.Common.{◌≡◌, ◌≢◌, ℕ, ◌<◌, ◌≤◌, ◌+◌, ◌-◌, ◌==◌, ◌&&◌, ◌||◌, Bool, true, false, not, List, [], ◌∷◌, Option, Some, refl, sym, ap, ◌∙◌, subst, arith, rules}
use Rattle.std.specs.Prelude.{is_some}
use Rattle.std.proofs.lemmas.Option.{same_Some, none-some}
use Rattle.pack_geometry.specs.declared.DriveKind.{DriveKind}
use Rattle.pack_geometry.specs.Geometry.{place_at, limit_of}
use Rattle.pack_geometry.specs.Pack as model
use Rattle.pack_geometry.specs.PackTable.{AreTablesOf}
use Rattle.drive_registers.specs.declared.Function.{Function}
use Rattle.drive_registers.specs.declared.Function.TheVariants as function
use Rattle.hardware_table.specs.declared.Moved.{Moved}
use Rattle.hardware_table.specs.declared.Moved.TheVariants as verdict
use Rattle.hardware_table.specs.Adapter.{AdapterState, drive_stepped}
use Rattle.hardware_table.specs.Drive.{DriveState, is_ready, is_writing, is_transferring}
use Rattle.hardware_table.specs.Functions.{performed, refusals, needs_online}
use Rattle.hardware_table.specs.Moves.{was_read}
use Rattle.hardware_table.specs.Noise.{LiveNoise}
use Rattle.trace_replay.specs.requests.ServiceOrder.{Waiting as Waiter}
use Rattle.trace_replay.specs.requests.Requests.{Request, first_block}
use Rattle.trace_replay.specs.Moments.{Deed, Centre, Clear, Pack, Transfer, Arrive, Sector, Intr, Try, Attn, End}
use Rattle.trace_replay.specs.Drives.{takes, transfer_function, drive_after, addressed}
use Rattle.trace_replay.specs.Packs.{flips_at, bytes_read}
use Rattle.trace_replay.specs.Service.{first_waiting, request_or_none, ids, in_hand, target_of}
use Rattle.trace_replay.specs.Conversation.{Stage, Progress, last_of, segment_of, left_of, Moving, interrupted_by, step_taken, step_ended, said, progress_tried, progress_interrupted, goes_on}
use Rattle.trace_replay.specs.Events.{Act, Refusing}
use Rattle.trace_replay.specs.Replay.{Replay, UnitSeen, LineMay, hand_of, at_unit, unit_after, surface_after}
use Rattle.trace_replay.proofs.Kept.{AllFit, after_kind}
use Rattle.driver_laws.specs.rules.Machine.{Blocks, Machine, kind_of}
use Rattle.driver_laws.specs.rules.Stands.{Setup, home_in, HandStands, LastStands, StageStands, UnitStands, QueueStands, IsOutstanding, StandsFor, is_sure_among}
use Rattle.driver_laws.proofs.rules.Blocks.{size_small}
use Rattle.driver_laws.proofs.rules.Noises.{struck_harmless}
use Rattle.driver_laws.proofs.rules.Homes.{tried_home, home_is, there_is, homes_differ}
use Rattle.driver_laws.proofs.rules.Tried.{TryOf, tried, verdict_moved}
use Rattle.driver_laws.proofs.rules.MachineStages.{MaySector, may_sector, sector_goes, due_goes, pack_stands, step_stands, said_stands, arrive_stands, attn_stands, interrupted_hand, interrupted_stage, last_stands}
use Rattle.trace_replay.proofs.Histories.{WasMarked}

-- while a refusal is still to come, no unit goes on by itself
abbrev pub IsFirst : Act → Bool → Type 0
IsFirst (Refusing unit id why) goes = goes ≡ false
IsFirst act goes = Unit {0}

-- WHAT EVERY STATE KEEPS that a legal beginning reaches: the lines of each request agree with where it stands, and tell of marked
-- sectors alone; kinds, tables and marks stay; and only the unit that spoke last goes on by itself.
pub record Keeps (setup : Setup) (s : Replay) : Type 0 where
  pub lines : ℕ → List Deed
  pub fits : AllFit s lines
  pub marked : (unit block : ℕ) → WasMarked block (lines unit) → model.is_marked (setup.packs unit) block ≡ true
  pub kinds : (unit : ℕ) → (s.units unit).drive.kind ≡ kind_of setup.drives unit
  pub tables : (unit : ℕ) → (s.units unit).table ≡ setup.tables unit
  pub marks : (unit block : ℕ) → s.surface.is_marked unit block ≡ model.is_marked (setup.packs unit) block
  pub quiet : (unit : ℕ) → unit ≢ s.event.speaker → goes_on (s.units unit).stage ≡ false
  pub refusing : IsFirst s.event.act (goes_on (s.units s.event.speaker).stage)

-- ---- the head of a queue
pub head_is : (drives : ℕ → Option DriveKind) (unit id : ℕ) (outstanding : List Request) (waiting : List (Waiter Request)) → ids (first_waiting waiting) ≡ Some id → QueueStands drives unit outstanding waiting
    → IsOutstanding drives unit outstanding (request_or_none (first_waiting waiting)) × ((request_or_none (first_waiting waiting)).id ≡ id)
head_is drives unit id outstanding [] is q = absurd (none-some id is)
head_is drives unit id outstanding (w ∷ rest) is q = (q.each.0, same_Some w.request.id id is)

-- ---- the unit with another drive, stage and progress
pub plain : (sure : ℕ → Type 0) (homes : ℕ → Option ℕ) (sectors : ℕ → List ℕ) (blocks : Blocks) (u : UnitSeen) (d : DriveState) (stage : Stage) (p : Progress) → d.kind ≡ u.drive.kind
    → HandStands sure homes (first_block u.drive.kind (in_hand u.service)) (in_hand u.service) p sectors blocks
    → StageStands sure homes (first_block u.drive.kind (in_hand u.service)) (in_hand u.service) p blocks d.work stage
    → UnitStands sure homes (record { drive = d; service = u.service; stage = stage; progress = p; table = u.table }) sectors blocks
plain sure homes sectors blocks u d stage p is h st = search rules

-- ---- what is under way after a transfer command, and after a sector
third : (a b c : Bool) → a && (b && c) ≡ true → c ≡ true
third a b c is = search rules

taken : (f : Function) (d : DriveState) → takes f d ≡ true → refusals f d == 0 ≡ true
taken f d is = third (is_ready d.work) (not (needs_online f) || d.online) (refusals f d == 0) is

pub transfer_goes : (w : Bool) (d : DriveState) → takes (transfer_function w) d ≡ true → is_writing (performed (transfer_function w) d).work ≡ w
transfer_goes true d is = rw (taken function.Write d is) refl
transfer_goes false d is = rw (taken function.Read d is) refl

pub stepped_goes : (v : Moved) (a : AdapterState) (d : DriveState) (w : Bool) → is_writing d.work ≡ w → is_transferring (drive_stepped v a d).work ≡ true → is_writing (drive_stepped v a d).work ≡ w
stepped_goes v a d w is h0 = search rules

-- ---- A LINE
abbrev pub IsNoEnd : Deed → Type 0
IsNoEnd (End answer) = ⊥
IsNoEnd deed = Unit {0}

-- what is known of a sector that is tried
pub try_of : (setup : Setup) (armed : List LiveNoise) (s : Replay) (m : Machine) (line unit id block : ℕ) (v : Moved) → AreTablesOf setup.drives setup.packs setup.tables → Keeps setup s
    → StandsFor setup armed s m → LineMay s line unit id (Sector block v)
    → TryOf (is_sure_among armed unit) (home_in setup unit) (first_block (s.units unit).drive.kind (in_hand (s.units unit).service)) (in_hand (s.units unit).service) (s.units unit).progress s.surface unit (s.units unit).drive block v
try_of setup armed s m line unit id block v are keeps stands may = record {
  direction = sector_goes (is_sure_among armed unit) (home_in setup unit) (first_block (s.units unit).drive.kind (in_hand (s.units unit).service)) (in_hand (s.units unit).service) (s.units unit).progress
      (m.blocks unit) (s.units unit).drive.work (hand_of (s.units unit)) (s.units unit).stage block may.talk (stands.units unit).stage may.drive;
  home = λ bytes. home (sym (keeps.marks unit block)
      ∙ (verdict_moved (s.units unit).drive (s.surface.is_marked unit block) (flips_at s.surface unit (s.units unit).drive block) v may.verdict bytes).0);
  moved = λ bytes. (verdict_moved (s.units unit).drive (s.surface.is_marked unit block) (flips_at s.surface unit (s.units unit).drive block) v may.verdict bytes).1;
  room = below (s.units unit).progress.done way.left (in_hand (s.units unit).service).count way.open_now.room way.some;
  harmless = λ places is. struck_harmless armed s.surface.live unit block (s.units unit).drive.offset places stands.noise is;
  full = stands.sizes unit block;
  small = size_small (in_hand (s.units unit).service) (s.units unit).progress.done head.good.in_block;
  apart = λ b c x one two. homes_differ setup are unit b c x one two;
}
  where
    way : MaySector (hand_of (s.units unit)) (s.units unit).stage block (keeps.lines unit)
    way = may_sector (hand_of (s.units unit)) (s.units unit).stage block (keeps.lines unit) may.talk (keeps.fits unit).fits

    head : IsOutstanding setup.drives unit m.outstanding (in_hand (s.units unit).service)
    head = (head_is setup.drives unit id m.outstanding (s.units unit).service.waiting may.service (stands.queues unit)).0

    there : (setup.drives unit ≡ Some (kind_of setup.drives unit)) × (first_block (kind_of setup.drives unit) (in_hand (s.units unit).service) + (in_hand (s.units unit).service).count ≤ limit_of (kind_of setup.drives unit))
    there = there_is (setup.drives unit) (λ kind. first_block kind (in_hand (s.units unit).service) + (in_hand (s.units unit).service).count ≤ limit_of kind) head.inside

    home : model.is_marked (setup.packs unit) block ≡ false → home_in setup unit (first_block (s.units unit).drive.kind (in_hand (s.units unit).service) + (s.units unit).progress.done) ≡ Some block
    home unmarked =
        home_is setup unit (s.units unit).drive.kind (s.units unit).table (first_block (s.units unit).drive.kind (in_hand (s.units unit).service) + (s.units unit).progress.done)
        (there.0 ∙ ap Some (sym (keeps.kinds unit))) (keeps.tables unit)
        ∙ tried_home (hand_of (s.units unit)) way.segment way.left (setup.packs unit) (keeps.lines unit) way.open_now way.some
        (subst (λ k. first_block k (in_hand (s.units unit).service) + (in_hand (s.units unit).service).count ≤ limit_of k) (sym (keeps.kinds unit)) there.1)
        (keeps.marked unit) (ap (λ z. model.is_marked (setup.packs unit) z) (sym way.block_is) ∙ unmarked)
        ∙ ap Some (sym way.block_is)

    below : (done left count : ℕ) → done + left ≤ count → 1 ≤ left → done < count
    below done left count a b = omega arith

sector_line : (setup : Setup) (armed : List LiveNoise) (s : Replay) (m : Machine) (line unit id block : ℕ) (v : Moved) → AreTablesOf setup.drives setup.packs setup.tables → Keeps setup s
    → StandsFor setup armed s m → LineMay s line unit id (Sector block v)
    → UnitStands (is_sure_among armed unit) (home_in setup unit) (unit_after s unit (Sector block v)) ((surface_after s unit (Sector block v)).sector unit) (m.blocks unit)
sector_line setup armed s m line unit id block v are keeps stands may =
    plain (is_sure_among armed unit) (home_in setup unit) ((surface_after s unit (Sector block v)).sector unit) (m.blocks unit) (s.units unit) (drive_stepped v (at_unit s unit).state (s.units unit).drive)
    (Moving (segment_of (s.units unit).stage) (left_of (s.units unit).stage - 1) v)
    (progress_tried v (bytes_read (was_read (s.units unit).drive v) s.surface unit (s.units unit).drive block (in_hand (s.units unit).service) (s.units unit).progress.done) (s.units unit).progress)
    (after_kind (s.units unit).drive (at_unit s unit).state (target_of (s.units unit).drive.kind (in_hand (s.units unit).service)) (Sector block v)) done.0
    (stepped_goes v (at_unit s unit).state (s.units unit).drive (is_some (in_hand (s.units unit).service).written) (try_of setup armed s m line unit id block v are keeps stands may).direction, done.1)
  where
    done : HandStands (is_sure_among armed unit) (home_in setup unit) (first_block (s.units unit).drive.kind (in_hand (s.units unit).service)) (in_hand (s.units unit).service)
        (progress_tried v (bytes_read (was_read (s.units unit).drive v) s.surface unit (s.units unit).drive block (in_hand (s.units unit).service) (s.units unit).progress.done) (s.units unit).progress)
        ((surface_after s unit (Sector block v)).sector unit) (m.blocks unit)
        × LastStands (is_sure_among armed unit) (home_in setup unit) (first_block (s.units unit).drive.kind (in_hand (s.units unit).service)) (in_hand (s.units unit).service)
        (progress_tried v (bytes_read (was_read (s.units unit).drive v) s.surface unit (s.units unit).drive block (in_hand (s.units unit).service) (s.units unit).progress.done) (s.units unit).progress) (m.blocks unit) v
    done = tried (is_sure_among armed unit) (home_in setup unit) (first_block (s.units unit).drive.kind (in_hand (s.units unit).service)) (in_hand (s.units unit).service) (s.units unit).progress s.surface unit
        (s.units unit).drive block (m.blocks unit) v (try_of setup armed s m line unit id block v are keeps stands may) (stands.units unit).hand

-- what a deed leaves of the drive
abbrev DriveOf : Replay → ℕ → Deed → DriveState
DriveOf s unit deed = drive_after (s.units unit).drive (at_unit s unit).state (target_of (s.units unit).drive.kind (in_hand (s.units unit).service)) deed

-- a unit whose stage alone changes, with its drive
staged : (setup : Setup) (armed : List LiveNoise) (s : Replay) (m : Machine) (unit : ℕ) (deed : Deed) (stage : Stage) → StandsFor setup armed s m
    → StageStands (is_sure_among armed unit) (home_in setup unit) (first_block (s.units unit).drive.kind (in_hand (s.units unit).service)) (in_hand (s.units unit).service) (s.units unit).progress (m.blocks unit)
    (DriveOf s unit deed).work stage
    → UnitStands (is_sure_among armed unit) (home_in setup unit)
    (record { drive = DriveOf s unit deed; service = (s.units unit).service; stage = stage; progress = (s.units unit).progress; table = (s.units unit).table }) (s.surface.sector unit) (m.blocks unit)
staged setup armed s m unit deed stage stands st =
    plain (is_sure_among armed unit) (home_in setup unit) (s.surface.sector unit) (m.blocks unit) (s.units unit) (DriveOf s unit deed) stage (s.units unit).progress
    (after_kind (s.units unit).drive (at_unit s unit).state (target_of (s.units unit).drive.kind (in_hand (s.units unit).service)) deed) (stands.units unit).hand st

pub own_line : (setup : Setup) (armed : List LiveNoise) (s : Replay) (m : Machine) (line unit id : ℕ) (deed : Deed) → AreTablesOf setup.drives setup.packs setup.tables → Keeps setup s
    → StandsFor setup armed s m → LineMay s line unit id deed → IsNoEnd deed
    → UnitStands (is_sure_among armed unit) (home_in setup unit) (unit_after s unit deed) ((surface_after s unit deed).sector unit) (m.blocks unit)
own_line setup armed s m line unit id Centre are keeps stands may none =
    staged setup armed s m unit Centre (said (s.units unit).stage) stands
    (said_stands (is_sure_among armed unit) (home_in setup unit) (first_block (s.units unit).drive.kind (in_hand (s.units unit).service)) (in_hand (s.units unit).service) (s.units unit).progress (m.blocks unit)
    (s.units unit).drive.work (DriveOf s unit Centre).work (s.units unit).drive (hand_of (s.units unit)) Centre (s.units unit).stage may.talk (stands.units unit).stage)
own_line setup armed s m line unit id Clear are keeps stands may none =
    staged setup armed s m unit Clear (said (s.units unit).stage) stands
    (said_stands (is_sure_among armed unit) (home_in setup unit) (first_block (s.units unit).drive.kind (in_hand (s.units unit).service)) (in_hand (s.units unit).service) (s.units unit).progress (m.blocks unit)
    (s.units unit).drive.work (DriveOf s unit Clear).work (s.units unit).drive (hand_of (s.units unit)) Clear (s.units unit).stage may.talk (stands.units unit).stage)
own_line setup armed s m line unit id Pack are keeps stands may none =
    staged setup armed s m unit Pack (s.units unit).stage stands
    (pack_stands (is_sure_among armed unit) (home_in setup unit) (first_block (s.units unit).drive.kind (in_hand (s.units unit).service)) (in_hand (s.units unit).service) (s.units unit).progress (m.blocks unit)
    (s.units unit).drive.work (DriveOf s unit Pack).work (s.units unit).drive (hand_of (s.units unit)) Pack (s.units unit).stage may.talk (stands.units unit).stage)
own_line setup armed s m line unit id (Transfer w b c) are keeps stands may none =
    staged setup armed s m unit (Transfer w b c) (Moving (segment_of (s.units unit).stage) c verdict.Clean) stands (
      (λ moves. transfer_goes w (addressed (place_at (s.units unit).drive.kind b) (s.units unit).drive) may.drive
          ∙ due_goes (s.units unit).drive (hand_of (s.units unit)) (s.units unit).stage (Transfer w b c) (keeps.lines unit) may.talk (keeps.fits unit).fits),
      tt,
    )
own_line setup armed s m line unit id Arrive are keeps stands may none =
    staged setup armed s m unit Arrive (s.units unit).stage stands
    (arrive_stands (is_sure_among armed unit) (home_in setup unit) (first_block (s.units unit).drive.kind (in_hand (s.units unit).service)) (in_hand (s.units unit).service) (s.units unit).progress (m.blocks unit)
    (DriveOf s unit Arrive).work (s.units unit).stage may.talk)
own_line setup armed s m line unit id (Sector block v) are keeps stands may none = sector_line setup armed s m line unit id block v are keeps stands may
own_line setup armed s m line unit id Intr are keeps stands may none =
    plain (is_sure_among armed unit) (home_in setup unit) (s.surface.sector unit) (m.blocks unit) (s.units unit) (s.units unit).drive
    (interrupted_by (last_of (s.units unit).stage) (s.units unit).drive (record (hand_of (s.units unit)) { progress = progress_interrupted (last_of (s.units unit).stage) (s.units unit).progress }) (segment_of (s.units unit).stage))
    (progress_interrupted (last_of (s.units unit).stage) (s.units unit).progress) refl
    (interrupted_hand (is_sure_among armed unit) (home_in setup unit) (first_block (s.units unit).drive.kind (in_hand (s.units unit).service)) (in_hand (s.units unit).service) (s.units unit).progress
    (s.surface.sector unit) (m.blocks unit) (last_of (s.units unit).stage)
    (last_stands (is_sure_among armed unit) (home_in setup unit) (first_block (s.units unit).drive.kind (in_hand (s.units unit).service)) (in_hand (s.units unit).service) (s.units unit).progress
    (m.blocks unit) (s.units unit).drive.work (s.units unit).stage (stands.units unit).stage) (stands.units unit).hand)
    (interrupted_stage (is_sure_among armed unit) (home_in setup unit) (first_block (s.units unit).drive.kind (in_hand (s.units unit).service)) (m.blocks unit) (s.units unit).drive.work (s.units unit).drive
    (record (hand_of (s.units unit)) { progress = progress_interrupted (last_of (s.units unit).stage) (s.units unit).progress }) (segment_of (s.units unit).stage) (last_of (s.units unit).stage))
own_line setup armed s m line unit id (Try b f) are keeps stands may none =
    staged setup armed s m unit (Try b f) (said (s.units unit).stage) stands
    (said_stands (is_sure_among armed unit) (home_in setup unit) (first_block (s.units unit).drive.kind (in_hand (s.units unit).service)) (in_hand (s.units unit).service) (s.units unit).progress (m.blocks unit)
    (s.units unit).drive.work (DriveOf s unit (Try b f)).work (s.units unit).drive (hand_of (s.units unit)) (Try b f) (s.units unit).stage may.talk (stands.units unit).stage)
own_line setup armed s m line unit id Attn are keeps stands may none =
    staged setup armed s m unit Attn (step_ended (s.units unit).stage) stands
    (attn_stands (is_sure_among armed unit) (home_in setup unit) (first_block (s.units unit).drive.kind (in_hand (s.units unit).service)) (in_hand (s.units unit).service) (s.units unit).progress (m.blocks unit)
    (DriveOf s unit Attn).work (s.units unit).stage may.talk)
own_line setup armed s m line unit id (End answer) are keeps stands may none = absurd none
own_line setup armed s m line unit id other are keeps stands may none =
    staged setup armed s m unit other (step_taken (s.units unit).stage) stands
    (step_stands (is_sure_among armed unit) (home_in setup unit) (first_block (s.units unit).drive.kind (in_hand (s.units unit).service)) (in_hand (s.units unit).service) (s.units unit).progress (m.blocks unit)
    (s.units unit).drive.work (DriveOf s unit other).work (s.units unit).drive (hand_of (s.units unit)) other (s.units unit).stage may.talk (stands.units unit).stage)
