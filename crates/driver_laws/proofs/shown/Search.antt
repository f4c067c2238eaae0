-- SEARCH: the drive takes it, its line may be said, and what it leaves is shown.
use Rattle.std.proofs.Common.{◌≡◌, ◌<◌, ℕ, [], ◌∷◌, Some, Bool, true, false, refl, sym, arith, rules}
use Rattle.std.specs.Prelude.{if◌then◌else◌}
use Rattle.pack_geometry.specs.declared.DriveKind.{DriveKind}
use Rattle.pack_geometry.specs.declared.Place.{Place}
use Rattle.pack_geometry.specs.declared.DriveKind.TheVariants.{Rp06}
use Rattle.pack_geometry.specs.Geometry.{sectors_of, place_at, block_count, IsInside}
use Rattle.drive_registers.specs.declared.Function.TheVariants as function
use Rattle.hardware_table.specs.declared.Work.TheVariants as work
use Rattle.hardware_table.specs.Adapter.{AdapterState}
use Rattle.hardware_table.specs.Drive.{DriveState}
use Rattle.trace_replay.specs.declared.seek_engine.Position.TheVariants as position
use Rattle.trace_replay.specs.Seek.{sector_before}
use Rattle.transfer_engine.specs.State.{begun}
use Rattle.transfer_engine.specs.State as engine
use Rattle.trace_replay.specs.Replay.{UnitSeen, Replay, hand_of, at_unit, unit_after}
use Rattle.trace_replay.specs.Conversation as told
use Rattle.trace_replay.specs.Moments as moment
use Rattle.trace_replay.specs.Drives.{takes, addressed, search_place}
use Rattle.driver_machine.specs.declared.Phase.TheVariants.{Waiting, Positioning}
use Rattle.driver_machine.specs.declared.Phase.TheVariants as phases
use Rattle.driver_machine.specs.World.{World, UnitView, Held, slot_in_hand, job_of, adapter_of, unit_at, adapter_at, held_in}
use Rattle.driver_machine.specs.Guards.{InHand}
use Rattle.driver_machine.specs.Due.{position_of, target_of}
use Rattle.driver_machine.specs.Acts.{going_to, searching}
use Rattle.driver_machine.specs.Acts as deed
use Rattle.driver_machine.specs.Sound.{Sound, IsPhase}
use Rattle.driver_laws.proofs.shown.Told.{seen_told}
use Rattle.driver_laws.proofs.shown.Core.{Core, IsHead}
use Rattle.driver_laws.proofs.shown.Facts.{At, inside_limit}
use Rattle.driver_laws.proofs.shown.Plain.{plain_says, ready_plain}
use Rattle.driver_laws.proofs.shown.DeedFacts.{no, said_by}
use Rattle.driver_laws.proofs.invariant.Drives.{place_inside, below_limit, is_addressed-addressed}
use Rattle.driver_laws.proofs.shown.Showing.{Shows, IsSaid}
use Rattle.driver_machine.proofs.Dues.{MayGo}

-- a search is for the sector that is said
pub record IsSearch (b : Bool) (s sector : ℕ) : Type 0 where
  pub apart : b ≡ false
  pub same : s ≡ sector

search_is : (b : Bool) (c s cylinder sector : ℕ) → (if b then position.Ready else position.Search c s) ≡ position.Search cylinder sector
    → IsSearch b s sector
search_is true c s cylinder sector e = absurd (grind (arith, e))
search_is false c s cylinder sector e = record { apart = refl; same = grind (arith, e) }

pub search_stage : (h : Held) (v : UnitView) (a : AdapterState) (seen : UnitSeen) (sector : ℕ) → Core h v a seen → IsHead h v.drive.kind seen
    → v.phase ≡ Waiting → position_of v h ≡ position.Search (target_of v h).cylinder sector
    → seen.stage ≡ told.Steps (told.SearchFor (target_of v h).cylinder sector ∷ []) told.OwnBlocks
search_stage h v a seen sector is head phase at = search rules

search_core : (h : Held) (v : UnitView) (a : AdapterState) (seen : UnitSeen) (b : AdapterState) (sector : ℕ)
    → Core h v a seen → IsHead h v.drive.kind seen → v.phase ≡ Waiting
    → position_of v h ≡ position.Search (target_of v h).cylinder sector
    → Core h (record (going_to (Positioning 0) (searching (target_of v h) sector) v) { transfer = Some (begun (job_of v.drive.kind h)) })
    a (seen_told seen b (moment.Search (target_of v h).cylinder sector) [])
search_core h v a seen b sector is head phase at = search rules

search_talk : (h : Held) (v : UnitView) (a : AdapterState) (seen : UnitSeen) (sector : ℕ) → Core h v a seen → IsHead h v.drive.kind seen
    → v.phase ≡ Waiting → position_of v h ≡ position.Search (target_of v h).cylinder sector → MayGo false v.drive
    → told.due seen.drive (hand_of seen) seen.stage ≡ Some (moment.Search (target_of v h).cylinder sector)
search_talk h v a seen sector is head phase at go = search rules

-- WHAT IS TAKEN by a drive that stands still and is online
search_taken : (d : DriveState) (place : Place) → d.work ≡ work.Ready → d.online ≡ true → IsInside d.kind place
    → takes function.Search (addressed place d) ≡ true
search_taken d place still online at = rw (still, online, is_addressed-addressed d place at) refl

sector_before_small : (kind : DriveKind) (sector : ℕ) → sector_before (sectors_of kind) 3 sector < sectors_of kind
sector_before_small Rp06 sector = omega arith
sector_before_small other sector = omega arith

search_inside : (kind : DriveKind) (block sector : ℕ) → block < block_count kind → sector_before (sectors_of kind) 3 (place_at kind block).sector ≡ sector
    → IsInside kind (search_place (place_at kind block).cylinder sector (place_at kind block))
search_inside kind block sector lt is = search (rules, place_inside, sector_before_small)

pub search_line : (line u id : ℕ) (w : World) (s : Replay) (sector : ℕ) → Sound w → Shows u w s → InHand w u id → At u id w s
    → (unit_at w u).phase ≡ phases.Waiting → MayGo false (unit_at w u).drive
    → position_of (unit_at w u) (held_in w (slot_in_hand (unit_at w u)))
    ≡ position.Search (target_of (unit_at w u) (held_in w (slot_in_hand (unit_at w u)))).cylinder sector
    → IsSaid line u id w s (deed.Search (target_of (unit_at w u) (held_in w (slot_in_hand (unit_at w u)))) sector)
    (moment.Search (target_of (unit_at w u) (held_in w (slot_in_hand (unit_at w u)))).cylinder sector)
search_line line u id w s sector sound shows hand at phase go where_to =
    let h : Held = held_in w (slot_in_hand (unit_at w u)) in
    let v : UnitView = unit_at w u in
    let still : IsPhase u v (adapter_at w (adapter_of u)) h phases.Waiting = rw phase at at.ok.phase in
    let stage : (s.units u).stage ≡ told.Steps (told.SearchFor (target_of v h).cylinder sector ∷ []) told.OwnBlocks =
    search_stage h v (adapter_at w (adapter_of u)).state (s.units u) sector at.core at.head phase where_to in
    let waits : told.waits (s.units u).stage ≡ false = rw stage refl in
    let search : IsSearch (told.starts_at_once v.drive (target_of v h)) (sector_before (sectors_of v.drive.kind) 3 (target_of v h).sector) sector =
    search_is (told.starts_at_once v.drive (target_of v h)) (target_of v h).cylinder (sector_before (sectors_of v.drive.kind) 3 (target_of v h).sector)
    (target_of v h).cylinder sector where_to in
    let below : h.first < block_count v.drive.kind = below_limit v.drive.kind h.first (inside_limit u id w s at) in
    said_by line u id w s (deed.Search (target_of v h) sector) (moment.Search (target_of v h).cylinder sector) sound shows hand at
    (record {
      service = at.service;
      talk = search_talk h v (adapter_at w (adapter_of u)).state (s.units u) sector at.core at.head phase where_to go;
      drive =
          rw (at.core.drive, at.head.head, sym at.head.is.first)
          (search_taken v.drive _ still.0.work go.online (search_inside v.drive.kind h.first sector below search.same));
      adapter = tt;
      verdict = tt;
    })
    (plain_says u id w s (moment.Search (target_of v h).cylinder sector)
    (record (deed.going_to (phases.Positioning 0) (deed.searching (target_of v h) sector) v) { transfer = Some (engine.begun (job_of v.drive.kind h)) }) shows at
    (record { service = refl; adapter = refl; surface = refl; frames = refl; outstanding = refl; leaves = refl })
    (search_core h v (adapter_at w (adapter_of u)).state (s.units u) (at_unit s u).state sector at.core at.head phase where_to)
    refl refl
    (ready_plain u id w s (told.waits (unit_after s u (moment.Search (target_of v h).cylinder sector)).stage) shows at
    (λ e. grind (arith, phase, e)) (λ e. no waits e)))
