-- What silent deeds share: where what is seen stays as it is, the same replay shows the world behind them.
use Rattle.std.proofs.Common.{◌≡◌, ◌<◌, ℕ, ◌≤◌, List, length, ◌+◌, refl, sym, ap, subst, arith, ◌∙◌}
use Rattle.pack_geometry.specs.declared.DriveKind.{DriveKind}
use Rattle.pack_geometry.specs.Geometry.{place_at}
use Rattle.pack_geometry.specs.Homes.{index_in}
use Rattle.hardware_table.specs.declared.Moved.{Moved}
use Rattle.hardware_table.specs.Adapter.{AdapterState}
use Rattle.transfer_engine.specs.State.{begun}
use Rattle.trace_replay.specs.requests.Requests.{Request}
use Rattle.trace_replay.specs.Replay.{UnitSeen, Replay, hand_of, at_unit}
use Rattle.trace_replay.specs.Conversation as told
use Rattle.driver_machine.specs.declared.Task.TheVariants.{Judge}
use Rattle.driver_machine.specs.declared.Phase.TheVariants.{Due}
use Rattle.driver_machine.specs.World.{World, UnitView, Held, slot_in_hand, transfer_of, adapter_of, unit_at, adapter_at, held_in}
use Rattle.driver_machine.specs.Guards.{IsHeldFor, InHand}
use Rattle.driver_machine.specs.Acts.{Scene, scene_of, with_scene}
use Rattle.driver_machine.specs.Sound.{Sound, IsBegun}
use Rattle.driver_laws.specs.shown.Stages.{failures_at}
use Rattle.driver_laws.specs.shown.Shows.{Match}
use Rattle.driver_laws.proofs.shown.Core.{Core, IsHead}
use Rattle.driver_laws.proofs.shown.Frame.{step_shows, same_transfer, same_held}
use Rattle.driver_laws.proofs.shown.Facts.{At}
use Rattle.driver_laws.proofs.shown.Plain.{outstanding_same, same_slot}
use Rattle.driver_laws.proofs.invariant.Frame.{slot_there}
use Rattle.driver_laws.proofs.shown.Showing.{Shows, is_coming, with_coming}

pub plus_none : (n : ℕ) → n ≡ n + 0
plus_none n = omega arith

pub mark_place : (h : Held) (v : UnitView) (a : AdapterState) (seen : UnitSeen) (moved : ℕ) → Core h v a seen → IsHead h v.drive.kind seen
    → IsBegun v h → seen.progress.done ≡ (transfer_of v).done + moved
    → told.entry_of (hand_of seen) (told.start_of told.OwnBlocks (hand_of seen))
    ≡ index_in v.table (place_at (transfer_of v).job.kind ((transfer_of v).job.first + ((transfer_of v).done + moved)))
mark_place h v a seen moved is head begun done = rw (begun.job, head.head, is.drive, is.table, done, head.is.first) refl

-- behind blocks that moved no failure counts
pub not_first : (moved failures : ℕ) → 1 ≤ moved → failures_at moved failures ≡ 0
not_first moved failures some = grind (arith, some)

-- what a silent deed leaves of each part
pub record Silently (u : ℕ) (w : World) (s : Replay) (v : UnitView) (h : Held) (units : List ℕ) : Type 0 where
  pub core : Core h v (adapter_at w (adapter_of u)).state (s.units u)
  pub queue : v.queue ≡ (unit_at w u).queue
  pub declared : v.declared ≡ (unit_at w u).declared
  pub kind : v.drive.kind ≡ (unit_at w u).drive.kind
  pub kept : (kind : DriveKind) (q : Request) → IsHeldFor kind q (held_in w (slot_in_hand (unit_at w u))) → IsHeldFor kind q h
  pub ended : h.ended ≡ (held_in w (slot_in_hand (unit_at w u))).ended
  pub ready : (at_unit s u).ready ≡ with_coming (is_coming v.phase (s.units u).stage) u units

abbrev pub scene_with : (u : ℕ) (w : World) (v : UnitView) (h : Held) (queue : List ℕ) → Scene
scene_with u w v h queue =
    record (scene_of w u) { unit = v; held = h; adapter = record (adapter_at w (adapter_of u)) { queue = queue } }

pub silent_shows : (u id : ℕ) (w : World) (s : Replay) (v : UnitView) (h : Held) (queue : List ℕ) → Sound w → Shows u w s → InHand w u id → At u id w s
    → Silently u w s v h queue → Shows u (with_scene w u (slot_in_hand (unit_at w u)) (scene_with u w v h queue)) s
silent_shows u id w s v h queue sound shows hand at is =
    let there : slot_in_hand (unit_at w u) < length w.slots =
    slot_there w.slots (slot_in_hand (unit_at w u)) (held_in w (slot_in_hand (unit_at w u))) at.there in
    let held : h ≡ held_in (with_scene w u (slot_in_hand (unit_at w u)) (scene_with u w v h queue)) (slot_in_hand v) =
    sym (same_held w u (slot_in_hand (unit_at w u)) (scene_with u w v h queue) there)
    ∙ ap (held_in (with_scene w u (slot_in_hand (unit_at w u)) (scene_with u w v h queue))) (sym (same_slot (unit_at w u) v is.queue)) in
    step_shows u id w s s (scene_with u w v h queue) sound shows hand
    (record {
      core = subst (λ x. Core x v (adapter_at w (adapter_of u)).state (s.units u)) held is.core;
      queue =
          subst (λ k. Match (held_in w) k v.queue (s.units u).service.waiting) (sym is.kind)
          (subst (λ q. Match (held_in w) (unit_at w u).drive.kind q (s.units u).service.waiting) (sym is.queue) at.seen.queue);
      kept = is.kept;
      declared = is.declared;
      others = λ x other. refl;
      adapter = at.adapter;
      adapters = λ a other. refl;
      ready = is.ready;
      apart = λ x other one phase. same_transfer (adapter_at w (adapter_of u)).state;
      noise = shows.noise;
      frames = shows.frames;
      outstanding =
          shows.outstanding
          ∙ outstanding_same w.slots (slot_in_hand (unit_at w u)) h (held_in w (slot_in_hand (unit_at w u))) at.there is.ended;
    })

-- the ready units, where the task is one of two
pub due_ready : (u : ℕ) (w : World) (s : Replay) (moved : ℕ) (last : Moved) → Shows u w s → (unit_at w u).phase ≡ Due (Judge moved last)
    → (at_unit s u).ready ≡ with_coming (told.waits (s.units u).stage) u (adapter_at w (adapter_of u)).queue
due_ready u w s moved last shows phase = shows.own_ready ∙ rw phase refl
