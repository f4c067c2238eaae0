-- A line that leaves its adapter, the surface and the counts alone.
use Rattle.std.proofs.Common.{◌≡◌, ◌≢◌, ℕ, zero, suc, ◌<◌, Bool, true, false, List, [], ◌∷◌, length, Option, Some, None, refl, sym, ap, subst, arith, ◌∙◌, rules}
use Rattle.std.specs.Prelude.{slice_set, slice_index_or}
use Rattle.pack_geometry.specs.declared.DriveKind.{DriveKind}
use Rattle.hardware_table.specs.Drive.{DriveState}
use Rattle.disksort.specs.declared.Waiter.{Waiter}
use Rattle.trace_replay.specs.requests.ServiceOrder.{Service}
use Rattle.trace_replay.specs.requests.Requests.{Request}
use Rattle.trace_replay.specs.Moments.{Deed}
use Rattle.trace_replay.specs.Adapters as rule
use Rattle.trace_replay.specs.Adapters.{AdapterSeen, adapter_after, ready_after}
use Rattle.trace_replay.specs.Service.{service_after, in_hand, target_of}
use Rattle.trace_replay.specs.Conversation.{waits}
use Rattle.trace_replay.specs.Replay.{Replay, UnitSeen, with_state, at_unit, unit_after, adapter_told, replay_told, surface_after, frames_after, outstanding_after}
use Rattle.trace_replay.proofs.Kept.{after_kind}
use Rattle.driver_machine.specs.declared.Phase.TheVariants as phases
use Rattle.driver_machine.specs.World.{World, UnitView, Held, adapter_of, unit_at, adapter_at, held_in, slot_in_hand}
use Rattle.driver_machine.specs.Acts.{Scene, scene_of, with_scene}
use Rattle.driver_machine.specs.Guards.{IsHeldFor}
use Rattle.driver_machine.specs.Sound.{Among}
use Rattle.driver_laws.specs.shown.Shows.{Match, IsAdapterSeen, counted_by, outstanding_in}
use Rattle.driver_laws.proofs.shown.Core.{Core}
use Rattle.driver_laws.proofs.shown.Frame.{Step, IsSameTransfer, same_transfer, same_held}
use Rattle.driver_laws.proofs.shown.Facts.{At}
use Rattle.driver_laws.proofs.shown.AdapterQueues.{ready_goes, coming_is}
use Rattle.trace_replay.proofs.Unchanged.{with_other}
use Rattle.driver_laws.proofs.invariant.Frame.{slot_there}
use Rattle.driver_laws.proofs.shown.Showing.{Shows, is_coming, with_coming}

pub with_same : {T : Type 0} (states : ℕ → T) (k : ℕ) (state : T) → with_state states k state k ≡ state
with_same states k state = search rules

-- THE OUTSTANDING are as many, where a request goes on.
pub outstanding_same : (slots : List (Option Held)) (p : ℕ) (g h : Held) → slice_index_or slots p None ≡ Some h → g.ended ≡ h.ended
    → outstanding_in slots ≡ outstanding_in (slice_set slots p (Some g))
outstanding_same [] p g h is same = refl
outstanding_same (None ∷ slots) zero g h is same = absurd (grind (arith, is))
outstanding_same (Some x ∷ slots) zero g h is same =
    let one : x ≡ h = grind (arith, is) in
    ap (λ b. counted_by b (outstanding_in slots)) (ap (λ (y : Held). y.ended) one ∙ sym same)
outstanding_same (None ∷ slots) (suc p) g h is same = outstanding_same slots p g h is same
outstanding_same (Some x ∷ slots) (suc p) g h is same = ap (counted_by x.ended) (outstanding_same slots p g h is same)

-- A LINE of the unit, given what it leaves of each part.
pub record Says (u : ℕ) (w : World) (s : Replay) (told : Deed) (scene : Scene) : Type 0 where
  pub core : Core scene.held scene.unit scene.adapter.state (unit_after s u told)
  pub queue : scene.unit.queue ≡ (unit_at w u).queue
  pub service : service_after (s.units u).service told ≡ (s.units u).service
  pub kept : (kind : DriveKind) (q : Request) → IsHeldFor kind q (held_in w (slot_in_hand (unit_at w u))) → IsHeldFor kind q scene.held
  pub ended : scene.held.ended ≡ (held_in w (slot_in_hand (unit_at w u))).ended
  pub declared : scene.unit.declared ≡ (unit_at w u).declared
  pub adapter : IsAdapterSeen scene.adapter.state (adapter_after (at_unit s u).state u told)
  pub ready : ready_after (waits (unit_after s u told).stage) u told (at_unit s u).ready
      ≡ with_coming (is_coming scene.unit.phase (unit_after s u told).stage) u scene.adapter.queue
  pub apart : (x : ℕ) → x ≢ u → adapter_of x ≡ adapter_of u → (unit_at w x).phase ≡ phases.Transferring
      → IsSameTransfer (adapter_at w (adapter_of u)).state scene.adapter.state
  pub noise : (surface_after s u told).live ≡ scene.book.live
  pub frames : frames_after s u told ≡ scene.frames
  pub outstanding : outstanding_after s.outstanding told ≡ s.outstanding

-- the kind of the drive stays
pub said_kind : (u id : ℕ) (w : World) (s : Replay) (told : Deed) (h : Held) (scene : Scene) → At u id w s
    → Core h scene.unit scene.adapter.state (unit_after s u told) → scene.unit.drive.kind ≡ (unit_at w u).drive.kind
said_kind u id w s told h scene at core =
    ap (λ (d : DriveState). d.kind) (sym core.drive) ∙ after_kind (s.units u).drive (at_unit s u).state (target_of (s.units u).drive.kind (in_hand (s.units u).service)) told
    ∙ ap (λ (d : DriveState). d.kind) at.core.drive

pub same_slot : (v v' : UnitView) → v'.queue ≡ v.queue → slot_in_hand v' ≡ slot_in_hand v
same_slot v v' e = ap (λ (q : List Waiter). (slice_index_or q 0 (record { number = 0; cylinder = 0 })).number) e

pub says_step : (u id : ℕ) (w : World) (s : Replay) (told : Deed) (scene : Scene) → Shows u w s → At u id w s → Says u w s told scene
    → Step u w s (replay_told s u told (unit_after s u told)) scene
says_step u id w s told scene shows at says =
    let head : slot_in_hand scene.unit ≡ slot_in_hand (unit_at w u) = same_slot (unit_at w u) scene.unit says.queue in
    let there : slot_in_hand (unit_at w u) < length w.slots =
    slot_there w.slots (slot_in_hand (unit_at w u)) (held_in w (slot_in_hand (unit_at w u))) at.there in
    let held : scene.held ≡ held_in (with_scene w u (slot_in_hand (unit_at w u)) scene) (slot_in_hand scene.unit) =
    sym (same_held w u (slot_in_hand (unit_at w u)) scene there)
    ∙ ap (held_in (with_scene w u (slot_in_hand (unit_at w u)) scene)) (sym head) in
    let unit : unit_after s u told ≡ with_state s.units u (unit_after s u told) u = sym (with_same s.units u (unit_after s u told)) in
    let kind : (unit_at w u).drive.kind ≡ scene.unit.drive.kind = sym (said_kind u id w s told scene.held scene at says.core) in
    let match : Match (held_in w) scene.unit.drive.kind scene.unit.queue (service_after (s.units u).service told).waiting =
    subst (λ k. Match (held_in w) k scene.unit.queue (service_after (s.units u).service told).waiting) kind
    (subst (λ q. Match (held_in w) (unit_at w u).drive.kind q (service_after (s.units u).service told).waiting) (sym says.queue)
    (subst (λ (x : Service Request). Match (held_in w) (unit_at w u).drive.kind (unit_at w u).queue x.waiting) (sym says.service) at.seen.queue)) in
    let new : AdapterSeen = adapter_told (at_unit s u) u told (unit_after s u told).stage in
    let adapter : new ≡ with_state s.adapters (adapter_of u) new (adapter_of u) = sym (with_same s.adapters (adapter_of u) new) in
    record {
      core =
          subst (λ x. Core x scene.unit scene.adapter.state (with_state s.units u (unit_after s u told) u)) held
          (subst (Core scene.held scene.unit scene.adapter.state) unit says.core);
      queue = subst (λ (x : UnitSeen). Match (held_in w) scene.unit.drive.kind scene.unit.queue x.service.waiting) unit match;
      kept = says.kept;
      declared = says.declared;
      others = λ x other. with_other s.units u (unit_after s u told) x other;
      adapter = subst (λ (x : AdapterSeen). IsAdapterSeen scene.adapter.state x.state) adapter says.adapter;
      adapters = λ a other. with_other s.adapters (adapter_of u) new a other;
      ready =
          ap (λ (x : AdapterSeen). x.ready) (sym adapter) ∙ says.ready
          ∙ ap (λ (x : UnitSeen). with_coming (is_coming scene.unit.phase x.stage) u scene.adapter.queue) unit;
      apart = says.apart;
      noise = says.noise;
      frames = says.frames;
      outstanding =
          says.outstanding ∙ shows.outstanding
          ∙ outstanding_same w.slots (slot_in_hand (unit_at w u)) scene.held (held_in w (slot_in_hand (unit_at w u))) at.there says.ended;
    }

-- A PLAIN LINE leaves all but the unit alone.
pub record IsPlain (u : ℕ) (s : Replay) (told : Deed) : Type 0 where
  pub service : service_after (s.units u).service told ≡ (s.units u).service
  pub adapter : adapter_after (at_unit s u).state u told ≡ (at_unit s u).state
  pub surface : (surface_after s u told).live ≡ s.surface.live
  pub frames : frames_after s u told ≡ s.frames
  pub outstanding : outstanding_after s.outstanding told ≡ s.outstanding
  pub leaves : rule.leaves told ≡ false

pub not_waiting : (u id : ℕ) (w : World) (s : Replay) → At u id w s → (unit_at w u).phase ≢ phases.Queued
    → Among u (adapter_at w (adapter_of u)).queue → ⊥
not_waiting u id w s at other among = other (at.adapter_ok.waits u among).2

-- the ready units behind it
pub ready_plain : (u id : ℕ) (w : World) (s : Replay) (next : Bool) → Shows u w s → At u id w s → (unit_at w u).phase ≢ phases.Queued
    → (waits (s.units u).stage ≡ true → next ≡ true)
    → rule.with_ready next u (at_unit s u).ready ≡ with_coming next u (adapter_at w (adapter_of u)).queue
ready_plain u id w s next shows at other goes =
    ap (rule.with_ready next u) (shows.own_ready
    ∙ ap (λ b. with_coming b u (adapter_at w (adapter_of u)).queue) (coming_is (unit_at w u).phase (s.units u).stage other))
    ∙ ready_goes (waits (s.units u).stage) next u (adapter_at w (adapter_of u)).queue (not_waiting u id w s at other) goes

pub plain_says : (u id : ℕ) (w : World) (s : Replay) (told : Deed) (v : UnitView) → Shows u w s → At u id w s → IsPlain u s told
    → Core (held_in w (slot_in_hand (unit_at w u))) v (adapter_at w (adapter_of u)).state (unit_after s u told)
    → v.queue ≡ (unit_at w u).queue → v.declared ≡ (unit_at w u).declared
    → rule.with_ready (waits (unit_after s u told).stage) u (at_unit s u).ready
    ≡ with_coming (is_coming v.phase (unit_after s u told).stage) u (adapter_at w (adapter_of u)).queue
    → Says u w s told (record (scene_of w u) { unit = v })
plain_says u id w s told v shows at plain core queue declared ready = record {
  core = core;
  queue = queue;
  service = plain.service;
  kept = λ kind q is. is;
  ended = refl;
  declared = declared;
  adapter = subst (IsAdapterSeen (adapter_at w (adapter_of u)).state) (sym plain.adapter) at.adapter;
  ready = (rw plain.leaves refl) ∙ ready;
  apart = λ x other one phase. same_transfer (adapter_at w (adapter_of u)).state;
  noise = plain.surface ∙ shows.noise;
  frames = plain.frames ∙ shows.frames;
  outstanding = plain.outstanding;
}
