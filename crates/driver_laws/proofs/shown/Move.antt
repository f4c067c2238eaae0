-- RCOM AND WCOM: the drive takes them, their line may be said, and what they leave is shown.
use Rattle.std.proofs.Common.{◌≡◌, inl, inr, ◌<◌, ℕ, [], Some, ◌&&◌, Bool, true, false, refl, ap, subst, ◌∙◌, rules}
use Rattle.pack_geometry.specs.declared.Place.{Place}
use Rattle.pack_geometry.specs.Geometry.{place_at, block_count, IsInside}
use Rattle.hardware_table.specs.declared.Work.TheVariants as work
use Rattle.hardware_table.specs.Adapter.{AdapterState, loaded, started}
use Rattle.hardware_table.specs.Drive.{DriveState}
use Rattle.transfer_engine.specs.declared.job.Job.{Job}
use Rattle.transfer_engine.specs.declared.job.Segment.{Segment}
use Rattle.transfer_engine.specs.State as engine
use Rattle.trace_replay.specs.Replay.{UnitSeen, Replay, hand_of, at_unit}
use Rattle.trace_replay.specs.Conversation as told
use Rattle.trace_replay.specs.Moments as moment
use Rattle.trace_replay.specs.Drives.{takes, addressed, transfer_function}
use Rattle.trace_replay.specs.Adapters as rule
use Rattle.driver_machine.specs.declared.Task.TheVariants.{Command}
use Rattle.driver_machine.specs.declared.Phase.TheVariants.{Transferring, Due}
use Rattle.driver_machine.specs.declared.Phase.TheVariants as phases
use Rattle.driver_machine.specs.World.{World, UnitView, AdapterView, Held, slot_in_hand, transfer_of, drive_of, adapter_of, unit_at, adapter_at, held_in}
use Rattle.driver_machine.specs.Guards.{InHand}
use Rattle.driver_machine.specs.Acts.{going_to, transferring, commanded}
use Rattle.driver_machine.specs.Acts as deed
use Rattle.driver_machine.specs.Sound.{Sound, IsPhase, IsBegun, IsStill}
use Rattle.driver_laws.specs.shown.Shows.{IsAdapterSeen}
use Rattle.driver_laws.proofs.shown.Told.{seen_told}
use Rattle.driver_laws.proofs.shown.Core.{Core, IsHead}
use Rattle.driver_laws.proofs.shown.Talk.{guarded_command, transfer_guarded}
use Rattle.driver_laws.proofs.shown.Facts.{At}
use Rattle.driver_laws.proofs.shown.AdapterQueues.{without_coming}
use Rattle.driver_laws.proofs.shown.DeedFacts.{said_by, no}
use Rattle.driver_laws.proofs.shown.Drives.{segment_below}
use Rattle.driver_laws.proofs.shown.Busy.{busy_with, kept_bus}
use Rattle.driver_laws.proofs.invariant.Drives.{place_inside}
use Rattle.driver_laws.proofs.shown.Showing.{Shows, is_coming, IsSaid}
use Rattle.driver_machine.proofs.Dues.{IsAtCommand, MayGo}

transfer_core : (h : Held) (u : ℕ) (v : UnitView) (a : AdapterState) (seen : UnitSeen) (b : AdapterState) (write : Bool) (segment : Segment)
    → Core h v a seen → IsAtCommand v.phase
    → Core (record h { on_bus = true }) (going_to Transferring (transferring write segment.block) v) (commanded u h write segment a)
    (seen_told seen b (moment.Transfer write segment.block segment.count) [])
transfer_core h u v a seen b write segment is h0 = search rules

transfer_talk : (h : Held) (v : UnitView) (a : AdapterState) (seen : UnitSeen) → Core h v a seen → IsHead h v.drive.kind seen → IsBegun v h
    → IsAtCommand v.phase → MayGo h.write v.drive
    → told.due seen.drive (hand_of seen) seen.stage
    ≡ Some (moment.Transfer h.write (engine.segment_of (transfer_of v)).block (engine.segment_of (transfer_of v)).count)
transfer_talk h v a seen is head begun at go =
    transfer_guarded h v a seen is head begun at
    ∙ ap Some (guarded_command seen.drive (hand_of seen) _
    (record { online = rw is.drive go.online; unlocked = rw is.drive go.unlocked; valid = rw is.drive go.valid }))

transfer_adapter : (u : ℕ) (h : Held) (write : Bool) (segment : Segment) (a seen : AdapterState) → IsAdapterSeen a seen
    → IsAdapterSeen (commanded u h write segment a)
    (started (drive_of u) segment.block write (loaded [] 0 segment.count 512 0 segment.count seen))
transfer_adapter u h write segment a seen is = search rules

transfer_taken : (write : Bool) (d : DriveState) (place : Place) → d.work ≡ work.Ready → d.online ≡ true → write && d.locked ≡ false
    → IsInside d.kind place → takes (transfer_function write) (addressed place d) ≡ true
transfer_taken write d place still online unlocked at = search rules

command_still : (u : ℕ) (v : UnitView) (a : AdapterView) (h : Held) → IsAtCommand v.phase → IsPhase u v a h v.phase → IsBegun v h × IsStill v.drive
command_still u v a h (inl phase) is = let task : IsPhase u v a h (Due Command) = subst (IsPhase u v a h) phase is in (task.0, task.1)
command_still u v a h (inr phase) is = let task : IsPhase u v a h phases.Queued = subst (IsPhase u v a h) phase is in (task.0, task.1)

pub transfer_deed : (line u id : ℕ) (w : World) (s : Replay) → Sound w → Shows u w s → InHand w u id → At u id w s
    → IsAtCommand (unit_at w u).phase → MayGo (held_in w (slot_in_hand (unit_at w u))).write (unit_at w u).drive
    → (adapter_at w (adapter_of u)).state.busy ≡ false
    → IsSaid line u id w s (deed.Move (held_in w (slot_in_hand (unit_at w u))).write (engine.segment_of (transfer_of (unit_at w u))))
    (moment.Transfer (held_in w (slot_in_hand (unit_at w u))).write (engine.segment_of (transfer_of (unit_at w u))).block
    (engine.segment_of (transfer_of (unit_at w u))).count)
transfer_deed line u id w s sound shows hand at due go free =
    let h : Held = held_in w (slot_in_hand (unit_at w u)) in
    let v : UnitView = unit_at w u in
    let a : AdapterView = adapter_at w (adapter_of u) in
    let segment : Segment = engine.segment_of (transfer_of v) in
    let facts : IsBegun v h × IsStill v.drive = command_still u v a h due at.ok.phase in
    let kind : (transfer_of v).job.kind ≡ v.drive.kind = ap (λ (j : Job). j.kind) facts.0.job in
    let below : segment.block < block_count v.drive.kind = segment_below v.drive.kind (transfer_of v) facts.0.is kind in
    said_by line u id w s (deed.Move h.write segment) (moment.Transfer h.write segment.block segment.count) sound shows hand at
    (record {
      service = at.service;
      talk = transfer_talk h v a.state (s.units u) at.core at.head facts.0 due go;
      drive = rw at.core.drive (transfer_taken h.write v.drive (place_at v.drive.kind segment.block) facts.1.work go.online go.unlocked
          (place_inside v.drive.kind segment.block below));
      adapter = at.adapter.busy ∙ free;
      verdict = tt;
    })
    (record {
      core = transfer_core h u v a.state (s.units u) (at_unit s u).state h.write segment at.core due;
      queue = refl;
      service = refl;
      kept = λ kind q held. kept_bus true kind q h held;
      ended = refl;
      declared = refl;
      adapter = transfer_adapter u h h.write segment a.state (at_unit s u).state at.adapter;
      ready = ap (rule.without u) shows.own_ready ∙ without_coming (is_coming v.phase (s.units u).stage) u a.queue;
      apart = λ x other one phase. no free (busy_with w u x sound hand.unit one phase).busy;
      noise = shows.noise;
      frames = shows.frames;
      outstanding = refl;
    })
