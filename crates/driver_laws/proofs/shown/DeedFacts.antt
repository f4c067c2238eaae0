-- What the lines of several deeds share.
use Rattle.std.proofs.Common.{◌≡◌, inl, inr, ℕ, List, ◌+◌, Some, Bool, true, false, refl, subst, arith, rules}
use Rattle.std.specs.Prelude.{slice_set}
use Rattle.pack_geometry.specs.declared.DriveKind.{DriveKind}
use Rattle.hardware_table.specs.declared.Moved.{Moved}
use Rattle.hardware_table.specs.Adapter.{AdapterState}
use Rattle.transfer_engine.specs.State.{begun}
use Rattle.transfer_engine.specs.State as engine
use Rattle.trace_replay.specs.requests.Requests.{Request}
use Rattle.trace_replay.specs.Replay.{UnitSeen, Replay, hand_of, unit_after, replay_told}
use Rattle.trace_replay.specs.Conversation as told
use Rattle.trace_replay.specs.Moments as moment
use Rattle.driver_machine.specs.declared.Task.TheVariants.{Command}
use Rattle.driver_machine.specs.declared.Phase.TheVariants as phases
use Rattle.driver_machine.specs.declared.Phase.TheVariants.{Due}
use Rattle.driver_machine.specs.World.{World, UnitView, AdapterView, Held, slot_in_hand, transfer_of, with_block_in, unit_at}
use Rattle.driver_machine.specs.Guards.{IsHeldFor, InHand}
use Rattle.driver_machine.specs.Acts.{Deed, effect, scene_of}
use Rattle.driver_machine.specs.Sound.{Sound, IsPhase, IsBegun}
use Rattle.driver_laws.specs.shown.Stages.{segment_seen, progress_judged}
use Rattle.driver_laws.proofs.shown.Core.{Core, IsHead}
use Rattle.driver_laws.proofs.shown.Places.{segment_start}
use Rattle.driver_laws.proofs.shown.Frame.{step_shows}
use Rattle.driver_laws.proofs.shown.Facts.{At}
use Rattle.driver_laws.proofs.shown.Plain.{Says, says_step}
use Rattle.driver_laws.proofs.shown.Showing.{MaySay, Shows, IsSaid}
use Rattle.driver_machine.proofs.Dues.{IsAtCommand, IsJudged}

pub judged_progress : (last : Moved) (h : Held) (v : UnitView) (a : AdapterState) (seen : UnitSeen) (moved : ℕ) → Core h v a seen → IsJudged v moved last
    → seen.progress ≡ progress_judged last moved (transfer_of v) h
judged_progress last h v a seen moved is due = rw due.phase at is.progress

pub judged_start : (h : Held) (v : UnitView) (a : AdapterState) (seen : UnitSeen) (moved : ℕ) → Core h v a seen → IsHead h v.drive.kind seen → IsBegun v h
    → seen.progress.done ≡ (transfer_of v).done + moved → ((i : ℕ) → (transfer_of v).index ≡ Some i → moved ≡ 0)
    → told.start_of (segment_seen (transfer_of v)) (hand_of seen) ≡ (engine.segment_of (transfer_of v)).block + moved
judged_start h v a seen moved is head begun done none =
    segment_start (transfer_of v).index (transfer_of v).job (transfer_of v).done moved (hand_of seen)
    (rw (begun.job, head.head, is.drive) head.is.first) done none

pub no : {b : Bool} → b ≡ false → b ≡ true → {P : Type 0} → P
no off on = absurd (grind (arith, off, on))

pub said_by : (line u id : ℕ) (w : World) (s : Replay) (d : Deed) (told : moment.Deed) → Sound w → Shows u w s → InHand w u id → At u id w s
    → MaySay s u id told → Says u w s told (effect line u (slot_in_hand (unit_at w u)) d (scene_of w u)) → IsSaid line u id w s d told
said_by line u id w s d told sound shows hand at may says = record {
  may = may;
  shows =
      step_shows u id w s (replay_told s u told (unit_after s u told)) (effect line u (slot_in_hand (unit_at w u)) d (scene_of w u)) sound shows hand
      (says_step u id w s told (effect line u (slot_in_hand (unit_at w u)) d (scene_of w u)) shows at says);
}

pub command_begun : (u : ℕ) (v : UnitView) (a : AdapterView) (h : Held) → IsPhase u v a h v.phase → IsAtCommand v.phase → IsBegun v h
command_begun u v a h is (inl phase) = let task : IsPhase u v a h (Due Command) = subst (IsPhase u v a h) phase is in task.0
command_begun u v a h is (inr phase) = let task : IsPhase u v a h phases.Queued = subst (IsPhase u v a h) phase is in task.0

-- the same request, whatever its read has got
kept_block_by : (write : Bool) (kind : DriveKind) (q : Request) (h : Held) (blocks : List (List ℕ)) → h.write ≡ write → (write ≡ true → blocks ≡ h.blocks)
    → IsHeldFor kind q h → IsHeldFor kind q (record h { blocks = blocks })
kept_block_by write kind q h blocks writes same is = search rules

pub kept_block : (kind : DriveKind) (q : Request) (h : Held) (k : ℕ) (bytes : List ℕ) → h.write ≡ false
    → IsHeldFor kind q h → IsHeldFor kind q (with_block_in k bytes h)
kept_block kind q h k bytes reads is =
    kept_block_by h.write kind q h (slice_set h.blocks k bytes) refl (λ writes. no reads writes) is
