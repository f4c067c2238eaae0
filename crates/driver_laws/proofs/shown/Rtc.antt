-- RTC: its line may be said, and what it leaves is shown.
use Rattle.std.proofs.Common.{◌≡◌, ℕ, [], Some, ◌==◌, false, refl, sym, subst, arith, rules}
use Rattle.drive_registers.specs.Codes.{offset_field}
use Rattle.hardware_table.specs.declared.Moved.{Moved}
use Rattle.hardware_table.specs.Adapter.{AdapterState}
use Rattle.trace_replay.specs.Replay.{UnitSeen, Replay, hand_of, at_unit, unit_after}
use Rattle.trace_replay.specs.Conversation as told
use Rattle.trace_replay.specs.Moments as moment
use Rattle.trace_replay.specs.Adapters as rule
use Rattle.driver_machine.specs.declared.Task.TheVariants.{Judge}
use Rattle.driver_machine.specs.declared.Phase.TheVariants.{Due}
use Rattle.driver_machine.specs.World.{World, UnitView, Held, slot_in_hand, adapter_of, unit_at, adapter_at, held_in}
use Rattle.driver_machine.specs.Guards.{InHand}
use Rattle.driver_machine.specs.Acts.{with_drive, centred}
use Rattle.driver_machine.specs.Acts as deed
use Rattle.driver_machine.specs.Sound.{Sound, IsTask}
use Rattle.driver_laws.proofs.shown.Told.{seen_told}
use Rattle.driver_laws.proofs.shown.Core.{Core}
use Rattle.driver_laws.proofs.shown.Facts.{At}
use Rattle.driver_laws.proofs.shown.Plain.{plain_says, ready_plain}
use Rattle.driver_laws.proofs.shown.DeedFacts.{no, said_by}
use Rattle.driver_laws.proofs.shown.Showing.{Shows, is_coming, with_coming, IsSaid}

centre_core : (h : Held) (v : UnitView) (a : AdapterState) (seen : UnitSeen) (b : AdapterState) (moved : ℕ) (last : Moved)
    → Core h v a seen → v.phase ≡ Due (Judge moved last) → offset_field v.drive.offset == 0 ≡ false
    → Core h (with_drive centred v) a (seen_told seen b moment.Centre [])
centre_core h v a seen b moved last is phase set = search rules

centre_talk : (h : Held) (v : UnitView) (a : AdapterState) (seen : UnitSeen) (moved : ℕ) (last : Moved)
    → Core h v a seen → v.phase ≡ Due (Judge moved last) → offset_field v.drive.offset == 0 ≡ false
    → told.due seen.drive (hand_of seen) seen.stage ≡ Some moment.Centre
centre_talk h v a seen moved last is phase set = rw (is.stage, phase, set) refl

pub centre_line : (line u id : ℕ) (w : World) (s : Replay) (moved : ℕ) (last : Moved) → Sound w → Shows u w s → InHand w u id → At u id w s
    → (unit_at w u).phase ≡ Due (Judge moved last) → offset_field (unit_at w u).drive.offset == 0 ≡ false → IsSaid line u id w s deed.Rtc moment.Centre
centre_line line u id w s moved last sound shows hand at phase set =
    let task : IsTask (unit_at w u) (held_in w (slot_in_hand (unit_at w u))) (Judge moved last) = rw phase at at.ok.phase in
    let waits : told.waits (s.units u).stage ≡ false = rw (at.core.stage, phase, set) refl in
    said_by line u id w s deed.Rtc moment.Centre sound shows hand at
    (record {
      service = at.service;
      talk = centre_talk (held_in w (slot_in_hand (unit_at w u))) (unit_at w u) (adapter_at w (adapter_of u)).state (s.units u) moved last at.core phase set;
      drive = rw (at.core.drive, task.1.work) refl;
      adapter = tt;
      verdict = tt;
    })
    (plain_says u id w s moment.Centre (deed.with_drive deed.centred (unit_at w u)) shows at
    (record { service = refl; adapter = refl; surface = refl; frames = refl; outstanding = refl; leaves = refl })
    (centre_core (held_in w (slot_in_hand (unit_at w u))) (unit_at w u) (adapter_at w (adapter_of u)).state (s.units u) (at_unit s u).state moved last at.core phase set)
    refl refl
    (subst (λ ph. rule.with_ready (told.waits (unit_after s u moment.Centre).stage) u (at_unit s u).ready
    ≡ with_coming (is_coming ph (unit_after s u moment.Centre).stage) u (adapter_at w (adapter_of u)).queue) (sym phase)
    (ready_plain u id w s (told.waits (unit_after s u moment.Centre).stage) shows at (λ e. grind (arith, phase, e)) (λ e. no waits e))))
