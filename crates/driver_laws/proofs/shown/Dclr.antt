-- DCLR: its line may be said, and what it leaves is shown.
use Rattle.std.proofs.Common.{◌≡◌, ℕ, [], Some, false, refl, arith, rules}
use Rattle.drive_registers.specs.declared.Function.TheVariants as function
use Rattle.hardware_table.specs.declared.Moved.{Moved}
use Rattle.hardware_table.specs.Adapter.{AdapterState}
use Rattle.hardware_table.specs.Functions.{performed}
use Rattle.trace_replay.specs.Replay.{UnitSeen, Replay, hand_of, at_unit, unit_after}
use Rattle.trace_replay.specs.Conversation as told
use Rattle.trace_replay.specs.Moments as moment
use Rattle.driver_machine.specs.declared.Task.TheVariants.{Clear, Judge}
use Rattle.driver_machine.specs.declared.Phase.TheVariants.{Due}
use Rattle.driver_machine.specs.World.{World, UnitView, Held, slot_in_hand, adapter_of, unit_at, adapter_at, held_in}
use Rattle.driver_machine.specs.Guards.{InHand}
use Rattle.driver_machine.specs.Acts.{going_to}
use Rattle.driver_machine.specs.Acts as deed
use Rattle.driver_machine.specs.Sound.{Sound, IsTask}
use Rattle.driver_laws.proofs.shown.Told.{seen_told}
use Rattle.driver_laws.proofs.shown.Core.{Core}
use Rattle.driver_laws.proofs.shown.Facts.{At}
use Rattle.driver_laws.proofs.shown.Plain.{plain_says, ready_plain}
use Rattle.driver_laws.proofs.shown.DeedFacts.{no, said_by}
use Rattle.driver_laws.proofs.shown.Showing.{Shows, IsSaid}

clear_core : (h : Held) (v : UnitView) (a : AdapterState) (seen : UnitSeen) (b : AdapterState) (moved : ℕ) (last : Moved)
    → Core h v a seen → v.phase ≡ Due (Clear moved last)
    → Core h (going_to (Due (Judge moved last)) (performed function.Clear) v) a (seen_told seen b moment.Clear [])
clear_core h v a seen b moved last is phase = search rules

clear_talk : (h : Held) (v : UnitView) (a : AdapterState) (seen : UnitSeen) (moved : ℕ) (last : Moved)
    → Core h v a seen → v.phase ≡ Due (Clear moved last) → told.due seen.drive (hand_of seen) seen.stage ≡ Some moment.Clear
clear_talk h v a seen moved last is phase = rw (is.stage, phase) refl

pub clear_line : (line u id : ℕ) (w : World) (s : Replay) (moved : ℕ) (last : Moved) → Sound w → Shows u w s → InHand w u id → At u id w s
    → (unit_at w u).phase ≡ Due (Clear moved last) → IsSaid line u id w s (deed.Dclr moved last) moment.Clear
clear_line line u id w s moved last sound shows hand at phase =
    let task : IsTask (unit_at w u) (held_in w (slot_in_hand (unit_at w u))) (Clear moved last) = rw phase at at.ok.phase in
    let waits : told.waits (s.units u).stage ≡ false = rw (at.core.stage, phase) refl in
    said_by line u id w s (deed.Dclr moved last) moment.Clear sound shows hand at
    (record {
      service = at.service;
      talk = clear_talk (held_in w (slot_in_hand (unit_at w u))) (unit_at w u) (adapter_at w (adapter_of u)).state (s.units u) moved last at.core phase;
      drive = rw (at.core.drive, task.1.work) refl;
      adapter = tt;
      verdict = tt;
    })
    (plain_says u id w s moment.Clear (deed.going_to (Due (Judge moved last)) (performed function.Clear) (unit_at w u)) shows at
    (record { service = refl; adapter = refl; surface = refl; frames = refl; outstanding = refl; leaves = refl })
    (clear_core (held_in w (slot_in_hand (unit_at w u))) (unit_at w u) (adapter_at w (adapter_of u)).state (s.units u) (at_unit s u).state moved last at.core phase)
    refl refl
    (ready_plain u id w s (told.waits (unit_after s u moment.Clear).stage) shows at (λ e. grind (arith, phase, e)) (λ e. no waits e)))
