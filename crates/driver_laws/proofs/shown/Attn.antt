-- AN ATTENTION is taken: its line may be said, and what it leaves is shown.
use Rattle.std.proofs.Common.{◌≡◌, ℕ, [], true, false, refl, ap, arith, ◌∙◌, rules}
use Rattle.std.specs.Prelude.{if◌then◌else◌}
use Rattle.std.specs.Int.{bit_at}
use Rattle.hardware_table.specs.Adapter.{AdapterState, attention_lowered}
use Rattle.hardware_table.specs.Events.{attention_cleared}
use Rattle.trace_replay.specs.Replay.{UnitSeen, Replay, at_unit, unit_after}
use Rattle.trace_replay.specs.Conversation as told
use Rattle.trace_replay.specs.Moments as moment
use Rattle.driver_machine.specs.declared.Task.TheVariants.{Steps}
use Rattle.driver_machine.specs.declared.Phase.TheVariants.{Positioning, Due}
use Rattle.driver_machine.specs.declared.Phase.TheVariants as phases
use Rattle.driver_machine.specs.World.{World, UnitView, AdapterView, Held, slot_in_hand, drive_of, unit_on, adapter_of, unit_at, adapter_at, held_in}
use Rattle.driver_machine.specs.Guards.{InHand}
use Rattle.driver_machine.specs.Acts.{going_to}
use Rattle.driver_machine.specs.Acts as deed
use Rattle.driver_machine.specs.Sound.{Sound}
use Rattle.driver_laws.specs.shown.Shows.{IsAdapterSeen}
use Rattle.driver_laws.proofs.shown.Told.{seen_told}
use Rattle.driver_laws.proofs.shown.Core.{Core}
use Rattle.driver_laws.proofs.shown.Facts.{At}
use Rattle.driver_laws.proofs.shown.Plain.{ready_plain}
use Rattle.driver_laws.proofs.shown.DeedFacts.{said_by, no}
use Rattle.driver_laws.proofs.shown.Arrive.{arrive_talk}
use Rattle.driver_laws.proofs.invariant.Frame.{unit_on-own}
use Rattle.driver_laws.proofs.shown.Showing.{Shows, IsSaid}

attn_core : (h : Held) (v : UnitView) (a c : AdapterState) (seen : UnitSeen) (b : AdapterState) (taken : ℕ)
    → Core h v a seen → v.phase ≡ Positioning taken
    → Core h (going_to (Due (Steps taken)) attention_cleared v) c (seen_told seen b moment.Attn [])
attn_core h v a c seen b taken is phase = search rules

attn_adapter : (drive : ℕ) (a seen : AdapterState) → IsAdapterSeen a seen → IsAdapterSeen (attention_lowered drive a) (attention_lowered drive seen)
attn_adapter drive a seen is = search rules

pub attn_line : (line u id : ℕ) (w : World) (s : Replay) (taken : ℕ) → Sound w → Shows u w s → InHand w u id → At u id w s
    → (unit_at w u).phase ≡ phases.Positioning taken → (unit_at w u).drive.attention ≡ true → IsSaid line u id w s (deed.Attn taken) moment.Attn
attn_line line u id w s taken sound shows hand at phase up =
    let h : Held = held_in w (slot_in_hand (unit_at w u)) in
    let v : UnitView = unit_at w u in
    let a : AdapterView = adapter_at w (adapter_of u) in
    let waits : told.waits (s.units u).stage ≡ false = rw (at.core.stage, phase) refl in
    let raised : bit_at a.state.attentions (drive_of u) ≡ (if (unit_at w (unit_on (adapter_of u) (drive_of u))).drive.attention then 1 else 0) =
    at.adapter_ok.raised (drive_of u) (omega arith) in
    let own : (unit_at w (unit_on (adapter_of u) (drive_of u))).drive.attention ≡ true =
    ap (λ x. (unit_at w x).drive.attention) (unit_on-own u) ∙ up in
    said_by line u id w s (deed.Attn taken) moment.Attn sound shows hand at
    (record {
      service = at.service;
      talk = arrive_talk h v a.state (s.units u) taken at.core phase;
      drive = rw at.core.drive up;
      adapter = ap (λ n. bit_at n (drive_of u)) at.adapter.attentions ∙ raised ∙ rw own refl;
      verdict = tt;
    })
    (record {
      core = attn_core h v a.state (attention_lowered (drive_of u) a.state) (s.units u) (at_unit s u).state taken at.core phase;
      queue = refl;
      service = refl;
      kept = λ kind q held. held;
      ended = refl;
      declared = refl;
      adapter = attn_adapter (drive_of u) a.state (at_unit s u).state at.adapter;
      ready = ready_plain u id w s (told.waits (unit_after s u moment.Attn).stage) shows at (λ e. grind (arith, phase, e)) (λ e. no waits e);
      apart = λ x other one going. record { completion = refl; verdict = refl; count = refl; moved = refl };
      noise = shows.noise;
      frames = shows.frames;
      outstanding = refl;
    })
