-- A REPAIR in the buffer: no line is told, and the same replay shows the world behind it.
use Rattle.std.proofs.Common.{◌≡◌, ◌<◌, ℕ, ◌++◌, length, ◌+◌, Option, false, refl, sym, ap, subst, ◌∙◌, rules}
use Rattle.hardware_table.specs.declared.Moved.TheVariants.{Clean, Burst}
use Rattle.hardware_table.specs.declared.Moved.TheVariants as verdict
use Rattle.hardware_table.specs.Adapter.{AdapterState}
use Rattle.transfer_engine.specs.declared.job.Job.{Job}
use Rattle.transfer_engine.specs.State.{TransferState}
use Rattle.transfer_engine.specs.State as engine
use Rattle.trace_replay.specs.Replay.{UnitSeen, Replay}
use Rattle.trace_replay.specs.Packs.{repaired_from}
use Rattle.driver_machine.specs.declared.Task.TheVariants.{Judge}
use Rattle.driver_machine.specs.declared.Phase.TheVariants.{Due}
use Rattle.driver_machine.specs.World.{World, UnitView, AdapterView, Held, slot_in_hand, transfer_of, block_in, adapter_of, unit_at, adapter_at, held_in}
use Rattle.driver_machine.specs.Guards.{InHand}
use Rattle.driver_machine.specs.Acts.{in_phase, Of, after, repaired_at}
use Rattle.driver_machine.specs.Acts as deed
use Rattle.driver_machine.specs.Sound.{Sound, IsPhase}
use Rattle.driver_laws.specs.shown.Stages.{front_of}
use Rattle.driver_laws.proofs.shown.Core.{Core}
use Rattle.driver_laws.proofs.shown.Facts.{At}
use Rattle.driver_laws.proofs.shown.DeedFacts.{judged_progress, kept_block}
use Rattle.driver_laws.proofs.shown.Fronts.{front_more, repaired_same}
use Rattle.driver_laws.proofs.shown.Silent.{not_first, silent_shows, due_ready}
use Rattle.driver_laws.proofs.shown.Showing.{Shows}
use Rattle.driver_machine.proofs.Dues.{IsJudged}

-- The replay counts it at the interrupt.
repaired_front : (h : Held) (k n at pattern : ℕ) → h.write ≡ false → k < length h.blocks → n ≡ k + 1
    → front_of h k ++ repaired_from 0 at pattern (block_in h k) ≡ front_of (repaired_at k at pattern h) n
repaired_front h k n at pattern reads inside is =
    ap (λ ys. front_of h k ++ ys) (repaired_same 0 at pattern (block_in h k))
    ∙ sym (front_more h k _ reads inside)
    ∙ ap (front_of (repaired_at k at pattern h)) (sym is)

repair_core : (h : Held) (v : UnitView) (a : AdapterState) (seen : UnitSeen) (moved at pattern : ℕ)
    → Core h v a seen → IsJudged v moved (Burst at pattern) → h.write ≡ false → (transfer_of v).done + moved < length h.blocks
    → Core (repaired_at ((transfer_of v).done + moved) at pattern h) (in_phase (Due (Judge (moved + 1) Clean)) v) a seen
repair_core h v a seen moved at pattern is due reads inside = search (rules, judged_progress, not_first, repaired_front)

-- the sector behind those that moved lies in the buffer
next_inside : (index : Option ℕ) (t : TransferState) (size moved : ℕ) → t.index ≡ index → engine.IsTransfer t → t.job.count ≡ size
    → moved < (engine.segment_of t).count → t.done + moved < size
next_inside index t size moved some is same less = search rules

pub repair_shows : (line u id moved at_place pattern : ℕ) (w : World) (s : Replay) → Sound w → Shows u w s → InHand w u id → At u id w s
    → IsJudged (unit_at w u) moved (verdict.Burst at_place pattern)
    → Shows u (after w (Of line u id (deed.Repair moved at_place pattern))) s
repair_shows line u id moved at_place pattern w s sound shows hand at due =
    let h : Held = held_in w (slot_in_hand (unit_at w u)) in
    let v : UnitView = unit_at w u in
    let a : AdapterView = adapter_at w (adapter_of u) in
    let task : IsPhase u v a h (Due (Judge moved (verdict.Burst at_place pattern))) = subst (IsPhase u v a h) due.phase at.ok.phase in
    let reads : h.write ≡ false = task.3.0 in
    let count : (transfer_of v).job.count ≡ length h.blocks = ap (λ (j : Job). j.count) task.0.job ∙ sym at.slot.size in
    let inside : (transfer_of v).done + moved < length h.blocks =
    next_inside (transfer_of v).index (transfer_of v) (length h.blocks) moved refl task.0.is count task.2 in
    silent_shows u id w s (deed.in_phase (Due (Judge (moved + 1) verdict.Clean)) v) (repaired_at ((transfer_of v).done + moved) at_place pattern h) a.queue sound shows hand at
    (record {
      core = repair_core h v a.state (s.units u) moved at_place pattern at.core due reads inside;
      queue = refl;
      declared = refl;
      kind = refl;
      kept = λ kind q held. kept_block kind q h ((transfer_of v).done + moved) _ reads held;
      ended = refl;
      ready = due_ready u w s moved (verdict.Burst at_place pattern) shows due.phase;
    })
