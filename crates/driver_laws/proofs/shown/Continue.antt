-- THE BLOCKS BEHIND A REPLACEMENT come next: no line is told, and the same replay shows the world behind it.
use Rattle.std.proofs.Common.{◌≡◌, ℕ, ◌≤◌, ◌+◌, Some, ◌==◌, false, refl, subst, rules}
use Rattle.hardware_table.specs.declared.Moved.TheVariants.{Clean}
use Rattle.hardware_table.specs.declared.Moved.TheVariants as verdict
use Rattle.hardware_table.specs.Adapter.{AdapterState}
use Rattle.transfer_engine.specs.State.{moved_on}
use Rattle.trace_replay.specs.Replay.{UnitSeen, Replay}
use Rattle.driver_machine.specs.declared.Task.TheVariants.{Judge, Command}
use Rattle.driver_machine.specs.declared.Phase.TheVariants.{Due}
use Rattle.driver_machine.specs.World.{World, UnitView, AdapterView, Held, slot_in_hand, transfer_of, adapter_of, unit_at, adapter_at, held_in}
use Rattle.driver_machine.specs.Guards.{InHand}
use Rattle.driver_machine.specs.Due.{done_with}
use Rattle.driver_machine.specs.Acts.{with_transfer, Of, after}
use Rattle.driver_machine.specs.Acts as deed
use Rattle.driver_machine.specs.Sound.{Sound, IsPhase}
use Rattle.driver_laws.proofs.shown.Core.{Core, IsHead}
use Rattle.driver_laws.proofs.shown.Facts.{At}
use Rattle.driver_laws.proofs.shown.Silent.{silent_shows, due_ready}
use Rattle.driver_laws.proofs.shown.Showing.{Shows}
use Rattle.driver_machine.proofs.Dues.{IsJudged}

continue_core : (h : Held) (v : UnitView) (a : AdapterState) (seen : UnitSeen) (moved : ℕ)
    → Core h v a seen → IsHead h v.drive.kind seen → IsJudged v moved Clean → done_with moved v == h.loan.count ≡ false → 1 ≤ moved
    → Core h (with_transfer (Some (moved_on ((transfer_of v).done + moved) (transfer_of v))) Command v) a seen
continue_core h v a seen moved is head due more some = search rules

pub continue_shows : (line u id moved : ℕ) (w : World) (s : Replay) → Sound w → Shows u w s → InHand w u id → At u id w s
    → IsJudged (unit_at w u) moved verdict.Clean → done_with moved (unit_at w u) == (held_in w (slot_in_hand (unit_at w u))).loan.count ≡ false
    → Shows u (after w (Of line u id (deed.Continue moved))) s
continue_shows line u id moved w s sound shows hand at due more =
    let h : Held = held_in w (slot_in_hand (unit_at w u)) in
    let v : UnitView = unit_at w u in
    let a : AdapterView = adapter_at w (adapter_of u) in
    let task : IsPhase u v a h (Due (Judge moved verdict.Clean)) = subst (IsPhase u v a h) due.phase at.ok.phase in
    silent_shows u id w s (deed.with_transfer (Some (moved_on ((transfer_of v).done + moved) (transfer_of v))) Command v) h a.queue sound shows hand at
    (record {
      core = continue_core h v a.state (s.units u) moved at.core at.head due more task.2.0;
      queue = refl;
      declared = refl;
      kind = refl;
      kept = λ kind q held. held;
      ended = refl;
      ready = due_ready u w s moved verdict.Clean shows due.phase;
    })
