-- A REPLACEMENT comes next: no line is told, and the same replay shows the world behind it.
use Rattle.std.proofs.Common.{◌≡◌, ℕ, [], ◌+◌, Option, Some, None, refl, ap, subst, arith, ◌∙◌}
use Rattle.pack_geometry.specs.declared.Place.{Place}
use Rattle.pack_geometry.specs.Geometry.{replacement_at, place_at}
use Rattle.pack_geometry.specs.Homes.{index_in}
use Rattle.pack_geometry.specs.TableSpelling.{Table}
use Rattle.hardware_table.specs.declared.Moved.TheVariants.{Marked}
use Rattle.hardware_table.specs.declared.Moved.TheVariants as verdict
use Rattle.hardware_table.specs.Adapter.{AdapterState}
use Rattle.transfer_engine.specs.State.{begun}
use Rattle.transfer_engine.specs.State as engine
use Rattle.transfer_engine.specs.Calls.{entry_by, entry_for}
use Rattle.trace_replay.specs.Replay.{UnitSeen, Replay, hand_of}
use Rattle.trace_replay.specs.Conversation as told
use Rattle.driver_machine.specs.declared.Task.TheVariants.{Judge, Command}
use Rattle.driver_machine.specs.declared.Phase.TheVariants.{Due}
use Rattle.driver_machine.specs.World.{World, UnitView, AdapterView, Held, slot_in_hand, transfer_of, adapter_of, unit_at, adapter_at, held_in}
use Rattle.driver_machine.specs.Guards.{InHand}
use Rattle.driver_machine.specs.Acts.{with_transfer, Of, after}
use Rattle.driver_machine.specs.Acts as deed
use Rattle.driver_machine.specs.Sound.{Sound, IsPhase, IsBegun}
use Rattle.driver_laws.specs.shown.Stages.{progress_judged, front_of}
use Rattle.driver_laws.proofs.shown.Core.{Core, IsHead}
use Rattle.driver_laws.proofs.shown.Facts.{At}
use Rattle.driver_laws.proofs.shown.DeedFacts.{judged_progress}
use Rattle.driver_laws.proofs.shown.Silent.{plus_none, mark_place, silent_shows, due_ready}
use Rattle.driver_laws.proofs.shown.Showing.{Shows}
use Rattle.driver_machine.proofs.Dues.{IsJudged}

pub record IsListed (index : Option ℕ) (table : Option Table) (place : Place) (i : ℕ) : Type 0 where
  pub own : index ≡ None
  pub listed : index_in table place ≡ Some i

listed_is : (index : Option ℕ) (table : Option Table) (place : Place) (i : ℕ) → entry_by index table place ≡ Some i → IsListed index table place i
listed_is None table place i e = record { own = refl; listed = e }
listed_is (Some j) table place i e = absurd (grind (arith, e))

forward_core : (h : Held) (v : UnitView) (a : AdapterState) (seen : UnitSeen) (moved index : ℕ)
    → Core h v a seen → IsHead h v.drive.kind seen → IsBegun v h → IsJudged v moved Marked
    → entry_for moved v.table (transfer_of v) ≡ Some index
    → Core h (with_transfer (Some (engine.forwarded moved index (transfer_of v))) Command v) a seen
forward_core h v a seen moved index is head begun due entry =
    let at : IsListed (transfer_of v).index v.table
    (place_at (transfer_of v).job.kind ((transfer_of v).job.first + ((transfer_of v).done + moved))) index =
    listed_is (transfer_of v).index v.table _ index entry in
    let progress : seen.progress ≡ progress_judged Marked moved (transfer_of v) h = judged_progress Marked h v a seen moved is due in
    let found : told.entry_of (hand_of seen) (told.start_of told.OwnBlocks (hand_of seen)) ≡ Some index =
    mark_place h v a seen moved is head begun (ap (λ (p : told.Progress). p.done) progress) ∙ at.listed in
    let marked : seen.stage ≡ told.forwarded (hand_of seen) (told.entry_of (hand_of seen) (told.start_of told.OwnBlocks (hand_of seen))) =
    is.stage ∙ rw (due.phase, due.centred, at.own) refl in
    let kind : seen.drive.kind ≡ (transfer_of v).job.kind = rw (begun.job, is.drive) refl in
    record {
      drive = is.drive;
      table = is.table;
      stage =
          marked ∙ ap (told.forwarded (hand_of seen)) found
          ∙ ap (λ k. told.AtOnce (told.Replacement (replacement_at k index))) kind;
      progress = progress ∙ ap (λ n. record { done = n; failures = 0; bytes = front_of h n; struck = [] }) (plus_none ((transfer_of v).done + moved));
    }

pub forward_shows : (line u id moved index : ℕ) (w : World) (s : Replay) → Sound w → Shows u w s → InHand w u id → At u id w s
    → IsJudged (unit_at w u) moved verdict.Marked → entry_for moved (unit_at w u).table (transfer_of (unit_at w u)) ≡ Some index
    → Shows u (after w (Of line u id (deed.Forward moved index))) s
forward_shows line u id moved index w s sound shows hand at due entry =
    let h : Held = held_in w (slot_in_hand (unit_at w u)) in
    let v : UnitView = unit_at w u in
    let a : AdapterView = adapter_at w (adapter_of u) in
    let task : IsPhase u v a h (Due (Judge moved verdict.Marked)) = subst (IsPhase u v a h) due.phase at.ok.phase in
    silent_shows u id w s (deed.with_transfer (Some (engine.forwarded moved index (transfer_of v))) Command v) h a.queue sound shows hand at
    (record {
      core = forward_core h v a.state (s.units u) moved index at.core at.head task.0 due entry;
      queue = refl;
      declared = refl;
      kind = refl;
      kept = λ kind q held. held;
      ended = refl;
      ready = due_ready u w s moved verdict.Marked shows due.phase;
    })
