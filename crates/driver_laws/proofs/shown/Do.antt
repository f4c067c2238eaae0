-- A STEP OF A RETRY: the drive takes it, its line may be said, and what it leaves is shown.
use Rattle.std.proofs.Common.{◌≡◌, ◌<◌, ℕ, zero, suc, List, [], ◌∷◌, drop, ◌+◌, Some, true, false, refl, sym, ap, not, subst, arith, ◌∙◌, rules}
use Rattle.std.proofs.lemmas.List.{drop-drop}
use Rattle.pack_geometry.specs.declared.Place.{Place}
use Rattle.pack_geometry.specs.Geometry.{cylinders_of, place_at, block_count}
use Rattle.hardware_table.specs.declared.Work.TheVariants as work
use Rattle.hardware_table.specs.Adapter.{AdapterState}
use Rattle.hardware_table.specs.Drive.{DriveState}
use Rattle.hardware_table.specs.Functions.{is_addressed}
use Rattle.trace_replay.specs.declared.retry_offsets.Step.{Step}
use Rattle.trace_replay.specs.Schedule.{step_after}
use Rattle.transfer_engine.specs.declared.job.Job.{Job}
use Rattle.transfer_engine.specs.State as engine
use Rattle.trace_replay.specs.Service as asked
use Rattle.trace_replay.specs.Replay.{UnitSeen, Replay, hand_of, at_unit, unit_after}
use Rattle.trace_replay.specs.Conversation as told
use Rattle.trace_replay.specs.Packs.{VerdictMay}
use Rattle.trace_replay.specs.Drives.{DriveMay}
use Rattle.trace_replay.specs.Adapters as rule
use Rattle.driver_machine.specs.declared.RetryStep.{RetryStep}
use Rattle.driver_machine.specs.declared.RetryStep.TheVariants.{Recalibrate, Seek}
use Rattle.driver_machine.specs.declared.Task.TheVariants.{Steps}
use Rattle.driver_machine.specs.declared.Phase.TheVariants.{Positioning}
use Rattle.driver_machine.specs.declared.Phase.TheVariants as phases
use Rattle.driver_machine.specs.World.{World, UnitView, Held, slot_in_hand, transfer_of, adapter_of, unit_at, adapter_at, held_in}
use Rattle.driver_machine.specs.Guards.{InHand}
use Rattle.driver_machine.specs.Due.{steps_for}
use Rattle.driver_machine.specs.Acts.{going_to, stepping}
use Rattle.driver_machine.specs.Acts as deed
use Rattle.driver_machine.specs.Lines.{step_told}
use Rattle.driver_machine.specs.Sound.{Sound, IsTask}
use Rattle.driver_laws.proofs.shown.Told.{seen_told}
use Rattle.driver_laws.proofs.shown.Core.{Core}
use Rattle.driver_laws.proofs.shown.Talk.{step_stage}
use Rattle.driver_laws.proofs.shown.Facts.{At}
use Rattle.driver_laws.proofs.shown.Plain.{IsPlain, plain_says, ready_plain}
use Rattle.driver_laws.proofs.shown.DeedFacts.{no, said_by}
use Rattle.driver_laws.proofs.shown.Drives.{segment_below}
use Rattle.driver_laws.proofs.invariant.Drives.{place_inside}
use Rattle.driver_laws.proofs.shown.Showing.{Shows, IsSaid}
use Rattle.driver_machine.proofs.Dues.{IsStep, MayGo}

behind_more : (n : ℕ) (xs : List RetryStep) (x : RetryStep) (left : List RetryStep) → drop n xs ≡ x ∷ left → drop (n + 1) xs ≡ left
behind_more n xs x left is = sym (drop-drop 1 n xs) ∙ ap (drop 1) is

do_core : (h : Held) (v : UnitView) (a : AdapterState) (seen : UnitSeen) (b : AdapterState) (step : RetryStep) (taken : ℕ)
    → Core h v a seen → IsStep v step taken
    → Core h (going_to (Positioning taken) (stepping step) v) a (seen_told seen b (step_told step) [])
do_core h v a seen b step taken is due = search (rules, behind_more)

step_talk : (h : Held) (v : UnitView) (a : AdapterState) (seen : UnitSeen) (step : RetryStep) (taken : ℕ)
    → Core h v a seen → IsStep v step taken → MayGo false v.drive
    → told.due seen.drive (hand_of seen) seen.stage ≡ Some (step_told step)
step_talk h v a seen step taken is due go = search rules

-- THE STEPS of a retry seek the cylinder of the sector that failed alone.
abbrev pub SeeksAt : ℕ → RetryStep → Type 0
SeeksAt c (Seek cylinder) = cylinder ≡ c
SeeksAt c step = Unit {0}

abbrev pub AllSeekAt : ℕ → List RetryStep → Type 0
AllSeekAt c [] = Unit {0}
AllSeekAt c (step ∷ steps) = SeeksAt c step × AllSeekAt c steps

steps_seek : (c : ℕ) (st : Step) → AllSeekAt c (steps_for c st)
steps_seek c st = search rules

behind_seek : (c n : ℕ) (steps : List RetryStep) → AllSeekAt c steps → AllSeekAt c (drop n steps)
behind_seek c zero steps all = all
behind_seek c (suc n) [] all = tt
behind_seek c (suc n) (step ∷ steps) all = behind_seek c n steps all.1

next_seek : (c n : ℕ) (st : Step) (step : RetryStep) (left : List RetryStep) → drop n (steps_for c st) ≡ step ∷ left → SeeksAt c step
next_seek c n st step left is = (subst (AllSeekAt c) is (behind_seek c n (steps_for c st) (steps_seek c st))).0

step_taken : (d : DriveState) (target : Place) (step : RetryStep) → d.work ≡ work.Ready → d.online ≡ true → is_addressed d ≡ true
    → (c : ℕ) → SeeksAt c step → c < cylinders_of d.kind → DriveMay d target (step_told step)
step_taken d target step still online at c seeks inside = search rules

step_plain : (u : ℕ) (s : Replay) (step : RetryStep) → IsPlain u s (step_told step)
step_plain u s Recalibrate = record { service = refl; adapter = refl; surface = refl; frames = refl; outstanding = refl; leaves = refl }
step_plain u s other = record { service = refl; adapter = refl; surface = refl; frames = refl; outstanding = refl; leaves = refl }

step_talks : (u : ℕ) (s : Replay) (step : RetryStep) → told.due (s.units u).drive (hand_of (s.units u)) (s.units u).stage ≡ Some (step_told step)
    → told.TalkMay (s.units u).drive (hand_of (s.units u)) (s.units u).stage (step_told step)
step_talks u s Recalibrate is = is
step_talks u s other is = is

step_adapter : (u : ℕ) (s : Replay) (step : RetryStep) → rule.AdapterMay (at_unit s u).state u (step_told step)
step_adapter u s Recalibrate = tt
step_adapter u s other = tt

step_verdict : (u : ℕ) (s : Replay) (step : RetryStep) → VerdictMay s.surface u (s.units u).drive (step_told step)
step_verdict u s Recalibrate = tt
step_verdict u s other = tt

step_bytes : (u : ℕ) (s : Replay) (step : RetryStep) → unit_after s u (step_told step) ≡ seen_told (s.units u) (at_unit s u).state (step_told step) []
step_bytes u s Recalibrate = refl
step_bytes u s other = refl

pub do_line : (line u id : ℕ) (w : World) (s : Replay) (step : RetryStep) (taken : ℕ) → Sound w → Shows u w s → InHand w u id → At u id w s
    → IsStep (unit_at w u) step taken → MayGo false (unit_at w u).drive → IsSaid line u id w s (deed.Do step taken) (step_told step)
do_line line u id w s step taken sound shows hand at due go =
    let h : Held = held_in w (slot_in_hand (unit_at w u)) in
    let v : UnitView = unit_at w u in
    let task : IsTask v h (Steps due.before) = rw due.phase at at.ok.phase in
    let waits : told.waits (s.units u).stage ≡ false =
    rw (step_stage h v (adapter_at w (adapter_of u)).state (s.units u) due.before step due.left at.core due.phase due.is) refl in
    let kind : (transfer_of v).job.kind ≡ v.drive.kind = ap (λ (j : Job). j.kind) task.0.job in
    let below : (engine.segment_of (transfer_of v)).block < block_count v.drive.kind = segment_below v.drive.kind (transfer_of v) task.0.is kind in
    let inside : (place_at (transfer_of v).job.kind (engine.segment_of (transfer_of v)).block).cylinder < cylinders_of v.drive.kind =
    subst (λ k. (place_at k (engine.segment_of (transfer_of v)).block).cylinder < cylinders_of v.drive.kind) (sym kind)
    (place_inside v.drive.kind (engine.segment_of (transfer_of v)).block below).cylinder in
    said_by line u id w s (deed.Do step taken) (step_told step) sound shows hand at
    (record {
      service = at.service;
      talk = step_talks u s step (step_talk h v (adapter_at w (adapter_of u)).state (s.units u) step taken at.core due go);
      drive =
          rw at.core.drive
          (step_taken v.drive (asked.target_of v.drive.kind (asked.in_hand (s.units u).service)) step task.1.work go.online at.ok.drive.address
          (place_at (transfer_of v).job.kind (engine.segment_of (transfer_of v)).block).cylinder
          (next_seek (place_at (transfer_of v).job.kind (engine.segment_of (transfer_of v)).block).cylinder due.before
          (step_after (transfer_of v).failures (not (transfer_of v).job.write)) step due.left due.is) inside);
      adapter = step_adapter u s step;
      verdict = step_verdict u s step;
    })
    (plain_says u id w s (step_told step) (deed.going_to (phases.Positioning taken) (deed.stepping step) v) shows at (step_plain u s step)
    (subst (Core h (deed.going_to (phases.Positioning taken) (deed.stepping step) v) (adapter_at w (adapter_of u)).state) (sym (step_bytes u s step))
    (do_core h v (adapter_at w (adapter_of u)).state (s.units u) (at_unit s u).state step taken at.core due))
    refl refl
    (ready_plain u id w s (told.waits (unit_after s u (step_told step)).stage) shows at (λ e. grind (arith, due.phase, e)) (λ e. no waits e)))
