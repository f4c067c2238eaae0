-- PACK: a command is due, and the volume is not valid. Its line may be said, and what it leaves is shown.
use Rattle.std.proofs.Common.{◌≡◌, inl, inr, ℕ, List, [], ◌∷◌, drop, Some, ◌&&◌, Bool, true, false, refl, sym, ap, not, subst, arith, ◌∙◌, rules}
use Rattle.std.specs.Prelude.{if◌then◌else◌}
use Rattle.drive_registers.specs.declared.Function.TheVariants as function
use Rattle.hardware_table.specs.declared.Work.TheVariants as work
use Rattle.hardware_table.specs.Adapter.{AdapterState}
use Rattle.hardware_table.specs.Functions.{performed}
use Rattle.trace_replay.specs.Replay.{UnitSeen, Replay, hand_of, at_unit}
use Rattle.trace_replay.specs.Conversation as told
use Rattle.trace_replay.specs.Moments as moment
use Rattle.trace_replay.specs.Adapters as rule
use Rattle.driver_machine.specs.declared.RetryStep.{RetryStep}
use Rattle.driver_machine.specs.declared.Phase.{Phase}
use Rattle.driver_machine.specs.declared.Task.TheVariants.{Clear, Judge, Steps, Command, GiveUp}
use Rattle.driver_machine.specs.declared.Phase.TheVariants.{Waiting, Positioning, Queued, Transferring, Due}
use Rattle.driver_machine.specs.declared.Phase.TheVariants as phases
use Rattle.trace_replay.specs.declared.requests.answers.AnswerKind.{AnswerKind}
use Rattle.driver_machine.specs.World.{World, UnitView, AdapterView, Held, slot_in_hand, transfer_of, adapter_of, unit_at, adapter_at, held_in}
use Rattle.driver_machine.specs.Guards.{InHand, IsNext}
use Rattle.driver_machine.specs.Due.{steps_of, target_of, next_by, step_of, command_of}
use Rattle.driver_machine.specs.Acts.{with_drive, Deed, scene_of}
use Rattle.driver_machine.specs.Acts as deed
use Rattle.driver_machine.specs.Sound.{Sound, IsPhase, IsBegun}
use Rattle.driver_machine.proofs.Dues.{AtStart, AtStep, AtTransfer, AtChoice, Calls, IsAtCommand, IsDue}
use Rattle.driver_machine.proofs.DueFacts.{due_facts, chosen_facts}
use Rattle.driver_laws.proofs.shown.Told.{seen_told}
use Rattle.driver_laws.proofs.shown.Core.{Core, IsHead}
use Rattle.driver_laws.proofs.shown.Facts.{At}
use Rattle.driver_laws.proofs.shown.AdapterQueues.{ready_stays}
use Rattle.driver_laws.proofs.shown.Plain.{ready_plain, plain_says}
use Rattle.driver_laws.proofs.shown.DeedFacts.{said_by, command_begun}
use Rattle.driver_laws.proofs.shown.Showing.{Shows, is_coming, with_coming, IsSaid}

pack_core : (phase : Phase) (h : Held) (v : UnitView) (a : AdapterState) (seen : UnitSeen) (b : AdapterState) → v.phase ≡ phase → Calls phase
    → Core h v a seen → Core h (with_drive (performed function.Pack) v) a (seen_told seen b moment.Pack [])
pack_core phase h v a seen b h0 calls is = search rules

-- where PACK is due
pub data IsPackAt (v : UnitView) (h : Held) : Type 0 where
  Starts : v.phase ≡ phases.Waiting → told.starts_at_once v.drive (target_of v h) ≡ false → IsPackAt v h
  Goes : (taken : ℕ) (step : RetryStep) (left : List RetryStep) → v.phase ≡ Due (Steps taken) → drop taken (steps_of (transfer_of v)) ≡ step ∷ left
      → IsPackAt v h
  Transfers : IsAtCommand v.phase → h.write && v.drive.locked ≡ false → IsPackAt v h

pub some_same : {x y : Deed} → Some x ≡ Some y → x ≡ y
some_same e = grind arith

pack_steps : (left : List RetryStep) (taken : ℕ) (v : UnitView) (h : Held) → v.phase ≡ Due (Steps taken) → drop taken (steps_of (transfer_of v)) ≡ left
    → step_of left taken v ≡ deed.Pack → IsPackAt v h
pack_steps [] taken v h phase is e = absurd (grind (arith, e))
pack_steps (step ∷ left) taken v h phase is e = Goes taken step left phase is

pack_unlocked : (online locks valid : Bool) (v : UnitView) (x y : AnswerKind) (command : Deed)
    → (if not online then deed.End x else if locks then deed.End y else if valid then command else deed.Pack) ≡ deed.Pack → online ≡ true → locks ≡ false
pack_unlocked online locks valid v x y command e on = search rules

pack_command : (v : UnitView) (h : Held) → command_of v h ≡ deed.Pack → v.drive.online ≡ true → h.write && v.drive.locked ≡ false
pack_command v h e on = pack_unlocked v.drive.online (h.write && v.drive.locked) v.drive.valid v _ _ _ e on

pack_at : (phase : Phase) (v : UnitView) (h : Held) → v.phase ≡ phase → next_by phase v h ≡ Some deed.Pack → v.drive.online ≡ true → Calls phase → IsPackAt v h
pack_at phases.Waiting v h phase next on AtStart = search rules
pack_at (Due (Steps taken)) v h phase next on (AtStep _) = pack_steps (drop taken (steps_of (transfer_of v))) taken v h phase refl (some_same next)
pack_at (Due Command) v h phase next on AtTransfer = Transfers (inl phase) (pack_command v h (some_same next) on)
pack_at phases.Queued v h phase next on AtChoice = absurd (grind (arith, next))
pack_at (phases.Positioning taken) v h phase next on calls = elim calls [ ]
pack_at phases.Transferring v h phase next on calls = elim calls [ ]
pack_at (Due (Clear moved last)) v h phase next on calls = elim calls [ ]
pack_at (Due (Judge moved last)) v h phase next on calls = elim calls [ ]
pack_at (Due (GiveUp done)) v h phase next on calls = elim calls [ ]

pub record IsPackDue (v : UnitView) (h : Held) : Type 0 where
  pub online : v.drive.online ≡ true
  pub valid : v.drive.valid ≡ false
  pub calls : Calls v.phase
  pub at : IsPackAt v h

pack_due : (u : ℕ) (w : World) → IsNext u deed.Pack (scene_of w u) → IsPackDue (unit_at w u) (held_in w (slot_in_hand (unit_at w u)))
pack_due u w (inl next) =
    let is : IsDue (unit_at w u) (held_in w (slot_in_hand (unit_at w u))) deed.Pack =
    due_facts (unit_at w u) (held_in w (slot_in_hand (unit_at w u))) deed.Pack next in
    record {
      online = is.0;
      valid = is.1;
      calls = is.2;
      at = pack_at (unit_at w u).phase (unit_at w u) (held_in w (slot_in_hand (unit_at w u))) refl next is.0 is.2;
    }
pack_due u w (inr chosen) =
    let is : IsDue (unit_at w u) (held_in w (slot_in_hand (unit_at w u))) deed.Pack =
    subst (IsDue (unit_at w u) (held_in w (slot_in_hand (unit_at w u)))) (sym chosen.due)
    (chosen_facts (unit_at w u) (held_in w (slot_in_hand (unit_at w u))) chosen.phase) in
    record {
      online = is.0;
      valid = is.1;
      calls = is.2;
      at = Transfers (inr chosen.phase) (pack_command (unit_at w u) (held_in w (slot_in_hand (unit_at w u))) (sym chosen.due) is.0);
    }

pack_talk : (h : Held) (v : UnitView) (a : AdapterState) (seen : UnitSeen) → Core h v a seen → IsHead h v.drive.kind seen
    → (IsAtCommand v.phase → IsBegun v h) → IsPackDue v h → IsPackAt v h → told.due seen.drive (hand_of seen) seen.stage ≡ Some moment.Pack
pack_talk h v a seen is head begun due h0 = search rules

-- a unit at which a command is due stands still
called_still : (u : ℕ) (v : UnitView) (a : AdapterView) (h : Held) (phase : Phase) → Calls phase → IsPhase u v a h phase → v.drive.work ≡ work.Ready
called_still u v a h phases.Waiting AtStart is = is.0.work
called_still u v a h (Due (Steps taken)) (AtStep _) is = is.1.work
called_still u v a h (Due Command) AtTransfer is = is.1.work
called_still u v a h phases.Queued AtChoice is = is.1.work
called_still u v a h (phases.Positioning taken) calls is = elim calls [ ]
called_still u v a h phases.Transferring calls is = elim calls [ ]
called_still u v a h (Due (Clear moved last)) calls is = elim calls [ ]
called_still u v a h (Due (Judge moved last)) calls is = elim calls [ ]
called_still u v a h (Due (GiveUp done)) calls is = elim calls [ ]

-- the ready units: one that waits for its adapter stays, and one that is coming goes on coming
pack_ready : (u id : ℕ) (w : World) (s : Replay) → Shows u w s → At u id w s → (phase : Phase) → (unit_at w u).phase ≡ phase → Calls phase
    → rule.with_ready (told.waits (s.units u).stage) u (at_unit s u).ready
    ≡ with_coming (is_coming phase (s.units u).stage) u (adapter_at w (adapter_of u)).queue
pack_ready u id w s shows at phases.Queued phase calls =
    let is : IsPhase u (unit_at w u) (adapter_at w (adapter_of u)) (held_in w (slot_in_hand (unit_at w u))) phases.Queued =
    subst (IsPhase u (unit_at w u) (adapter_at w (adapter_of u)) (held_in w (slot_in_hand (unit_at w u)))) phase at.ok.phase in
    let ready : (at_unit s u).ready ≡ (adapter_at w (adapter_of u)).queue = shows.own_ready ∙ rw phase refl in
    ap (rule.with_ready (told.waits (s.units u).stage) u) ready
    ∙ ready_stays (told.waits (s.units u).stage) u (adapter_at w (adapter_of u)).queue is.2
pack_ready u id w s shows at (phases.Positioning taken) phase calls = elim calls [ ]
pack_ready u id w s shows at phases.Transferring phase calls = elim calls [ ]
pack_ready u id w s shows at other phase calls =
    ready_plain u id w s (told.waits (s.units u).stage) shows at (λ e. grind (arith, phase, e)) (λ e. e)

pub pack_line : (line u id : ℕ) (w : World) (s : Replay) → Sound w → Shows u w s → InHand w u id → At u id w s
    → IsNext u deed.Pack (scene_of w u) → IsSaid line u id w s deed.Pack moment.Pack
pack_line line u id w s sound shows hand at next =
    let h : Held = held_in w (slot_in_hand (unit_at w u)) in
    let v : UnitView = unit_at w u in
    let a : AdapterView = adapter_at w (adapter_of u) in
    let due : IsPackDue v h = pack_due u w next in
    let still : v.drive.work ≡ work.Ready = called_still u v a h v.phase due.calls at.ok.phase in
    said_by line u id w s deed.Pack moment.Pack sound shows hand at
    (record {
      service = at.service;
      talk = pack_talk h v a.state (s.units u) at.core at.head (command_begun u v a h at.ok.phase) due due.at;
      drive = rw (at.core.drive, still, due.online) refl;
      adapter = tt;
      verdict = tt;
    })
    (plain_says u id w s moment.Pack (deed.with_drive (performed function.Pack) v) shows at
    (record { service = refl; adapter = refl; surface = refl; frames = refl; outstanding = refl; leaves = refl })
    (pack_core v.phase h v a.state (s.units u) (at_unit s u).state refl due.calls at.core)
    refl refl
    (pack_ready u id w s shows at v.phase refl due.calls))
