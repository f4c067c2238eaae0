-- THE DATA INTERRUPT is taken: its line may be said, and what it leaves is shown.
use Rattle.std.proofs.Common.{◌≡◌, ℕ, [], ◌-◌, ◌==◌, ◌&&◌, ◌||◌, Bool, true, false, refl, not, arith, ◌∙◌, rules}
use Rattle.hardware_table.specs.declared.Moved.{Moved}
use Rattle.hardware_table.specs.declared.Moved.TheVariants.{Clean}
use Rattle.hardware_table.specs.Adapter.{AdapterState, completed}
use Rattle.trace_replay.specs.Replay.{UnitSeen, Replay, at_unit, unit_after}
use Rattle.trace_replay.specs.Conversation as told
use Rattle.trace_replay.specs.Moments as moment
use Rattle.driver_machine.specs.declared.Phase.TheVariants.{Transferring, Due}
use Rattle.driver_machine.specs.World.{World, UnitView, AdapterView, Held, slot_in_hand, drive_of, adapter_of, unit_at, adapter_at, held_in}
use Rattle.driver_machine.specs.Guards.{InHand, IsBusyFor}
use Rattle.driver_machine.specs.Acts.{in_phase, interrupted}
use Rattle.driver_machine.specs.Acts as deed
use Rattle.driver_machine.specs.Sound.{Sound}
use Rattle.driver_laws.specs.shown.Stages.{last_verdict, sectors_left}
use Rattle.driver_laws.specs.shown.Shows.{IsAdapterSeen}
use Rattle.driver_laws.proofs.shown.Told.{seen_told}
use Rattle.driver_laws.proofs.shown.Core.{Core}
use Rattle.driver_laws.proofs.shown.Facts.{At}
use Rattle.driver_laws.proofs.shown.Plain.{ready_plain}
use Rattle.driver_laws.proofs.shown.DeedFacts.{said_by, no}
use Rattle.driver_laws.proofs.shown.Busy.{only_one, Moves, moves, kept_bus}
use Rattle.driver_laws.proofs.shown.Showing.{Shows, IsSaid}

intr_core : (h : Held) (v : UnitView) (a : AdapterState) (seen : UnitSeen) (b : AdapterState) (moved : ℕ) (last : Moved)
    → Core h v a seen → v.phase ≡ Transferring → a.completion ≡ true → moved ≡ a.moved → last ≡ a.verdict
    → Core (record h { on_bus = false }) (in_phase (Due (interrupted moved last)) v) (completed a) (seen_told seen b moment.Intr [])
intr_core h v a seen b moved last is phase over count end = search rules

or_true : (b : Bool) → b || true ≡ true
or_true true = refl
or_true false = refl

none : (n : ℕ) → n - n ≡ 0
none n = omega arith

intr_may_by : (last : Moved) (left : ℕ) → (last ≡ Clean → left ≡ 0) → left == 0 || not (told.is_clean last) ≡ true
intr_may_by Clean left over = rw (over refl) refl
intr_may_by other left over = or_true (left == 0)

intr_talk : (h : Held) (v : UnitView) (a : AdapterState) (seen : UnitSeen)
    → Core h v a seen → v.phase ≡ Transferring → (last_verdict a ≡ Clean → a.moved ≡ a.count) → told.intr_may seen.stage ≡ true
intr_talk h v a seen is phase over =
    rw (is.stage, phase) (intr_may_by (last_verdict a) (sectors_left a) (λ clean. rw (clean, over clean) (none a.count)))

intr_adapter : (a seen : AdapterState) → IsAdapterSeen a seen → IsAdapterSeen (completed a) (completed seen)
intr_adapter a seen is = search rules

same_drive : (d : ℕ) → true && (d == d) && true ≡ true
same_drive d = grind arith

pub intr_line : (line u id : ℕ) (w : World) (s : Replay) (moved : ℕ) (last : Moved) → Sound w → Shows u w s → InHand w u id → At u id w s
    → IsBusyFor (adapter_at w (adapter_of u)).state (drive_of u) true → moved ≡ (adapter_at w (adapter_of u)).state.moved
    → last ≡ (adapter_at w (adapter_of u)).state.verdict → IsSaid line u id w s (deed.Intr moved last) moment.Intr
intr_line line u id w s moved last sound shows hand at busy count end =
    let h : Held = held_in w (slot_in_hand (unit_at w u)) in
    let v : UnitView = unit_at w u in
    let a : AdapterView = adapter_at w (adapter_of u) in
    let m : Moves w u = moves w u at.adapter_ok busy.busy busy.drive in
    let verdict : a.state.verdict ≡ last_verdict a.state = rw busy.completion refl in
    let waits : told.waits (s.units u).stage ≡ false = rw (at.core.stage, m.is.phase) refl in
    said_by line u id w s (deed.Intr moved last) moment.Intr sound shows hand at
    (record {
      service = at.service;
      talk = intr_talk h v a.state (s.units u) at.core m.is.phase
          (λ clean. m.is.whole busy.completion (verdict ∙ clean));
      drive = tt;
      adapter = rw (at.adapter.busy, at.adapter.drive, at.adapter.completion, busy.busy, busy.drive, busy.completion) (same_drive (drive_of u));
      verdict = tt;
    })
    (record {
      core = intr_core h v a.state (s.units u) (at_unit s u).state moved last at.core m.is.phase busy.completion count end;
      queue = refl;
      service = refl;
      kept = λ kind q held. kept_bus false kind q h held;
      ended = refl;
      declared = refl;
      adapter = intr_adapter a.state (at_unit s u).state at.adapter;
      ready = ready_plain u id w s (told.waits (unit_after s u moment.Intr).stage) shows at (λ e. grind (arith, m.is.phase, e)) (λ e. no waits e);
      apart = λ x other one phase. only_one w u x sound hand.unit other one phase busy.drive;
      noise = shows.noise;
      frames = shows.frames;
      outstanding = refl;
    })
