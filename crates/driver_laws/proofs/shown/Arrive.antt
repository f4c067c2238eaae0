-- A POSITIONING ENDS: its line may be said, and what it leaves is shown.
use Rattle.std.proofs.Common.{◌≡◌, ℕ, [], Bool, true, false, refl, if◌then◌else◌, sym, ap, subst, arith, rules}
use Rattle.hardware_table.specs.declared.Work.TheVariants as work
use Rattle.hardware_table.specs.declared.Work.{Work}
use Rattle.hardware_table.specs.Adapter.{AdapterState, attention_raised}
use Rattle.hardware_table.specs.Drive.{is_positioning}
use Rattle.hardware_table.specs.Events.{arrived}
use Rattle.trace_replay.specs.Replay.{UnitSeen, Replay, at_unit, unit_after}
use Rattle.trace_replay.specs.Conversation as told
use Rattle.trace_replay.specs.Moments as moment
use Rattle.trace_replay.specs.Adapters as rule
use Rattle.driver_machine.specs.declared.Phase.{Phase}
use Rattle.driver_machine.specs.declared.Task.TheVariants as tasks
use Rattle.driver_machine.specs.declared.Phase.TheVariants.{Positioning}
use Rattle.driver_machine.specs.declared.Phase.TheVariants as phases
use Rattle.driver_machine.specs.World.{World, UnitView, AdapterView, Held, slot_in_hand, drive_of, adapter_of, unit_at, adapter_at, held_in}
use Rattle.driver_machine.specs.Guards.{InHand}
use Rattle.driver_machine.specs.Acts.{with_drive}
use Rattle.driver_machine.specs.Acts as deed
use Rattle.driver_machine.specs.Sound.{Sound, IsPhase}
use Rattle.driver_laws.specs.shown.Shows.{IsAdapterSeen}
use Rattle.driver_laws.proofs.shown.Told.{seen_told}
use Rattle.driver_laws.proofs.shown.Core.{Core}
use Rattle.driver_laws.proofs.shown.Facts.{At}
use Rattle.driver_laws.proofs.shown.Plain.{ready_plain}
use Rattle.driver_laws.proofs.shown.DeedFacts.{no, said_by}
use Rattle.driver_laws.proofs.shown.Showing.{Shows, is_coming, with_coming, IsSaid}

-- Where the unit positions, its adapter does not count.
arrive_core : (h : Held) (v : UnitView) (a c : AdapterState) (seen : UnitSeen) (b : AdapterState) (taken : ℕ)
    → Core h v a seen → v.phase ≡ Positioning taken
    → Core h (with_drive arrived v) c (seen_told seen b moment.Arrive [])
arrive_core h v a c seen b taken is phase = search rules

pub arrive_talk : (h : Held) (v : UnitView) (a : AdapterState) (seen : UnitSeen) (taken : ℕ)
    → Core h v a seen → v.phase ≡ Positioning taken → told.is_under_way seen.stage ≡ true
arrive_talk h v a seen taken is phase = rw (is.stage, phase) refl

arrive_adapter : (drive : ℕ) (a seen : AdapterState) → IsAdapterSeen a seen → IsAdapterSeen (attention_raised drive a) (attention_raised drive seen)
arrive_adapter drive a seen is = search rules

-- A POSITIONING DRIVE is that of a unit that positions.
pub record IsPositioning (v : UnitView) : Type 0 where
  pub taken : ℕ
  pub phase : v.phase ≡ phases.Positioning taken

still : (w : Work) → w ≡ work.Ready → is_positioning w ≡ true → {P : Type 0} → P
still w is on = no (ap is_positioning is) on

moving_still : (b write : Bool) (w : Work) → w ≡ (if b then work.Ready else work.Transfer write) → is_positioning w ≡ true → {P : Type 0} → P
moving_still true write w is on = no (ap is_positioning is) on
moving_still false write w is on = no (ap is_positioning is) on

pub positioning_is : (u : ℕ) (v : UnitView) (a : AdapterView) (h : Held) (phase : Phase) → v.phase ≡ phase → IsPhase u v a h phase
    → is_positioning v.drive.work ≡ true → IsPositioning v
positioning_is u v a h (phases.Positioning taken) phase is on = record { taken = taken; phase = phase }
positioning_is u v a h phases.Waiting phase is on = still v.drive.work is.0.work on
positioning_is u v a h phases.Queued phase is on = still v.drive.work is.1.work on
positioning_is u v a h phases.Transferring phase is on = moving_still a.state.completion a.state.write v.drive.work is.1.work on
positioning_is u v a h (phases.Due (tasks.Clear moved last)) phase is on = still v.drive.work is.1.work on
positioning_is u v a h (phases.Due (tasks.Judge moved last)) phase is on = still v.drive.work is.1.work on
positioning_is u v a h (phases.Due (tasks.Steps taken)) phase is on = still v.drive.work is.1.work on
positioning_is u v a h (phases.Due tasks.Command) phase is on = still v.drive.work is.1.work on
positioning_is u v a h (phases.Due (tasks.GiveUp done)) phase is on = still v.drive.work is.1.work on

pub arrive_line : (line u id : ℕ) (w : World) (s : Replay) → Sound w → Shows u w s → InHand w u id → At u id w s
    → is_positioning (unit_at w u).drive.work ≡ true → IsSaid line u id w s deed.Arrive moment.Arrive
arrive_line line u id w s sound shows hand at may =
    let h : Held = held_in w (slot_in_hand (unit_at w u)) in
    let v : UnitView = unit_at w u in
    let a : AdapterView = adapter_at w (adapter_of u) in
    let is : IsPositioning v = positioning_is u v a h v.phase refl at.ok.phase may in
    let waits : told.waits (s.units u).stage ≡ false = rw (at.core.stage, is.phase) refl in
    said_by line u id w s deed.Arrive moment.Arrive sound shows hand at
    (record {
      service = at.service;
      talk = arrive_talk h v a.state (s.units u) is.taken at.core is.phase;
      drive = rw at.core.drive may;
      adapter = tt;
      verdict = tt;
    })
    (record {
      core = arrive_core h v a.state (attention_raised (drive_of u) a.state) (s.units u) (at_unit s u).state is.taken at.core is.phase;
      queue = refl;
      service = refl;
      kept = λ kind q held. held;
      ended = refl;
      declared = refl;
      adapter = arrive_adapter (drive_of u) a.state (at_unit s u).state at.adapter;
      ready =
          subst (λ ph. rule.with_ready (told.waits (unit_after s u moment.Arrive).stage) u (at_unit s u).ready
          ≡ with_coming (is_coming ph (unit_after s u moment.Arrive).stage) u a.queue) (sym is.phase)
          (ready_plain u id w s (told.waits (unit_after s u moment.Arrive).stage) shows at (λ e. grind (arith, is.phase, e)) (λ e. no waits e));
      apart = λ x other one phase. record { completion = refl; verdict = refl; count = refl; moved = refl };
      noise = shows.noise;
      frames = shows.frames;
      outstanding = refl;
    })
