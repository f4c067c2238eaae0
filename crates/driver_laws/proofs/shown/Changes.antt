-- Conditions that change, noise that is armed, refusals, and answers that are taken.
use Rattle.std.proofs.Common.{◌≡◌, ◌≢◌, ℕ, ◌==◌, ◌<◌, Bool, length, refl, sym, ap, subst, ◌∙◌, get_or-set_other, rules}
use Rattle.std.proofs.lemmas.List.{get_or-set_same}
use Rattle.std.specs.Prelude.{if◌then◌else◌}
use Rattle.hardware_table.specs.declared.FaultKind.{FaultKind}
use Rattle.hardware_table.specs.Drive.{DriveState}
use Rattle.hardware_table.specs.Noise.{LiveNoise}
use Rattle.hardware_table.specs.Events.{turned, fault_armed, online_set, locked_set}
use Rattle.hardware_table.specs.Adapter.{AdapterState}
use Rattle.trace_replay.specs.Script as script
use Rattle.trace_replay.specs.Adapters.{AdapterSeen}
use Rattle.trace_replay.specs.Replay.{UnitSeen, Replay, replay_played}
use Rattle.driver_machine.specs.World.{World, UnitView, Held, adapter_of, no_unit, unit_at, adapter_at, held_in}
use Rattle.driver_machine.specs.Acts.{with_drive, with_unit_drive, changed}
use Rattle.driver_machine.specs.Guards.{IsSetUp}
use Rattle.driver_machine.specs.Sound.{Sound, WorkOf}
use Rattle.driver_laws.specs.shown.Shows.{IsUnitSeen, IsAdapterSeen}
use Rattle.trace_replay.proofs.Kept.{online_kind}
use Rattle.driver_laws.proofs.shown.AdapterQueues.{either}
use Rattle.driver_laws.proofs.shown.Showing.{Shows, is_coming, with_coming}

drive_changed : (held : ℕ → Held) (v : UnitView) (a : AdapterState) (seen : UnitSeen) (d : DriveState) → d.kind ≡ v.drive.kind → WorkOf v.phase v.queue
    → IsUnitSeen held v a seen → IsUnitSeen held (record v { drive = d }) a (record seen { drive = d })
drive_changed held v a seen d kind at is = search rules

-- THE DRIVE of a unit that is at work changes.
module _ (u x : ℕ) (f : DriveState → DriveState) (w : World) (s r : Replay) (kind : (d : DriveState) → (f d).kind ≡ d.kind) (small : x < 32)
    (units : length w.units ≡ 32) (work : WorkOf (unit_at w x).phase (unit_at w x).queue) (shows : Shows u w s)
    (own : r.units x ≡ record (s.units x) { drive = f (s.units x).drive }) (others : (y : ℕ) → y ≢ x → r.units y ≡ s.units y)
    (adapters : (a : ℕ) → r.adapters a ≡ s.adapters a) (surface : r.surface.live ≡ s.surface.live) (frames : r.frames ≡ s.frames)
    (outstanding : r.outstanding ≡ s.outstanding) where
  own_unit : unit_at (with_unit_drive x f w) x ≡ with_drive f (unit_at w x)
  own_unit = get_or-set_same w.units x (with_drive f (unit_at w x)) no_unit (subst (λ n. x < n) (sym units) small)

  other_unit : (y : ℕ) → y ≢ x → unit_at (with_unit_drive x f w) y ≡ unit_at w y
  other_unit y other = get_or-set_other w.units x y (with_drive f (unit_at w x)) no_unit other

  phase_same : (y : ℕ) → (unit_at (with_unit_drive x f w) y).phase ≡ (unit_at w y).phase
  phase_same y =
      either y x (λ e same. subst (λ z. (unit_at (with_unit_drive x f w) z).phase ≡ (unit_at w z).phase) (sym same) (ap (λ (v : UnitView). v.phase) own_unit))
      (λ e other. ap (λ (v : UnitView). v.phase) (other_unit y other))

  stage_same : (y : ℕ) → (r.units y).stage ≡ (s.units y).stage
  stage_same y = search rules

  own_seen : IsSetUp w x → IsUnitSeen (held_in w) (unit_at (with_unit_drive x f w) x) (adapter_at w (adapter_of x)).state (r.units x)
  own_seen set =
      let is : IsUnitSeen (held_in w) (unit_at w x) (adapter_at w (adapter_of x)).state (s.units x) = shows.units x set in
      let drive : f (unit_at w x).drive ≡ f (s.units x).drive = ap f (sym is.drive) in
      subst (λ v. IsUnitSeen (held_in w) v (adapter_at w (adapter_of x)).state (r.units x)) (sym own_unit)
      (subst (λ n. IsUnitSeen (held_in w) (with_drive f (unit_at w x)) (adapter_at w (adapter_of x)).state n) (sym own)
      (subst (λ d. IsUnitSeen (held_in w) (with_drive f (unit_at w x)) (adapter_at w (adapter_of x)).state (record (s.units x) { drive = d })) drive
      (drive_changed (held_in w) (unit_at w x) (adapter_at w (adapter_of x)).state (s.units x) (f (unit_at w x).drive) (kind (unit_at w x).drive) work is)))

  each_seen : (y : ℕ) → IsSetUp (with_unit_drive x f w) y
      → IsUnitSeen (held_in w) (unit_at (with_unit_drive x f w) y) (adapter_at w (adapter_of y)).state (r.units y)
  each_seen y set =
      either y x
      (λ e same. subst (λ z. IsUnitSeen (held_in w) (unit_at (with_unit_drive x f w) z) (adapter_at w (adapter_of z)).state (r.units z)) (sym same)
      (own_seen (record {
        unit = small;
        declared = ap (λ (v : UnitView). v.declared) (sym own_unit) ∙ ap (λ z. (unit_at (with_unit_drive x f w) z).declared) (sym same) ∙ set.declared;
      })))
      (λ e other. subst (λ v. IsUnitSeen (held_in w) v (adapter_at w (adapter_of y)).state (r.units y)) (sym (other_unit y other))
      (subst (IsUnitSeen (held_in w) (unit_at w y) (adapter_at w (adapter_of y)).state) (sym (others y other))
      (shows.units y (record { unit = set.unit; declared = ap (λ (v : UnitView). v.declared) (sym (other_unit y other)) ∙ set.declared }))))

  pub drive_shows : Shows u (with_unit_drive x f w) r
  drive_shows = record {
    units = each_seen;
    adapters = λ a less. subst (λ (b : AdapterSeen). IsAdapterSeen (adapter_at w a).state b.state) (sym (adapters a)) (shows.adapters a less);
    own_ready =
        ap (λ (b : AdapterSeen). b.ready) (adapters (adapter_of u)) ∙ shows.own_ready
        ∙ ap (λ ph. with_coming (is_coming ph (s.units u).stage) u (adapter_at w (adapter_of u)).queue) (sym (phase_same u))
        ∙ ap (λ st. with_coming (is_coming (unit_at (with_unit_drive x f w) u).phase st) u (adapter_at w (adapter_of u)).queue) (sym (stage_same u));
    other_ready = λ a less other. ap (λ (b : AdapterSeen). b.ready) (adapters a) ∙ shows.other_ready a less other;
    noise = surface ∙ shows.noise;
    frames = frames ∙ shows.frames;
    outstanding = outstanding ∙ shows.outstanding;
  }

-- the conditions, one by one
played_by : (y x : ℕ) (seen : UnitSeen) (d : DriveState) → (y ≡ x → ⊥) → record seen { drive = if y == x then d else seen.drive } ≡ seen
played_by y x seen d other = either y x (λ e same. absurd (other same)) (λ e apart. rw e refl)

played_own : (x : ℕ) (seen : UnitSeen) (d : DriveState) → record seen { drive = if x == x then d else seen.drive } ≡ record seen { drive = d }
played_own x seen d = either x x (λ e same. rw e refl) (λ e apart. absurd (apart refl))

pub turn_shows : (u x sector : ℕ) (w : World) (s : Replay) → Sound w → IsSetUp w x → WorkOf (unit_at w x).phase (unit_at w x).queue → Shows u w s
    → Shows u (changed (script.Turn x sector) w) (replay_played s (script.Turn x sector))
turn_shows u x sector w s sound set work shows =
    drive_shows u x (turned sector) w s (replay_played s (script.Turn x sector)) (λ d. refl) set.unit sound.units work shows
    (played_own x (s.units x) (turned sector (s.units x).drive)) (λ y other. played_by y x (s.units y) (turned sector (s.units y).drive) other)
    (λ a. refl) refl refl refl

pub arm_shows : (u x : ℕ) (kind : FaultKind) (times : ℕ) (w : World) (s : Replay) → Sound w → IsSetUp w x → WorkOf (unit_at w x).phase (unit_at w x).queue → Shows u w s
    → Shows u (changed (script.Arm x kind times) w) (replay_played s (script.Arm x kind times))
arm_shows u x kind times w s sound set work shows =
    drive_shows u x (fault_armed kind times) w s (replay_played s (script.Arm x kind times)) (λ d. refl) set.unit sound.units work shows
    (played_own x (s.units x) (fault_armed kind times (s.units x).drive)) (λ y other. played_by y x (s.units y) (fault_armed kind times (s.units y).drive) other)
    (λ a. refl) refl refl refl

pub online_shows : (u x : ℕ) (on : Bool) (w : World) (s : Replay) → Sound w → IsSetUp w x → WorkOf (unit_at w x).phase (unit_at w x).queue → Shows u w s
    → Shows u (changed (script.SetOnline x on) w) (replay_played s (script.SetOnline x on))
online_shows u x on w s sound set work shows =
    drive_shows u x (online_set on) w s (replay_played s (script.SetOnline x on)) (online_kind on) set.unit sound.units work shows
    (played_own x (s.units x) (online_set on (s.units x).drive)) (λ y other. played_by y x (s.units y) (online_set on (s.units y).drive) other)
    (λ a. refl) refl refl refl

pub locked_shows : (u x : ℕ) (on : Bool) (w : World) (s : Replay) → Sound w → IsSetUp w x → WorkOf (unit_at w x).phase (unit_at w x).queue → Shows u w s
    → Shows u (changed (script.SetLocked x on) w) (replay_played s (script.SetLocked x on))
locked_shows u x on w s sound set work shows =
    drive_shows u x (locked_set on) w s (replay_played s (script.SetLocked x on)) (λ d. refl) set.unit sound.units work shows
    (played_own x (s.units x) (locked_set on (s.units x).drive)) (λ y other. played_by y x (s.units y) (locked_set on (s.units y).drive) other)
    (λ a. refl) refl refl refl

-- a unit as it is, in a world with the same units, adapters and slots
pub noise_shows : (u : ℕ) (noise : LiveNoise) (w : World) (s : Replay) → Shows u w s
    → Shows u (changed (script.Noise noise) w) (replay_played s (script.Noise noise))
noise_shows u noise w s shows = search rules
