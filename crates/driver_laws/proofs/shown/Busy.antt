-- A unit for which its adapter transfers is the only one of its adapter.
use Rattle.std.proofs.Common.{◌≡◌, ◌≢◌, ◌<◌, ℕ, Bool, true, rules}
use Rattle.pack_geometry.specs.declared.DriveKind.{DriveKind}
use Rattle.hardware_table.specs.Adapter.{AdapterState}
use Rattle.trace_replay.specs.requests.Requests.{Request}
use Rattle.driver_machine.specs.declared.Phase.TheVariants as phases
use Rattle.driver_machine.specs.World.{World, Held, drive_of, adapter_of, unit_at, adapter_at}
use Rattle.driver_machine.specs.Guards.{IsHeldFor}
use Rattle.driver_machine.specs.Sound.{Sound, AdapterOk, Transfers}

pub record IsBusyWith (a : AdapterState) (x : ℕ) : Type 0 where
  pub busy : a.busy ≡ true
  pub drive : a.drive ≡ drive_of x

-- a unit that transfers has its adapter
pub busy_with : (w : World) (u x : ℕ) → Sound w → u < 32 → adapter_of x ≡ adapter_of u → (unit_at w x).phase ≡ phases.Transferring
    → IsBusyWith (adapter_at w (adapter_of u)).state x
busy_with w u x sound small same phase = search rules

pub only_one : (w : World) (u x : ℕ) → Sound w → u < 32 → x ≢ u → adapter_of x ≡ adapter_of u → (unit_at w x).phase ≡ phases.Transferring
    → (adapter_at w (adapter_of u)).state.drive ≡ drive_of u → {P : Type 0} → P
only_one w u x sound small other same phase drive = search rules

-- the transfer of the unit for which its adapter is busy
pub record Moves (w : World) (u : ℕ) : Type 0 where
  pub held : Held
  pub is : Transfers w u held (adapter_at w (adapter_of u)).state

pub moves : (w : World) (u : ℕ) → AdapterOk w (adapter_of u) (adapter_at w (adapter_of u)) → (adapter_at w (adapter_of u)).state.busy ≡ true
    → (adapter_at w (adapter_of u)).state.drive ≡ drive_of u → Moves w u
moves w u ok busy drive = search rules

-- the same request
pub kept_bus : (b : Bool) (kind : DriveKind) (q : Request) (h : Held) → IsHeldFor kind q h → IsHeldFor kind q (record h { on_bus = b })
kept_bus b kind q h is = search rules
