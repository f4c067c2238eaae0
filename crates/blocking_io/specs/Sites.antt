-- WHAT THE PACKS HOLD where a call stands, by a driver that is ready, and what is unchanged there.
use Rattle.std.specs.Prelude.{◌≡◌, ℕ, ◌≤◌}
use Rattle.pack_geometry.specs.declared.DriveKind.{DriveKind}
use Rattle.driver_laws.specs.rules.Machine.{Blocks}
use Rattle.driver_machine.specs.World.{World, unit_at}
use Rattle.driver_machine.specs.Guards.{IsSetUp}
use Rattle.driver_laws.specs.rules.Waited.{map_of, with_packs}
use Rattle.blocking_io.specs.FrontsPasses.{IsReady, Stage, State, setup_at}
use Rattle.blocking_io.specs.Fronts.{OthersStay}

-- the kind of a unit
abbrev pub kind_at : World → ℕ → DriveKind
kind_at w unit = (unit_at w unit).drive.kind

-- what the packs hold
abbrev pub map_at : Stage → ℕ → Blocks
map_at s = map_of (setup_at s)

-- and what they hold where it stopped, told by the units and tables of before
abbrev pub left_map : (old new : Stage) → ℕ → Blocks
left_map old new = map_of (with_packs (setup_at old) new.held)

pub record IsUnchanged (old new : Stage) : Type 0 where
  pub map : map_at new ≡ map_at old

-- nothing is changed at all
pub record IsUntouched (old new : Stage) : Type 0 where
  pub map : (u block : ℕ) → left_map old new u block ≡ map_at old u block
  pub others : OthersStay (setup_at old) new.held

-- WHAT MAY BE ASKED of a driver that is ready: whole blocks inside a partition of a unit that is set up.
pub record MayTransfer (s : State) (unit : ℕ) : Type 0 where
  pub ready : IsReady s
  pub room : 1 ≤ s.outstanding
  pub unit_is : IsSetUp s.world unit
