-- The setups of a world.
use Rattle.std.specs.Prelude.{◌≡◌, ℕ, ◌<◌, List, map, Some, Contains}
use Rattle.pack_geometry.specs.TableSpelling.{Table}
use Rattle.driver_machine.specs.World.{Setup}
use Rattle.driver_machine.specs.Sound.{Once, IsTableFor}

-- SETUPS of units that differ, each below 32 and with a table for its kind where it has one
abbrev pub units_of : List Setup → List ℕ
units_of setups = map (λ (s : Setup). s.unit) setups

pub record AreSetups (setups : List Setup) : Type 0 where
  pub differ : Once (units_of setups)
  pub small : (s : Setup) → Contains setups s → s.unit < 32
  pub tables : (s : Setup) (table : Table) → Contains setups s → s.table ≡ Some table → IsTableFor s.kind table
