-- The units that are set up.
use Rattle.std.specs.Prelude.{List, map}
use Rattle.driver_machine.specs.World.{Setup}
use Rattle.hp_units.specs.declared.setup.UnitSetup.{UnitSetup}

-- what the setup of a unit says
abbrev pub setup_of : UnitSetup → Setup
setup_of s = record { unit = s.unit; kind = s.kind; table = s.table }

abbrev pub setups_of : List UnitSetup → List Setup
setups_of setups = map setup_of setups
