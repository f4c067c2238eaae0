-- The row of bits that says which units position.
use Rattle.std.specs.Prelude.{◌≡◌, ℕ, ◌<◌, ◌==◌, Bool, List, length, slice_index_or}
use Rattle.std.specs.Int.{bit_at}
use Rattle.driver_machine.specs.World.{UnitView, no_unit}
use Rattle.driver_machine.specs.Events.{can_arrive}

-- a unit by its number
abbrev pub unit_in : List UnitView → ℕ → UnitView
unit_in units u = slice_index_or units u no_unit

-- whether a bit of a row is on
abbrev pub is_on : ℕ → ℕ → Bool
is_on row u = bit_at row u == 1

-- there are 32 units, and bit u of the row says whether unit u positions
pub record IsRow (row : ℕ) (units : List UnitView) : Type 0 where
  pub size : length units ≡ 32
  pub bits : (u : ℕ) → u < 32 → is_on row u ≡ can_arrive (unit_in units u)
