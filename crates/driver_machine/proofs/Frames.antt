use Rattle.std.specs.Prelude.{◌≡◌}
use Rattle.driver_machine.specs.Acts.{Scene}

-- What a deed at a unit leaves of the world.

-- WHAT STAYS of the unit and of the request.
pub record IsSame (old new : Scene) : Type 0 where
  pub declared : new.unit.declared ≡ old.unit.declared
  pub table : new.unit.table ≡ old.unit.table
  pub kind : new.unit.drive.kind ≡ old.unit.drive.kind
  pub id : new.held.id ≡ old.held.id
  pub unit : new.held.unit ≡ old.held.unit
  pub first : new.held.first ≡ old.held.first
  pub write : new.held.write ≡ old.held.write
  pub loan : new.held.loan ≡ old.held.loan
