-- What is played between the lines of the trace: a request joins or is refused, a condition changes, an answer is taken.
use Rattle.std.specs.Prelude.{◌≡◌, ℕ, Option, unwrap_or}
use Rattle.pack_geometry.specs.declared.DriveKind.{DriveKind}
use Rattle.pack_geometry.specs.declared.DriveKind.TheVariants.{Rp06}
use Rattle.pack_geometry.specs.TableSpelling.{Table}
use Rattle.driver_machine.specs.World.{World, new_unit, unit_at}
use Rattle.driver_machine.specs.Guards.{IsSetUp}

-- THE START. Where the drives and tables are those of the units that are set up, their replay shows the new world.
abbrev pub AreSetUp : (ℕ → Option DriveKind) → (ℕ → Option Table) → World → Type 0
AreSetUp drives tables w = (x : ℕ) → IsSetUp w x → unit_at w x ≡ new_unit (record { unit = x; kind = unwrap_or (drives x) Rp06; table = tables x })
