use Rattle.std.proofs.Common.{◌≡◌, ℕ, ◌<◌, arith}
use Rattle.pack_geometry.specs.declared.DriveKind.{DriveKind}
use Rattle.pack_geometry.specs.declared.DriveKind.TheVariants.{Rp06}
use Rattle.pack_geometry.specs.declared.Place.{Place}
use Rattle.pack_geometry.specs.Geometry.{IsInside, block_count, block_number, place_at}
use Rattle.pack_geometry.proofs.place_law.Goals as goal

within : (kind : DriveKind) (block : ℕ) → block < block_count kind → IsInside kind (place_at kind block)
within Rp06 block small = record { cylinder = omega (arith, small); track = omega arith; sector = omega arith }
within other block small = record { cylinder = omega (arith, small); track = omega arith; sector = omega arith }

again : (kind : DriveKind) (block : ℕ) → block_number kind (place_at kind block) ≡ block
again Rp06 block = omega arith
again other block = omega arith

under : (kind : DriveKind) (place : Place) → IsInside kind place → block_number kind place < block_count kind
under Rp06 place at = omega (arith, at.cylinder, at.track, at.sector)
under other place at = omega (arith, at.cylinder, at.track, at.sector)

pub returns-clause-inside : goal.returns-clause-inside
returns-clause-inside c = λ block small. within c.args.kind block small

pub returns-clause-back : goal.returns-clause-back
returns-clause-back c = λ block small. again c.args.kind block

pub returns-clause-below : goal.returns-clause-below
returns-clause-below c = λ place at. under c.args.kind place at

same : {p q : Place} → p.cylinder ≡ q.cylinder → p.track ≡ q.track → p.sector ≡ q.sector → p ≡ q
same c t s = λ i. record { cylinder = c i; track = t i; sector = s i }

forth : (kind : DriveKind) (place : Place) → IsInside kind place → place_at kind (block_number kind place) ≡ place
forth Rp06 place at = same (omega (arith, at.track, at.sector)) (omega (arith, at.track, at.sector)) (omega (arith, at.sector))
forth other place at = same (omega (arith, at.track, at.sector)) (omega (arith, at.track, at.sector)) (omega (arith, at.sector))

pub returns-clause-forth : goal.returns-clause-forth
returns-clause-forth c = λ place at. forth c.args.kind place at
