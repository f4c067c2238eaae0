-- Each partition ends at or below the limit.
use Rattle.std.proofs.Common.{◌≤◌, ◌+◌, arith}
use Rattle.pack_geometry.specs.declared.DriveKind.{DriveKind}
use Rattle.pack_geometry.specs.declared.DriveKind.TheVariants.{Rp06, Rm03, Rm05}
use Rattle.pack_geometry.specs.Geometry.{limit_of}
use Rattle.partitions.specs.declared.Part.{Part}
use Rattle.partitions.specs.declared.Part.TheVariants.{A, B, C, D, E, F, G, H}
use Rattle.partitions.specs.Partitions.{first_of, size_of}

pub part_ends : (kind : DriveKind) (part : Part) → first_of kind part + size_of kind part ≤ limit_of kind
part_ends Rp06 A = omega arith
part_ends Rp06 B = omega arith
part_ends Rp06 C = omega arith
part_ends Rp06 D = omega arith
part_ends Rp06 E = omega arith
part_ends Rp06 F = omega arith
part_ends Rp06 G = omega arith
part_ends Rp06 H = omega arith
part_ends Rm03 A = omega arith
part_ends Rm03 B = omega arith
part_ends Rm03 C = omega arith
part_ends Rm03 D = omega arith
part_ends Rm03 E = omega arith
part_ends Rm03 F = omega arith
part_ends Rm03 G = omega arith
part_ends Rm03 H = omega arith
part_ends Rm05 A = omega arith
part_ends Rm05 B = omega arith
part_ends Rm05 C = omega arith
part_ends Rm05 D = omega arith
part_ends Rm05 E = omega arith
part_ends Rm05 F = omega arith
part_ends Rm05 G = omega arith
part_ends Rm05 H = omega arith
