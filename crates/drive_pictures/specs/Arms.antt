-- The arm of a drive.
use Rattle.std.specs.Prelude.{ℕ, min, max, Option, Some, None}
use Rattle.drive_pictures.specs.declared.arms.Path.{Path}
use Rattle.drive_pictures.specs.declared.arms.Arm.{Arm}
use Rattle.drive_pictures.specs.Counts.{plus, apart}

-- a path, and one behind it
abbrev pub paths_joined : Option Path → Option Path → Option Path
paths_joined None behind = behind
paths_joined (Some before) None = Some before
paths_joined (Some before) (Some after) = Some (record {
  first = before.first;
  lowest = min before.lowest after.lowest;
  highest = max before.highest after.highest;
  last = after.last;
})

abbrev pub new_arm : Arm
new_arm = record { cylinder = 0; target = 0; travel = 0; path = None }

-- IT IS SEEN where it is
abbrev pub seen_at : Arm → Arm
seen_at arm = record arm {
  path = paths_joined arm.path (Some (record { first = arm.cylinder; lowest = arm.cylinder; highest = arm.cylinder; last = arm.cylinder }));
}

-- it is seen where it is, and goes to a cylinder
abbrev pub sent : ℕ → Arm → Arm
sent target arm = record (seen_at arm) { target = target }

-- IT REACHES A CYLINDER, and has moved over those between
abbrev pub reached : ℕ → Arm → Arm
reached cylinder arm = seen_at (record arm { cylinder = cylinder; travel = plus arm.travel (apart cylinder arm.cylinder) })
