-- When a unit has to position before it transfers, and for what.
use Rattle.std.specs.Prelude.{ℕ, ◌+◌, ◌-◌, ◌%◌, ◌==◌, nat_le, Bool, ◌&&◌, if◌then◌else◌}
use Rattle.pack_geometry.specs.declared.DriveKind.{DriveKind}
use Rattle.pack_geometry.specs.declared.Place.{Place}
use Rattle.pack_geometry.specs.Geometry.{sectors_of}
use Rattle.trace_replay.specs.declared.seek_engine.Position.{Position}
use Rattle.trace_replay.specs.declared.seek_engine.Position.TheVariants.{Ready, Search, Seek}

-- how many sectors come by from one to another, on a track of so many
abbrev pub distance : ℕ → ℕ → ℕ → ℕ
distance sectors look target = (target + sectors - look) % sectors

-- the sector that stands this far in front of another
abbrev pub sector_before : ℕ → ℕ → ℕ → ℕ
sector_before sectors ahead target = (target + sectors - ahead) % sectors

-- soon enough to start at once, and not so soon that it has come by already
abbrev pub is_near : ℕ → Bool
is_near distance = nat_le 1 distance && nat_le distance 5

-- A first try starts where the unit is on the cylinder and the sector is near; else it searches three sectors ahead.
abbrev pub first_position : DriveKind → ℕ → ℕ → Place → Position
first_position kind here look target =
    if here == target.cylinder && is_near (distance (sectors_of kind) look target.sector)
    then Ready
    else Search target.cylinder (sector_before (sectors_of kind) 3 target.sector)

-- a later one needs only the cylinder
abbrev pub later_position : ℕ → Place → Position
later_position here target = if here == target.cylinder then Ready else Seek target.cylinder

abbrev pub position_for : DriveKind → ℕ → ℕ → Place → Bool → Position
position_for kind here look target first =
    if first then first_position kind here look target else later_position here target
