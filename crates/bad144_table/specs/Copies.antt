-- The calls that read the table of a pack.
use Rattle.std.specs.Prelude.{◌≡◌, ℕ, ◌<◌}
use Rattle.pack_geometry.specs.declared.DriveKind.{DriveKind}
use Rattle.pack_geometry.specs.Geometry.{copy_at}
use Rattle.outside_traits.specs.declared.traits.PackCall.{PackCall}
use Rattle.outside_traits.specs.declared.traits.PackCall.TheVariants.{Block}

-- a call that is about one of the five copies of a unit's table, or about its mark
pub record IsAtCopy (kind : DriveKind) (unit : ℕ) (call : PackCall) : Type 0 where
  pub copy : ℕ
  pub is_copy : copy < 5
  pub at : call ≡ Block unit (copy_at kind copy)
