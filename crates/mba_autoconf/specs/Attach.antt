-- What attaching leaves of a drive, and what it gives.
use Rattle.std.specs.Prelude.{◌≡◌, ◌⊎◌, ℕ, ◌<◌, ◌≤◌, ◌*◌, length, Result, Ok, Err}
use Rattle.pack_geometry.specs.declared.DriveKind.{DriveKind}
use Rattle.pack_geometry.specs.Geometry.{block_count}
use Rattle.pack_geometry.specs.Pack.{Pack}
use Rattle.pack_geometry.specs.PackTable.{IsTableOf}
use Rattle.outside_traits.specs.declared.traits.PackCall.{PackCall}
use Rattle.outside_traits.specs.declared.traits.PackCall.TheVariants.{Length}
use Rattle.bad144_table.specs.Copies.{IsAtCopy}
use Rattle.mba_autoconf.specs.declared.attaching.Attached.{Attached}
use Rattle.mba_autoconf.specs.declared.attaching.AttachFault.{AttachFault}
use Rattle.mba_autoconf.specs.declared.attaching.AttachFault.TheVariants.{TooLong, Store}

-- the image has no more bytes than the blocks of a drive of this kind
abbrev pub Fits : DriveKind → Pack → Type 0
Fits kind pack = length pack.image ≤ 512 * block_count kind

-- an image that is too long has more
abbrev pub IsLong : DriveKind → AttachFault → Type 0
IsLong kind (TooLong n) = 512 * block_count kind < n
IsLong kind Store = Unit {0}

-- The image fits, and the table is the pack's; or the image is longer than it may be. A failure of the packs says nothing.
abbrev pub Answers : DriveKind → Pack → Result Attached AttachFault → Type 0
Answers kind pack (Ok unit) = Fits kind pack × IsTableOf kind pack unit.table
Answers kind pack (Err (TooLong n)) = (n ≡ length pack.image) × (512 * block_count kind < n)
Answers kind pack (Err Store) = Unit {0}

-- attaching makes two calls of the packs alone: it asks how long the unit's image is, and what the copies of its table hold
abbrev pub IsAttaching : DriveKind → ℕ → PackCall → Type 0
IsAttaching kind unit call = (call ≡ Length unit) ⊎ IsAtCopy kind unit call
