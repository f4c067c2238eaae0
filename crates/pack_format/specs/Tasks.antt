-- What is done with each sector of a pack, and what that comes to.
use Rattle.std.specs.Prelude.{◌≡◌, ◌≢◌, ◌⊎◌, ℕ, ◌-◌, ◌<◌, ◌≤◌, List, replicate}
use Rattle.pack_geometry.specs.declared.DriveKind.{DriveKind}
use Rattle.pack_geometry.specs.Geometry.{copy_at, limit_of}
use Rattle.pack_geometry.specs.Pack.{Pack}
use Rattle.pack_format.specs.testing.Stages.{Fills, IsTested, Stops, one}
use Rattle.pack_format.specs.declared.job.Task.{Task}
use Rattle.pack_format.specs.declared.job.Task.TheVariants.{Test, Put, Leave}

-- data blocks and so many replacements are tested, copies of the table are put there, and all else is left
abbrev pub IsTask : DriveKind → (spares sector : ℕ) → Task → Type 0
IsTask kind spares sector Test = (sector < limit_of kind) ⊎ ((copy_at kind 0 - spares ≤ sector) × (sector < copy_at kind 0))
IsTask kind spares sector Put = (k : ℕ) × (k < 5) × (sector ≡ copy_at kind k)
IsTask kind spares sector Leave =
    ((limit_of kind ≤ sector) × (sector < copy_at kind 0 - spares)) ⊎ ((copy_at kind 0 ≤ sector) × ((k : ℕ) → k < 5 → sector ≢ copy_at kind k))

-- the bytes that a task may write, by those of the table,
abbrev pub MayWrite : Task → (table : List ℕ) → List ℕ → Type 0
MayWrite Test table bytes = IsTested bytes
MayWrite Put table bytes = bytes ≡ table
MayWrite Leave table bytes = ⊥

-- what it leaves where it is done,
abbrev pub Did : Task → (unit sector : ℕ) → (table : List ℕ) → (old new : ℕ → Pack) → Type 0
Did Test unit sector table old new = Fills unit (one (old unit) sector) (replicate 512 0) old new
Did Put unit sector table old new = Fills unit (one (old unit) sector) table old new
Did Leave unit sector table old new = new ≡ old

-- and where it stopped
abbrev pub StopsAt : Task → (unit sector : ℕ) → (table : List ℕ) → (old new : ℕ → Pack) → Type 0
StopsAt Test unit sector table old new = Stops unit (one (old unit) sector) IsTested old new
StopsAt Put unit sector table old new = Stops unit (one (old unit) sector) (λ bytes. bytes ≡ table) old new
StopsAt Leave unit sector table old new = ⊥
