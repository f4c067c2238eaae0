-- If the packs failed at a block that was to be written, that block is the next block of a write, as the replay has it.
use Rattle.std.specs.Prelude.{◌≡◌, ℕ, Option, Some}
use Rattle.pack_geometry.specs.declared.DriveKind.{DriveKind}
use Rattle.pack_geometry.specs.Pack.{Pack, with_written}
use Rattle.trace_replay.specs.Packs.{sector_of_block}
use Rattle.trace_replay.specs.Replay.{Replay, AreLeft}
use Rattle.trace_replay.specs.Service.{in_hand}
use Rattle.driver_machine.specs.World.{World}
use Rattle.driver_machine.specs.Sound.{Sound}
use Rattle.driver_laws.specs.answers.Outcome.{IsNextBlock}
use Rattle.driver_laws.specs.shown.Within.{ShowsAll}
use Rattle.driver_laws.specs.shown.RunsRuns.{AreDeclared}
use Rattle.driver_laws.specs.rules.Beginnings.{IsNextSector, with_next}

-- THE BLOCK, of a unit that is declared: the packs are left as the replay has them with this block.
pub record HasNext (drives : ℕ → Option DriveKind) (old left : ℕ → Pack) (s : Replay) : Type 0 where
  pub unit : ℕ
  pub block : ℕ
  pub kind : DriveKind
  pub declared : drives unit ≡ Some kind
  pub next : IsNextSector (s.units unit) (old unit) block
  pub packs : AreLeft drives old left (with_next s unit block)

-- and just this block is written, with the bytes of that write.
pub record IsTorn (drives : ℕ → Option DriveKind) (old held left : ℕ → Pack) (s : Replay) : Type 0 where
  pub at : HasNext drives old left s
  pub is : left ≡ with_written held at.unit at.block (sector_of_block (in_hand (s.units at.unit).service) (s.units at.unit).progress.done)

-- so it is wherever the replay shows the driver's world
abbrev pub NextBlocksShow : Type 0
NextBlocksShow = (drives : ℕ → Option DriveKind) (old held left : ℕ → Pack) (s : Replay) (w : World) → Sound w → ShowsAll w s → AreDeclared drives w
    → AreLeft drives old held s.surface → IsNextBlock w held left → IsTorn drives old held left s
