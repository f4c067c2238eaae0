-- WHOLE BLOCKS of a partition, read or written by requests that are waited for.
use Rattle.std.specs.Prelude.{◌≡◌, ℕ, ◌+◌, ◌*◌, ◌<◌, ◌≤◌, IsTrue, true, false, List}
use Rattle.trace_replay.specs.requests.Requests.{Request}
use Rattle.driver_laws.specs.rules.Sessions.{told_in}
use Rattle.driver_laws.specs.rules.Rest.{HasTables}
use Rattle.blocking_io.specs.FrontsPasses.{Stage, State, setup_at}
use Rattle.driver_laws.specs.rules.Laid.{laid}
use Rattle.driver_laws.specs.rules.Pieces.{Reaches}
use Rattle.driver_laws.specs.rules.Bytes.{range}
use Rattle.raw_io.specs.Transfers.{Transfers, AreClean}
use Rattle.blocking_io.specs.Sites.{IsUnchanged, MayTransfer, kind_at, map_at}
use Rattle.blocking_io.specs.Blocks.{AreBlocks, PutsBlocks, ReadsOnce, origin}

-- WHAT MAY BE MOVED by a driver that is ready: whole blocks inside a partition of a unit that is set up.
pub record MayMove (s : State) (r : Request) : Type 0 where
  pub may : MayTransfer s r.unit
  pub blocks : AreBlocks (kind_at s.world r.unit) r

pub record Reads (r : Request) (n : ℕ) (into into' : List ℕ) (old new : Stage) : Type 0 where
  pub few : n ≤ r.count
  pub transfers : Transfers true r.unit r.part old new
  pub told : IsTrue new.packs_tell → HasTables (setup_at old) → ReadsOnce r n into into' old new
  pub clean : IsTrue new.packs_tell → HasTables (setup_at old) → AreClean r.unit (origin old r + r.block) (λ k. k < n) (told_in transfers.parts) old

-- THE BLOCKS that can be used are given.
pub record GivesBlocks (r : Request) (n : ℕ) (into into' : List ℕ) (old new : Stage) : Type 0 where
  pub reaches : Reaches (map_at old r.unit) (origin old r + r.block) r.count n
  pub bytes : into' ≡ laid (range (512 * n) (map_at old r.unit) (origin old r) (512 * r.block)) into
  pub same : IsUnchanged old new

pub record Gives (r : Request) (n : ℕ) (into into' : List ℕ) (old new : Stage) : Type 0 where
  pub few : n ≤ r.count
  pub transfers : Transfers true r.unit r.part old new
  pub told : IsTrue new.packs_tell → HasTables (setup_at old) → GivesBlocks r n into into' old new
  pub clean : IsTrue new.packs_tell → HasTables (setup_at old) → AreClean r.unit (origin old r + r.block) (λ k. k < n) (told_in transfers.parts) old

pub record Puts (r : Request) (n : ℕ) (old new : Stage) : Type 0 where
  pub few : n ≤ r.count
  pub transfers : Transfers false r.unit r.part old new
  pub told : IsTrue new.packs_tell → HasTables (setup_at old) → PutsBlocks r n old new
