-- What each call keeps of the driver's bytes, for any map that the driver stands for with its packs.
use Rattle.std.specs.Prelude.{◌≡◌, ◌≢◌, ℕ, ◌+◌, ◌<◌, Bool, IsTrue, List, [], length, Option, Some}
use Rattle.pack_geometry.specs.Pack.{Pack}
use Rattle.hardware_table.specs.Noise.{LiveNoise}
use Rattle.trace_replay.specs.Script.{Input}
use Rattle.driver_laws.specs.rules.Machine.{Blocks}
use Rattle.driver_laws.specs.rules.Stands.{armed_by, is_sure_among}
use Rattle.driver_machine.specs.declared.Made.{Made}
use Rattle.driver_machine.specs.World.{World, unit_at, held_in, block_in}
use Rattle.driver_machine.specs.Acts.{Taken, after}
use Rattle.driver_machine.specs.Sound.{AtWork}
use Rattle.driver_laws.specs.declared.answers.outcome.Stop.{Stop}
use Rattle.driver_laws.specs.declared.answers.outcome.Stop.TheVariants.{Store}
use Rattle.driver_laws.specs.shown.Bytes.{IsSureFor, asked_of, Bears}
use Rattle.driver_laws.specs.shown.QuietLaws.{Rests, contents_in, maps_taken}
use Rattle.hp_driver.specs.Subsystem.{IsOldest, Reads}

-- WITH NOTHING OUTSTANDING the driver stands for what its packs hold, whatever led to it; so does a new one.
abbrev pub StandsAtRest : World → Type 0
StandsAtRest w = (held : ℕ → Pack) → Rests w held → Bears [] w held (contents_in w held)

-- A SUBMISSION keeps each map, whatever the packs hold,
abbrev pub KeepsMaps : World → World → Type 0
KeepsMaps old new = (armed : List LiveNoise) (held : ℕ → Pack) (maps : ℕ → Blocks) → Bears armed old held maps → Bears armed new held maps

-- and so does an event, with what the packs hold behind it, unless these failed; the noise that it arms may be an alias.
abbrev pub KeepsMapsIn : (told : Bool) → (held left : ℕ → Pack) → Input → World → World → Option Stop → Type 0
KeepsMapsIn told held left input old new stop = IsTrue told → stop ≢ Some Store
    → (armed : List LiveNoise) (maps : ℕ → Blocks) → Bears armed old held maps → Bears (armed_by armed input) new left maps

-- WHAT A DRIVER HOLDS of each map. The oldest answer, if it is that of a read, gives the blocks of the map, where no alias was armed at a
-- home of its request;
abbrev pub GivesOfMaps : World → Type 0
GivesOfMaps w = (k : ℕ) (armed : List LiveNoise) (held : ℕ → Pack) (maps : ℕ → Blocks) (made : Made) (p : ℕ) → Reads w k → Bears armed w held maps → IsOldest w made
    → made.slot ≡ Some p
    → IsSureFor (is_sure_among armed (held_in w p).unit) (unit_at w (held_in w p).unit).drive.kind (unit_at w (held_in w p).unit).table
    (held (held_in w p).unit) (held_in w p)
    → block_in (held_in w p) k ≡ asked_of (held_in w p) k (maps (held_in w p).unit ((held_in w p).first + k))

-- and once it is taken the driver stands for the map behind it.
abbrev pub GoesToMaps : World → Type 0
GoesToMaps w = (armed : List LiveNoise) (held : ℕ → Pack) (maps : ℕ → Blocks) → 0 < length w.answers → Bears armed w held maps
    → Bears armed (after w Taken) held (maps_taken w w.answers maps)

pub record HoldsMaps (w : World) : Type 0 where
  pub rest : AtWork w → StandsAtRest w
  pub gives : GivesOfMaps w
  pub taken : GoesToMaps w
