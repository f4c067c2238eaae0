-- A REPLAY AT REST over packs: no request is outstanding, no request is begun, nothing hinders, and drives, tables and sectors are
-- those of the packs. The start of a script over the packs as they then are is such a replay. Any other one differs from this start
-- only in the places of the heads, in registers that no rule asks for, and in the number of the last line.
use Rattle.std.specs.Prelude.{◌≡◌, ℕ}
use Rattle.pack_geometry.specs.Pack as model
use Rattle.pack_geometry.specs.PackTable.{AreTablesOf}
use Rattle.trace_replay.specs.Events.{NoLine}
use Rattle.trace_replay.specs.Replay.{Replay, next_wish}
use Rattle.driver_laws.specs.rules.Drains.{IsIdle}
use Rattle.driver_laws.specs.rules.Machine.{kind_of}
use Rattle.driver_laws.specs.rules.Stands.{Setup, start_over}
use Rattle.driver_laws.specs.rules.Calm.{IsCalm}

pub record IsAtRest (setup : Setup) (s : Replay) : Type 0 where
  pub kinds : (unit : ℕ) → (s.units unit).drive.kind ≡ kind_of setup.drives unit
  pub tables : (unit : ℕ) → (s.units unit).table ≡ setup.tables unit
  pub idle : IsIdle s
  pub sectors : (unit block : ℕ) → s.surface.sector unit block ≡ model.block_at (setup.packs unit).image block
  pub marks : (unit block : ℕ) → s.surface.is_marked unit block ≡ model.is_marked (setup.packs unit) block
  pub frames : s.frames ≡ 0
  pub outstanding : s.outstanding ≡ 0
  pub over : next_wish s ≡ NoLine
  pub calm : IsCalm s

-- the tables are those of the packs
abbrev pub HasTables : Setup → Type 0
HasTables setup = AreTablesOf setup.drives setup.packs setup.tables

-- The start over packs is one.
abbrev pub StartRests : Type 0
StartRests = (setup : Setup) → IsAtRest setup (start_over setup)
