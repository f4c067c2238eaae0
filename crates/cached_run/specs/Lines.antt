-- The lines of a script of the cache, one by one.
use Rattle.std.specs.Prelude.{◌≡◌, ℕ, ◌≤◌, List, [], length}
use Rattle.trace_replay.specs.Script.{Numbered, inputs_before, with_input}
use Rattle.driver_machine.specs.World.{World}
use Rattle.driver_machine.specs.Guards.{IsSetUp}
use Rattle.script_reader.specs.declared.cached.statement.Asked.{Asked}
use Rattle.script_reader.specs.declared.cached.statement.Statement.{Statement}
use Rattle.script_reader.specs.declared.cached.statement.Statement.TheVariants as says
use Rattle.script_reader.specs.declared.cached.statement.Line.{Line as Said}
use Rattle.script_reader.specs.cached.Scripts as cached
use Rattle.script_reader.specs.cached.Meaning.{lines_before, statement_of}

-- the inputs of those before one
abbrev pub inputs_till : cached.Script → ℕ → List Numbered
inputs_till s i = inputs_before [] (lines_before s i)

-- the input of one, if it has one
abbrev pub input_at : Said → List Numbered
input_at line = with_input line.number (statement_of line.statement) []

-- WHAT IS ASKED: 1 to 127 blocks of a unit that is set up
pub record MayAsk (w : World) (a : Asked) : Type 0 where
  pub unit_is : IsSetUp w a.unit
  pub some : 1 ≤ a.count
  pub few : a.count ≤ 127

abbrev pub MayPlay : World → Statement → Type 0
MayPlay w (says.Read a) = MayAsk w a
MayPlay w (says.Write a fill) = MayAsk w a
MayPlay w statement = Unit {0}

-- WHAT IS KEPT between two lines: nothing is gathered at the desk, and it has room for the blocks of a read; and units that are set up stay so.
pub record IsRoomy (gathered : List ℕ) (blocks : List (List ℕ)) : Type 0 where
  pub none : gathered ≡ []
  pub room : length blocks ≡ 127

abbrev pub KeepsUnits : (old new : World) → Type 0
KeepsUnits old new = (u : ℕ) → IsSetUp old u → IsSetUp new u
