-- WHAT EVERY SCRIPT IS: its units are declared first, each once and among 32; each request speaks of one that is declared, for 1 to 127
-- blocks; and each line has a number among those of the script.
use Rattle.std.specs.Prelude.{◌≡◌, ℕ, ◌<◌, ◌≤◌, false, List, [], ◌∷◌, ◌++◌, None, Some}
use Rattle.pack_geometry.specs.declared.DriveKind.{DriveKind}
use Rattle.script_lines.specs.Known.{Known}
use Rattle.script_reader.specs.declared.cached.statement.Asked.{Asked}
use Rattle.script_reader.specs.declared.cached.statement.Statement.{Statement}
use Rattle.script_reader.specs.declared.cached.statement.Statement.TheVariants as says
use Rattle.script_reader.specs.declared.cached.statement.Line.{Line}
use Rattle.script_reader.specs.cached.Scripts.{Script, known_of}

pub record IsAsked (known : Known) (a : Asked) : Type 0 where
  pub kind : DriveKind
  pub small : a.unit ≤ 31
  pub declared : known.kinds a.unit ≡ Some kind
  pub some : 1 ≤ a.count
  pub few : a.count ≤ 127

pub record IsNew (known : Known) (unit : ℕ) : Type 0 where
  pub small : unit ≤ 31
  pub undeclared : known.kinds unit ≡ None
  pub first : known.later ≡ false

-- behind what is known
abbrev pub IsWell : Known → Statement → Type 0
IsWell known (says.Unit unit kind) = IsNew known unit
IsWell known (says.Read a) = IsAsked known a
IsWell known (says.Write a fill) = IsAsked known a × (fill ≤ 255)
IsWell known says.Sync = Unit {0}

-- lines behind others, with numbers above one and up to another
abbrev pub AreWell : (above most : ℕ) (before lines : List Line) → Type 0
AreWell above most before [] = above ≤ most
AreWell above most before (line ∷ lines) = (above < line.number) × (IsWell (known_of before) line.statement × AreWell line.number most (before ++ line ∷ []) lines)

pub record IsScript (s : Script) : Type 0 where
  pub lines : AreWell 0 s.count [] s.lines
  pub few : s.count ≤ 16777216
