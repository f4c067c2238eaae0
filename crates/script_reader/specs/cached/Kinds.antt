-- What is wrong with a line, among the kinds of all scripts.
use Rattle.std.specs.Prelude.{◌≢◌}
use Rattle.script_lines.specs.declared.kinds.ScriptKind.{ScriptKind}
use Rattle.script_lines.specs.declared.kinds.ScriptKind.TheVariants as script
use Rattle.script_reader.specs.declared.cached.kind.CachedKind.{CachedKind}
use Rattle.script_reader.specs.declared.cached.kind.CachedKind.TheVariants as cached

abbrev pub kind_of : CachedKind → ScriptKind
kind_of cached.Word = script.Word
kind_of cached.Number = script.Number
kind_of cached.UnitUnknown = script.UnitUnknown
kind_of cached.UnitTwice = script.UnitTwice
kind_of cached.Count = script.Count
kind_of cached.Data = script.Data
kind_of cached.LateUnit = script.LateUnit
kind_of cached.TooMany = script.TooMany
kind_of cached.LineLong = script.LineLong
kind_of cached.ScriptLong = script.ScriptLong

-- the kinds that come here: no id is used twice, and no noise has places
pub record IsCachedKind (kind : ScriptKind) : Type 0 where
  pub no_id : kind ≢ script.IdTwice
  pub no_bits : kind ≢ script.Bits
