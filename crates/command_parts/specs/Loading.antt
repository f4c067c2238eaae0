-- What the bytes of a script mean, by each grammar, and faults of loading one.
use Rattle.std.specs.Prelude.{◌≡◌, ℕ, List}
use Rattle.outside_traits.specs.declared.whole.ReadAllFault.{ReadAllFault}
use Rattle.outside_traits.specs.declared.whole.ReadAllFault.TheVariants.{Memory as AllMemory, Failed as AllFailed}
use Rattle.script_reader.specs.declared.fault.ReadFault.{ReadFault}
use Rattle.script_reader.specs.declared.fault.ReadFault.TheVariants.{Memory as ReadMemory, Refused as ReadRefused}
use Rattle.script_reader.specs.declared.cached.kind.CachedRefusal.{CachedRefusal}
use Rattle.script_reader.specs.declared.cached.kind.CachedRefusal.TheVariants.{Memory as CachedMemory, Refused as CachedRefused}
use Rattle.script_reader.specs.cached.Scripts.{Script as Lines, Spells as CachedSpells}
use Rattle.script_reader.specs.cached.Meaning.{meaning_of}
use Rattle.script_reader.specs.cached.Kinds.{kind_of}
use Rattle.script_reader.specs.Grammar.{Spells}
use Rattle.script_reader.specs.Meaning.{meaning}
use Rattle.script_lines.specs.Known.{Numbered}
use Rattle.script_lines.specs.Words.{all_verbs}
use Rattle.script_lines.specs.declared.kinds.ScriptKind.{ScriptKind}
use Rattle.script_lines.specs.Script.{Script}
use Rattle.command_parts.specs.declared.load.LoadFault.{LoadFault}
use Rattle.command_parts.specs.declared.load.LoadFault.TheVariants as faults

-- the longest script, in bytes: 16 MiB
abbrev pub longest : ℕ
longest = 16777216

-- WHAT BYTES MEAN to `play`: they spell lines that mean the script.
pub record Means (bytes : List ℕ) (script : Script) : Type 0 where
  pub lines : List Numbered
  pub count : ℕ
  pub spelled : Spells all_verbs bytes lines count
  pub is : script ≡ meaning lines count

-- WHAT BYTES MEAN to `cached`: they spell lines that mean the script.
pub record MeansCached (bytes : List ℕ) (script : Script) : Type 0 where
  pub lines : Lines
  pub spelled : CachedSpells bytes lines.lines lines.count
  pub is : script ≡ meaning_of lines

-- these bytes mean no script
abbrev pub MeanNone : (List ℕ → Script → Type 0) → List ℕ → Type 0
MeanNone Means bytes = (script : Script) → ¬ Means bytes script

-- THE FAULTS, as reading gives them
abbrev pub from_read_all : ReadAllFault → LoadFault
from_read_all AllMemory = faults.Memory
from_read_all AllFailed = faults.Failed

abbrev pub from_read : ReadFault → LoadFault
from_read ReadMemory = faults.Memory
from_read (ReadRefused line kind) = faults.Refused line kind

abbrev pub from_cached : CachedRefusal → LoadFault
from_cached CachedMemory = faults.Memory
from_cached (CachedRefused line kind) = faults.Refused line (kind_of kind)

-- a refusal names the first fault of bytes that mean no script
abbrev pub RefusesAll : (List ℕ → Script → Type 0) → (List ℕ → ℕ → ScriptKind → Type 0) → LoadFault → List ℕ → Type 0
RefusesAll Means First faults.Memory bytes = Unit {0}
RefusesAll Means First faults.Failed bytes = Unit {0}
RefusesAll Means First (faults.Refused line kind) bytes = MeanNone Means bytes × First bytes line kind
