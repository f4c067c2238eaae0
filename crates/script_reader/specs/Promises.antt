-- What is promised of the meaning of scripts.
use Rattle.std.specs.Prelude.{◌≡◌, ◌↔◌, ℕ, ◌*◌, Bool, true, List, length, map, Some, Contains}
use Rattle.pack_geometry.specs.declared.DriveKind.{DriveKind}
use Rattle.script_lines.specs.declared.statement.Content.{Content}
use Rattle.script_lines.specs.declared.statement.Statement.TheVariants as says
use Rattle.script_reader.specs.Data.{IsData}
use Rattle.script_reader.specs.Formed.{IsWritten}
use Rattle.script_reader.specs.Grammar.{Spells}
use Rattle.script_lines.specs.Known.{Said, Numbered}
use Rattle.script_reader.specs.Stored.{Stored, lines_in}
use Rattle.script_lines.specs.Words.{all_verbs}
use Rattle.script_lines.specs.Script.{Statement, Line, Script, IsScript, drives_of}
use Rattle.script_reader.specs.Meaning.{bytes_of, meaning, meaning_of}

-- what some lines say, without their numbers
abbrev pub said_in : List Numbered → List Said
said_in lines = map (λ line. line.statement) lines

-- what the lines of a script ask for or say, without their numbers
abbrev pub statements_in : Script → List Statement
statements_in script = map (λ (line : Line). line.statement) script.lines

-- Whatever bytes spell means a script: lines numbered upwards, drives first, no id twice, and each input of units that are there.
abbrev pub MeansScript : Type 0
MeansScript = (bytes : List ℕ) (lines : List Numbered) (count : ℕ) → Spells all_verbs bytes lines count → IsScript (meaning lines count)

-- So what the reader gives for bytes means a script.
abbrev pub ReadMeansScript : Type 0
ReadMeansScript = (bytes : List ℕ) (script : Stored) → Spells all_verbs bytes (lines_in script) script.count → IsScript (meaning_of script)

-- Its drives are those of the `unit` lines.
abbrev pub DeclaresUnits : Type 0
DeclaresUnits = (bytes : List ℕ) (lines : List Numbered) (count : ℕ) → Spells all_verbs bytes lines count
    → (u : ℕ) (kind : DriveKind) → drives_of (meaning lines count) u ≡ Some kind ↔ Contains (said_in lines) (says.Unit u kind)

-- Texts that spell the same statements mean the same, whatever lines they pass over.
abbrev pub MeansTheSame : Type 0
MeansTheSame = (lines others : List Numbered) (count other : ℕ) → said_in lines ≡ said_in others
    → (statements_in (meaning lines count) ≡ statements_in (meaning others other)) × ((u : ℕ) → drives_of (meaning lines count) u ≡ drives_of (meaning others other) u)

-- What the reader puts for a well-formed write of so many blocks are the bytes that it means.
abbrev pub MeansItsBytes : Type 0
MeansItsBytes = (content : Content (List ℕ)) (count : ℕ) (told : Bool) (bytes : List ℕ) → IsWritten count content → length bytes ≡ 512 * count
    → IsData content (512 * count) told bytes → (told ≡ true) × (bytes ≡ bytes_of content (512 * count))
