-- A worked script beside its text.
use Rattle.std.specs.Prelude.{◌≡◌, ℕ, List, [], ◌∷◌, ◌++◌, codes}
use Rattle.script_lines.specs.Known.{Numbered}
use Rattle.script_lines.specs.Words.{all_verbs}
use Rattle.script_reader.specs.Grammar.{Spells}
use Rattle.script_reader.specs.Meaning.{meaning}
use Rattle.trace_rows.specs.Rows1.{first_read}

-- a script of one read of one block
abbrev pub one_read_text : List ℕ
one_read_text = codes "unit 0 rp06" ++ 10 ∷ codes "read 1 0 c 0 1" ++ 10 ∷ []

-- It spells lines, and all that it spells means the row of one read.
abbrev pub MeansOneRead : Type 0
MeansOneRead = ((lines : List Numbered) × (count : ℕ) × Spells all_verbs one_read_text lines count)
    × ((lines : List Numbered) (count : ℕ) → Spells all_verbs one_read_text lines count → meaning lines count ≡ first_read.script)
