-- The text that says what is wrong with a line.
use Rattle.std.specs.Prelude.{ℕ, List, [], ◌∷◌, ◌++◌, codes, decimal}
use Rattle.script_lines.specs.declared.kinds.ScriptKind.{ScriptKind}
use Rattle.script_lines.specs.declared.kinds.ScriptKind.TheVariants as kinds

unfoldable pub kind_word : ScriptKind → List ℕ
kind_word kinds.Word = codes "word"
kind_word kinds.Number = codes "number"
kind_word kinds.UnitUnknown = codes "unitunknown"
kind_word kinds.UnitTwice = codes "unittwice"
kind_word kinds.IdTwice = codes "idtwice"
kind_word kinds.Count = codes "count"
kind_word kinds.Data = codes "data"
kind_word kinds.Bits = codes "bits"
kind_word kinds.LateUnit = codes "lateunit"
kind_word kinds.TooMany = codes "toomany"
kind_word kinds.LineLong = codes "linelong"
kind_word kinds.ScriptLong = codes "scriptlong"

unfoldable pub refused_line : List ℕ
refused_line = codes "refused line "

-- `refused line L KIND`
abbrev pub refusal_text : ℕ → ScriptKind → List ℕ
refusal_text line kind = refused_line ++ decimal line ++ codes " " ++ kind_word kind ++ 10 ∷ []
