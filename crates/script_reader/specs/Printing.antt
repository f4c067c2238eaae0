-- The text of lines: fields between single spaces, and each line ended by LF.
use Rattle.std.specs.Prelude.{ℕ, ◌+◌, ◌==◌, if◌then◌else◌, List, [], ◌∷◌, ◌++◌, codes, map}
use Rattle.hardware_table.specs.declared.NoiseSpan.{NoiseSpan}
use Rattle.hardware_table.specs.declared.NoiseSpan.TheVariants.{Times, Until}
use Rattle.mass_text.specs.BlockText.{hex_byte}
use Rattle.mass_text.specs.Numbers.{numeral}
use Rattle.mass_text.specs.declared.numbers.Radix.TheVariants.{Decimal}
use Rattle.pack_geometry.specs.Geometry.{kind_word}
use Rattle.script_lines.specs.declared.statement.Content.{Content}
use Rattle.script_lines.specs.declared.statement.Content.TheVariants as contents
use Rattle.script_lines.specs.declared.statement.Request.{Request}
use Rattle.script_lines.specs.declared.statement.Statement.TheVariants as says
use Rattle.script_lines.specs.Known.{Said, Numbered, verb_of}
use Rattle.script_lines.specs.Words.{verb_word, part_word}
use Rattle.script_lines.specs.Text.{offset_word, fault_word}

abbrev pub number : ℕ → List ℕ
number n = numeral Decimal n

abbrev pub start_fields : Request → List (List ℕ)
start_fields r = number r.id ∷ number r.unit ∷ part_word r.part ∷ number r.block ∷ number r.count ∷ []

-- the offset is always printed, and the last block where it is not whole
abbrev pub tail_fields : Request → List (List ℕ)
tail_fields r = codes "off" ∷ number r.offset ∷ (if r.last == 512 then [] else codes "last" ∷ number r.last ∷ [])

abbrev pub content_fields : Content (List ℕ) → List (List ℕ)
content_fields (contents.Fill b) = codes "fill" ∷ hex_byte b ∷ []
content_fields (contents.Seq n) = codes "seq" ∷ number n ∷ []
content_fields (contents.Hex digits) = codes "hex" ∷ digits ∷ []

abbrev pub span_fields : NoiseSpan → List (List ℕ)
span_fields (Times n) = number n ∷ []
span_fields (Until code) = codes "until" ∷ offset_word code ∷ []

-- the fields behind a line's word
abbrev pub fields_of : Said → List (List ℕ)
fields_of (says.Unit u kind) = number u ∷ kind_word kind ∷ []
fields_of (says.Read r) = start_fields r ++ tail_fields r
fields_of (says.Write r content) = start_fields r ++ content_fields content ++ tail_fields r
fields_of (says.Arrive u) = number u ∷ []
fields_of (says.Turn u sector) = number u ∷ number sector ∷ []
fields_of (says.Move a) = number a ∷ []
fields_of (says.Attend a) = number a ∷ []
fields_of (says.Noise u block span places) = (number u ∷ number block ∷ []) ++ span_fields span ++ map number places
fields_of (says.Fault u what times) = number u ∷ fault_word what ∷ number times ∷ []
fields_of (says.Offline u) = number u ∷ []
fields_of (says.Online u) = number u ∷ []
fields_of (says.Lock u) = number u ∷ []
fields_of (says.Unlock u) = number u ∷ []
fields_of says.Drain = []

-- a space in front of each field
abbrev pub spaced : List (List ℕ) → List ℕ
spaced [] = []
spaced (field ∷ fields) = 32 ∷ field ++ spaced fields

abbrev pub line_text : Said → List ℕ
line_text statement = verb_word (verb_of statement) ++ spaced (fields_of statement)

abbrev pub text_of : List Said → List ℕ
text_of [] = []
text_of (statement ∷ rest) = line_text statement ++ 10 ∷ text_of rest

-- these lines, numbered from `n` on
abbrev pub numbered : ℕ → List Said → List Numbered
numbered n [] = []
numbered n (statement ∷ rest) = record { number = n; statement = statement } ∷ numbered (n + 1) rest
