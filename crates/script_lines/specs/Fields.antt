-- Fields: what each says, and what is wrong with it.
use Rattle.std.specs.Prelude.{ℕ, ◌*◌, ◌==◌, ◌&&◌, nat_lt, if◌then◌else◌, List, length, slice_index, Option, None, Some, Result, Ok, Err}
use Rattle.std.specs.List.{list_all}
use Rattle.hex.specs.Hex.{is_hex_digit, decode_sized}
use Rattle.pack_geometry.specs.declared.DriveKind.{DriveKind}
use Rattle.pack_geometry.specs.Geometry.{kind_word}
use Rattle.partitions.specs.declared.Part.{Part}
use Rattle.drive_registers.specs.declared.OffsetCode.{OffsetCode}
use Rattle.trace_replay.specs.FaultKind.{FaultKind}
use Rattle.mass_text.specs.Numbers.{number_of}
use Rattle.mass_text.specs.declared.numbers.Radix.TheVariants.{Decimal}
use Rattle.mass_text.specs.declared.numbers.NumberFault.{NumberFault}
use Rattle.mass_text.specs.declared.numbers.NumberFault.TheVariants.{Empty, Digit, Large}
use Rattle.script_lines.specs.declared.kinds.ScriptKind.{ScriptKind}
use Rattle.script_lines.specs.declared.kinds.ScriptKind.TheVariants.{Word, Number, Count, Data, Bits}
use Rattle.script_lines.specs.Words.{named, kinds, parts, part_word, offsets, faults}
use Rattle.trace_replay.specs.Text.{offset_word, fault_word}

-- first one thing, and then what follows from it
abbrev pub and_then : {A B E : Type 0} → Result A E → (A → Result B E) → Result B E
and_then (Ok a) next = next a
and_then (Err e) next = Err e

-- the same under another name
abbrev pub changed : {A B E : Type 0} → (A → B) → Result A E → Result B E
changed name (Ok a) = Ok (name a)
changed name (Err e) = Err e

-- with one kind for whatever is wrong
abbrev pub or_kind : {A E : Type 0} → ScriptKind → Result A E → Result A ScriptKind
or_kind kind (Ok a) = Ok a
or_kind kind (Err e) = Err kind

abbrev pub some_or : {A : Type 0} → ScriptKind → Option A → Result A ScriptKind
some_or kind (Some a) = Ok a
some_or kind None = Err kind

-- a decimal number from `low` to `high`
abbrev pub number_field : ℕ → ℕ → List ℕ → Result ℕ ScriptKind
number_field low high field =
    and_then (or_kind Number (number_of Decimal high field)) (λ n. if nat_lt n low then Err Number else Ok n)

abbrev pub kind_field : List ℕ → Result DriveKind ScriptKind
kind_field field = some_or Word (named kind_word kinds field)

abbrev pub part_field : List ℕ → Result Part ScriptKind
part_field field = some_or Word (named part_word parts field)

abbrev pub offset_field : List ℕ → Result OffsetCode ScriptKind
offset_field field = some_or Word (named offset_word offsets field)

abbrev pub fault_field : List ℕ → Result FaultKind ScriptKind
fault_field field = some_or Word (named fault_word faults field)

-- how many blocks: a number, which is 1 to 127
abbrev pub count_kind : NumberFault → ScriptKind
count_kind Empty = Number
count_kind (Digit at) = Number
count_kind Large = Count

abbrev pub counted : Result ℕ NumberFault → Result ℕ ScriptKind
counted (Ok n) = if n == 0 then Err Count else Ok n
counted (Err fault) = Err (count_kind fault)

abbrev pub count_field : List ℕ → Result ℕ ScriptKind
count_field field = counted (number_of Decimal 127 field)

-- two hexadecimal digits
abbrev pub byte_field : List ℕ → Result ℕ ScriptKind
byte_field field = changed (λ bytes. slice_index bytes 0) (or_kind Data (decode_sized field 1))

abbrev pub seq_field : List ℕ → Result ℕ ScriptKind
seq_field field = or_kind Data (number_of Decimal 255 field)

-- 1,024 hexadecimal digits for each block
abbrev pub digits_field : ℕ → List ℕ → Result (List ℕ) ScriptKind
digits_field count field = if length field == 1024 * count && list_all is_hex_digit field then Ok field else Err Data

-- a place of a word
abbrev pub place_field : List ℕ → Result ℕ ScriptKind
place_field field = or_kind Bits (number_of Decimal 4127 field)
