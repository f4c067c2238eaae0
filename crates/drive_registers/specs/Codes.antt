-- The codes of the drive's functions and of its offsets.
use Rattle.std.specs.Prelude.{ℕ, bit_and}
use Rattle.drive_registers.specs.declared.Function.{Function}
use Rattle.drive_registers.specs.declared.Function.TheVariants.{Nop, Seek, Recal, Clear, Offset, Centre, Preset, Pack, Search, Write, WriteHeader, Read}
use Rattle.drive_registers.specs.declared.OffsetCode.{OffsetCode}
use Rattle.drive_registers.specs.declared.OffsetCode.TheVariants.{Plus400, Minus400, Plus800, Minus800, Plus1200, Minus1200}

-- a function's code, without the bit GO
abbrev pub function_code : Function → ℕ
function_code Nop = 0
function_code Seek = 0o4
function_code Recal = 0o6
function_code Clear = 0o10
function_code Offset = 0o14
function_code Centre = 0o16
function_code Preset = 0o20
function_code Pack = 0o22
function_code Search = 0o30
function_code Write = 0o60
function_code WriteHeader = 0o62
function_code Read = 0o70

-- bits 1 to 5 of a control word, where the function's code stands
abbrev pub function_field : ℕ → ℕ
function_field word = bit_and word 0o76

-- an offset's code; the code 0 means no offset
abbrev pub offset_code : OffsetCode → ℕ
offset_code Plus400 = 0o20
offset_code Minus400 = 0o220
offset_code Plus800 = 0o40
offset_code Minus800 = 0o240
offset_code Plus1200 = 0o60
offset_code Minus1200 = 0o260

-- the low eight bits of the offset register, where the offset's code stands
abbrev pub offset_field : ℕ → ℕ
offset_field word = bit_and word 0o377

-- the offset register with the offset's code cleared
abbrev pub without_offset : ℕ → ℕ
without_offset word = bit_and word 0o177400

-- the words in the drive type register, by the drive
abbrev pub rp06_type : ℕ
rp06_type = 0o20022

abbrev pub rm03_type : ℕ
rm03_type = 0o20024

abbrev pub rm05_type : ℕ
rm05_type = 0o20027
