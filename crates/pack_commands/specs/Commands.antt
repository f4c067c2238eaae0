-- The commands that the words of the command line name.
use Rattle.std.specs.Prelude.{ℕ, ◌<◌, ◌≤◌, ◌-◌, ◌^◌, ◌==◌, ◌&&◌, true, false, if◌then◌else◌, List, [], ◌∷◌, Option, None, Some, codes}
use Rattle.std.specs.Option.{option_map}
use Rattle.std.specs.Result.{result_ok}
use Rattle.std.specs.Str.{bytes_eq}
use Rattle.pack_geometry.specs.declared.DriveKind.{DriveKind}
use Rattle.pack_geometry.specs.Geometry.{block_count}
use Rattle.mass_text.specs.Numbers.{number_of}
use Rattle.mass_text.specs.declared.numbers.Radix.TheVariants.{Decimal}
use Rattle.bad144_tool.specs.declared.edit.AddWay.{AddWay}
use Rattle.command_parts.specs.Fields.{kind_named, of_three, of_two, unit_named}
use Rattle.command_parts.specs.Words.{IsInRange, dump_named, raw_named}
use Rattle.pack_commands.specs.declared.words.Command.{Command}
use Rattle.pack_commands.specs.declared.words.Command.TheVariants.{Play, ListTable, AddBlock, FreshTable, MarkBlocks, Exercise, Cached, FormatPack, TransferBytes}

-- a block is one of the drive's, a serial number is below 2^32, and the number of an exercise below 2^64; all are decimal
abbrev pub block_named : DriveKind → List ℕ → Option ℕ
block_named kind word = result_ok (number_of Decimal (block_count kind - 1) word)

abbrev pub serial_named : List ℕ → Option ℕ
serial_named word = result_ok (number_of Decimal (2 ^ 32 - 1) word)

abbrev pub number_named : List ℕ → Option ℕ
number_named word = result_ok (number_of Decimal (2 ^ 64 - 1) word)

-- how a block is added: nothing, `copy`, `mark`, or `copy mark`
abbrev pub way_named : List (List ℕ) → Option AddWay
way_named [] = Some (record { copy = false; mark = false })
way_named (word ∷ []) =
    if bytes_eq word (codes "copy") then Some (record { copy = true; mark = false })
    else if bytes_eq word (codes "mark") then Some (record { copy = false; mark = true })
    else None
way_named (first ∷ second ∷ []) =
    if bytes_eq first (codes "copy") && bytes_eq second (codes "mark") then Some (record { copy = true; mark = true }) else None
way_named words = None

-- the commands of `bad144`, where each of their words names something
abbrev pub add_named : Option ℕ → Option DriveKind → List ℕ → Option AddWay → Option Command
add_named (Some unit) (Some kind) block way = of_two (AddBlock unit kind) (block_named kind block) way
add_named unit kind block way = None

-- `bad144 fresh U KIND SERIAL`, and `bad144 add U KIND BLOCK` and how
abbrev pub fresh_named : (verb unit kind serial : List ℕ) → List (List ℕ) → Option Command
fresh_named verb unit kind serial [] = if bytes_eq verb (codes "fresh") then of_three FreshTable (unit_named unit) (kind_named kind) (serial_named serial) else None
fresh_named verb unit kind serial words = None

abbrev pub worded_named : (verb unit kind word : List ℕ) → List (List ℕ) → Option Command
worded_named verb unit kind word words =
    if bytes_eq verb (codes "add") then add_named (unit_named unit) (kind_named kind) word (way_named words) else fresh_named verb unit kind word words

-- `bad144 list U KIND` and `bad144 mark U KIND`, and those of more words
abbrev pub tool_named : (verb unit kind : List ℕ) → List (List ℕ) → Option Command
tool_named verb unit kind [] =
    if bytes_eq verb (codes "list") then of_two ListTable (unit_named unit) (kind_named kind)
    else if bytes_eq verb (codes "mark") then of_two MarkBlocks (unit_named unit) (kind_named kind)
    else None
tool_named verb unit kind (word ∷ words) = worded_named verb unit kind word words

-- `cached N`: a cache has 1 to 4,096 entries
abbrev pub some_named : Option ℕ → Option ℕ
some_named None = None
some_named (Some number) = if number == 0 then None else Some number

abbrev pub capacity_named : List ℕ → Option ℕ
capacity_named word = some_named (result_ok (number_of Decimal 4096 word))

-- `format U KIND SERIAL`
abbrev pub format_named : (unit kind serial : List ℕ) → List (List ℕ) → Option Command
format_named unit kind serial [] = of_three FormatPack (unit_named unit) (kind_named kind) (serial_named serial)
format_named unit kind serial words = None

-- a command of four words or more: one of `bad144`, `format`, or `raw`
abbrev pub long_named : (tool verb unit kind : List ℕ) → List (List ℕ) → Option Command
long_named tool verb unit kind words =
    if bytes_eq tool (codes "bad144") then tool_named verb unit kind words
    else if bytes_eq tool (codes "format") then format_named verb unit kind words
    else if bytes_eq tool (codes "raw") then option_map TransferBytes (raw_named verb unit kind words)
    else None

-- THE COMMAND of the words: `play`, one of `bad144`, `exercise`, `cached`, `format`, or one that transfers bytes
abbrev pub command_named : List (List ℕ) → Option Command
command_named [] = None
command_named (word ∷ []) = if bytes_eq word (codes "play") then Some Play else None
command_named (word ∷ number ∷ []) =
    if bytes_eq word (codes "exercise") then option_map Exercise (number_named number)
    else if bytes_eq word (codes "cached") then option_map Cached (capacity_named number)
    else None
command_named (word ∷ unit ∷ kind ∷ []) = if bytes_eq word (codes "dump") then option_map TransferBytes (dump_named unit kind) else None
command_named (tool ∷ verb ∷ unit ∷ kind ∷ words) = long_named tool verb unit kind words

-- the numbers of a command are in their ranges
abbrev pub IsValid : Command → Type 0
IsValid Play = Unit {0}
IsValid (ListTable unit kind) = unit < 32
IsValid (AddBlock unit kind block way) = (unit < 32) × (block < block_count kind)
IsValid (FreshTable unit kind serial) = unit < 32
IsValid (MarkBlocks unit kind) = unit < 32
IsValid (Exercise number) = number < 2 ^ 64
IsValid (Cached capacity) = (1 ≤ capacity) × (capacity ≤ 4096)
IsValid (FormatPack unit kind serial) = unit < 32
IsValid (TransferBytes transfer) = IsInRange transfer
