-- How a line is read, word by word, and a trace, line by line: an inner form, which is proved to give what the grammar says.
use Rattle.std.specs.Prelude.{ℕ, ◌+◌, ◌==◌, ◌&&◌, nat_lt, if◌then◌else◌, Bool, true, false, List, [], ◌∷◌, ◌++◌, length, slice_index, codes, Option, Some, None, Result, Ok, Err}
use Rattle.std.specs.List.{slice_split}
use Rattle.std.specs.Str.{bytes_eq}
use Rattle.drive_registers.specs.declared.OffsetCode.{OffsetCode}
use Rattle.hardware_table.specs.declared.FaultKind.TheVariants as fault
use Rattle.hardware_table.specs.declared.Moved.{Moved}
use Rattle.hardware_table.specs.declared.Moved.TheVariants as verdict
use Rattle.mass_text.specs.Numbers.{number_of}
use Rattle.mass_text.specs.declared.numbers.Radix.{Radix}
use Rattle.mass_text.specs.declared.numbers.Radix.TheVariants.{Octal, Decimal}
use Rattle.script_lines.specs.Fields.{and_then, changed}
use Rattle.script_reader.specs.Reading.{on}
use Rattle.script_reader.specs.Stored.{Stored}
use Rattle.script_lines.specs.Words.{named, offsets}
use Rattle.trace_lines.specs.declared.telling.Told.{Told}
use Rattle.trace_lines.specs.declared.telling.Told.TheVariants as told
use Rattle.trace_reader.specs.declared.fault.TraceKind.{TraceKind}
use Rattle.trace_reader.specs.declared.fault.TraceKind.TheVariants.{Word, Order, Script, Ended}
use Rattle.trace_reader.specs.declared.line.TraceLine.{TraceLine}
use Rattle.trace_reader.specs.declared.line.TraceLine.TheVariants.{Deed, Idle}
use Rattle.trace_reader.specs.declared.verbs.Command.{Command}
use Rattle.trace_reader.specs.declared.verbs.Command.TheVariants as commands
use Rattle.trace_reader.specs.declared.verbs.Verb.{Verb}
use Rattle.trace_reader.specs.declared.verbs.Verb.TheVariants as verbs
use Rattle.trace_reader.specs.Asked.{is_of_script}
use Rattle.trace_reader.specs.Ended.{is_under_way}
use Rattle.trace_reader.specs.Grammar.{last_number}
use Rattle.trace_reader.specs.Lines.{line_number}
use Rattle.trace_replay.specs.Text.{offset_word, fault_word}

-- what stands between blanks
abbrev pub words_of : List ℕ → List (List ℕ)
words_of text = slice_split (λ b. b == 32) text

-- the words that are left, where any are
abbrev pub words_left : Bool → List ℕ → List (List ℕ)
words_left more text = if more then words_of text else []

-- what all the words that are left say
abbrev pub Form : Type 0 → Type 0
Form A = List (List ℕ) → Result A TraceKind

-- a word, and then the others
abbrev pub first : {A B : Type 0} → (List ℕ → Result A TraceKind) → (A → Form B) → Form B
first reads rest [] = Err Word
first reads rest (word ∷ words) = and_then (reads word) (λ a. rest a words)

-- no word more
abbrev pub none : {A : Type 0} → A → Form A
none a [] = Ok a
none a (word ∷ words) = Err Word

-- ONE WORD. A number from `low` to `high`, without a zero too many
abbrev pub is_padded : List ℕ → Bool
is_padded word = nat_lt 1 (length word) && slice_index word 0 == 48

abbrev pub at_least : {E : Type 0} → ℕ → Result ℕ E → Result ℕ TraceKind
at_least low (Ok n) = if nat_lt n low then Err Word else Ok n
at_least low (Err fault) = Err Word

unfoldable pub number_in : Radix → ℕ → ℕ → List ℕ → Result ℕ TraceKind
number_in radix low high word = if is_padded word then Err Word else at_least low (number_of radix high word)

abbrev pub decimal_in : ℕ → ℕ → List ℕ → Result ℕ TraceKind
decimal_in low high word = number_in Decimal low high word

-- a word of a list
abbrev pub some_word : {A : Type 0} → Option A → Result A TraceKind
some_word (Some a) = Ok a
some_word None = Err Word

abbrev pub verb_word : Verb → List ℕ
verb_word verbs.Cmd = codes "cmd"
verb_word verbs.Arrive = codes "arrive"
verb_word verbs.Sector = codes "sector"
verb_word verbs.Intr = codes "intr"
verb_word verbs.Try = codes "try"
verb_word verbs.Attn = codes "attn"
verb_word verbs.End = codes "end"

abbrev pub all_verbs : List Verb
all_verbs = verbs.Cmd ∷ verbs.Arrive ∷ verbs.Sector ∷ verbs.Intr ∷ verbs.Try ∷ verbs.Attn ∷ verbs.End ∷ []

abbrev pub command_word : Command → List ℕ
command_word commands.Search = codes "search"
command_word commands.Seek = codes "seek"
command_word commands.Recal = codes "recal"
command_word commands.Offset = codes "offset"
command_word commands.Centre = codes "rtc"
command_word commands.Clear = codes "dclr"
command_word commands.Pack = codes "pack"
command_word commands.Write = codes "wcom"
command_word commands.Read = codes "rcom"

abbrev pub all_commands : List Command
all_commands =
    commands.Search ∷ commands.Seek ∷ commands.Recal ∷ commands.Offset ∷ commands.Centre ∷ commands.Clear ∷ commands.Pack
    ∷ commands.Write ∷ commands.Read ∷ []

-- the verdicts of one word
abbrev pub verdict_word : Moved → List ℕ
verdict_word verdict.Clean = codes "clean"
verdict_word (verdict.Burst at pattern) = codes "burst"
verdict_word verdict.Hard = codes "ecc"
verdict_word verdict.Marked = codes "mark"
verdict_word (verdict.Faulted what) = fault_word what
verdict_word verdict.Offline = codes "offline"

abbrev pub plain_verdicts : List Moved
plain_verdicts =
    verdict.Clean ∷ verdict.Hard ∷ verdict.Marked ∷ verdict.Faulted fault.Seek ∷ verdict.Faulted fault.Opi ∷ verdict.Faulted fault.Dte
    ∷ verdict.Faulted fault.Hcrc ∷ verdict.Faulted fault.Late ∷ verdict.Offline ∷ []

unfoldable pub verb_in : List ℕ → Result Verb TraceKind
verb_in word = some_word (named verb_word all_verbs word)

unfoldable pub command_in : List ℕ → Result Command TraceKind
command_in word = some_word (named command_word all_commands word)

unfoldable pub code_in : List ℕ → Result OffsetCode TraceKind
code_in word = some_word (named offset_word offsets word)

unfoldable pub plain_verdict_in : List ℕ → Result Moved TraceKind
plain_verdict_in word = some_word (named verdict_word plain_verdicts word)

-- the parts of a line
abbrev pub block_in : List ℕ → Result ℕ TraceKind
block_in word = decimal_in 0 500383 word

abbrev pub cylinder_in : List ℕ → Result ℕ TraceKind
cylinder_in word = decimal_in 0 822 word

abbrev pub line_in : List ℕ → Result ℕ TraceKind
line_in word = decimal_in 1 1000001 word

-- A COMMAND'S WORDS behind its own
abbrev pub transfer_form : Bool → Form Told
transfer_form write = first block_in (λ block. first (decimal_in 1 127) (λ count. none (told.Transfer write block count)))

abbrev pub command_form : Command → Form Told
command_form commands.Search = first cylinder_in (λ cylinder. first (decimal_in 0 31) (λ sector. none (told.Search cylinder sector)))
command_form commands.Seek = first cylinder_in (λ cylinder. none (told.Seek cylinder))
command_form commands.Recal = none told.Recal
command_form commands.Offset = first code_in (λ code. none (told.Offset code))
command_form commands.Centre = none told.Centre
command_form commands.Clear = none told.Clear
command_form commands.Pack = none told.Pack
command_form commands.Write = transfer_form true
command_form commands.Read = transfer_form false

-- A VERDICT'S WORDS
abbrev pub burst_form : ℕ → Form Told
burst_form block =
    first (decimal_in 1 4128) (λ at. first (number_in Octal 1 2047) (λ pattern. none (told.Sector block (verdict.Burst at pattern))))

unfoldable pub verdict_form : ℕ → Form Told
verdict_form block [] = Err Word
verdict_form block (word ∷ words) =
    if bytes_eq word (codes "burst") then burst_form block words
    else and_then (plain_verdict_in word) (λ v. none (told.Sector block v) words)

-- THE WORDS BEHIND A LINE'S NUMBERS
unfoldable pub told_form : Verb → Form Told
told_form verbs.Cmd = first command_in command_form
told_form verbs.Arrive = none told.Arrive
told_form verbs.Sector = first block_in verdict_form
told_form verbs.Intr = none told.Intr
told_form verbs.Try = first block_in (λ block. first (decimal_in 1 28) (λ failures. none (told.Try block failures)))
told_form verbs.Attn = none told.Attn
told_form verbs.End = none told.End

-- A LINE'S WORDS
unfoldable pub deed_form : Verb → Form TraceLine
deed_form verb =
    first line_in (λ line. first (decimal_in 0 31) (λ u. first (decimal_in 0 4294967295) (λ id. λ words.
    changed (λ t. Deed line u id t) (told_form verb words))))

unfoldable pub line_form : Form TraceLine
line_form [] = Err Word
line_form (word ∷ words) =
    if bytes_eq word (codes "idle") then first line_in (λ line. none (Idle line)) words
    else and_then (verb_in word) (λ verb. deed_form verb words)

-- a line that was read, behind one of number `number`, where its request is under way or not
abbrev pub standing_at : Stored → ℕ → Bool → TraceLine → Result TraceLine TraceKind
standing_at script number going line =
    if nat_lt (line_number line) number then Err Order
    else if is_of_script script.lines script.count line then (if going then Ok line else Err Ended) else Err Script

-- and behind some lines
abbrev pub standing : Stored → List TraceLine → TraceLine → Result TraceLine TraceKind
standing script before line = standing_at script (last_number before) (is_under_way script.count before line) line

-- what a text says there, by what is found of a line
abbrev pub judged_by : (TraceLine → Result TraceLine TraceKind) → List ℕ → Result TraceLine TraceKind
judged_by stands text = on (line_form (words_of text)) stands (λ no_line. Err Word)

unfoldable pub judged : Stored → List TraceLine → List ℕ → Result TraceLine TraceKind
judged script before text = judged_by (standing script before) text

-- A WHOLE TRACE. The number of the first faulty line, and what is wrong with it
pub record Refusal : Type 0 where
  pub line : ℕ
  pub kind : TraceKind

-- the lines, behind those that were read
abbrev pub reading : Stored → List TraceLine → ℕ → List (List ℕ) → Result (List TraceLine) Refusal
reading script lines n [] = Ok lines
reading script lines n (text ∷ texts) =
    on (judged script lines text) (λ line. reading script (lines ++ line ∷ []) (n + 1) texts) (λ kind. Err (record { line = n; kind = kind }))
