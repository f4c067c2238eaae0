-- The text of a trace. Numbers are decimal, a burst's pattern is octal, and each line ends with LF.
use Rattle.std.specs.Prelude.{ℕ, Bool, true, false, List, [], ◌∷◌, ◌++◌, codes, decimal}
use Rattle.std.specs.List.{flat_map}
use Rattle.mass_text.specs.Numbers.{numeral}
use Rattle.mass_text.specs.declared.numbers.Radix.TheVariants.{Octal}
use Rattle.drive_registers.specs.declared.OffsetCode.{OffsetCode}
use Rattle.drive_registers.specs.declared.OffsetCode.TheVariants.{Plus400, Minus400, Plus800, Minus800, Plus1200, Minus1200}
use Rattle.hardware_table.specs.declared.FaultKind.{FaultKind}
use Rattle.hardware_table.specs.declared.FaultKind.TheVariants as kind
use Rattle.hardware_table.specs.declared.Moved.{Moved}
use Rattle.hardware_table.specs.declared.Moved.TheVariants as verdict
use Rattle.trace_replay.specs.Moments.{Deed, Search, Seek, Recal, Offset, Centre, Clear, Pack, Transfer, Arrive, Sector, Intr, Try, Attn, End, Moment, Played, Told, Idle}

-- words of a line, with a space before each
abbrev pub spaced : List (List ℕ) → List ℕ
spaced words = flat_map (λ (word : List ℕ). 32 ∷ word) words

-- the code of an offset, as a script writes it
abbrev pub offset_word : OffsetCode → List ℕ
offset_word Plus400 = codes "+400"
offset_word Minus400 = codes "-400"
offset_word Plus800 = codes "+800"
offset_word Minus800 = codes "-800"
offset_word Plus1200 = codes "+1200"
offset_word Minus1200 = codes "-1200"

-- the word of a fault
abbrev pub fault_word : FaultKind → List ℕ
fault_word kind.Seek = codes "seek"
fault_word kind.Opi = codes "opi"
fault_word kind.Dte = codes "dte"
fault_word kind.Hcrc = codes "hcrc"
fault_word kind.Late = codes "late"

-- the words of a verdict
abbrev pub verdict_words : Moved → List (List ℕ)
verdict_words verdict.Clean = codes "clean" ∷ []
verdict_words (verdict.Burst at pattern) = codes "burst" ∷ decimal at ∷ numeral Octal pattern ∷ []
verdict_words verdict.Hard = codes "ecc" ∷ []
verdict_words verdict.Marked = codes "mark" ∷ []
verdict_words (verdict.Faulted fault) = fault_word fault ∷ []
verdict_words verdict.Offline = codes "offline" ∷ []

-- the word of a transfer command
abbrev pub transfer_word : Bool → List ℕ
transfer_word true = codes "wcom"
transfer_word false = codes "rcom"

-- the first word of a line, and the words behind its three numbers
abbrev pub first_word : Deed → List ℕ
first_word Arrive = codes "arrive"
first_word (Sector block verdict) = codes "sector"
first_word Intr = codes "intr"
first_word (Try block failures) = codes "try"
first_word Attn = codes "attn"
first_word (End answer) = codes "end"
first_word deed = codes "cmd"

-- what a deed is told with
abbrev pub last_words : Deed → List (List ℕ)
last_words (Search cylinder sector) = codes "search" ∷ decimal cylinder ∷ decimal sector ∷ []
last_words (Seek cylinder) = codes "seek" ∷ decimal cylinder ∷ []
last_words Recal = codes "recal" ∷ []
last_words (Offset code) = codes "offset" ∷ offset_word code ∷ []
last_words Centre = codes "rtc" ∷ []
last_words Clear = codes "dclr" ∷ []
last_words Pack = codes "pack" ∷ []
last_words (Transfer write block count) = transfer_word write ∷ decimal block ∷ decimal count ∷ []
last_words Arrive = []
last_words (Sector block verdict) = decimal block ∷ verdict_words verdict
last_words Intr = []
last_words (Try block failures) = decimal block ∷ decimal failures ∷ []
last_words Attn = []
last_words (End answer) = []

-- the text of a moment; a line of the script has none
abbrev pub moment_text : Moment → List ℕ
moment_text (Played line input) = []
moment_text (Told line unit id deed) = first_word deed ++ spaced (decimal line ∷ decimal unit ∷ decimal id ∷ last_words deed) ++ 10 ∷ []
moment_text (Idle line) = codes "idle" ++ spaced (decimal line ∷ []) ++ 10 ∷ []

-- the text of a trace
abbrev pub trace_text : List Moment → List ℕ
trace_text ms = flat_map moment_text ms

-- lines, each ended by LF
abbrev pub ended : List (List ℕ) → List ℕ
ended lines = flat_map (λ (line : List ℕ). line ++ 10 ∷ []) lines
