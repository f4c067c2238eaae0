-- The script of a number.
use Rattle.std.specs.Prelude.{ℕ, zero, suc, ◌+◌, ◌/◌, ◌%◌, ◌==◌, nat_lt, if◌then◌else◌, List, [], ◌++◌, codes}
use Rattle.std.specs.Int.{w64, from_le_bytes, to_le_bytes}
use Rattle.mass_text.specs.Numbers.{numeral}
use Rattle.mass_text.specs.declared.numbers.Radix.TheVariants.{Decimal}
use Rattle.rand_core.specs.Stream.{Stream, next_u64}
use Rattle.rand_core.specs.Steps.{stream_of}
use Rattle.rand_xoshiro.specs.SplitMix64.{splitmix_steps}

-- WHAT A WORD DRAWS, by shifts of it. A unit: 0, 1 or 8
abbrev pub unit_of : ℕ → ℕ
unit_of w = if w / 8 % 3 == 0 then 0 else if w / 8 % 3 == 1 then 1 else 8

-- a block, and a place of a noise
abbrev pub block_of : ℕ → ℕ
block_of w = w / 256 % 15000

abbrev pub place_of : ℕ → ℕ
place_of w = w / 65536 % 4000

-- how many blocks, the number of a sequence, and an offset
abbrev pub count_of : ℕ → ℕ
count_of w = 1 + w / 4294967296 % 16

abbrev pub seq_of : ℕ → ℕ
seq_of w = w / 1099511627776 % 256

abbrev pub offset_of : ℕ → ℕ
offset_of w = w / 281474976710656 % 512

-- how often a fault strikes, and which line it is
abbrev pub times_of : ℕ → ℕ
times_of w = 1 + w / 32 % 3

abbrev pub choice_of : ℕ → ℕ
choice_of w = w % 8

-- LINES. A number behind a space
unfoldable pub field : ℕ → List ℕ
field n = codes " " ++ numeral Decimal n

unfoldable pub fault_text : ℕ → List ℕ
fault_text w = codes "fault" ++ field (unit_of w) ++ codes " opi" ++ field (times_of w) ++ codes "\n"

unfoldable pub noise_text : ℕ → List ℕ
noise_text w = codes "noise" ++ field (unit_of w) ++ field (block_of w) ++ codes " 1" ++ field (place_of w) ++ field (place_of w + 7) ++ codes "\n"

unfoldable pub write_text : ℕ → ℕ → List ℕ
write_text s w =
    codes "write" ++ field s ++ field (unit_of w) ++ codes " a" ++ field (block_of w) ++ field (count_of w) ++ codes " seq" ++ field (seq_of w)
    ++ codes " off" ++ field (offset_of w) ++ codes "\n"

unfoldable pub read_text : ℕ → ℕ → List ℕ
read_text s w =
    codes "read" ++ field s ++ field (unit_of w) ++ codes " a" ++ field (block_of w) ++ field (count_of w) ++ codes " off" ++ field (offset_of w)
    ++ codes "\n"

unfoldable pub arrive_text : ℕ → List ℕ
arrive_text w = codes "arrive" ++ field (unit_of w) ++ codes "\n"

unfoldable pub move_text : ℕ → List ℕ
move_text w = codes "move" ++ field (unit_of w / 8) ++ codes "\n"

unfoldable pub attend_text : ℕ → List ℕ
attend_text w = codes "attend" ++ field (unit_of w / 8) ++ codes "\n"

-- the line that a word chooses
abbrev pub chosen_text : ℕ → ℕ → List ℕ
chosen_text s w =
    if nat_lt (choice_of w) 3 then write_text s w
    else if nat_lt (choice_of w) 5 then read_text s w
    else if choice_of w == 5 then arrive_text w
    else if choice_of w == 6 then move_text w
    else attend_text w

-- the line of a step
unfoldable pub step_text : ℕ → ℕ → List ℕ
step_text s w =
    if s % 256 == 254 then fault_text w
    else if s % 128 == 125 then codes "drain\n"
    else if s % 64 == 63 then noise_text w
    else chosen_text s w

-- THE SCRIPT. So many lines from step `s` on, each of the next word
unfoldable pub steps_text : ℕ → ℕ → Stream → List ℕ
steps_text zero s words = []
steps_text (suc n) s words = step_text s (next_u64 words).0 ++ steps_text n (s + 1) (next_u64 words).1

-- the units are declared
unfoldable pub head_text : List ℕ
head_text = codes "unit 0 rp06\nunit 1 rm03\nunit 8 rm03\n"

-- the words of SplitMix64, seeded with a number's eight bytes from the least one on
abbrev pub words_of : ℕ → Stream
words_of number = stream_of splitmix_steps (from_le_bytes w64 (to_le_bytes w64 number))

abbrev pub script_text : ℕ → List ℕ
script_text number = head_text ++ steps_text 2048 0 (words_of number)
