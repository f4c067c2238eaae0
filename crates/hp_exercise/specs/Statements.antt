-- The script of a number, as what its lines say.
use Rattle.std.specs.Prelude.{ℕ, zero, suc, ◌+◌, ◌/◌, ◌%◌, ◌==◌, nat_lt, if◌then◌else◌, List, [], ◌∷◌, ◌++◌}
use Rattle.hardware_table.specs.declared.FaultKind.TheVariants.{Opi}
use Rattle.hardware_table.specs.declared.NoiseSpan.TheVariants.{Times}
use Rattle.pack_geometry.specs.declared.DriveKind.TheVariants.{Rp06, Rm03}
use Rattle.partitions.specs.declared.Part.TheVariants.{A}
use Rattle.rand_core.specs.Stream.{Stream, next_u64}
use Rattle.script_lines.specs.Known.{Said}
use Rattle.script_lines.specs.declared.statement.Content.TheVariants.{Seq}
use Rattle.script_lines.specs.declared.statement.Request.{Request}
use Rattle.script_lines.specs.declared.statement.Statement.TheVariants as says
use Rattle.hp_exercise.specs.Exercise.{unit_of, block_of, place_of, count_of, seq_of, offset_of, times_of, choice_of, words_of}

-- blocks of partition `a`, whole to the last one; the id is the step's number
abbrev pub request_of : ℕ → ℕ → Request
request_of s w = record { id = s; unit = unit_of w; part = A; block = block_of w; count = count_of w; offset = offset_of w; last = 512 }

-- what a word chooses
abbrev pub chosen_statement : ℕ → ℕ → Said
chosen_statement s w =
    if nat_lt (choice_of w) 3 then says.Write (request_of s w) (Seq (seq_of w))
    else if nat_lt (choice_of w) 5 then says.Read (request_of s w)
    else if choice_of w == 5 then says.Arrive (unit_of w)
    else if choice_of w == 6 then says.Move (unit_of w / 8)
    else says.Attend (unit_of w / 8)

-- what the line of a step says
abbrev pub step_statement : ℕ → ℕ → Said
step_statement s w =
    if s % 256 == 254 then says.Fault (unit_of w) Opi (times_of w)
    else if s % 128 == 125 then says.Drain
    else if s % 64 == 63 then says.Noise (unit_of w) (block_of w) (Times 1) (place_of w ∷ (place_of w + 7) ∷ [])
    else chosen_statement s w

-- what so many lines say from step `s` on, each of the next word
unfoldable pub steps_statements : ℕ → ℕ → Stream → List Said
steps_statements zero s words = []
steps_statements (suc n) s words = step_statement s (next_u64 words).0 ∷ steps_statements n (s + 1) (next_u64 words).1

-- the units that are declared
abbrev pub head_statements : List Said
head_statements = says.Unit 0 Rp06 ∷ says.Unit 1 Rm03 ∷ says.Unit 8 Rm03 ∷ []

abbrev pub script_statements : ℕ → List Said
script_statements number = head_statements ++ steps_statements 2048 0 (words_of number)
