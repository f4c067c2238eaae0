-- No request of a script reaches beyond the room.
use Rattle.std.proofs.Common.{◌≡◌, ℕ, ◌+◌, ◌/◌, ◌%◌, ◌≤◌, Bool, true, false, List, [], ◌∷◌, map, All, Option, refl, sym, subst, arith}
use Rattle.std.specs.Prelude.{if◌then◌else◌, ◌==◌}
use Rattle.std.proofs.lemmas.List.Elements.{All-head, All-tail}
use Rattle.pack_geometry.specs.declared.DriveKind.{DriveKind}
use Rattle.pack_geometry.specs.declared.DriveKind.TheVariants.{Rp06}
use Rattle.partitions.specs.declared.Part.TheVariants.{A}
use Rattle.partitions.specs.declared.Part.{Part}
use Rattle.partitions.specs.Partitions.{first_of}
use Rattle.script_lines.specs.declared.statement.Request.{Request}
use Rattle.script_lines.specs.declared.statement.Statement.TheVariants as says
use Rattle.script_lines.specs.Known.{Said}
use Rattle.script_reader.specs.Printing.{numbered}
use Rattle.script_reader.specs.Meaning.{line_of, statement_of}
use Rattle.trace_replay.specs.Script.{Drain, Numbered, drives_of, inputs_before, inputs_of, with_input}
use Rattle.event_player.specs.Passes.{AskBelow}
use Rattle.hp_exercise.specs.Exercise.{block_of, count_of, words_of}
use Rattle.hp_exercise.specs.Statements.{request_of, step_statement, steps_statements}
use Rattle.hp_exercise.proofs.CaseLaws.{step_by, steps_all}
use Rattle.hp_exercise.specs.Room.{room_on}
use Rattle.script_commands.specs.Exercises.{exercise_script}

-- A REQUEST is in partition `a`, with which a pack begins, and ends within the room.
record IsLow (r : Request) : Type 0 where
  part : r.part ≡ A
  below : r.block + r.count ≤ room_on r.unit

abbrev AsksLow : Said → Type 0
AsksLow (says.Read r) = IsLow r
AsksLow (says.Write r content) = IsLow r
AsksLow statement = Unit {0}

first_a : (kind : DriveKind) → first_of kind A ≡ 0
first_a Rp06 = refl
first_a other = refl

low_on : (kind : DriveKind) (part : Part) (block count room : ℕ) → part ≡ A → block + count ≤ room → first_of kind part + block + count ≤ room
low_on kind part block count room is below =
    subst (λ (n : ℕ). n + block + count ≤ room) (sym (subst (λ (p : Part). first_of kind p ≡ 0) (sym is) (first_a kind))) (at_first block count room below)
  where
    at_first : (b c r : ℕ) → b + c ≤ r → 0 + b + c ≤ r
    at_first b c r less = omega (arith, less)

-- each one that is drawn
room_drawn : (a b : Bool) → room_on (if a then 0 else if b then 1 else 8) ≡ 15015
room_drawn true b = refl
room_drawn false true = refl
room_drawn false false = refl

few_drawn : (a b : ℕ) → a % 15000 + (1 + b % 16) ≤ 15015
few_drawn a b = omega arith

is_low : (s w : ℕ) → IsLow (request_of s w)
is_low s w = record {
  part = refl;
  below = subst (λ (n : ℕ). block_of w + count_of w ≤ n) (sym (room_drawn (w / 8 % 3 == 0) (w / 8 % 3 == 1))) (few_drawn (w / 256) (w / 4294967296));
}

each_low : (s w : ℕ) → AsksLow (step_statement s w)
each_low s w = step_by AsksLow s w (record { fault = tt; drain = tt; noise = tt }) (record { write = is_low s w; read = is_low s w; arrive = tt; move = tt; attend = tt })

-- ALL OF THEM
ask_one : (drives : ℕ → Option DriveKind) (st : Said) (n : ℕ) (inputs : List Numbered) → AsksLow st → AskBelow room_on drives inputs
    → AskBelow room_on drives (with_input n (statement_of st) inputs)
ask_one drives (says.Unit u kind) n inputs low below = below
ask_one drives (says.Read r) n inputs low below = ((λ kind there writes. low_on kind r.part r.block r.count (room_on r.unit) low.part low.below), below)
ask_one drives (says.Write r content) n inputs low below = ((λ kind there writes. low_on kind r.part r.block r.count (room_on r.unit) low.part low.below), below)
ask_one drives other n inputs low below = (tt, below)

ask_all : (drives : ℕ → Option DriveKind) (steps : List Said) (n : ℕ) (last : List Numbered) → All AsksLow steps → AskBelow room_on drives last
    → AskBelow room_on drives (inputs_before last (map line_of (numbered n steps)))
ask_all drives [] n last low below = below
ask_all drives (st ∷ steps) n last low below =
    ask_one drives st n (inputs_before last (map line_of (numbered (n + 1) steps))) (All-head AsksLow st steps low)
    (ask_all drives steps (n + 1) last (All-tail AsksLow st steps low) below)

pub asks_below : (number : ℕ) → AskBelow room_on (drives_of (exercise_script number)) (inputs_of (exercise_script number))
asks_below number =
    ask_all (drives_of (exercise_script number)) (steps_statements 2048 0 (words_of number)) (1 + 1 + 1 + 1) (record { line = 2051 + 1; input = Drain } ∷ [])
    (steps_all AsksLow each_low 2048 0 (words_of number)) (tt, tt)
