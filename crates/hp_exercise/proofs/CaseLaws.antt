-- The lines of steps, case by case.
use Rattle.std.proofs.Common.{ℕ, zero, suc, ◌+◌, ◌/◌, ◌%◌, Bool, true, false, [], ◌∷◌, All}
use Rattle.std.specs.Prelude.{if◌then◌else◌, ◌==◌, nat_lt}
use Rattle.std.proofs.lemmas.List.Elements.{All-nil, All-cons}
use Rattle.hardware_table.specs.declared.FaultKind.TheVariants.{Opi}
use Rattle.hardware_table.specs.declared.NoiseSpan.TheVariants.{Times}
use Rattle.rand_core.specs.Stream.{Stream, next_u64}
use Rattle.script_lines.specs.Known.{Said}
use Rattle.script_lines.specs.declared.statement.Content.TheVariants.{Seq}
use Rattle.script_lines.specs.declared.statement.Statement.TheVariants as says
use Rattle.hp_exercise.specs.Exercise.{unit_of, block_of, place_of, seq_of, times_of, choice_of}
use Rattle.hp_exercise.specs.Statements.{request_of, chosen_statement, step_statement, steps_statements}

pub if_both : {X : Type 0} (P : X → Type 0) (t : Bool) (x y : X) → P x → P y → P (if t then x else y)
if_both P true x y p q = p
if_both P false x y p q = q

-- the lines that a word chooses, and those of a step's number
pub record Chosen (P : Said → Type 0) (s w : ℕ) : Type 0 where
  pub write : P (says.Write (request_of s w) (Seq (seq_of w)))
  pub read : P (says.Read (request_of s w))
  pub arrive : P (says.Arrive (unit_of w))
  pub move : P (says.Move (unit_of w / 8))
  pub attend : P (says.Attend (unit_of w / 8))

pub record Planned (P : Said → Type 0) (s w : ℕ) : Type 0 where
  pub fault : P (says.Fault (unit_of w) Opi (times_of w))
  pub drain : P says.Drain
  pub noise : P (says.Noise (unit_of w) (block_of w) (Times 1) (place_of w ∷ (place_of w + 7) ∷ []))

pub chosen_by : (P : Said → Type 0) (s w : ℕ) → Chosen P s w → P (chosen_statement s w)
chosen_by P s w c =
    let attend : Said = says.Attend (unit_of w / 8) in
    let move : Said = if choice_of w == 6 then says.Move (unit_of w / 8) else attend in
    let arrive : Said = if choice_of w == 5 then says.Arrive (unit_of w) else move in
    let read : Said = if nat_lt (choice_of w) 5 then says.Read (request_of s w) else arrive in
    if_both P (nat_lt (choice_of w) 3) (says.Write (request_of s w) (Seq (seq_of w))) read c.write
    (if_both P (nat_lt (choice_of w) 5) (says.Read (request_of s w)) arrive c.read
    (if_both P (choice_of w == 5) (says.Arrive (unit_of w)) move c.arrive (if_both P (choice_of w == 6) (says.Move (unit_of w / 8)) attend c.move c.attend)))

pub step_by : (P : Said → Type 0) (s w : ℕ) → Planned P s w → Chosen P s w → P (step_statement s w)
step_by P s w p c =
    let noise : Said = if s % 64 == 63 then says.Noise (unit_of w) (block_of w) (Times 1) (place_of w ∷ (place_of w + 7) ∷ []) else chosen_statement s w in
    let drain : Said = if s % 128 == 125 then says.Drain else noise in
    if_both P (s % 256 == 254) (says.Fault (unit_of w) Opi (times_of w)) drain p.fault
    (if_both P (s % 128 == 125) says.Drain noise p.drain
    (if_both P (s % 64 == 63) (says.Noise (unit_of w) (block_of w) (Times 1) (place_of w ∷ (place_of w + 7) ∷ [])) (chosen_statement s w) p.noise (chosen_by P s w c)))

pub steps_all : (P : Said → Type 0) → ((s w : ℕ) → P (step_statement s w)) → (n s : ℕ) (words : Stream) → All P (steps_statements n s words)
unfolding steps_statements
steps_all P each zero s words = All-nil P
steps_all P each (suc n) s words = All-cons P (step_statement s (next_u64 words).0) (steps_statements n (s + 1) (next_u64 words).1) (each s (next_u64 words).0) (steps_all P each n (s + 1) (next_u64 words).1)
