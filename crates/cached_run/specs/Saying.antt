-- What is said of an answer, with the blocks that a read gave.
use Rattle.std.specs.Prelude.{◌≡◌, ℕ, ◌≤◌, nat_lt, if◌then◌else◌, List, length, Some}
use Rattle.pack_geometry.specs.declared.DriveKind.{DriveKind}
use Rattle.driver_laws.specs.rules.Machine.{Blocks}
use Rattle.trace_replay.specs.requests.Requests.{Request}
use Rattle.trace_replay.specs.declared.requests.answers.AnswerKind.{AnswerKind}
use Rattle.trace_replay.specs.declared.requests.answers.AnswerKind.TheVariants as answer
use Rattle.trace_replay.specs.declared.requests.answers.Cause.TheVariants as cause
use Rattle.trace_lines.specs.answers.AnswerText.{answer_text}
use Rattle.script_runs.specs.Saying.{said_text}
use Rattle.cached_run.specs.Answers.{answer_with}

-- What is said is the text of the answer to a request, by what its unit's blocks hold
abbrev pub AreLong : Blocks → Type 0
AreLong blocks = (b : ℕ) (bytes : List ℕ) → blocks b ≡ Some bytes → length bytes ≡ 512

abbrev pub IsSaid : DriveKind → Blocks → Request → AnswerKind → List (List ℕ) → Type 0
IsSaid kind unit_blocks r how blocks = AreLong unit_blocks
    → (line : ℕ) → said_text line r.id how blocks ≡ answer_text (record { line = line; id = r.id; answer = answer_with kind unit_blocks r })

-- how a request is answered of whose blocks so many were done, with the kind that it has where all were
abbrev pub kind_by : (done count : ℕ) → AnswerKind → AnswerKind
kind_by done count whole = if nat_lt done count then answer.Error cause.Unforwarded done else whole

-- a read gives no more blocks than there are
abbrev pub GivesAmong : AnswerKind → List (List ℕ) → Type 0
GivesAmong how blocks = (count last : ℕ) → how ≡ answer.ReadOk count last → count ≤ length blocks
