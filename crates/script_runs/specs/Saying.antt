-- What is said of an answer, with the blocks that a read gave.
use Rattle.std.specs.Prelude.{ℕ, List, [], ◌++◌, take}
use Rattle.trace_replay.specs.requests.Answers.{answer_of}
use Rattle.trace_replay.specs.declared.requests.answers.AnswerKind.{AnswerKind}
use Rattle.trace_replay.specs.declared.requests.answers.AnswerKind.TheVariants as answer
use Rattle.trace_lines.specs.answers.AnswerText.{answer_line, block_texts}
use Rattle.trace_lines.specs.answers.Blocks.{joined}

-- the blocks that come with an answer of a kind, and their lines
abbrev pub blocks_with : AnswerKind → List (List ℕ) → List (List ℕ)
blocks_with (answer.ReadOk count last) blocks = take count blocks
blocks_with kind blocks = []

abbrev pub rest_text : AnswerKind → List (List ℕ) → List ℕ
rest_text kind blocks = block_texts 0 (blocks_with kind blocks)

-- the line of the answer, and those behind it
abbrev pub said_text : (line id : ℕ) → AnswerKind → List (List ℕ) → List ℕ
said_text line id kind blocks = answer_line line id (answer_of (joined (blocks_with kind blocks)) kind) ++ rest_text kind blocks
