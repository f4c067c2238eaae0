-- THE ANSWER TEXT: what is said of the moments of a run. Numbers are decimal, hexadecimal digits are lower case, and each line
-- ends with LF.
use Rattle.std.specs.Prelude.{ℕ, ◌+◌, List, [], ◌∷◌, ◌++◌, codes, decimal}
use Rattle.std.specs.List.{flat_map}
use Rattle.mass_text.specs.BlockText.{content_text}
use Rattle.fire_code.specs.declared.NoiseClass.{NoiseClass}
use Rattle.fire_code.specs.declared.NoiseClass.TheVariants.{Short, Shown, Alias}
use Rattle.trace_replay.specs.requests.Requests.{Answer, ReadOk, WriteOk, OutsidePartition, EndOfPartition, NoFrames, Failed, Cause, Offline, Locked, Unforwarded, Fault}
use Rattle.trace_replay.specs.Script.{Noise}
use Rattle.trace_replay.specs.Moments.{Moment, Played, Told, End, Answered}
use Rattle.trace_lines.specs.answers.Blocks.{blocks_in}
use Rattle.trace_lines.specs.answers.Classes.{class_of}

-- the word of a class
abbrev pub class_word : NoiseClass → List ℕ
class_word Short = codes "short"
class_word Shown = codes "shown"
class_word Alias = codes "alias"

-- `noise L CLASS`
abbrev pub noise_text : (line : ℕ) → NoiseClass → List ℕ
noise_text line class = codes "noise " ++ decimal line ++ codes " " ++ class_word class ++ 10 ∷ []

-- the word of a cause
abbrev pub cause_word : Cause → List ℕ
cause_word Offline = codes "offline"
cause_word Locked = codes "locked"
cause_word Unforwarded = codes "unforwarded"
cause_word Fault = codes "fault"

-- `error CAUSE done K`
abbrev pub error_words : (cause : List ℕ) (done : ℕ) → List ℕ
error_words cause done = codes "error " ++ cause ++ codes " done " ++ decimal done

-- how a request was answered; one that is refused has done nothing
abbrev pub answer_words : Answer → List ℕ
answer_words (ReadOk bytes) = codes "ok"
answer_words WriteOk = codes "ok"
answer_words EndOfPartition = codes "eof"
answer_words OutsidePartition = error_words (codes "partition") 0
answer_words NoFrames = error_words (codes "frames") 0
answer_words (Failed cause done) = error_words (cause_word cause) done

-- `ans ID at L`, and how it was answered
abbrev pub answer_line : (line id : ℕ) → Answer → List ℕ
answer_line line id answer = codes "ans " ++ decimal id ++ codes " at " ++ decimal line ++ codes " " ++ answer_words answer ++ 10 ∷ []

-- `blk K fill HH` or `blk K hex DIGITS`
abbrev pub block_text : ℕ → List ℕ → List ℕ
block_text k bytes = codes "blk " ++ decimal k ++ codes " " ++ content_text bytes ++ 10 ∷ []

-- a line for each block, the first of them having this number
abbrev pub block_texts : ℕ → List (List ℕ) → List ℕ
block_texts k [] = []
block_texts k (block ∷ blocks) = block_text k block ++ block_texts (k + 1) blocks

-- the lines of the blocks that an answer gives
abbrev pub blocks_text : Answer → List ℕ
blocks_text (ReadOk bytes) = block_texts 0 (blocks_in bytes)
blocks_text answer = []

-- the text of an answer: its line, and directly behind it the blocks of a read
abbrev pub answer_text : Answered → List ℕ
answer_text a = answer_line a.line a.id a.answer ++ blocks_text a.answer

-- what is said of a moment: the class of noise as its line is played, and each answer
abbrev pub said_text : Moment → List ℕ
said_text (Played line (Noise noise)) = noise_text line (class_of noise.places)
said_text (Told line unit id (End answer)) = answer_text (record { line = line; id = id; answer = answer })
said_text m = []

-- the answer text of a run
abbrev pub out_text : List Moment → List ℕ
out_text ms = flat_map said_text ms
