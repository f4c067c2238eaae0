-- THE ANSWERS OF A LEGAL RUN, as a view has them.
use Rattle.std.specs.Prelude.{◌≡◌, ℕ, ◌<◌, ◌^◌, false, List, ◌∷◌, ◌++◌, length, codes, Option, ◌==◌}
use Rattle.trace_lines.specs.answers.AnswerText.{cause_word}
use Rattle.drive_pictures.specs.declared.requests.Outcome.{Outcome}
use Rattle.drive_pictures.specs.declared.requests.Outcome.TheVariants as outcome
use Rattle.pack_geometry.specs.Pack as model
use Rattle.pack_geometry.specs.TableSpelling.{Table}
use Rattle.drive_pictures.specs.Words.{outcome_word}
use Rattle.run_picture.specs.Fold.{request_at}
use Rattle.trace_replay.specs.requests.Requests.{Answer, ReadOk, WriteOk, OutsidePartition, EndOfPartition, NoFrames, Failed, Offline, Locked, Unforwarded}
use Rattle.trace_replay.specs.Moments.{Moment, Told, End}
use Rattle.trace_replay.specs.Runs.{IsLegalRun}
use Rattle.drive_pictures.specs.declared.requests.Request.{Request}
use Rattle.script_reader.specs.Meaning.{meaning_of}
use Rattle.script_reader.specs.Stored.{Stored}
use Rattle.trace_reader.specs.RoundTrip.{lines_told}
use Rattle.trace_reader.specs.Grammar.{Spells}

-- the word of an answer, as an answer's line has it
abbrev pub answer_word : Answer → List ℕ
answer_word (ReadOk bytes) = codes "ok"
answer_word WriteOk = codes "ok"
answer_word EndOfPartition = codes "eof"
answer_word OutsidePartition = codes "partition"
answer_word NoFrames = codes "frames"
answer_word (Failed cause done) = cause_word cause

-- an outcome is the answer's word; or it is `stopped`, where the lines do not tell which of three causes it was
abbrev pub IsStop : Answer → Type 0
IsStop (Failed Unforwarded done) = Unit {0}
IsStop (Failed Offline done) = Unit {0}
IsStop (Failed Locked done) = Unit {0}
IsStop a = ⊥

abbrev pub IsWordOf : Outcome → Answer → Type 0
IsWordOf outcome.Stopped a = IsStop a
IsWordOf o a = outcome_word o ≡ answer_word a

-- A REQUEST WAS ANSWERED SO: it is one of those that the run has, and no other has its id; and it has the line at which it was
-- answered, and the answer's word or `stopped`
pub record IsAnswered (requests : List Request) (id : ℕ) (a : Answer) (number : ℕ) : Type 0 where
  pub place : ℕ
  pub inside : place < length requests
  pub own : (request_at requests place).id ≡ id
  pub alone : (other : ℕ) → other < length requests → (request_at requests other).id ≡ id → other ≡ place
  pub line : (request_at requests place).ended_line ≡ number
  pub outcome : IsWordOf (request_at requests place).outcome a

-- THE ANSWERS of a legal run are had: where the bytes of a trace spell the lines of a legal run of the script, which has a line, each
-- request that the run answers was answered so.
abbrev pub HasAnswers : Stored → List ℕ → List Request → Type 0
HasAnswers script trace requests = (tables : ℕ → Option Table) (old new : ℕ → model.Pack) (ms ns : List Moment) (line u id : ℕ) (a : Answer)
    → IsLegalRun (meaning_of script) tables old new (ms ++ Told line u id (End a) ∷ ns) → (script.count == 0) ≡ false → length ms < 2 ^ 64
    → Spells script trace (lines_told (ms ++ Told line u id (End a) ∷ ns)) → IsAnswered requests id a line
