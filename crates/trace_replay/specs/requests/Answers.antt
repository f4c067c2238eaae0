-- Which answer has which kind.
use Rattle.std.specs.Prelude.{ℕ, List}
use Rattle.trace_replay.specs.requests.Requests as told
use Rattle.trace_replay.specs.declared.requests.answers.AnswerKind.{AnswerKind}
use Rattle.trace_replay.specs.declared.requests.answers.AnswerKind.TheVariants as answer
use Rattle.trace_replay.specs.declared.requests.answers.Cause.{Cause}
use Rattle.trace_replay.specs.declared.requests.answers.Cause.TheVariants as cause

-- an error
abbrev pub error_told : Cause → ℕ → told.Answer
error_told cause.Partition done = told.OutsidePartition
error_told cause.Frames done = told.NoFrames
error_told cause.Offline done = told.Failed told.Offline done
error_told cause.Locked done = told.Failed told.Locked done
error_told cause.Unforwarded done = told.Failed told.Unforwarded done
error_told (cause.Fault attempts) done = told.Failed told.Fault done

-- an answer; a read gives these bytes
abbrev pub answer_of : List ℕ → AnswerKind → told.Answer
answer_of bytes (answer.ReadOk count last) = told.ReadOk bytes
answer_of bytes answer.WriteOk = told.WriteOk
answer_of bytes answer.Eof = told.EndOfPartition
answer_of bytes (answer.Error why done) = error_told why done
