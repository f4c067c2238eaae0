-- The answers to requests that are refused at their submission.
use Rattle.std.specs.Prelude.{Bool, true, false}
use Rattle.trace_replay.specs.declared.requests.answers.AnswerKind.{AnswerKind}
use Rattle.trace_replay.specs.declared.requests.answers.AnswerKind.TheVariants.{Eof, Error}
use Rattle.trace_replay.specs.declared.requests.answers.Cause.{Cause}
use Rattle.trace_replay.specs.declared.requests.answers.Cause.TheVariants.{Partition, Frames}

abbrev pub refuses_by : Cause → Bool
refuses_by Partition = true
refuses_by Frames = true
refuses_by why = false

abbrev pub refuses : AnswerKind → Bool
refuses Eof = true
refuses (Error why done) = refuses_by why
refuses kind = false
