-- What files and streams keep of the calls that were made on them.
use Rattle.std.specs.Prelude.{ℕ, List, take, Option, None, Some, Result, Ok, Err}
use Rattle.outside_files.specs.declared.failure.SinkNotes.{SinkNotes}

-- the first failure, with what was tried, when one more call has answered
abbrev pub first_failure : {W E T : Type 0} → Option (W × E) → W → Result T E → Option (W × E)
first_failure (Some first) tried answer = Some first
first_failure None tried (Ok _) = None
first_failure None tried (Err error) = Some (tried, error)

-- the front that a sink keeps of the last piece that it was given
abbrev pub last_front : SinkNotes → List ℕ
last_front notes = take notes.length notes.front
