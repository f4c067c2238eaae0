-- What a caller is given of an answer: how far its request came, and the bytes of a read.
use Rattle.std.specs.Prelude.{ℕ, List, [], ◌∷◌}
use Rattle.driver_laws.specs.rules.Laid.{laid}
use Rattle.trace_replay.specs.requests.Requests.{Answer, ReadOk, WriteOk, OutsidePartition, EndOfPartition, NoFrames, Failed}
use Rattle.trace_replay.specs.Moments.{Answered}
use Rattle.blocking_io.specs.declared.reached.Reached.{Reached}
use Rattle.blocking_io.specs.declared.reached.Reached.TheVariants.{All, Before, Outside, AtEnd}

-- how far it came
abbrev pub reached_by : Answer → Reached
reached_by (ReadOk bytes) = All
reached_by WriteOk = All
reached_by OutsidePartition = Outside
reached_by EndOfPartition = AtEnd
reached_by NoFrames = Before 0
reached_by (Failed cause done) = Before done

-- a read that is answered ok gives its bytes; else the buffer stays
abbrev pub bytes_by : Answer → List ℕ → List ℕ
bytes_by (ReadOk bytes) into = laid bytes into
bytes_by answer into = into

pub record Given : Type 0 where
  pub reached : Reached
  pub bytes : List ℕ

abbrev pub gives : Answered → Given → Given
gives a g = record { reached = reached_by a.answer; bytes = bytes_by a.answer g.bytes }

-- answers one after another
abbrev pub gives_all : List Answered → Given → Given
gives_all [] g = g
gives_all (a ∷ answers) g = gives_all answers (gives a g)
