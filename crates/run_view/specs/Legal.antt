-- THE TRACE OF A LEGAL RUN is a trace of its script.
use Rattle.std.specs.Prelude.{◌≡◌, ℕ, ◌≤◌, List, length, Option}
use Rattle.std.specs.List.{All}
use Rattle.pack_geometry.specs.Pack as model
use Rattle.pack_geometry.specs.TableSpelling.{Table}
use Rattle.script_reader.specs.Meaning.{meaning_of}
use Rattle.script_reader.specs.Stored.{Stored}
use Rattle.trace_reader.specs.Grammar.{Spells}
use Rattle.trace_reader.specs.Lines.{IsLine}
use Rattle.trace_reader.specs.RoundTrip.{lines_told}
use Rattle.trace_replay.specs.Moments.{Moment}
use Rattle.trace_replay.specs.Runs.{IsLegalRun}
use Rattle.trace_replay.specs.Text.{trace_text}

-- Bytes are the text of a legal run of a script. They are not too many, and each number in them is in its range.
pub record IsLegalTrace (script : Stored) (bytes : List ℕ) : Type 0 where
  pub tables : ℕ → Option Table
  pub old : ℕ → model.Pack
  pub new : ℕ → model.Pack
  pub moments : List Moment
  pub run : IsLegalRun (meaning_of script) tables old new moments
  pub text : bytes ≡ trace_text moments
  pub short : length bytes ≤ 268435456
  pub ranges : All IsLine (lines_told moments)

-- Such bytes spell what the run tells: no line has a number below the one before, none names a request that the script did not ask
-- for, and none stands behind the end of its request.
abbrev pub ReadsLegal : Type 0
ReadsLegal = (script : Stored) (bytes : List ℕ) → (legal : IsLegalTrace script bytes) → Spells script bytes (lines_told legal.moments)
