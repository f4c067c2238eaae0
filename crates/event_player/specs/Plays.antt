-- What a script comes to that was played to its end.
use Rattle.std.specs.Prelude.{◌≡◌, ℕ, Bool, IsTrue, List, ◌++◌, Option}
use Rattle.pack_geometry.specs.Pack.{Pack}
use Rattle.pack_geometry.specs.TableSpelling.{Table}
use Rattle.trace_replay.specs.Moments.{Moment}
use Rattle.trace_replay.specs.Script.{Script}
use Rattle.trace_replay.specs.Runs.{IsLegalRun, start_of}
use Rattle.trace_replay.specs.Text.{trace_text}
use Rattle.script_runs.specs.StopsPasses.{AreAsLong}
use Rattle.trace_lines.specs.answers.AnswerText.{out_text}
use Rattle.trace_lines.specs.declared.answers.tally.Tally.{Tally}
use Rattle.trace_lines.specs.answers.Counting.{tally_of}
use Rattle.script_runs.specs.Stops.{StaysBeyond}
use Rattle.event_player.specs.Playing.{counted, one_request}

-- A LEGAL RUN of the script over the packs, from what they held first to what they hold now, with the tables of these packs. Where the
-- sink for the answers tells, it took just the text of the run's answers and noises; where the trace tells, it took just the run's lines.
-- What images have beyond all writes stayed, and each is just as long as the blocks that the run wrote make it.
pub record Plays (script : Script) (old new : ℕ → Pack) (out_tells : Bool) (said said' : List ℕ) (trace_tells : Bool) (taken taken' : List ℕ) : Type 0 where
  pub tables : ℕ → Option Table
  pub moments : List Moment
  pub run : IsLegalRun script tables old new moments
  pub reach : StaysBeyond script tables old new
  pub long : AreAsLong (start_of script tables old) moments old new
  pub out : IsTrue out_tells → said' ≡ said ++ out_text moments
  pub trace : IsTrue trace_tells → taken' ≡ taken ++ trace_text moments

-- and the tally is that of the run
pub record Tallied (script : Script) (old new : ℕ → Pack) (out_tells : Bool) (said said' : List ℕ) (trace_tells : Bool) (taken taken' : List ℕ) (tally : Tally) : Type 0 where
  pub plays : Plays script old new out_tells said said' trace_tells taken taken'
  pub is : tally ≡ tally_of (counted one_request script.lines) plays.moments
