-- What a run of `play` that is done has done.
use Rattle.std.specs.Prelude.{◌≡◌, ℕ, List, [], Bool, IsTrue}
use Rattle.pack_geometry.specs.Pack.{Pack}
use Rattle.script_reader.specs.Grammar.{Spells}
use Rattle.script_lines.specs.Known.{Numbered}
use Rattle.script_lines.specs.Words.{all_verbs}
use Rattle.script_reader.specs.Meaning.{meaning}
use Rattle.driver_laws.specs.rules.Promises.{Promises}
use Rattle.event_player.specs.PlayFault.{PlayFault}
use Rattle.event_player.specs.Plays.{Plays}
use Rattle.event_player.specs.Lengths.{IsTooLong}
use Rattle.event_player.specs.Stops.{Leaves}
use Rattle.command_parts.specs.Outside.{Outside}
use Rattle.script_commands.specs.Sinks.{out_took, trace_took}
use Rattle.script_commands.specs.SoFar.{Keeps}

-- THE HEADLINE. Where the source tells, it was read to its end, and its bytes spell these lines; where the packs tell, the lines were
-- played in a legal run over them, whose answers and lines the sinks took, and all is promised of it; and no image was too long.
pub record Headline (source_tells : Bool) (left left_after : List ℕ) (tells : Bool) (old new : ℕ → Pack) (out_tells : Bool) (said said' : List ℕ)
    (trace_tells : Bool) (taken taken' : List ℕ) : Type 0 where
  pub lines : List Numbered
  pub count : ℕ
  pub read : IsTrue source_tells → left_after ≡ []
  pub spelled : IsTrue source_tells → Spells all_verbs left lines count
  pub plays : IsTrue tells → Plays (meaning lines count) old new out_tells said said' trace_tells taken taken'
  pub keeps : (told : IsTrue tells) → Promises (meaning lines count) (plays told).tables old new (plays told).moments
  pub fits : IsTrue tells → (unit n : ℕ) → ¬ (IsTooLong (meaning lines count) old unit n)

-- WHERE IT STOPPED as a sink or the packs failed. Where the source tells, it was read to its end, and its bytes spell
-- these lines; where the packs tell, the lines were played so far, this is what is left, and of the moments so far all is promised that can be.
pub record HasStopped (fault : PlayFault) (old new : Outside) : Type 0 where
  pub lines : List Numbered
  pub count : ℕ
  pub read : IsTrue new.source_tells → new.left ≡ []
  pub spelled : IsTrue new.source_tells → Spells all_verbs old.left lines count
  pub leaves : IsTrue new.packs_tell → Leaves fault (meaning lines count) old.held new.held new.failed_at (out_took old new) (trace_took old new)
  pub keeps : IsTrue new.packs_tell → Keeps fault (meaning lines count) old.held new.held (out_took old new) (trace_took old new)
