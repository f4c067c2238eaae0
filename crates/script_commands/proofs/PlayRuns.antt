-- A run of `play`, by its status.
use Rattle.std.proofs.Common.{◌≡◌, ◌⊎◌, ℕ, IsTrue, List, refl, sym, ap, arith, ◌∙◌}
use Rattle.outside_traits.specs.Causes.{Rose}
use Rattle.script_reader.specs.Grammar.{IsRefused}
use Rattle.script_lines.specs.Known.{Numbered}
use Rattle.script_lines.specs.Words.{all_verbs}
use Rattle.script_reader.proofs.ReadingLaws.{one_script}
use Rattle.script_reader.specs.Meaning.{meaning}
use Rattle.event_player.specs.PlayFault.{PlayFault}
use Rattle.event_player.specs.PlayFault.TheVariants as faults
use Rattle.event_player.specs.Lengths.{IsTooLong}
use Rattle.command_parts.specs.Outside.{Outside}
use Rattle.command_parts.specs.Loading.{Means}
use Rattle.script_commands.specs.Headline.{Headline, HasStopped}
use Rattle.script_commands.specs.Scripts.{RunsScript}
use Rattle.script_commands.specs.Plays.{RunsPlay}
use Rattle.script_commands.proofs.ScriptRuns.{IsApart, IsRead, MeanOne, script_done, script_sink, script_store}
use Rattle.script_commands.proofs.TheRunLaws.{done_is_that_run}

pub one_meaning : MeanOne Means
one_meaning bytes script other means read =
    let same : (means.lines ≡ read.lines) × (means.count ≡ read.count) = one_script all_verbs bytes means.lines read.lines means.count read.count means.spelled read.spelled in
    means.is ∙ ap (λ (ls : List Numbered). meaning ls means.count) same.0 ∙ ap (λ (n : ℕ). meaning read.lines n) same.1 ∙ sym read.is

module _ (old new : Outside) (read : IsRead old new) where
  pub runs_done : Headline new.source_tells old.left new.left new.packs_tell old.held new.held new.out_tells old.said new.said new.trace_tells old.taken new.taken → RunsPlay 0 old new
  runs_done h = record {
    script = script_done _ one_meaning old new read (meaning h.lines h.count) (λ t. record { lines = h.lines; count = h.count; spelled = h.spelled t; is = refl }) h.fits;
    done = λ e. h;
    one = λ lines count e source told spelled. done_is_that_run h lines count source told spelled;
    stopped = λ e. absurd (omega (arith, e));
    stopped_packs = λ e. absurd (omega (arith, e));
  }

  abbrev Stop : PlayFault → Type 0
  Stop fault = HasStopped fault old new

  pub runs_sink : (s : Stop faults.Sink) → (IsTrue new.packs_tell → (unit n : ℕ) → ¬ (IsTooLong (meaning s.lines s.count) old.held unit n))
      → Rose old.out_faults new.out_faults ⊎ Rose old.trace_faults new.trace_faults → RunsPlay 5 old new
  runs_sink s fits rose = record {
    script = script_sink _ one_meaning old new read (meaning s.lines s.count) (λ t. record { lines = s.lines; count = s.count; spelled = s.spelled t; is = refl }) fits rose;
    done = λ e. absurd (omega (arith, e));
    one = λ lines count e source told spelled. absurd (omega (arith, e));
    stopped = λ e. s;
    stopped_packs = λ e. absurd (omega (arith, e));
  }

  pub runs_store : (s : Stop faults.Store) → Rose old.packs_faults new.packs_faults → RunsPlay 6 old new
  runs_store s rose = record {
    script = script_store _ one_meaning old new read (meaning s.lines s.count) (λ t. record { lines = s.lines; count = s.count; spelled = s.spelled t; is = refl }) rose;
    done = λ e. absurd (omega (arith, e));
    one = λ lines count e source told spelled. absurd (omega (arith, e));
    stopped = λ e. absurd (omega (arith, e));
    stopped_packs = λ e. s;
  }

-- nothing was played
pub unplayed : {old new : Outside} {code : ℕ} → IsApart code → RunsScript Means (IsRefused all_verbs) code old new → RunsPlay code old new
unplayed apart script = record {
  script = script;
  done = λ e. absurd (apart.done e);
  one = λ lines count e source told spelled. absurd (apart.done e);
  stopped = λ e. absurd (apart.sink e);
  stopped_packs = λ e. absurd (apart.store e);
}
