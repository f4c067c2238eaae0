-- What an exercise has done, and a run of the command.
use Rattle.std.specs.Prelude.{◌≡◌, ◌⊎◌, ℕ, false, Bool, IsTrue, List, [], ◌++◌}
use Rattle.pack_geometry.specs.Pack.{Pack}
use Rattle.outside_traits.specs.Causes.{Rose}
use Rattle.outside_traits.specs.Puts.{TakesFront}
use Rattle.script_reader.specs.Grammar.{Spells}
use Rattle.script_lines.specs.Known.{Numbered}
use Rattle.script_reader.specs.Printing.{numbered}
use Rattle.script_lines.specs.Words.{all_verbs}
use Rattle.script_reader.specs.Meaning.{meaning}
use Rattle.trace_replay.specs.Script.{Script, inputs_of}
use Rattle.driver_laws.specs.rules.LegalAnswers.{AreNoAliases}
use Rattle.trace_lines.specs.declared.answers.tally.Tally.{Tally}
use Rattle.event_player.specs.PlayFault.TheVariants as faults
use Rattle.event_player.specs.Plays.{Tallied}
use Rattle.event_player.specs.Passes.{Took}
use Rattle.event_player.specs.Stops.{StopsPlaying}
use Rattle.hp_exercise.specs.Exercise.{script_text}
use Rattle.hp_exercise.specs.Statements.{script_statements}
use Rattle.driver_laws.specs.rules.Promises.{Promises}
use Rattle.event_player.specs.Passes.{IsTheRun}
use Rattle.hp_exercise.specs.Room.{AreEmpty}
use Rattle.hp_exercise.specs.ExerciseText.{exercise_text}

-- THE SCRIPT of a number, in 2,051 lines
abbrev pub exercise_lines : ℕ → List Numbered
exercise_lines number = numbered 1 (script_statements number)

abbrev pub exercise_script : ℕ → Script
exercise_script number = meaning (exercise_lines number) 2051

-- The text of the number spells its script, which arms no alias noise.
pub record IsExercise (number : ℕ) : Type 0 where
  pub spelled : Spells all_verbs (script_text number) (exercise_lines number) 2051
  pub no_alias : AreNoAliases (inputs_of (exercise_script number))

-- IT WAS PLAYED in the one legal run that the script has over empty packs, of which all is promised that is promised of a run of `play`.
-- Where the trace tells, it took just the run's lines. The tally is that of the run, and each request was answered.
pub record Exercised (number : ℕ) (trace_tells : Bool) (taken taken' : List ℕ) (tally : Tally) : Type 0 where
  pub exercise : IsExercise number
  pub first : ℕ → Pack
  pub last : ℕ → Pack
  pub empty : AreEmpty first
  pub played : Tallied (exercise_script number) first last false [] [] trace_tells taken taken' tally
  pub one : IsTheRun (exercise_script number) first played.plays.tables last played.plays.moments
  pub keeps : Promises (exercise_script number) played.plays.tables first last played.plays.moments
  pub answered : tally.answers ≡ tally.requests

-- and where the sink tells, it took the four lines of that tally.
pub record IsDone (number : ℕ) (out_tells : Bool) (said said' : List ℕ) (trace_tells : Bool) (taken taken' : List ℕ) : Type 0 where
  pub tally : Tally
  pub exercised : Exercised number trace_tells taken taken' tally
  pub told : IsTrue out_tells → said' ≡ said ++ exercise_text number tally

-- nobody reads the answers
abbrev pub unheard : Took
unheard = record { tells = false; before = []; after = []; faults = 0; faults_after = 0 }

-- A SINK FAILED, whose count of faults rose: the trace, and the script was played so far; or the other sink, and it took a front of the
-- four lines.
pub record IsCutShort (number : ℕ) (trace_tells : Bool) (taken taken' : List ℕ) : Type 0 where
  pub exercise : IsExercise number
  pub first : ℕ → Pack
  pub left : ℕ → Pack
  pub empty : AreEmpty first
  pub stops : StopsPlaying faults.Sink (exercise_script number) first left unheard (record { tells = trace_tells; before = taken; after = taken'; faults = 0; faults_after = 0 })

pub record IsUntold (number : ℕ) (out_tells : Bool) (said said' : List ℕ) (trace_tells : Bool) (taken taken' : List ℕ) : Type 0 where
  pub tally : Tally
  pub exercised : Exercised number trace_tells taken taken' tally
  pub front : IsTrue out_tells → TakesFront said said' (exercise_text number tally)

abbrev pub IsStopped : (number : ℕ) (out_tells : Bool) (said said' : List ℕ) (out_faults out_faults' : ℕ)
    (trace_tells : Bool) (taken taken' : List ℕ) (trace_faults trace_faults' : ℕ) → Type 0
IsStopped number out_tells said said' out_faults out_faults' trace_tells taken taken' trace_faults trace_faults' =
    (Rose trace_faults trace_faults' × (said' ≡ said) × IsCutShort number trace_tells taken taken')
    ⊎ (Rose out_faults out_faults' × IsUntold number out_tells said said' trace_tells taken taken')

-- `exercise`: the script of the number was played, and its tally printed; or a sink failed, and it was played so far, or a front of its
-- four lines was taken; or there was no memory. Where no count rose it is no sink that failed.
pub record RunsExercise (number code : ℕ) (out_tells : Bool) (said said' : List ℕ) (out_faults out_faults' : ℕ)
    (trace_tells : Bool) (taken taken' : List ℕ) (trace_faults trace_faults' : ℕ) : Type 0 where
  pub statuses : (code ≡ 0) ⊎ (code ≡ 5) ⊎ (code ≡ 9)
  pub done : code ≡ 0 → IsDone number out_tells said said' trace_tells taken taken'
  pub stopped : code ≡ 5 → IsStopped number out_tells said said' out_faults out_faults' trace_tells taken taken' trace_faults trace_faults'
  pub ends : ¬ Rose out_faults out_faults' → ¬ Rose trace_faults trace_faults' → (code ≡ 0) ⊎ (code ≡ 9)
