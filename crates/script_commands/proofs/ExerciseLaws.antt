-- What an exercise comes to.
use Rattle.std.proofs.Common.{◌≡◌, ℕ, suc, ◌+◌, ◌-◌, ◌^◌, ◌<◌, Bool, false, List, [], ◌∷◌, map, min, length, All, Option, sym, ap, subst, arith, ◌∙◌}
use Rattle.outside_traits.specs.declared.traits.PackCall.{PackCall}
use Rattle.pack_geometry.specs.Pack.{Pack}
use Rattle.pack_geometry.specs.TableSpelling.{Table}
use Rattle.script_lines.specs.declared.statement.Statement.TheVariants as says
use Rattle.script_reader.specs.declared.fault.ReadFault.{ReadFault}
use Rattle.script_reader.specs.declared.fault.ReadFault.TheVariants as reading
use Rattle.script_lines.specs.declared.kinds.ScriptKind.{ScriptKind}
use Rattle.script_reader.specs.Grammar.{Spells, IsRefused}
use Rattle.script_reader.specs.Reading.{Refuses}
use Rattle.script_lines.specs.Known.{Said, Numbered as NumberedLine}
use Rattle.script_reader.specs.Printing.{numbered}
use Rattle.script_reader.specs.Stored.{Stored, lines_in}
use Rattle.script_lines.specs.Words.{all_verbs}
use Rattle.script_reader.specs.Meaning.{line_of, meaning, meaning_of, statement_of}
use Rattle.trace_replay.specs.Moments.{Moment, answers_in}
use Rattle.trace_replay.specs.Script.{Drain, Numbered, Script, IsScript, with_input, inputs_before}
use Rattle.trace_replay.specs.Runs.{IsLegalRun}
use Rattle.driver_laws.specs.rules.LegalAnswers.{AreNoAliases}
use Rattle.driver_laws.specs.rules.Promises.{Promises}
use Rattle.trace_lines.specs.declared.answers.tally.Tally.{Tally}
use Rattle.event_player.proofs.Passes.{legal_runs_are_one}
use Rattle.event_player.specs.PlayFault.{PlayFault}
use Rattle.event_player.specs.PlayFault.TheVariants as faults
use Rattle.event_player.specs.Playing.{counted, one_request}
use Rattle.event_player.specs.Plays.{Tallied}
use Rattle.event_player.specs.Passes.{Took, StopsAtSink}
use Rattle.event_player.specs.Stops.{Leaves, StopsPlaying}
use Rattle.hp_exercise.specs.Bounds.{HasShortNoise}
use Rattle.hp_exercise.specs.Exercise.{script_text}
use Rattle.hp_exercise.specs.Statements.{script_statements}
use Rattle.hp_exercise.specs.Room.{AreEmpty}
use Rattle.script_commands.specs.Exercises.{IsExercise, Exercised, IsCutShort, exercise_lines, exercise_script}
use Rattle.script_commands.proofs.AnsweredLaws.{all_answered}

-- SHORT NOISE is no alias noise.
no_alias : (st : Said) (n : ℕ) (inputs : List Numbered) → HasShortNoise st → AreNoAliases inputs → AreNoAliases (with_input n (statement_of st) inputs)
no_alias (says.Unit u kind) n inputs short are = are
no_alias (says.Noise u block span places) n inputs short are = ((λ alias. alias.long short), are)
no_alias other n inputs short are = (tt, are)

no_aliases : (statements : List Said) (n : ℕ) (last : List Numbered) → AreNoAliases last → All HasShortNoise statements
    → AreNoAliases (inputs_before last (map line_of (numbered n statements)))
no_aliases [] n last are short = are
no_aliases (st ∷ rest) n last are short =
    no_alias st n (inputs_before last (map line_of (numbered (n + 1) rest))) (short 0 st (omega arith))
    (no_aliases rest (n + 1) last are (λ i d lt. short (suc i) d (omega (arith, lt))))

pub is_exercise : (number : ℕ) → Spells all_verbs (script_text number) (exercise_lines number) 2051 → All HasShortNoise (script_statements number) → IsExercise number
is_exercise number spelled short = record {
  spelled = spelled;
  no_alias = no_aliases (script_statements number) 1 (record { line = 2051 + 1; input = Drain } ∷ []) (tt, tt) short;
}

-- EACH REQUEST IS ANSWERED.
abbrev pub KeepsAll : Type 0
KeepsAll = (script : Script) (tables : ℕ → Option Table) (old new : ℕ → Pack) (moments : List Moment) → IsLegalRun script tables old new moments
    → Promises script tables old new moments

reached : (n r most : ℕ) → n ≡ r → r < most + 1 → min n most ≡ r
reached n r most is lt = omega (arith, is, lt)

all_counted : (s : Script) (first last : ℕ → Pack) (tells : Bool) (taken taken' : List ℕ) (tally : Tally) → IsScript s → KeepsAll
    → tally.requests < 2 ^ 64 → Tallied s first last false [] [] tells taken taken' tally → tally.answers ≡ tally.requests
all_counted s first last tells taken taken' tally script keeps small played =
    let run = played.plays in
    let promises : Promises s run.tables first last run.moments = keeps s run.tables first last run.moments run.run in
    let all : length (answers_in run.moments) ≡ counted one_request s.lines = all_answered s.lines (answers_in run.moments) script.ids promises.once promises.no_other in
    let requests : tally.requests ≡ counted one_request s.lines = ap (λ (t : Tally). t.requests) played.is in
    let answers : tally.answers ≡ min (length (answers_in run.moments)) (2 ^ 64 - 1) = ap (λ (t : Tally). t.answers) played.is in
    answers ∙ reached (length (answers_in run.moments)) tally.requests (2 ^ 64 - 1) (all ∙ sym requests) small

-- THE SCRIPT that is read is that of the number.
abbrev pub OneScript : Type 0
OneScript = (bytes : List ℕ) (lines others : List NumberedLine) (count other : ℕ) → Spells all_verbs bytes lines count → Spells all_verbs bytes others other
    → (lines ≡ others) × (count ≡ other)

pub one_meaning : (number : ℕ) (stored : Stored) → Spells all_verbs (script_text number) (exercise_lines number) 2051
    → Spells all_verbs (script_text number) (lines_in stored) stored.count → OneScript → meaning_of stored ≡ exercise_script number
one_meaning number stored spelled read one =
    let same = one (script_text number) (exercise_lines number) (lines_in stored) 2051 stored.count spelled read in
    ap (λ (count : ℕ). meaning (lines_in stored) count) (sym same.1) ∙ ap (λ (lines : List NumberedLine). meaning lines 2051) (sym same.0)

-- and the reader does not refuse it.
abbrev pub NoFault : Type 0
NoFault = (bytes : List ℕ) (lines : List NumberedLine) (count : ℕ) → Spells all_verbs bytes lines count → (number : ℕ) (kind : ScriptKind) → ¬ IsRefused all_verbs bytes number kind

pub never_refused : (number : ℕ) (bytes : List ℕ) (fault : ReadFault) (line : ℕ) (kind : ScriptKind) → NoFault → Spells all_verbs (script_text number) (exercise_lines number) 2051
    → bytes ≡ script_text number → fault ≡ reading.Refused line kind → Refuses all_verbs fault bytes → ⊥
never_refused number bytes fault line kind none spelled text is refuses =
    none (script_text number) (exercise_lines number) 2051 spelled line kind
    (subst (λ (b : List ℕ). IsRefused all_verbs b line kind) text (subst (λ (f : ReadFault). Refuses all_verbs f bytes) is refuses))

-- WHAT WAS PLAYED
pub exercised_for : (number : ℕ) (script : Script) (first last : ℕ → Pack) (tells : Bool) (taken taken' : List ℕ) (tally : Tally)
    → script ≡ exercise_script number → IsExercise number → IsScript (exercise_script number) → AreEmpty first → tally.requests < 2 ^ 64 → KeepsAll
    → Tallied script first last false [] [] tells taken taken' tally → Exercised number tells taken taken' tally
exercised_for number script first last tells taken taken' tally same exercise good empty small keeps tallied =
    let played : Tallied (exercise_script number) first last false [] [] tells taken taken' tally =
    subst (λ (s : Script). Tallied s first last false [] [] tells taken taken' tally) same tallied in
    record {
      exercise = exercise;
      first = first;
      last = last;
      empty = empty;
      played = played;
      one = legal_runs_are_one (exercise_script number) first played.plays.tables last played.plays.moments played.plays.run;
      keeps = keeps (exercise_script number) played.plays.tables first last played.plays.moments played.plays.run;
      answered = all_counted (exercise_script number) first last tells taken taken' tally good keeps small played;
    }

pub cut_short_for : (number : ℕ) (script : Script) (fault : PlayFault) (first left : ℕ → Pack) (call : PackCall) (out trace : Took) → script ≡ exercise_script number
    → IsExercise number → AreEmpty first → fault ≡ faults.Sink → out.tells ≡ false → out.before ≡ [] → out.after ≡ [] → Leaves fault script first left call out trace
    → IsCutShort number trace.tells trace.before trace.after
cut_short_for number script fault first left call out trace same exercise empty sink untold before after leaves =
    let stops : StopsPlaying faults.Sink (exercise_script number) first left out trace =
    subst (λ (s : Script). Leaves faults.Sink s first left call out trace) same (subst (λ (f : PlayFault). Leaves f script first left call out trace) sink leaves) in
    record {
      exercise = exercise;
      first = first;
      left = left;
      empty = empty;
      stops = record {
        tables = stops.tables;
        read = stops.read;
        stopped = subst (λ (b : Bool). StopsAtSink (exercise_script number) stops.tables first left b [] [] trace.tells trace.before trace.after) untold
            (subst (λ (text : List ℕ). StopsAtSink (exercise_script number) stops.tables first left out.tells text [] trace.tells trace.before trace.after) before
            (subst (λ (text : List ℕ). StopsAtSink (exercise_script number) stops.tables first left out.tells out.before text trace.tells trace.before trace.after) after stops.stopped));
      };
    }
