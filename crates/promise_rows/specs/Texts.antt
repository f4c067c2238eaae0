-- Wrong lines of a trace and of answers, and wrong counts of them.
use Rattle.std.specs.Prelude.{◌≡◌, ◌≢◌, ℕ, ◌-◌, ◌^◌, ◌<◌, List, [], ◌∷◌, ◌++◌, codes}
use Rattle.hardware_table.specs.declared.Moved.TheVariants.{Clean}
use Rattle.trace_replay.specs.requests.Requests.{WriteOk}
use Rattle.trace_replay.specs.Moments.{Answered, Sector, Told}
use Rattle.trace_replay.specs.Text.{moment_text}
use Rattle.trace_lines.specs.answers.AnswerText.{error_words}
use Rattle.trace_lines.specs.declared.answers.tally.Tally.{Tally}
use Rattle.trace_lines.specs.answers.Counting.{Counts, tally_by}

-- UNIT AND ID SWAPPED in the line of a sector that moved clean.
abbrev pub UnitAndIdSwapped : Type 0
UnitAndIdSwapped = (line unit id block : ℕ) → unit < 10 → id < 10 → unit ≢ id
    → moment_text (Told line id unit (Sector block Clean)) ≢ moment_text (Told line unit id (Sector block Clean))

-- AN ERROR WITHOUT DONE: how many blocks were done is left out.
abbrev pub ErrorWithoutDone : Type 0
ErrorWithoutDone = (cause : List ℕ) (done : ℕ) → done < 2 ^ 32 → codes "error " ++ cause ++ codes " done " ≢ error_words cause done

-- OK COUNTS READS ALONE: the first answer is that of a write, and none is ok.
abbrev pub OkCountsReadsAlone : Type 0
OkCountsReadsAlone = (requests line id : ℕ) (new : Tally) → new.ok ≡ 0 → ¬ Counts (record { line = line; id = id; answer = WriteOk } ∷ []) [] (tally_by requests [] []) new

-- A SUM THAT SATURATES stands still where the next byte takes it round to 0.
abbrev pub SumThatSaturates : Type 0
SumThatSaturates = (requests : ℕ) (before : List Answered) (said : List ℕ) (old new : Tally) → old ≡ tally_by requests before said
    → old.sum ≡ 2 ^ 32 - 1 → new.sum ≡ 2 ^ 32 - 1 → ¬ Counts [] (1 ∷ []) old new
