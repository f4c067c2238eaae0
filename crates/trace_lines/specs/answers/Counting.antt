-- THE TALLY of a run: its answers, how many of them are ok, and the length and the sum of the answer text.
use Rattle.std.specs.Prelude.{◌≡◌, ℕ, ◌-◌, ◌%◌, ◌^◌, min, Bool, true, false, List, ◌++◌, length, sum, count_by}
use Rattle.trace_replay.specs.requests.Requests.{Answer, ReadOk, WriteOk}
use Rattle.trace_replay.specs.Moments.{Moment, Answered, answers_in}
use Rattle.trace_lines.specs.answers.AnswerText.{out_text}
use Rattle.trace_lines.specs.declared.answers.tally.Tally.{Tally}

-- an answer is ok, of a read or of a write
abbrev pub is_done : Answer → Bool
is_done (ReadOk bytes) = true
is_done WriteOk = true
is_done answer = false

abbrev pub is_ok : Answered → Bool
is_ok a = is_done a.answer

-- a count of 64 bits stands still at its last value
abbrev pub at_most : ℕ → ℕ
at_most n = min n (2 ^ 64 - 1)

-- so many requests, with these answers and this text, whose bytes are summed modulo 2^32
abbrev pub tally_by : ℕ → List Answered → List ℕ → Tally
tally_by requests answers text = record {
  requests = requests;
  answers = at_most (length answers);
  ok = at_most (count_by is_ok answers);
  text = at_most (length text);
  sum = sum text % 2 ^ 32;
}

-- THE TALLY of the moments of a run, of whose script so many requests are
abbrev pub tally_of : ℕ → List Moment → Tally
tally_of requests moments = tally_by requests (answers_in moments) (out_text moments)

-- MORE IS COUNTED: these answers and this text, behind whatever was counted before
abbrev pub Counts : List Answered → List ℕ → Tally → Tally → Type 0
Counts answers text old new = (requests : ℕ) (before : List Answered) (said : List ℕ)
    → old ≡ tally_by requests before said → new ≡ tally_by requests (before ++ answers) (said ++ text)

-- so are the answers of moments, and what is said of them
abbrev pub CountsAll : List Moment → Tally → Tally → Type 0
CountsAll moments old new = Counts (answers_in moments) (out_text moments) old new
