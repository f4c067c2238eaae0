-- The answers of a legal run, as its trace is read and shown.
use Rattle.std.proofs.Common.{◌≡◌, ℕ, ◌==◌, false, List, ◌∷◌, ◌++◌, map, Option, sym, ap, ◌∙◌, subst}
use Rattle.pack_geometry.specs.Pack as model
use Rattle.pack_geometry.specs.TableSpelling.{Table}
use Rattle.run_picture.specs.declared.columns.Window.{Window}
use Rattle.run_picture.specs.Fold.{Known, run_from}
use Rattle.script_reader.specs.Meaning.{meaning_of}
use Rattle.script_reader.specs.Stored.{Stored}
use Rattle.trace_reader.proofs.GrammarLaws.{one_trace}
use Rattle.trace_reader.specs.declared.line.TraceLine.{TraceLine}
use Rattle.trace_reader.specs.Grammar.{Spells}
use Rattle.trace_reader.specs.RoundTrip.{lines_told}
use Rattle.trace_replay.specs.Moments.{Moment, Told, End}
use Rattle.trace_replay.specs.Runs.{IsLegalRun}
use Rattle.run_view.specs.Answers.{IsAnswered, HasAnswers}
use Rattle.run_view.specs.Plays.{plays_of}
use Rattle.run_view.specs.Runs.{run_of}
use Rattle.run_view.specs.Views.{known_before}
use Rattle.run_view.proofs.answers.Answered.{are_answers_drawn}
use Rattle.run_view.proofs.answers.HeardWhole.{are_heard}
use Rattle.run_view.proofs.answers.Hears.{seen_of, known_of}
use Rattle.run_view.proofs.answers.Meant.{moment_of, meant}

-- what is shown is the fold over the moments of the run
shown : (script : Stored) (tables : ℕ → Option Table) (old new : ℕ → model.Pack) (ms : List Moment) → IsLegalRun (meaning_of script) tables old new ms → (script.count == 0) ≡ false
    → (bytes : List ℕ) (lines : List TraceLine) (window : Window) → Spells script bytes (lines_told ms) → Spells script bytes lines
    → run_from (known_before script window) (map moment_of (run_of (plays_of script) lines)) ≡ run_from (known_of (meaning_of script) window) (map seen_of ms)
shown script tables old new ms run some bytes lines window spells read =
    let known : Known = known_of (meaning_of script) window in
    ap (λ (k : Known). run_from k (map moment_of (run_of (plays_of script) lines))) (meant script window).before
    ∙ ap (λ (ls : List TraceLine). run_from known (map moment_of (run_of (plays_of script) ls))) (one_trace script bytes lines (lines_told ms) read spells)
    ∙ ap (run_from known) (are_heard script tables old new ms run some).run

pub are_shown : (script : Stored) (bytes : List ℕ) (lines : List TraceLine) (window : Window) (known : Known) → Spells script bytes lines
    → known ≡ run_from (known_before script window) (map moment_of (run_of (plays_of script) lines)) → HasAnswers script bytes known.requests
are_shown script bytes lines window known read is tables old new ms ns line u id a run some few spells =
    subst (λ (k : Known). IsAnswered k.requests id a line) (sym (is ∙ shown script tables old new (ms ++ Told line u id (End a) ∷ ns) run some bytes lines window spells read))
    (are_answers_drawn (meaning_of script) tables old new ms ns line u id a window run few)
