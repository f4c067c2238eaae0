-- What was counted, watched and noted makes a view.
use Rattle.std.proofs.Common.{◌≡◌, ℕ, List, ◌++◌, map, fold, ap, ◌∙◌}
use Rattle.script_reader.specs.Stored.{Stored}
use Rattle.trace_reader.specs.declared.line.TraceLine.{TraceLine}
use Rattle.trace_reader.specs.Grammar.{Spells}
use Rattle.run_view.specs.Plays.{plays_of}
use Rattle.run_view.specs.Runs.{run_of}
use Rattle.run_view.specs.Runs as runs
use Rattle.run_view.specs.Saids.{Said}
use Rattle.run_picture.specs.Columns.{window_of}
use Rattle.run_picture.specs.Fold.{step, finished, run_from, events_in}
use Rattle.run_view.specs.declared.counter.Counter.{Counter}
use Rattle.run_view.specs.declared.view.View.{View}
use Rattle.run_view.specs.Events.{new_counter, counted}
use Rattle.run_view.specs.Notes.{noted_of, notes_from}
use Rattle.run_view.specs.Views.{events_of, known_before, played_text, Views}
use Rattle.run_view.specs.Watched.{Watched, new_watched, saw}
use Rattle.run_view.proofs.answers.Shown.{are_shown}
use Rattle.run_view.proofs.WatchLaws.{known_all, notes_all}

abbrev pub count_said : Counter → Said → Counter
count_said counter said = counted counter said.moment

pub made : (script : Stored) (trace : List ℕ) (first last : ℕ) (view : View) (plays : List Said) (counter : Counter) (before behind : Watched)
    → plays ≡ plays_of script
    → ((lines others : List TraceLine) → Spells script trace lines → Spells script trace others → lines ≡ others)
    → runs.Watched count_said new_counter counter script plays trace
    → view.events ≡ events_in counter.before counter.event
    → view.window ≡ window_of view.events first last
    → before ≡ record (new_watched view.window) { known = known_before script view.window }
    → runs.Watched saw before behind script plays trace
    → view.run ≡ finished behind.known
    → map noted_of view.notes.items ≡ behind.notes
    → map (λ text. text.now) view.texts.items ≡ map (λ column. played_text plays column.head.line) view.run.columns
    → Views script trace first last view
made script trace first last view plays counter before behind plays_are one counts events_are window_is before_is watched run_is notes_are texts_are =
    let lines : List TraceLine = watched.lines in
    let run : List Said = run_of (plays_of script) lines in
    let same : counts.lines ≡ lines = one counts.lines lines counts.spells watched.spells in
    let counter_is : counter ≡ fold count_said new_counter run =
    counts.saw ∙ ap (λ (ls : List TraceLine). fold count_said new_counter (run_of plays ls)) same
    ∙ ap (λ (ps : List Said). fold count_said new_counter (run_of ps lines)) plays_are in
    let behind_is : behind ≡ fold saw before run = watched.saw ∙ ap (λ (ps : List Said). fold saw before (run_of ps lines)) plays_are in
    let many : view.events ≡ events_of run = events_are ∙ ap (λ (c : Counter). events_in c.before c.event) counter_is in
    let known_is : view.run ≡ run_from (known_before script view.window) (map (λ said. said.moment) run) =
    run_is ∙ ap (λ (w : Watched). finished w.known) behind_is ∙ ap finished (known_all before run)
    ∙ ap (λ (w : Watched). finished (fold step w.known (map (λ said. said.moment) run))) before_is in
    record {
      lines = lines;
      spells = watched.spells;
      events = many;
      window = window_is ∙ ap (λ (n : ℕ). window_of n first last) many;
      run = known_is;
      answers = are_shown script trace lines view.window view.run watched.spells known_is;
      notes = notes_are ∙ ap (λ (w : Watched). w.notes) behind_is ∙ notes_all before run
          ∙ ap (λ (w : Watched). w.notes ++ notes_from w.window w.counter.before w.counter.event run) before_is;
      texts = texts_are ∙ ap (λ (ps : List Said). map (λ column. played_text ps column.head.line) view.run.columns) plays_are;
    }
