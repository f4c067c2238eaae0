-- WHAT A PICTURE SHOWS OF A RUN.
use Rattle.std.specs.Prelude.{◌≡◌, ℕ, ◌==◌, if◌then◌else◌, List, [], ◌∷◌, map, fold}
use Rattle.drive_pictures.specs.Events.{line_of}
use Rattle.run_view.specs.Answers.{HasAnswers}
use Rattle.run_view.specs.Plays.{plays_of}
use Rattle.run_view.specs.Runs.{run_of}
use Rattle.run_view.specs.Saids.{Said}
use Rattle.run_picture.specs.declared.columns.Window.{Window}
use Rattle.run_picture.specs.Columns.{window_of}
use Rattle.run_picture.specs.Fold.{Known, new_known, declared, run_from, events_in}
use Rattle.script_lines.specs.declared.statement.Statement.{Statement}
use Rattle.script_lines.specs.declared.statement.Statement.TheVariants as says
use Rattle.script_reader.specs.Stored.{Kept, Stored}
use Rattle.trace_reader.specs.declared.line.TraceLine.{TraceLine}
use Rattle.trace_reader.specs.Grammar.{Spells}
use Rattle.run_view.specs.declared.view.View.{View}
use Rattle.run_view.specs.Events.{new_counter, counted}
use Rattle.run_view.specs.Notes.{noted_of, notes_of}

-- before the run each drive that a script declares is of its kind
abbrev pub declares : {D N : Type 0} → Statement D N → Known → Known
declares (says.Unit u kind) known = declared u kind known
declares statement known = known

abbrev pub declared_line : Known → Kept → Known
declared_line known line = declares line.statement known

abbrev pub known_before : Stored → Window → Known
known_before script window = fold declared_line (new_known window) script.lines

-- how many events the lines of a run make
abbrev pub events_of : List Said → ℕ
events_of run =
    let last = fold (λ counter said. counted counter said.moment) new_counter run in
    events_in last.before last.event

-- the text of what is played of a line; empty where nothing is
abbrev pub played_text : List Said → ℕ → List ℕ
played_text [] line = []
played_text (play ∷ plays) line = if line_of play.moment == line then play.text else played_text plays line

-- IT SHOWS THE RUN of a script and of the lines that the bytes of its trace spell: how many events it has, and of them those from one up to another;
-- what is known behind its last line, and so the answers, where the run is legal; the lines that name a drive; and the texts of the
-- lines at which columns begin.
pub record Views (script : Stored) (trace : List ℕ) (first last : ℕ) (view : View) : Type 0 where
  pub lines : List TraceLine
  pub spells : Spells script trace lines
  pub events : view.events ≡ events_of (run_of (plays_of script) lines)
  pub window : view.window ≡ window_of (events_of (run_of (plays_of script) lines)) first last
  pub run : view.run ≡ run_from (known_before script view.window) (map (λ said. said.moment) (run_of (plays_of script) lines))
  pub answers : HasAnswers script trace view.run.requests
  pub notes : map noted_of view.notes.items ≡ notes_of view.window (run_of (plays_of script) lines)
  pub texts : map (λ text. text.now) view.texts.items ≡ map (λ column. played_text (plays_of script) column.head.line) view.run.columns
