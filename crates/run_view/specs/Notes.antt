-- THE LINES THAT NAME A DRIVE, in the columns of the events that are shown, where a column is one event.
use Rattle.std.specs.Prelude.{ℕ, ◌-◌, ◌==◌, Bool, true, false, ◌&&◌, List, [], ◌∷◌, ◌++◌, Option, Some, None}
use Rattle.drive_pictures.specs.declared.moments.Moment.{Moment}
use Rattle.run_view.specs.Saids.{Said}
use Rattle.run_picture.specs.declared.columns.Window.{Window}
use Rattle.run_picture.specs.Columns.{is_inside}
use Rattle.run_picture.specs.declared.columns.Note.{Note}
use Rattle.run_view.specs.Events.{event_at}

-- a line of a column, the drive that it names, and its text
pub record Noted : Type 0 where
  pub column : ℕ
  pub unit_number : ℕ
  pub text : List ℕ

abbrev pub noted_of : Note → Noted
noted_of note = record { column = note.column; unit_number = note.unit; text = note.text.now }

-- a column is one event, and this event is shown
abbrev pub is_noted : Window → ℕ → Bool
is_noted window event = window.per == 1 && is_inside window event

abbrev pub note_by : Bool → Option ℕ → ℕ → List ℕ → List Noted
note_by true (Some u) column text = record { column = column; unit_number = u; text = text } ∷ []
note_by true None column text = []
note_by false names column text = []

abbrev pub note_at : Window → ℕ → Said → List Noted
note_at window event said = note_by (is_noted window event) said.names (event - window.first) said.text

-- of all lines of a run, behind a moment of an event
abbrev pub notes_from : Window → Option Moment → ℕ → List Said → List Noted
notes_from window before event [] = []
notes_from window before event (said ∷ rest) =
    let here = event_at before event said.moment in
    note_at window here said ++ notes_from window (Some said.moment) here rest

abbrev pub notes_of : Window → List Said → List Noted
notes_of window run = notes_from window None 0 run
