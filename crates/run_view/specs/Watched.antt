-- A RUN AS IT IS WATCHED: what is known of it, the event of its last moment, and the lines that name a drive.
use Rattle.std.specs.Prelude.{List, [], ◌++◌}
use Rattle.run_view.specs.Saids.{Said}
use Rattle.run_picture.specs.declared.columns.Window.{Window}
use Rattle.run_picture.specs.Fold.{Known, new_known, step}
use Rattle.run_view.specs.declared.counter.Counter.{Counter}
use Rattle.run_view.specs.Events.{new_counter, counted}
use Rattle.run_view.specs.Notes.{Noted, note_at}

pub record Watched : Type 0 where
  pub known : Known
  pub counter : Counter
  pub window : Window
  pub notes : List Noted

abbrev pub new_watched : Window → Watched
new_watched window = record { known = new_known window; counter = new_counter; window = window; notes = [] }

-- a line more
abbrev pub saw : Watched → Said → Watched
saw watched said = record {
  known = step watched.known said.moment;
  counter = counted watched.counter said.moment;
  window = watched.window;
  notes = watched.notes ++ note_at watched.window (counted watched.counter said.moment).event said;
}
