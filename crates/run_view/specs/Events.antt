-- THE EVENTS OF A RUN are counted by where they begin.
use Rattle.std.specs.Prelude.{ℕ, if◌then◌else◌, Option, Some, None}
use Rattle.drive_pictures.specs.declared.moments.Moment.{Moment}
use Rattle.drive_pictures.specs.Counts.{plus}
use Rattle.drive_pictures.specs.Events.{begins}
use Rattle.run_view.specs.declared.counter.Counter.{Counter}

abbrev pub new_counter : Counter
new_counter = record { before = None; event = 0 }

-- the number of the event that a moment is of, behind another of an event
abbrev pub event_at : Option Moment → ℕ → Moment → ℕ
event_at None event moment = event
event_at (Some before) event moment = if begins (Some before) moment then plus event 1 else event

abbrev pub counted : Counter → Moment → Counter
counted counter moment = record { before = Some moment; event = event_at counter.before counter.event moment }
