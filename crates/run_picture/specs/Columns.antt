-- THE COLUMNS OF A PICTURE: the events of a window, equally many to each.
use Rattle.std.specs.Prelude.{ℕ, ◌+◌, ◌-◌, ◌*◌, ◌/◌, ◌%◌, ◌==◌, nat_le, nat_lt, min, max, Bool, false, ◌&&◌, ◌||◌, if◌then◌else◌, List, [], ◌∷◌, slice_index, slice_range}
use Rattle.drive_pictures.specs.declared.drives.Drive.{Drive}
use Rattle.run_picture.specs.declared.columns.Window.{Window}
use Rattle.run_picture.specs.declared.columns.Head.{Head}
use Rattle.drive_pictures.specs.Counts.{plus}
use Rattle.run_picture.specs.Positioning.{positioning}

-- of a run of so many events those from one up to another, in at most 216 columns
abbrev pub per_column : ℕ → ℕ
per_column shown = max (shown / 216 + min (shown % 216) 1) 1

abbrev pub window_of : ℕ → ℕ → ℕ → Window
window_of events first last = record {
  first = min first (min last events);
  last = min last events;
  per = per_column (min last events - min first (min last events));
}

-- the event at which a column begins, and at which the one before it ends
abbrev pub edge_of : Window → ℕ → ℕ
edge_of window column = min (window.first + window.per * column) window.last

-- an event is one of them; or is the last before them
abbrev pub is_inside : Window → ℕ → Bool
is_inside window event = nat_le window.first event && nat_lt event window.last

abbrev pub is_before : Window → ℕ → Bool
is_before window event = plus event 1 == window.first

-- POSITIONING AT ONCE at an adapter: of its eight drives
abbrev pub adapter_drives : ℕ → List Drive → List Drive
adapter_drives adapter drives = slice_range drives (8 * adapter) (8 * adapter + 8)

abbrev pub together : List Drive → ℕ → ℕ
together drives adapter = positioning (adapter_drives adapter drives)

-- AN EVENT MORE in a column: the most drives of each adapter stay
abbrev pub most_together : List Drive → List ℕ → List ℕ
most_together drives before =
    max (slice_index before 0) (together drives 0)
    ∷ max (slice_index before 1) (together drives 1)
    ∷ max (slice_index before 2) (together drives 2)
    ∷ max (slice_index before 3) (together drives 3)
    ∷ []

abbrev pub new_head : Head
new_head = record { line = 0; last_line = 0; events = 0; idle = false; together = 0 ∷ 0 ∷ 0 ∷ 0 ∷ [] }

abbrev pub headed : ℕ → Bool → List Drive → Head → Head
headed line idle drives head = record {
  line = if head.events == 0 then line else head.line;
  last_line = line;
  events = plus head.events 1;
  idle = if head.events == 0 then idle else head.idle;
  together = most_together drives head.together;
}

-- it has as many as a column has, or the window ends
abbrev pub is_full : Head → Window → ℕ → Bool
is_full head window event = nat_le window.per head.events || (plus event 1 == window.last)
