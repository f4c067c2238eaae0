-- WHERE AN EVENT BEGINS: what one line of the script does, or one event of a drain.
use Rattle.std.specs.Prelude.{ℕ, ◌/◌, ◌==◌, Bool, true, false, not, ◌||◌, if◌then◌else◌, Option, Some, None}
use Rattle.trace_lines.specs.declared.telling.Told.{Told as Deed}
use Rattle.trace_lines.specs.declared.telling.Told.TheVariants as told
use Rattle.drive_pictures.specs.declared.moments.Moment.{Moment}
use Rattle.drive_pictures.specs.declared.moments.Moment.TheVariants.{Played, Told, Idle}

-- the number of the script's line
abbrev pub line_of : Moment → ℕ
line_of (Played line play) = line
line_of (Told line unit id deed) = line
line_of (Idle line) = line

-- eight drives are on an adapter
abbrev pub adapter_of : ℕ → ℕ
adapter_of unit = unit / 8

-- a positioning ended, or a sector was tried
abbrev pub is_end_of_wait : Deed → Bool
is_end_of_wait told.Arrive = true
is_end_of_wait (told.Sector block verdict) = true
is_end_of_wait deed = false

-- Behind another deed of the same line: a positioning ends, a sector is tried, or an adapter is attended, whose first line is
-- behind one of those or of another adapter.
abbrev pub begins_by : Deed → Deed → Bool → Bool
begins_by before told.Arrive same_adapter = true
begins_by before (told.Sector block verdict) same_adapter = true
begins_by before told.Intr same_adapter = is_end_of_wait before || not same_adapter
begins_by before told.Attn same_adapter = is_end_of_wait before || not same_adapter
begins_by before deed same_adapter = false

-- behind another moment of the same line
abbrev pub begins_at : Moment → Moment → Bool
begins_at before (Played line play) = true
begins_at (Told l other i last) (Told line unit id deed) = begins_by last deed (adapter_of other == adapter_of unit)
begins_at before moment = false

-- A MOMENT BEGINS AN EVENT where there is none before it, at another line, and so within a line.
abbrev pub begins : Option Moment → Moment → Bool
begins None moment = true
begins (Some before) moment = if line_of before == line_of moment then begins_at before moment else true

-- a moment finds nothing to do
abbrev pub is_idle : Moment → Bool
is_idle (Idle line) = true
is_idle moment = false
