-- THE TRACE EVENTS OF A PLAN, as JSON: each behind a comma and LF, but the first.
use Rattle.std.specs.Prelude.{ℕ, zero, suc, ◌+◌, ◌-◌, ◌/◌, Bool, true, false, if◌then◌else◌, List, ◌++◌, length, fold, get_or, unwrap_or, codes, decimal}
use Rattle.drive_pictures.specs.declared.letters.Letter.{Letter}
use Rattle.drive_pictures.specs.declared.letters.Letter.TheVariants.{Idle}
use Rattle.drive_pictures.specs.declared.requests.Request.{Request}
use Rattle.drive_pictures.specs.Requests.{queued}
use Rattle.run_picture.specs.declared.columns.Window.{Window}
use Rattle.drive_pictures.specs.Words.{letter_word, outcome_word}
use Rattle.run_plan.specs.declared.bars.Bar.{Bar}
use Rattle.run_plan.specs.declared.lanes.Lane.{Lane}
use Rattle.run_plan.specs.declared.lanes.Point.{Point}
use Rattle.run_plan.specs.declared.plan.Plan.{Plan}
use Rattle.run_picture.specs.Columns.{edge_of}
use Rattle.run_plan.specs.Rows.{op_word}

-- THE START OF AN EVENT: its phase; its process, the adapter; its thread, the drive; its time, in events of the run
unfoldable pub with_head : List ℕ → ℕ → ℕ → List ℕ → List ℕ
with_head phase unit time text =
    text ++ codes ",\n{\"ph\":\"" ++ phase ++ codes "\",\"pid\":" ++ decimal (unit / 8 + 1) ++ codes ",\"tid\":" ++ decimal (unit + 1)
    ++ codes ",\"ts\":" ++ decimal time

-- the name of a process or of a thread
unfoldable pub with_name : List ℕ → ℕ → List ℕ → List ℕ → ℕ → List ℕ → List ℕ
with_name what unit kind word number text =
    with_head (codes "M") unit 0 text ++ codes ",\"name\":\"" ++ what ++ codes "\",\"args\":{\"name\":\"" ++ kind ++ word ++ decimal number
    ++ codes "\"}}"

-- A SLICE of a drive, from one event up to another; a bar is one unless the drive is idle
unfoldable pub with_slice : ℕ → ℕ → ℕ → List ℕ → List ℕ → List ℕ
with_slice unit from to word text =
    with_head (codes "X") unit from text ++ codes ",\"dur\":" ++ decimal (to - from) ++ codes ",\"name\":\"" ++ word ++ codes "\"}"

abbrev pub is_idle : Letter → Bool
is_idle Idle = true
is_idle l = false

abbrev pub with_bar : Window → ℕ → List ℕ → Bar → List ℕ
with_bar window unit text bar =
    if is_idle bar.letter then text else with_slice unit (edge_of window bar.from) (edge_of window bar.to) (letter_word bar.letter) text

-- A COUNTER; a point has two
unfoldable pub with_counter : ℕ → ℕ → List ℕ → ℕ → List ℕ → List ℕ
with_counter unit time word number text =
    with_head (codes "C") unit time text ++ codes ",\"name\":\"" ++ word ++ codes " of unit " ++ decimal unit ++ codes "\",\"args\":{\""
    ++ word ++ codes "\":" ++ decimal number ++ codes "}}"

abbrev pub with_point : ℕ → ℕ → Point → List ℕ → List ℕ
with_point unit time point text =
    with_counter unit time (codes "queue") point.waiting (with_counter unit time (codes "cylinder") point.cylinder text)

abbrev pub no_point : Point
no_point = record { cylinder = 0; waiting = 0 }

abbrev pub points_to : Window → ℕ → List Point → List ℕ → ℕ → List ℕ
points_to window unit points text zero = text
points_to window unit points text (suc n) = with_point unit (edge_of window n) (get_or points n no_point) (points_to window unit points text n)

abbrev pub with_points : Window → ℕ → List Point → List ℕ → List ℕ
with_points window unit points text = points_to window unit points text (length points)

-- A LANE: the names of its process and thread, its slices, its counters
unfoldable pub with_names : Lane → List ℕ → List ℕ
with_names lane text =
    with_name (codes "thread_name") lane.unit lane.kind.now (codes " unit ") lane.unit
    (with_name (codes "process_name") lane.unit (codes "mba") (codes " adapter ") (lane.unit / 8) text)

abbrev pub with_lane : Window → List ℕ → Lane → List ℕ
with_lane window text lane =
    with_points window lane.unit lane.points.items (fold (with_bar window lane.unit) (with_names lane text) lane.bars.items)

-- THE SPAN OF A REQUEST: it begins where it was asked for, with what became of it, and ends at its answer
unfoldable pub with_span : List ℕ → ℕ → Request → List ℕ → List ℕ
with_span phase time r text =
    with_head phase r.unit time text ++ codes ",\"cat\":\"request\",\"id\":" ++ decimal r.id ++ codes ",\"name\":\"" ++ op_word r.write
    ++ codes " " ++ decimal r.id ++ codes "\""

unfoldable pub with_arguments : Request → List ℕ → List ℕ
with_arguments r text =
    text ++ codes ",\"args\":{\"line\":" ++ decimal r.line ++ codes ",\"answer\":\"" ++ outcome_word r.outcome ++ codes "\",\"queued\":"
    ++ decimal (queued r) ++ codes ",\"way\":" ++ decimal r.times.way ++ codes ",\"ready\":" ++ decimal r.times.ready
    ++ codes ",\"transfer\":" ++ decimal r.times.trans ++ codes "}}"

unfoldable pub with_request : List ℕ → Request → List ℕ
with_request text r =
    with_span (codes "e") (unwrap_or r.ended r.asked) r (with_arguments r (with_span (codes "b") r.asked r text)) ++ codes "}"

-- ALL OF THEM, between the start of the list and its end
unfoldable pub front : List ℕ
front = codes "{\"traceEvents\":[\n{\"ph\":\"M\",\"pid\":0,\"tid\":0,\"ts\":0,\"name\":\"process_name\",\"args\":{\"name\":\"hpview\"}}"

unfoldable pub back : List ℕ
back = codes "\n]}\n"

abbrev pub events_of : Plan → List ℕ
events_of plan = fold with_request (fold (with_lane plan.window) front plan.lanes.items) plan.rows.items ++ back
