-- The counts rise by what a script brings, what is set up stays, and what the counts say of slots.
use Rattle.std.specs.Prelude.{◌≡◌, ℕ, ◌+◌, ◌≤◌, List}
use Rattle.trace_replay.specs.requests.Requests.{Request}
use Rattle.trace_replay.specs.Script.{Input}
use Rattle.driver_machine.specs.World.{World, Held, Setup, new_world, unit_at}
use Rattle.driver_machine.specs.Acts.{Act, Taken, Tried, after, after_all}
use Rattle.driver_machine.specs.Events.{submit_acts, event_acts}
use Rattle.driver_machine.specs.Guards.{Allowed}
use Rattle.driver_machine.specs.Runs.{Run}
use Rattle.driver_laws.specs.answers.Counts.{IsWithin, IsSetAs, noises_of, faults_of, brings_request, brings_noise, brings_faults, bring_requests, bring_noises, bring_faults}

-- At the start there are none, whatever is set up,
abbrev pub StartsWithNone : Type 0
StartsWithNone = (setups : List Setup) (outstanding noises : ℕ) → IsWithin 0 0 0 (new_world setups outstanding noises)

-- and so many noises may be armed as were asked for.
abbrev pub StartsWithRoom : Type 0
StartsWithRoom = (setups : List Setup) (outstanding noises : ℕ) → (new_world setups outstanding noises).book.capacity ≡ noises

-- What is within bounds is within larger ones.
abbrev pub MoreIsWithin : Type 0
MoreIsWithin = (requests noises faults more_requests more_noises more_faults : ℕ) (w : World) → requests ≤ more_requests → noises ≤ more_noises
    → faults ≤ more_faults → IsWithin requests noises faults w → IsWithin more_requests more_noises more_faults w

-- EACH ACT that may come adds what it brings,
abbrev pub ActsAdd : Type 0
ActsAdd = (requests noises faults : ℕ) (w : World) (act : Act) → Allowed w act → IsWithin requests noises faults w
    → IsWithin (requests + brings_request act) (noises + brings_noise act) (faults + brings_faults act) (after w act)

-- and acts that run add what all of them bring.
abbrev pub RunsAdd : Type 0
RunsAdd = (requests noises faults : ℕ) (w : World) (acts : List Act) → Run w acts → IsWithin requests noises faults w
    → IsWithin (requests + bring_requests acts) (noises + bring_noises acts) (faults + bring_faults acts) (after_all w acts)

-- SO DO THE CALLS: an event no request, and what its input brings besides,
abbrev pub EventsAdd : Type 0
EventsAdd = (requests noises faults : ℕ) (w : World) (line : ℕ) (input : Input) (tried : Tried) → Run w (event_acts line input tried w)
    → IsWithin requests noises faults w
    → IsWithin requests (noises + noises_of input) (faults + faults_of input) (after_all w (event_acts line input tried w))

-- a submission one request at most,
abbrev pub SubmissionsAdd : Type 0
SubmissionsAdd = (requests noises faults : ℕ) (w : World) (line p : ℕ) (r : Request) (h : Held) → Run w (submit_acts r line p h w)
    → IsWithin requests noises faults w → IsWithin (requests + 1) noises faults (after_all w (submit_acts r line p h w))

-- and an answer that is taken nothing.
abbrev pub TakingsAdd : Type 0
TakingsAdd = (requests noises faults : ℕ) (w : World) → IsWithin requests noises faults w → IsWithin requests noises faults (after w Taken)

-- HOW MUCH NOISE may be armed stays, whatever acts come,
abbrev pub CapacityStays : Type 0
CapacityStays = (w : World) (acts : List Act) → (after_all w acts).book.capacity ≡ w.book.capacity

-- and so does what is set up of each unit.
abbrev pub SetupsStay : Type 0
SetupsStay = (w : World) (acts : List Act) (u : ℕ) → IsSetAs (unit_at w u) (unit_at (after_all w acts) u)
