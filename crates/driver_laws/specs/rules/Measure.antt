-- How many event lines are left. An event line tells an arrival, a sector, an interrupt or an attention, and the outstanding
-- requests may still take this many.
use Rattle.std.specs.Prelude.{ℕ, zero, suc, ◌+◌, ◌-◌, ◌*◌, nat_lt, Bool, true, false, if◌then◌else◌, List, [], ◌∷◌, drop, length}
use Rattle.hardware_table.specs.declared.Moved.{Moved}
use Rattle.hardware_table.specs.declared.Moved.TheVariants as verdict
use Rattle.hardware_table.specs.Drive.{is_positioning}
use Rattle.trace_replay.specs.requests.ServiceOrder.{Waiting as Waiter}
use Rattle.trace_replay.specs.requests.Requests.{Request}
use Rattle.trace_replay.specs.Service.{in_hand}
use Rattle.trace_replay.specs.Conversation.{Segment, OwnBlocks, Replacement, Stage, Waiting, Steps, UnderWay, AtOnce, Moving, Saying, Ending, Progress}
use Rattle.trace_replay.specs.Replay.{Replay, UnitSeen}

-- THE TRIES that are left at a block where so many failed at the place: 28 of its own sector, and 28 of its replacement
abbrev pub tries_left : Segment → ℕ → ℕ
tries_left OwnBlocks failures = 56 - failures
tries_left (Replacement block) failures = 28 - failures

-- the times that a retry goes back over cylinder 0: behind failures 4, 12 and 20
abbrev pub returns_left : ℕ → ℕ
returns_left failures = if nat_lt failures 4 then 3 else if nat_lt failures 12 then 2 else if nat_lt failures 20 then 1 else 0

-- the offsets, one behind each of the failures 16 to 27
abbrev pub offsets_left : ℕ → ℕ
offsets_left failures = 12 - (failures - 15)

-- THE STEPS of the retries that are left, where a return is a RECAL and a SEEK: 18 in all at each of the two places
abbrev pub steps_left : Segment → ℕ → ℕ
steps_left OwnBlocks failures = 2 * returns_left failures + offsets_left failures + 18
steps_left (Replacement block) failures = 2 * returns_left failures + offsets_left failures

-- THE EVENT LINES of a block and of those behind it: at each try a sector and its interrupt, for each step an arrival and an attention,
-- which are 184 for a whole block
abbrev pub events_from : Segment → ℕ → Progress → ℕ
events_from segment count p =
    184 * (count - (p.done + 1)) + (2 * tries_left segment p.failures + 2 * steps_left segment p.failures)

-- while each sector so far was clean: the interrupt alone where all of the segment are done
abbrev pub events_while_clean : Segment → ℕ → ℕ → Progress → ℕ
events_while_clean segment zero count p = 1 + 184 * (count - p.done)
events_while_clean segment (suc left) count p = events_from segment count p

-- while sectors move: where one was not clean its sector line is told, and its interrupt is left
abbrev pub events_while_moving : Segment → ℕ → Moved → ℕ → Progress → ℕ
events_while_moving segment left verdict.Clean count p = events_while_clean segment left count p
events_while_moving segment left verdict count p = events_from segment count p - 1

-- of a step that is under way, by whether its drive still positions
abbrev pub events_of_step : Bool → ℕ
events_of_step true = 2
events_of_step false = 1

-- of a request of so many blocks, by how far it is and where it stands
abbrev pub events_at : (positions : Bool) (count : ℕ) → Progress → Stage → ℕ
events_at positions count p Waiting = 0
events_at positions count p (Steps left segment) = 2 * length left + events_from segment count p
events_at positions count p (UnderWay left segment) = events_of_step positions + (2 * length left + events_from segment count p)
events_at positions count p (AtOnce segment) = events_from segment count p
events_at positions count p (Moving segment left last) = events_while_moving segment left last count p
events_at positions count p (Saying lines next) = events_at true count p next
events_at positions count p (Ending answer) = 0

-- of requests that are not begun: 184 for each block, and a search
abbrev pub events_behind : List (Waiter Request) → ℕ
events_behind [] = 0
events_behind (w ∷ rest) = 184 * w.request.count + 2 + events_behind rest

-- of a unit: the request in hand, and those that wait behind it
abbrev pub events_of_unit : UnitSeen → ℕ
events_of_unit u =
    events_at (is_positioning u.drive.work) (in_hand u.service).count u.progress u.stage + events_behind (drop 1 u.service.waiting)

-- of some units
abbrev pub events_of_units : (ℕ → UnitSeen) → List ℕ → ℕ
events_of_units units [] = 0
events_of_units units (x ∷ xs) = events_of_unit (units x) + events_of_units units xs

-- THE EVENT LINES THAT ARE LEFT for all requests that are outstanding at units that are there
abbrev pub events_left : Replay → ℕ
events_left s = events_of_units s.units s.there

-- the blocks of the requests that wait at a unit, with the one in hand
abbrev pub blocks_waiting : List (Waiter Request) → ℕ
blocks_waiting [] = 0
blocks_waiting (w ∷ rest) = w.request.count + blocks_waiting rest

-- of some units
abbrev pub blocks_of_units : (ℕ → UnitSeen) → List ℕ → ℕ
blocks_of_units units [] = 0
blocks_of_units units (x ∷ xs) = blocks_waiting (units x).service.waiting + blocks_of_units units xs

-- THE BLOCKS THAT ARE OUTSTANDING at units that are there
abbrev pub blocks_outstanding : Replay → ℕ
blocks_outstanding s = blocks_of_units s.units s.there
