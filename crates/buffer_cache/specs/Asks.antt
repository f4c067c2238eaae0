-- REQUESTS FOR SINGLE BLOCKS that are waited for, one after another at one line: the lines that they tell, and what they leave.
use Rattle.std.specs.Prelude.{◌≡◌, ◌⊎◌, ℕ, ◌<◌, IsTrue, List, [], ◌∷◌, ◌++◌, Option, None, Some, Bool, if◌then◌else◌}
use Rattle.pack_geometry.specs.Geometry.{limit_of}
use Rattle.trace_replay.specs.requests.Requests.{Request}
use Rattle.trace_replay.specs.Moments.{Moment}
use Rattle.driver_machine.specs.World.{World}
use Rattle.driver_machine.specs.Guards.{IsSetUp}
use Rattle.driver_laws.specs.declared.answers.outcome.Stop.{Stop}
use Rattle.driver_laws.specs.rules.Sessions.{Part, waited}
use Rattle.driver_laws.specs.rules.Rest.{HasTables}
use Rattle.blocking_io.specs.FrontsPasses.{Stage, setup_at, GoesOn}
use Rattle.blocking_io.specs.Stopping.{StopsIn, begun}
use Rattle.blocking_io.specs.Fronts.{OthersStay}
use Rattle.blocking_io.specs.Sites.{kind_at, map_at, left_map}
use Rattle.driver_laws.specs.rules.Requests.{reads, behind_one, behind}

-- A DATA BLOCK of a unit that is set up
pub record IsData (w : World) (unit block : ℕ) : Type 0 where
  pub unit_is : IsSetUp w unit
  pub inside : block < limit_of (kind_at w unit)

-- A request that was waited for, with the lines of its submission and its drain
pub record Waited : Type 0 where
  pub request : Request
  pub asked : List Moment
  pub drained : List Moment

abbrev pub requests_of : List Waited → List Request
requests_of [] = []
requests_of (w ∷ ws) = w.request ∷ requests_of ws

abbrev pub parts_of : (line : ℕ) → List Waited → List Part
parts_of line [] = []
parts_of line (w ∷ ws) = waited line w.request w.asked w.drained ++ parts_of line ws

-- JUST THESE REQUESTS were made, in this order, each waited for before the next one. Where the packs tell what they hold, and the
-- driver's tables are theirs, they hold what the requests leave; and what is no home of a data block stays.
pub record Asks (line : ℕ) (requests : List Request) (old new : Stage) : Type 0 where
  pub waited_for : List Waited
  pub are : requests_of waited_for ≡ requests
  pub goes : GoesOn (parts_of line waited_for) old new
  pub others : IsTrue new.packs_tell → HasTables (setup_at old) → OthersStay (setup_at old) new.held
  pub map : IsTrue new.packs_tell → HasTables (setup_at old) → map_at new ≡ behind (map_at old) requests

-- WHERE IT STOPPED, these requests were to be made: each was waited for before the next one, up to one in which it stopped.
pub record AsksTill (stop : Stop) (line : ℕ) (requests : List Request) (old new : Stage) : Type 0 where
  pub waited_for : List Waited
  pub cut : Request
  pub asked : List Moment
  pub drained : Option (List Moment)
  pub later : List Request
  pub are : requests_of waited_for ++ cut ∷ later ≡ requests
  pub stops : StopsIn stop (parts_of line waited_for ++ begun line cut asked drained) old new

-- A READ of one gives its bytes where it can be used.
abbrev pub found_bytes : (found : Bool) → List ℕ → Option (List ℕ)
found_bytes found bytes = if found then Some bytes else None

pub record Fetches (line unit block : ℕ) (found : Bool) (into : List ℕ) (old new : Stage) : Type 0 where
  pub asks : Asks line (reads unit block ∷ []) old new
  pub told : IsTrue new.packs_tell → HasTables (setup_at old) → map_at old unit block ≡ found_bytes found into

-- WHERE IT STOPPED the packs hold what they held, or what the request leaves. (That is told by the units and tables of before.)
pub record LeftBy (r : Request) (old new : Stage) : Type 0 where
  pub map : (left_map old new ≡ map_at old) ⊎ (left_map old new ≡ behind_one (map_at old) r)
  pub others : OthersStay (setup_at old) new.held
