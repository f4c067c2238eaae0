-- WHAT A CACHE ASKS THE DRIVER for a script: a read for each block that it does not hold, and a write for each changed entry that is
-- dropped or synced, in their order; each a session of its own.
use Rattle.std.specs.Prelude.{◌≡◌, ℕ, ◌+◌, Bool, if◌then◌else◌, is_some, zero, suc, map, List, [], ◌∷◌, ◌++◌, Option, None, Some}
use Rattle.pack_geometry.specs.declared.DriveKind.{DriveKind}
use Rattle.partitions.specs.declared.Admission.{Admission}
use Rattle.partitions.specs.declared.Admission.TheVariants.{Inside, Eof, Outside}
use Rattle.partitions.specs.Partitions.{admission}
use Rattle.trace_replay.specs.requests.Requests.{Request, first_block}
use Rattle.trace_replay.specs.Moments.{Moment}
use Rattle.trace_replay.specs.Packs.{sector_of_block}
use Rattle.trace_replay.specs.Script.{Input, Submit, Drain, Numbered}
use Rattle.driver_laws.specs.rules.Machine.{Blocks}
use Rattle.driver_laws.specs.rules.Waited.{first_unusable}
use Rattle.driver_laws.specs.rules.Requests.{Map, one_block, behind_one}
use Rattle.driver_laws.specs.rules.Sessions.{Part, waited}
use Rattle.buffer_cache.specs.Passes.{begun}
use Rattle.driver_laws.specs.rules.Entries.{State, empty_cache, flushed, written_back}
use Rattle.driver_laws.specs.rules.Calls.{Done, read_done, write_done}
use Rattle.cached_run.specs.Answers.{met_by, first_by, map_by}

-- ---- WHAT THE CACHE IS ASKED at each line: the blocks of a request one by one, up to the first that can't be used; or a sync.
abbrev pub block_of : Request → (first k : ℕ) → Request
block_of r first k = one_block r.unit (first + k) (if is_some r.written then Some (sector_of_block r k) else None)

abbrev pub blocks_from : (n line first k : ℕ) → Request → List Numbered
blocks_from zero line first k r = []
blocks_from (suc n) line first k r = record { line = line; input = Submit (block_of r first k) } ∷ blocks_from n line first (k + 1) r

abbrev pub tried_of : Option ℕ → (count : ℕ) → ℕ
tried_of None count = count
tried_of (Some done) count = done + 1

abbrev pub blocks_at : Admission → Blocks → (line first : ℕ) → Request → List Numbered
blocks_at (Inside at) blocks line first r = blocks_from (tried_of (first_unusable r.count blocks first 0) r.count) line first 0 r
blocks_at Eof blocks line first r = []
blocks_at Outside blocks line first r = []

-- the same by the kind of its unit's drive and the blocks of the unit
abbrev pub calls_with : DriveKind → Blocks → (line : ℕ) → Request → List Numbered
calls_with kind blocks line r = blocks_at (admission kind r.part r.block r.count) blocks line (first_block kind r) r

abbrev pub calls_at : (ℕ → Option DriveKind) → Map → (line : ℕ) → Input → List Numbered
calls_at drives map line (Submit r) = blocks_at (met_by drives r) (map r.unit) line (first_by drives r) r
calls_at drives map line Drain = record { line = line; input = Drain } ∷ []
calls_at drives map line input = []

-- of all inputs, each by the map that those before it left
abbrev pub calls_for : (ℕ → Option DriveKind) → Map → List Numbered → List Numbered
calls_for drives map [] = []
calls_for drives map (n ∷ inputs) = calls_at drives map n.line n.input ++ calls_for drives (map_by drives map n.input) inputs

-- ---- WHAT ONE CALL COMES TO, where the blocks hold this
abbrev pub block_done : (written held : Option (List ℕ)) → (refuses : Bool) → State → (unit block : ℕ) → Done
block_done None held refuses s unit block = read_done held refuses s unit block
block_done (Some from) held refuses s unit block = write_done held refuses s unit block from

abbrev pub call_done : Map → (refuses : Bool) → State → Input → Done
call_done map refuses s (Submit r) = block_done r.written (map r.unit r.block) refuses s r.unit r.block
call_done map refuses s Drain = record { state = flushed s; asked = written_back s.entries; given = None }
call_done map refuses s input = record { state = s; asked = []; given = None }

abbrev pub map_behind : Map → Input → Map
map_behind map (Submit r) = behind_one map r
map_behind map input = map

abbrev pub maps_behind : Map → List Numbered → Map
maps_behind map [] = map
maps_behind map (n ∷ calls) = maps_behind (map_behind map n.input) calls

-- a call, and whether memory refused the insertion of its block, which no clause ties to anything
pub record Call : Type 0 where
  pub at : Numbered
  pub refuses : Bool

abbrev pub called : List Call → List Numbered
called calls = map (λ (c : Call). c.at) calls

abbrev pub lined : ℕ → List Request → List Numbered
lined line requests = map (λ (r : Request). record { line = line; input = Submit r }) requests

-- THE REQUESTS of calls one behind the other, and the cache behind them
abbrev pub asked_by : Map → State → List Call → List Numbered
asked_by map s [] = []
asked_by map s (c ∷ calls) = lined c.at.line (call_done map c.refuses s c.at.input).asked ++ asked_by (map_behind map c.at.input) (call_done map c.refuses s c.at.input).state calls

abbrev pub cache_behind : Map → State → List Call → State
cache_behind map s [] = s
cache_behind map s (c ∷ calls) = cache_behind (map_behind map c.at.input) (call_done map c.refuses s c.at.input).state calls

-- ---- A SESSION: a request that was waited for at a line
pub record Session : Type 0 where
  pub line : ℕ
  pub request : Request
  pub asked : List Moment
  pub drained : List Moment

abbrev pub requests_in : List Session → List Numbered
requests_in sessions = map (λ (s : Session). record { line = s.line; input = Submit s.request }) sessions

abbrev pub parts_in : List Session → List Part
parts_in [] = []
parts_in (s ∷ sessions) = waited s.line s.request s.asked s.drained ++ parts_in sessions

-- WHERE IT STOPPED: all calls before came to their end, and some of its own; of the next one some requests did, and in one it stopped.
pub record AsksUpTo (map : Map) (s : State) (before own : List Numbered) : Type 0 where
  pub done : List Call
  pub under : Call
  pub of_own : List Numbered
  pub rest : List Numbered
  pub are : called done ≡ before ++ of_own
  pub next : own ≡ of_own ++ under.at ∷ rest
  pub sessions : List Session
  pub last : List Session
  pub request : Request
  pub asked : List Moment
  pub drained : Option (List Moment)
  pub later : List Numbered
  pub all : requests_in sessions ≡ asked_by map s done
  pub some : requests_in last ++ record { line = under.at.line; input = Submit request } ∷ later
      ≡ asked_by (maps_behind map (called done)) (cache_behind map s done) (under ∷ [])

abbrev pub parts_till : {map : Map} {s : State} {before own : List Numbered} → AsksUpTo map s before own → List Part
parts_till c = parts_in c.sessions ++ (parts_in c.last ++ begun c.under.at.line c.request c.asked c.drained)

-- THESE SESSIONS are those that an empty cache of so many blocks asks for.
pub record AsksFor (capacity : ℕ) (drives : ℕ → Option DriveKind) (map : Map) (inputs : List Numbered) (sessions : List Session) : Type 0 where
  pub calls : List Call
  pub are : called calls ≡ calls_for drives map inputs
  pub requests : requests_in sessions ≡ asked_by map (empty_cache capacity) calls
