-- WHAT CALLS OF THE CACHE LEAVE, one behind the other: in what is cached, and on the packs.
use Rattle.std.specs.Prelude.{◌≡◌, ◌⊎◌, ℕ, ◌+◌, ◌<◌, ◌≤◌, zero, suc, IsTrue, List, [], ◌∷◌, length, take, slice_index_or, Option, Some}
use Rattle.pack_geometry.specs.Geometry.{limit_of}
use Rattle.driver_machine.specs.World.{World}
use Rattle.driver_machine.specs.Guards.{IsSetUp}
use Rattle.driver_laws.specs.rules.Rest.{HasTables}
use Rattle.driver_laws.specs.rules.Waited.{with_packs, first_unusable}
use Rattle.buffer_cache.specs.Passes.{Stage, setup_at, OthersStay, GoesOn, kind_at, map_at, left_map, StopsIn}
use Rattle.driver_laws.specs.declared.rules.cached.Entry.{Entry}
use Rattle.driver_laws.specs.rules.Requests.{Map, one_block}
use Rattle.trace_replay.specs.Script.{Submit, Numbered}
use Rattle.driver_laws.specs.rules.Entries.{State}
use Rattle.driver_laws.specs.rules.Contents.{cached, AllFit}
use Rattle.cached_run.specs.Answers.{Replacement, usable_of, after}
use Rattle.driver_laws.specs.declared.answers.outcome.Stop.{Stop}
use Rattle.cached_run.specs.Sessions.{tried_of, maps_behind, Call, called, asked_by, cache_behind, Session, requests_in, parts_in, AsksUpTo, parts_till}

-- A BLOCK HOLDS what it held, or what was cached after some of these replacements.
pub record SomeAfter (list : List Replacement) (contents : Map) (u b : ℕ) (now : Option (List ℕ)) : Type 0 where
  pub number : ℕ
  pub to : number ≤ length list
  pub holds : now ≡ after (take number list) contents u b

abbrev pub IsLeft : List Replacement → Map → List Entry → (u b : ℕ) → Option (List ℕ) → Type 0
IsLeft list map entries u b now = (now ≡ map u b) ⊎ SomeAfter list (cached entries map) u b now

pub record Leaves (list : List Replacement) (s : State) (old new : Stage) : Type 0 where
  pub each : (u b : ℕ) → IsLeft list (map_at old) s.entries u b (left_map old new u b)
  pub others : OthersStay (setup_at old) new.held

-- WHERE NOTHING STOPPED them, what is cached is what these replacements left; units and tables of the driver stay.
pub record Makes (list : List Replacement) (s s' : State) (old new : Stage) : Type 0 where
  pub contents : (u b : ℕ) → cached s'.entries (map_at new) u b ≡ after list (cached s.entries (map_at old)) u b
  pub fit : AllFit (map_at new) s'.entries

pub record KeepsSetup (old new : Stage) : Type 0 where
  pub setup : setup_at new ≡ with_packs (setup_at old) new.held
  pub tables : IsTrue new.packs_tell → HasTables (setup_at old) → HasTables (setup_at new)

-- THESE CALLS WERE MADE: this is the cache behind them, these blocks are cached then, and their requests are sessions.
pub record IsCalled (at : List Numbered) (s s' : State) (old new : Stage) : Type 0 where
  pub calls : List Call
  pub are : called calls ≡ at
  pub state : s' ≡ cache_behind (cached s.entries (map_at old)) s calls
  pub contents : (u b : ℕ) → cached s'.entries (map_at new) u b ≡ maps_behind (cached s.entries (map_at old)) at u b
  pub sessions : List Session
  pub requests : requests_in sessions ≡ asked_by (cached s.entries (map_at old)) s calls
  pub goes : GoesOn (parts_in sessions) old new

-- OR IT STOPPED in one of them.
pub record IsCutIn (stop : Stop) (before own : List Numbered) (s : State) (old new : Stage) : Type 0 where
  pub cut : AsksUpTo (cached s.entries (map_at old)) s before own
  pub stops : StopsIn stop (parts_till cut) old new

-- ---- SOME BLOCKS of a unit that is set up, from one on
pub record AreData (w : World) (unit first count : ℕ) : Type 0 where
  pub unit_is : IsSetUp w unit
  pub inside : first + count ≤ limit_of (kind_at w unit)

-- so many come before the first of them that can't be used
abbrev pub usable_in : Map → (unit first count : ℕ) → ℕ
usable_in map unit first count = usable_of (first_unusable count (map unit) first 0) count

-- so many are tried, each read, or written with the same bytes
abbrev pub tried_in : Map → (unit first count : ℕ) → ℕ
tried_in map unit first count = tried_of (first_unusable count (map unit) first 0) count

abbrev pub touches : (n line unit first : ℕ) → (written : Option (List ℕ)) → List Numbered
touches zero line unit first written = []
touches (suc n) line unit first written = record { line = line; input = Submit (one_block unit first written) } ∷ touches n line unit (first + 1) written

-- READ: these are the bytes of the first ones, so many;
pub record AreRead (contents : Map) (unit first count done : ℕ) (blocks : List (List ℕ)) : Type 0 where
  pub done_is : done ≡ usable_in contents unit first count
  pub bytes : (k : ℕ) → k < done → contents unit (first + k) ≡ Some (slice_index_or blocks k [])

-- or WRITTEN, each with the same bytes: so many replacements
abbrev pub spread : (n unit first : ℕ) → List ℕ → List Replacement
spread zero unit first bytes = []
spread (suc n) unit first bytes = record { unit = unit; block = first; bytes = bytes } ∷ spread n unit (first + 1) bytes

-- WHAT WAS DONE where nothing stopped it, and where the packs tell
pub record Does (at : Map → List Numbered) (list : List Replacement) (P : Map → Type 0) (s s' : State) (old new : Stage) : Type 0 where
  pub calls : IsCalled (at (cached s.entries (map_at old))) s s' old new
  pub leaves : Leaves list s old new
  pub makes : Makes list s s' old new
  pub says : P (cached s.entries (map_at old))
