-- How much a request costs if all its sectors are clean.
use Rattle.std.specs.Prelude.{◌≡◌, ℕ, ◌+◌, ◌≤◌, List, [], ◌∷◌, ◌++◌, Option}
use Rattle.pack_geometry.specs.declared.DriveKind.{DriveKind}
use Rattle.pack_geometry.specs.TableSpelling.{Table}
use Rattle.hardware_table.specs.declared.Moved.TheVariants as verdict
use Rattle.trace_replay.specs.requests.Requests.{Answer}
use Rattle.trace_replay.specs.Moments.{Deed, Search, Transfer, Sector, End, Moment, Told}
use Rattle.trace_replay.specs.Packs.{Surface}
use Rattle.trace_replay.specs.Replay.{new_replay, Follows}
use Rattle.trace_replay.specs.History.{lines_of}
use Rattle.trace_replay.specs.Causes.{AskSome, IsOk}

-- its transfer commands, and its searches
abbrev pub transfer_by : Deed → ℕ
transfer_by (Transfer write block count) = 1
transfer_by deed = 0

abbrev pub transfers_in : List Deed → ℕ
transfers_in [] = 0
transfers_in (deed ∷ lines) = transfer_by deed + transfers_in lines

abbrev pub search_by : Deed → ℕ
search_by (Search cylinder sector) = 1
search_by deed = 0

abbrev pub searches_in : List Deed → ℕ
searches_in [] = 0
searches_in (deed ∷ lines) = search_by deed + searches_in lines

-- each sector line is clean
abbrev pub IsCleanLine : Deed → Type 0
IsCleanLine (Sector block verdict.Clean) = Unit {0}
IsCleanLine (Sector block verdict) = ⊥
IsCleanLine deed = Unit {0}

abbrev pub AreClean : List Deed → Type 0
AreClean [] = Unit {0}
AreClean (deed ∷ lines) = IsCleanLine deed × AreClean lines

-- A request that is answered ok, and all of whose sector lines are clean, has one transfer command and at most one search.
abbrev pub OneTransfer : Type 0
OneTransfer = (drives : ℕ → Option DriveKind) (tables : ℕ → Option Table) (surface : Surface) (ms : List Moment) (line unit id : ℕ) (answer : Answer)
    → AskSome ms → Follows (new_replay drives tables surface) (ms ++ Told line unit id (End answer) ∷ []) → IsOk answer → AreClean (lines_of unit ms)
    → (transfers_in (lines_of unit ms) ≡ 1) × (searches_in (lines_of unit ms) ≤ 1)
