-- Homes of blocks.
use Rattle.std.proofs.Common.{◌≡◌, ℕ, ◌<◌, ◌≤◌, ◌+◌, true, false, List, Option, None, Some, refl, sym, ap, ◌∙◌, arith}
use Rattle.std.proofs.lemmas.Option.{none-some}
use Rattle.pack_geometry.specs.declared.DriveKind.{DriveKind}
use Rattle.pack_geometry.specs.declared.DriveKind.TheVariants.{Rp06}
use Rattle.pack_geometry.specs.Geometry.{limit_of, place_at, replacement_at}
use Rattle.pack_geometry.specs.Pack as model
use Rattle.pack_geometry.specs.TableSpelling.{Table}
use Rattle.pack_geometry.specs.PackTable.{IsTableAt, AreTablesOf}
use Rattle.pack_geometry.specs.Homes.{home_of, index_in, if_unmarked}
use Rattle.pack_geometry.proofs.HomeLaws.{homes_apart}
use Rattle.pack_geometry.proofs.PackTableLaws.{table_room}
use Rattle.driver_laws.specs.rules.Stands.{Setup, home_at, home_in}
use Rattle.std.specs.Prelude.{unwrap_or}
use Rattle.std.proofs.lemmas.Bool.{lt-ltb}
use Rattle.trace_replay.specs.requests.Requests.{first_block}
use Rattle.trace_replay.specs.Script.{IsThere}
use Rattle.trace_replay.specs.Moments.{Deed}
use Rattle.trace_replay.specs.Conversation.{Hand, Segment, OwnBlocks, Replacement, start_of}
use Rattle.trace_replay.proofs.Histories.{Open, WasMarked}

-- ---- no two blocks of a unit share a home

apart_at : (drive : Option DriveKind) (pack : model.Pack) (table : Option Table) (block other home : ℕ) → IsTableAt drive pack table
    → home_at drive table pack block ≡ Some home → home_at drive table pack other ≡ Some home → block ≡ other
apart_at None pack table block other home is one two = absurd (none-some home one)
apart_at (Some kind) pack table block other home is one two = homes_apart kind table pack block other home (table_room kind pack table is) one two

pub homes_differ : (setup : Setup) → AreTablesOf setup.drives setup.packs setup.tables → (unit block other home : ℕ)
    → home_in setup unit block ≡ Some home → home_in setup unit other ≡ Some home → block ≡ other
homes_differ setup are unit block other home one two = apart_at (setup.drives unit) (setup.packs unit) (setup.tables unit) block other home (are unit) one two

-- ---- the sector that a segment tries is the home of the first block not done, where it is unmarked

own_home : (kind : DriveKind) (table : Option Table) (pack : model.Pack) (block : ℕ) → block < limit_of kind → model.is_marked pack block ≡ false → home_of kind table pack block ≡ Some block
own_home kind table pack block below unmarked = rw (lt-ltb block (limit_of kind) below, unmarked) refl

listed_home : (kind : DriveKind) (table : Option Table) (pack : model.Pack) (block i home : ℕ) → block < limit_of kind → model.is_marked pack block ≡ true
    → index_in table (place_at kind block) ≡ Some i → home ≡ replacement_at kind i → model.is_marked pack home ≡ false → home_of kind table pack block ≡ Some home
listed_home kind table pack block i home below marked listed is unmarked =
    rw (lt-ltb block (limit_of kind) below, marked, listed) (ap (λ z. if_unmarked pack z) (sym is) ∙ rw unmarked refl)

pub tried_home : (h : Hand) (segment : Segment) (left : ℕ) (pack : model.Pack) (lines : List Deed) → Open h segment left lines → 1 ≤ left
    → first_block h.kind h.request + h.request.count ≤ limit_of h.kind → ((b : ℕ) → WasMarked b lines → model.is_marked pack b ≡ true)
    → model.is_marked pack (start_of segment h) ≡ false → home_of h.kind h.table pack (first_block h.kind h.request + h.progress.done) ≡ Some (start_of segment h)
tried_home h OwnBlocks left pack lines o some inside marks unmarked =
    own_home h.kind h.table pack (first_block h.kind h.request + h.progress.done) (below (first_block h.kind h.request) h.progress.done left h.request.count (limit_of h.kind) o.room some inside) unmarked
  where
    below : (first done left count limit : ℕ) → done + left ≤ count → 1 ≤ left → first + count ≤ limit → first + done < limit
    below first done left count limit a b c = omega arith
tried_home h (Replacement block) left pack lines o some inside marks unmarked =
    listed_home h.kind h.table pack (first_block h.kind h.request + h.progress.done) o.place.2.entry block
    (below (first_block h.kind h.request) h.progress.done left h.request.count (limit_of h.kind) o.room some inside)
    (marks (first_block h.kind h.request + h.progress.done) o.place.2.own) o.place.2.listed o.place.2.replacement unmarked
  where
    below : (first done left count limit : ℕ) → done + left ≤ count → 1 ≤ left → first + count ≤ limit → first + done < limit
    below first done left count limit a b c = omega arith

pub home_is : (setup : Setup) (unit : ℕ) (kind : DriveKind) (table : Option Table) (block : ℕ) → setup.drives unit ≡ Some kind → table ≡ setup.tables unit
    → home_in setup unit block ≡ home_of kind table (setup.packs unit) block
home_is setup unit kind table block declared is = rw (declared, is) refl

pub there_is : (drive : Option DriveKind) (P : DriveKind → Type 0) → IsThere drive P → (drive ≡ Some (unwrap_or drive Rp06)) × P (unwrap_or drive Rp06)
there_is None P is = absurd is
there_is (Some kind) P is = (refl, is)
