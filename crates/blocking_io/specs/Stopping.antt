-- A REQUEST THAT STOPPED, as its callers see it: the trace took a front of the lines of a session, and the packs are as these lines
-- leave them, but for one block of a write.
use Rattle.std.specs.Prelude.{◌≡◌, ◌⊎◌, ℕ, IsTrue, List, [], ◌∷◌, ◌++◌, Option, None, Some}
use Rattle.pack_geometry.specs.declared.DriveKind.{DriveKind}
use Rattle.pack_geometry.specs.Pack.{Pack, with_written}
use Rattle.trace_replay.specs.requests.Requests.{Request}
use Rattle.trace_replay.specs.Moments.{Moment}
use Rattle.trace_replay.specs.Script.{Submit}
use Rattle.trace_replay.specs.Text.{trace_text}
use Rattle.trace_replay.specs.Packs.{sector_of_block}
use Rattle.trace_replay.specs.Replay.{Replay, AreLeft}
use Rattle.trace_replay.specs.Service.{in_hand}
use Rattle.driver_laws.specs.rules.Beginnings.{IsNextSector}
use Rattle.driver_laws.specs.answers.Outcome.{IsFront}
use Rattle.driver_laws.specs.declared.answers.outcome.Stop.{Stop}
use Rattle.driver_laws.specs.declared.answers.outcome.Stop.TheVariants.{Store, Sink}
use Rattle.driver_laws.specs.shown.NextBlock.{HasNext}
use Rattle.driver_laws.specs.shown.Lengths.{AreAsLong}
use Rattle.driver_laws.specs.rules.Sessions.{Part, IsSession, behind_all, waited, told_in}
use Rattle.driver_laws.specs.rules.Rest.{HasTables}
use Rattle.hp_driver.specs.Passes.{StandsQuiet}
use Rattle.blocking_io.specs.Calls.{Stage}
use Rattle.blocking_io.specs.Asking.{ImagesStay, moments_in, setup_at}

-- WHAT THE TRACE TOOK of lines: where it failed a front of them, and where the packs failed all.
pub record TookFront (before after text : List ℕ) : Type 0 where
  pub least : IsFront before after
  pub most : IsFront after (before ++ text)

abbrev pub Took : Stop → (before after text : List ℕ) → Type 0
Took Sink before after text = TookFront before after text
Took Store before after text = after ≡ before ++ text

-- HOW THE PACKS ARE LEFT: as the replay has them behind the lines; and where they failed, perhaps with the next block of a write whose
-- transfer is under way.
abbrev pub LeftAt : Stop → (ℕ → Option DriveKind) → (old left : ℕ → Pack) → Replay → Type 0
LeftAt Sink drives old left s = AreLeft drives old left s.surface
LeftAt Store drives old left s = AreLeft drives old left s.surface ⊎ HasNext drives old left s

-- HOW LONG IMAGES ARE LEFT: each is just as long as the blocks make it that the lines wrote; and where the packs failed, perhaps with the next
-- block of a write whose sectors move.
pub record IsLongerByOne (parts : List Part) (old left : ℕ → Pack) (s : Replay) : Type 0 where
  pub held : ℕ → Pack
  pub long : AreAsLong s (moments_in parts) old held
  pub unit : ℕ
  pub block : ℕ
  pub next : IsNextSector ((behind_all s parts).units unit) (held unit) block
  pub is : left ≡ with_written held unit block (sector_of_block (in_hand ((behind_all s parts).units unit).service) ((behind_all s parts).units unit).progress.done)

abbrev pub LongAt : Stop → List Part → (old left : ℕ → Pack) → Replay → Type 0
LongAt Sink parts old left s = AreAsLong s (moments_in parts) old left
LongAt Store parts old left s = AreAsLong s (moments_in parts) old left ⊎ IsLongerByOne parts old left s

-- A SESSION THAT STOPPED, of these parts, the last one with its lines so far: so from each replay that stands for the driver before
pub record IsCut (stop : Stop) (parts : List Part) (old new : Stage) (s : Replay) : Type 0 where
  pub session : IsSession s parts
  pub packs : LeftAt stop (setup_at old).drives old.held new.held (behind_all s parts)
  pub long : LongAt stop parts old.held new.held s

pub record StopsIn (stop : Stop) (parts : List Part) (old new : Stage) : Type 0 where
  pub trace : IsTrue new.trace_tells → Took stop old.taken new.taken (trace_text (told_in parts))
  pub cut : IsTrue new.packs_tell → HasTables (setup_at old) → (s : Replay) → StandsQuiet old.held old.world s → IsCut stop parts old new s

-- the parts of one request: its submission alone, or its drain too
abbrev pub begun : ℕ → Request → List Moment → Option (List Moment) → List Part
begun line r asked None = record { line = line; input = Submit r; told = asked } ∷ []
begun line r asked (Some drained) = waited line r asked drained

-- A REQUEST THAT STOPPED. A read leaves each image.
pub record Stops (stop : Stop) (line : ℕ) (r : Request) (old new : Stage) : Type 0 where
  pub asked : List Moment
  pub drained : Option (List Moment)
  pub stops : StopsIn stop (begun line r asked drained) old new
  pub images : IsTrue new.packs_tell → r.written ≡ None → ImagesStay old.held new.held
