-- ONE REQUEST AT A TIME, WAITED FOR. From a replay at rest a request has one answer, which the map alone gives, and the replay
-- after it rests again.
use Rattle.std.specs.Prelude.{◌≡◌, ℕ, ◌+◌, zero, suc, List, [], ◌∷◌, Option, None, Some, is_some, if◌then◌else◌}
use Rattle.pack_geometry.specs.Pack as model
use Rattle.pack_geometry.specs.Homes.{contents_of}
use Rattle.partitions.specs.declared.Admission.{Admission}
use Rattle.partitions.specs.declared.Admission.TheVariants.{Inside, Eof, Outside}
use Rattle.partitions.specs.Partitions.{admission}
use Rattle.trace_replay.specs.requests.Requests.{Request, IsRequest, first_block, Answer, ReadOk, WriteOk, OutsidePartition, EndOfPartition, Failed, Unforwarded}
use Rattle.trace_replay.specs.Script.{IsThere}
use Rattle.trace_replay.specs.Moments.{Moment, answers_in}
use Rattle.trace_replay.specs.Replay.{Replay, IsOver}
use Rattle.driver_laws.specs.rules.Machine.{Blocks, kind_of, bytes_of_first, blocks_after}
use Rattle.driver_laws.specs.rules.Stands.{Setup, home_in, held_at}
use Rattle.driver_laws.specs.rules.Sessions.{IsSession, behind_all, waited, told_in}
use Rattle.driver_laws.specs.rules.Rest.{IsAtRest, HasTables}

-- THE ANSWER, of a map alone. The first of the blocks from one on that is unusable, of so many
abbrev pub unusable_or : Option (List ℕ) → ℕ → Option ℕ → Option ℕ
unusable_or None k later = Some k
unusable_or (Some bytes) k later = later

abbrev pub first_unusable : (left : ℕ) → Blocks → (first k : ℕ) → Option ℕ
first_unusable zero blocks first k = None
first_unusable (suc left) blocks first k = unusable_or (blocks (first + k)) k (first_unusable left blocks first (suc k))

-- unforwarded there, with the blocks before it done; else ok, a read with the bytes of its blocks
abbrev pub answer_by : Option ℕ → Blocks → (first : ℕ) → Request → Answer
answer_by (Some done) blocks first r = Failed Unforwarded done
answer_by None blocks first r = if is_some r.written then WriteOk else ReadOk (bytes_of_first r.count blocks first r)

abbrev pub answer_of : Blocks → (first : ℕ) → Request → Answer
answer_of blocks first r = answer_by (first_unusable r.count blocks first 0) blocks first r

-- by what it meets at its partition, which may refuse it
abbrev pub answer_at : Admission → Blocks → (first : ℕ) → Request → Answer
answer_at Outside blocks first r = OutsidePartition
answer_at Eof blocks first r = EndOfPartition
answer_at (Inside at) blocks first r = answer_of blocks first r

-- THE MAP behind an answer: a request that is refused leaves it
abbrev pub map_at : Admission → (ℕ → Blocks) → (first : ℕ) → Request → Answer → ℕ → Blocks
map_at Outside map first r answer = map
map_at Eof map first r answer = map
map_at (Inside at) map first r answer = blocks_after map first r answer

-- of the packs that are set up
abbrev pub map_of : Setup → ℕ → Blocks
map_of setup = contents_of setup.drives setup.tables setup.packs

abbrev pub first_in : Setup → Request → ℕ
first_in setup r = first_block (kind_of setup.drives r.unit) r

abbrev pub met_in : Setup → Request → Admission
met_in setup r = admission (kind_of setup.drives r.unit) r.part r.block r.count

abbrev pub answer_in : Setup → Request → Answer
answer_in setup r = answer_at (met_in setup r) (map_of setup r.unit) (first_in setup r) r

abbrev pub map_behind : Setup → Request → ℕ → Blocks
map_behind setup r = map_at (met_in setup r) (map_of setup) (first_in setup r) r (answer_in setup r)

-- WHAT MAY BE ASKED: a request to a unit that is there
abbrev pub IsAskable : Setup → Request → Type 0
IsAskable setup r = IsThere (setup.drives r.unit) (λ kind. IsRequest r)

-- WHAT IT COMES TO, from what the packs hold: one answer, that of the map; and each home holds the map behind that answer.
pub record IsAnswered (setup : Setup) (line : ℕ) (r : Request) (told : List Moment) (s : Replay) : Type 0 where
  pub one : answers_in told ≡ record { line = line; id = r.id; answer = answer_in setup r } ∷ []
  pub held : (unit block : ℕ) → held_at (s.surface.sector unit) (home_in setup unit block) ≡ map_behind setup r unit block
  pub others : (unit sector : ℕ) → ((block : ℕ) → home_in setup unit block ≡ Some sector → ⊥)
      → s.surface.sector unit sector ≡ model.block_at (setup.packs unit).image sector

-- A request that was waited for, from a replay at rest over packs with these tables
pub record IsWaitedFor (setup : Setup) (s : Replay) (line : ℕ) (r : Request) (asked drained : List Moment) : Type 0 where
  pub tables : HasTables setup
  pub rest : IsAtRest setup s
  pub askable : IsAskable setup r
  pub session : IsSession s (waited line r asked drained)
  pub over : IsOver (behind_all s (waited line r asked drained))

-- THE LAW. It is answered so,
abbrev pub WaitedIsAnswered : Type 0
WaitedIsAnswered = (setup : Setup) (s : Replay) (line : ℕ) (r : Request) (asked drained : List Moment) → IsWaitedFor setup s line r asked drained
    → IsAnswered setup line r (told_in (waited line r asked drained)) (behind_all s (waited line r asked drained))

-- and where the packs are left as the replay has them it rests again, over these, which have the same tables.
pub record AreLeftBy (setup : Setup) (packs : ℕ → model.Pack) (s : Replay) : Type 0 where
  pub sectors : (unit block : ℕ) → s.surface.sector unit block ≡ model.block_at (packs unit).image block
  pub marked : (unit block : ℕ) → s.surface.is_marked unit block ≡ model.is_marked (packs unit) block
  pub marks : (unit : ℕ) → (packs unit).marks ≡ (setup.packs unit).marks

abbrev pub with_packs : Setup → (ℕ → model.Pack) → Setup
with_packs setup packs = record setup { packs = packs }

pub record RestsOver (setup : Setup) (s : Replay) : Type 0 where
  pub tables : HasTables setup
  pub rest : IsAtRest setup s

abbrev pub RestsAgain : Type 0
RestsAgain = (setup : Setup) (s : Replay) (line : ℕ) (r : Request) (asked drained : List Moment) (packs : ℕ → model.Pack)
    → IsWaitedFor setup s line r asked drained → AreLeftBy setup packs (behind_all s (waited line r asked drained))
    → RestsOver (with_packs setup packs) (behind_all s (waited line r asked drained))

-- So what the packs hold is the map behind the answer.
abbrev pub PacksHoldMap : Type 0
PacksHoldMap = (setup : Setup) (s : Replay) (line : ℕ) (r : Request) (asked drained : List Moment) (packs : ℕ → model.Pack)
    → IsWaitedFor setup s line r asked drained → AreLeftBy setup packs (behind_all s (waited line r asked drained))
    → (unit block : ℕ) → map_of (with_packs setup packs) unit block ≡ map_behind setup r unit block
