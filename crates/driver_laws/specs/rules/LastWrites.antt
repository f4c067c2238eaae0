-- THE SAME IN FEWER WORDS, by the script and its answers alone: a read gives what the writes that were answered before it left, or
-- what the packs held first.
use Rattle.std.specs.Prelude.{◌≡◌, ℕ, ◌==◌, if◌then◌else◌, List, [], ◌∷◌, Option, None, Some}
use Rattle.pack_geometry.specs.declared.DriveKind.{DriveKind}
use Rattle.trace_replay.specs.requests.Requests.{Request, first_block, Answer, ReadOk, OutsidePartition, EndOfPartition, NoFrames}
use Rattle.trace_replay.specs.Script.{Input, Submit, Numbered}
use Rattle.trace_replay.specs.Moments.{Answered}
use Rattle.driver_laws.specs.rules.Machine.{Blocks, kind_of, bytes_of_first, blocks_after}

-- the request that has an id: that of an input, or one of others
abbrev pub asked_by : ℕ → Input → Option Request → Option Request
asked_by id (Submit r) others = if r.id == id then Some r else others
asked_by id input others = others

-- of all inputs
abbrev pub asked_in : ℕ → List Numbered → Option Request
asked_in id [] = None
asked_in id (n ∷ inputs) = asked_by id n.input (asked_in id inputs)

-- what an answer to a request leaves: a write has replaced the blocks that were done; a read and a refusal change nothing
abbrev pub left_by : (ℕ → Option DriveKind) → Option Request → Answer → (ℕ → Blocks) → ℕ → Blocks
left_by drives None answer blocks unit = blocks unit
left_by drives (Some r) OutsidePartition blocks unit = blocks unit
left_by drives (Some r) EndOfPartition blocks unit = blocks unit
left_by drives (Some r) NoFrames blocks unit = blocks unit
left_by drives (Some r) answer blocks unit = blocks_after blocks (first_block (kind_of drives r.unit) r) r answer unit

-- what answers leave one after another
abbrev pub left_behind : (ℕ → Option DriveKind) → List Numbered → (ℕ → Blocks) → List Answered → ℕ → Blocks
left_behind drives inputs blocks [] = blocks
left_behind drives inputs blocks (a ∷ answers) = left_behind drives inputs (left_by drives (asked_in a.id inputs) a.answer blocks) answers

-- a read that is answered ok gives what these blocks hold, where that is claimed
abbrev pub Gives : (ℕ → Option DriveKind) → ((line : ℕ) → Request → Type 0) → Option Request → (ℕ → Blocks) → (line : ℕ) → Answer → Type 0
Gives drives claims (Some r) blocks line (ReadOk bytes) = claims line r → bytes ≡ bytes_of_first r.count (blocks r.unit) (first_block (kind_of drives r.unit) r) r
Gives drives claims asked blocks line answer = Unit {0}

-- each read gives what the answers before it left
abbrev pub EachGives : (ℕ → Option DriveKind) → ((line : ℕ) → Request → Type 0) → List Numbered → (ℕ → Blocks) → List Answered → Type 0
EachGives drives claims inputs blocks [] = Unit {0}
EachGives drives claims inputs blocks (a ∷ answers) =
    Gives drives claims (asked_in a.id inputs) blocks a.line a.answer × EachGives drives claims inputs (left_by drives (asked_in a.id inputs) a.answer blocks) answers
