-- EACH REQUEST IS ANSWERED AT ITS OWN LINE, by the map that those before it left: the answers, and the block replacements of the writes.
use Rattle.std.specs.Prelude.{ℕ, ◌+◌, ◌==◌, ◌&&◌, if◌then◌else◌, is_some, zero, suc, List, [], ◌∷◌, ◌++◌, Option, None, Some}
use Rattle.std.specs.List.{flat_map}
use Rattle.pack_geometry.specs.declared.DriveKind.{DriveKind}
use Rattle.partitions.specs.declared.Admission.{Admission}
use Rattle.partitions.specs.declared.Admission.TheVariants.{Inside, Eof, Outside}
use Rattle.partitions.specs.Partitions.{admission}
use Rattle.trace_replay.specs.requests.Requests.{Request, Answer, first_block}
use Rattle.trace_replay.specs.Script.{Input, Submit, Numbered}
use Rattle.trace_replay.specs.Moments.{Answered}
use Rattle.trace_replay.specs.Packs.{sector_of_block}
use Rattle.driver_laws.specs.rules.Machine.{Blocks, kind_of}
use Rattle.driver_laws.specs.rules.Waited.{first_unusable, answer_at, map_at}
use Rattle.trace_lines.specs.answers.AnswerText.{answer_text}

-- what a request meets, and its first block
abbrev pub met_by : (ℕ → Option DriveKind) → Request → Admission
met_by drives r = admission (kind_of drives r.unit) r.part r.block r.count

abbrev pub first_by : (ℕ → Option DriveKind) → Request → ℕ
first_by drives r = first_block (kind_of drives r.unit) r

-- ITS ANSWER: what its partition refuses; unforwarded at its first block that can't be used, with the blocks before that done; else ok.
-- And the map behind it
abbrev pub answer_to : (ℕ → Option DriveKind) → (ℕ → Blocks) → Request → Answer
answer_to drives map r = answer_at (met_by drives r) (map r.unit) (first_by drives r) r

-- the same by the kind of its unit's drive and the blocks of the unit
abbrev pub answer_with : DriveKind → Blocks → Request → Answer
answer_with kind blocks r = answer_at (admission kind r.part r.block r.count) blocks (first_block kind r) r

abbrev pub map_after : (ℕ → Option DriveKind) → (ℕ → Blocks) → Request → ℕ → Blocks
map_after drives map r = map_at (met_by drives r) map (first_by drives r) r (answer_to drives map r)

-- of one input: its answer in front of those behind it, and the map behind it
abbrev pub with_answer : (ℕ → Option DriveKind) → (ℕ → Blocks) → (line : ℕ) → Input → List Answered → List Answered
with_answer drives map line (Submit r) later = record { line = line; id = r.id; answer = answer_to drives map r } ∷ later
with_answer drives map line input later = later

abbrev pub map_by : (ℕ → Option DriveKind) → (ℕ → Blocks) → Input → ℕ → Blocks
map_by drives map (Submit r) = map_after drives map r
map_by drives map input = map

-- OF ALL INPUTS
abbrev pub answers_of : (ℕ → Option DriveKind) → (ℕ → Blocks) → List Numbered → List Answered
answers_of drives map [] = []
answers_of drives map (n ∷ inputs) = with_answer drives map n.line n.input (answers_of drives (map_by drives map n.input) inputs)

abbrev pub map_of_inputs : (ℕ → Option DriveKind) → (ℕ → Blocks) → List Numbered → ℕ → Blocks
map_of_inputs drives map [] = map
map_of_inputs drives map (n ∷ inputs) = map_of_inputs drives (map_by drives map n.input) inputs

abbrev pub text_of : List Answered → List ℕ
text_of answers = flat_map answer_text answers

-- ---- THE BLOCK REPLACEMENTS, one by one: of each write its blocks before the first that can't be used
pub record Replacement : Type 0 where
  pub unit : ℕ
  pub block : ℕ
  pub bytes : List ℕ

-- n of them, from block k of a request on
abbrev pub replaced : (n first k : ℕ) → Request → List Replacement
replaced zero first k r = []
replaced (suc n) first k r = record { unit = r.unit; block = first + k; bytes = sector_of_block r k } ∷ replaced n first (k + 1) r

abbrev pub usable_of : Option ℕ → (count : ℕ) → ℕ
usable_of None count = count
usable_of (Some done) count = done

abbrev pub replaced_at : Admission → Blocks → (first : ℕ) → Request → List Replacement
replaced_at (Inside at) blocks first r = if is_some r.written then replaced (usable_of (first_unusable r.count blocks first 0) r.count) first 0 r else []
replaced_at Eof blocks first r = []
replaced_at Outside blocks first r = []

abbrev pub replaced_with : DriveKind → Blocks → Request → List Replacement
replaced_with kind blocks r = replaced_at (admission kind r.part r.block r.count) blocks (first_block kind r) r

abbrev pub replaced_by : (ℕ → Option DriveKind) → (ℕ → Blocks) → Input → List Replacement
replaced_by drives map (Submit r) = replaced_at (met_by drives r) (map r.unit) (first_by drives r) r
replaced_by drives map input = []

-- each write by the map that those before it left
abbrev pub replacements_of : (ℕ → Option DriveKind) → (ℕ → Blocks) → List Numbered → List Replacement
replacements_of drives map [] = []
replacements_of drives map (n ∷ inputs) = replaced_by drives map n.input ++ replacements_of drives (map_by drives map n.input) inputs

abbrev pub with_replacement : Replacement → (ℕ → Blocks) → ℕ → Blocks
with_replacement r map unit block = if (unit == r.unit) && (block == r.block) then Some r.bytes else map unit block

abbrev pub after : List Replacement → (ℕ → Blocks) → ℕ → Blocks
after [] map = map
after (r ∷ rs) map = after rs (with_replacement r map)
