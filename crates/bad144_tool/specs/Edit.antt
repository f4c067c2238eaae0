-- The writes of which an edit of a pack's table is made, in their order.
use Rattle.std.specs.Prelude.{ℕ, zero, suc, ◌+◌, ◌-◌, Bool, if◌then◌else◌, List, [], ◌∷◌, ◌++◌, map, replicate, length}
use Rattle.pack_geometry.specs.declared.DriveKind.{DriveKind}
use Rattle.pack_geometry.specs.Geometry.{copy_at, replacement_at}
use Rattle.pack_geometry.specs.Pack.{block_at}
use Rattle.pack_geometry.specs.TableSpelling.{Table, table_text}
use Rattle.bad144_tool.specs.Changes.{Change, Block, Mark}
use Rattle.bad144_tool.specs.declared.edit.AddWay.{AddWay}

-- `count` replacements from `i` on move up by one, from the last of them down to `i`
abbrev pub moves : DriveKind → List ℕ → ℕ → ℕ → List Change
moves kind image i zero = []
moves kind image i (suc count) =
    Block (replacement_at kind (i + count + 1)) (block_at image (replacement_at kind (i + count))) ∷ moves kind image i count

-- the five copies of a table, copy 0 first
abbrev pub copies : DriveKind → List ℕ → List Change
copies kind text = map (λ k. Block (copy_at kind k) text) (0 ∷ 1 ∷ 2 ∷ 3 ∷ 4 ∷ [])

-- what a new replacement holds: the block's own bytes, or zeros
abbrev pub first_content : Bool → List ℕ → ℕ → List ℕ
first_content copy image block = if copy then block_at image block else replicate 512 0

abbrev pub marking : Bool → ℕ → List Change
marking mark block = if mark then Mark block ∷ [] else []

-- the writes where so many replacements from `i` on move up
abbrev pub writes_with : DriveKind → List ℕ → Table → ℕ → ℕ → ℕ → AddWay → List Change
writes_with kind image table i count block way =
    moves kind image i count
    ++ Block (replacement_at kind i) (first_content way.copy image block) ∷ []
    ++ copies kind (table_text table.serial table.places)
    ++ marking way.mark block

-- THE WRITES OF AN EDIT that lists a block at index `i` of a table, which is the new one here: the replacements behind move
-- up, the block's replacement gets its content, the five copies are written, and the block is marked.
abbrev pub edit_writes : DriveKind → List ℕ → Table → ℕ → ℕ → AddWay → List Change
edit_writes kind image table i block way = writes_with kind image table i (length table.places - 1 - i) block way
