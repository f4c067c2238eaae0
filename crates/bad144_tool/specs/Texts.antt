-- What the tool prints. Numbers are decimal, and each line ends with LF.
use Rattle.std.specs.Prelude.{◌≡◌, ℕ, ◌+◌, ◌*◌, ◌≤◌, Bool, IsTrue, List, [], ◌∷◌, ◌++◌, Option, None, Some, IfSome, codes, decimal, length}
use Rattle.pack_geometry.specs.declared.DriveKind.{DriveKind}
use Rattle.pack_geometry.specs.declared.Place.{Place}
use Rattle.pack_geometry.specs.Geometry.{block_count, block_number}
use Rattle.pack_geometry.specs.Pack.{Pack}
use Rattle.pack_geometry.specs.PackTable.{IsTableOf}
use Rattle.pack_geometry.specs.TableSpelling.{Table, IsTable}
use Rattle.outside_traits.specs.Puts.{TakesFront}

-- a name and its number
abbrev pub field_text : List ℕ → ℕ → List ℕ
field_text name number = name ++ decimal number

-- `entry I cylinder C track T sector S block B`
abbrev pub entry_line : DriveKind → ℕ → Place → List ℕ
entry_line kind i place =
    field_text (codes "entry ") i
    ++ field_text (codes " cylinder ") place.cylinder
    ++ field_text (codes " track ") place.track
    ++ field_text (codes " sector ") place.sector
    ++ field_text (codes " block ") (block_number kind place)
    ++ 10 ∷ []

-- the lines of entries from number `i` on
abbrev pub entry_lines : DriveKind → ℕ → List Place → List ℕ
entry_lines kind i [] = []
entry_lines kind i (place ∷ places) = entry_line kind i place ++ entry_lines kind (i + 1) places

-- `serial S entries E`
abbrev pub table_line : Table → List ℕ
table_line table = field_text (codes "serial ") table.serial ++ field_text (codes " entries ") (length table.places) ++ 10 ∷ []

abbrev pub no_table_line : List ℕ
no_table_line = codes "no table" ++ 10 ∷ []

-- THE LIST of a pack's table, or that it has none
abbrev pub list_text : DriveKind → Option Table → List ℕ
list_text kind None = no_table_line
list_text kind (Some table) = table_line table ++ entry_lines kind 0 table.places

-- a table of a drive of this kind, or none: whatever the packs tell, it is one that 512 bytes may spell; where they do, it is the pack's,
-- whose image is not too long
pub record IsListed (kind : DriveKind) (known : Bool) (pack : Pack) (table : Option Table) : Type 0 where
  pub valid : IfSome table (λ t. (t.kind ≡ kind) × IsTable t)
  pub fits : IsTrue known → length pack.image ≤ 512 * block_count kind
  pub table_is : IsTrue known → IsTableOf kind pack table

-- its list was taken, where the sink tells
pub record Lists (kind : DriveKind) (known : Bool) (pack : Pack) (tells : Bool) (taken taken_after : List ℕ) : Type 0 where
  pub table : Option Table
  pub is : IsListed kind known pack table
  pub told : IsTrue tells → taken_after ≡ taken ++ list_text kind table

-- a front of it was taken
pub record ListsFront (kind : DriveKind) (known : Bool) (pack : Pack) (tells : Bool) (taken taken_after : List ℕ) : Type 0 where
  pub table : Option Table
  pub is : IsListed kind known pack table
  pub told : IsTrue tells → TakesFront taken taken_after (list_text kind table)
