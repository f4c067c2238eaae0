-- A FORMATTED PACK, why a pack is not formatted, and what a formatting that stops leaves of it.
use Rattle.std.specs.Prelude.{◌≡◌, ◌⊎◌, ℕ, zero, suc, ◌+◌, ◌*◌, ◌<◌, Bool, true, false, List, [], ◌∷◌, ◌++◌, length, map, replicate, Some}
use Rattle.pack_geometry.specs.declared.DriveKind.{DriveKind}
use Rattle.pack_geometry.specs.Geometry.{block_count, limit_of, place_at, replacement_at, copy_at}
use Rattle.pack_geometry.specs.Pack.{Pack, block_at, is_marked}
use Rattle.pack_geometry.specs.PackTable.{IsTableOf}
use Rattle.pack_geometry.specs.TableSpelling.{Table, Spells}
use Rattle.pack_geometry.specs.Homes.{content_of}
use Rattle.pack_format.specs.testing.Stages.{IsAsLong, IsTested}

-- the marked blocks below a number, in ascending order
abbrev pub if_on : Bool → ℕ → List ℕ
if_on true block = block ∷ []
if_on false block = []

unfoldable pub marked_below : Pack → ℕ → List ℕ
marked_below pack zero = []
marked_below pack (suc block) = marked_below pack block ++ if_on (is_marked pack block) block

-- THE MARKED DATA BLOCKS, how many they are, and the table that lists them
abbrev pub marked_blocks : DriveKind → Pack → List ℕ
marked_blocks kind pack = marked_below pack (limit_of kind)

abbrev pub found : DriveKind → Pack → ℕ
found kind pack = length (marked_blocks kind pack)

abbrev pub table_for : DriveKind → (serial : ℕ) → Pack → Table
table_for kind serial pack = record { kind = kind; serial = serial; places = map (place_at kind) (marked_blocks kind pack) }

-- WHY A PACK IS NOT FORMATTED
abbrev pub IsTooLong : DriveKind → Pack → Type 0
IsTooLong kind pack = 512 * block_count kind < length pack.image

abbrev pub IsTooMany : DriveKind → Pack → Type 0
IsTooMany kind pack = 126 < found kind pack

-- the first replacement that an entry would use and that is marked
pub record IsSpare (kind : DriveKind) (pack : Pack) (index : ℕ) : Type 0 where
  pub used : index < found kind pack
  pub marked : is_marked pack (replacement_at kind index) ≡ true
  pub first : (i : ℕ) → i < index → is_marked pack (replacement_at kind i) ≡ false

abbrev pub HasNoCopy : DriveKind → Pack → Type 0
HasNoCopy kind pack = (k : ℕ) → k < 5 → is_marked pack (copy_at kind k) ≡ true

-- NOTHING IS IN THE WAY
pub record CanBeFormatted (kind : DriveKind) (pack : Pack) : Type 0 where
  pub fits : ¬ (IsTooLong kind pack)
  pub few : ¬ (IsTooMany kind pack)
  pub spares : (index : ℕ) → ¬ (IsSpare kind pack index)
  pub copy : ¬ (HasNoCopy kind pack)

-- THE SECTORS THAT FORMATTING WRITES: unmarked data blocks, replacements that an entry uses, and unmarked copies of the table
pub data IsWritten (kind : DriveKind) (pack : Pack) (sector : ℕ) : Type 0 where
  Data : sector < limit_of kind → is_marked pack sector ≡ false → IsWritten kind pack sector
  Replacement : (index : ℕ) → index < found kind pack → sector ≡ replacement_at kind index → is_marked pack sector ≡ false → IsWritten kind pack sector
  Copy : (k : ℕ) → k < 5 → sector ≡ copy_at kind k → is_marked pack sector ≡ false → IsWritten kind pack sector

-- FORMATTED: nothing was in the way; each unmarked copy spells the table, which is the pack's; each data block has a home, and zeros for its
-- content; marks stay, and so does every sector that is not written, as marked copies and replacements that no entry uses; and the image is as
-- long as the written sectors make it.
pub record IsFormatted (kind : DriveKind) (serial : ℕ) (old new : Pack) : Type 0 where
  pub can : CanBeFormatted kind old
  pub copies : (k : ℕ) → k < 5 → is_marked old (copy_at kind k) ≡ false → Spells (block_at new.image (copy_at kind k)) (table_for kind serial old)
  pub table_is : IsTableOf kind new (Some (table_for kind serial old))
  pub content : (block : ℕ) → block < limit_of kind → content_of kind (Some (table_for kind serial old)) new block ≡ Some (replicate 512 0)
  pub marks : new.marks ≡ old.marks
  pub others : (sector : ℕ) → ¬ (IsWritten kind old sector) → block_at new.image sector ≡ block_at old.image sector
  pub long : IsAsLong (IsWritten kind old) (length old.image) (length new.image)

-- what a sector that is written has: the table in a copy, and in another such bytes
abbrev pub Holds : (Such : List ℕ → Type 0) (kind : DriveKind) (serial : ℕ) (pack : Pack) (sector : ℕ) → List ℕ → IsWritten kind pack sector → Type 0
Holds Such kind serial pack sector bytes (Data _ _) = Such bytes
Holds Such kind serial pack sector bytes (Replacement _ _ _ _) = Such bytes
Holds Such kind serial pack sector bytes (Copy _ _ _ _) = Spells bytes (table_for kind serial pack)

abbrev pub IsZeros : List ℕ → Type 0
IsZeros bytes = bytes ≡ replicate 512 0

pub record IsChanged (kind : DriveKind) (serial : ℕ) (pack : Pack) (sector : ℕ) (bytes : List ℕ) : Type 0 where
  pub written : IsWritten kind pack sector
  pub new : Holds IsTested kind serial pack sector bytes written

-- WHERE IT STOPPED. Formatting goes by rising number: over the data blocks, the replacements, and last the copies. So there is one sector
-- that it reached. Each one before it that is written is done: zeros, or the table in a copy. It has itself what it had, or was changed: to A5
-- or zeros, or the table in a copy. Each one behind it has what it had, and so has each sector that is not written; marks stay. The image is as long
-- as the written sectors before it make it, or as it makes it besides.
pub record IsPartly (kind : DriveKind) (serial : ℕ) (old new : Pack) : Type 0 where
  pub can : CanBeFormatted kind old
  pub reached : ℕ
  pub done : (sector : ℕ) → sector < reached → (written : IsWritten kind old sector) → Holds IsZeros kind serial old sector (block_at new.image sector) written
  pub under_way : (block_at new.image reached ≡ block_at old.image reached) ⊎ IsChanged kind serial old reached (block_at new.image reached)
  pub behind : (sector : ℕ) → reached < sector → block_at new.image sector ≡ block_at old.image sector
  pub others : (sector : ℕ) → ¬ (IsWritten kind old sector) → block_at new.image sector ≡ block_at old.image sector
  pub marks : new.marks ≡ old.marks
  pub begun : ℕ
  pub begun_is : (begun ≡ reached) ⊎ (begun ≡ reached + 1)
  pub long : IsAsLong (λ sector. (sector < begun) × IsWritten kind old sector) (length old.image) (length new.image)
