-- What wrong bodies would read, write and answer of bad-sector tables and drive types, refused by the words of their contracts.
use Rattle.std.specs.Prelude.{◌≡◌, ◌≢◌, ℕ, ◌+◌, ◌*◌, ◌<◌, ◌≤◌, true, List, [], ◌∷◌, ◌++◌, length, Ok, Err, Some}
use Rattle.pack_geometry.specs.declared.DriveKind.{DriveKind}
use Rattle.pack_geometry.specs.declared.Place.{Place}
use Rattle.pack_geometry.specs.Geometry.{block_count, copy_at, replacement_at}
use Rattle.pack_geometry.specs.Pack.{Pack, block_at, is_marked}
use Rattle.pack_geometry.specs.PackTable.{Tells}
use Rattle.pack_geometry.specs.TableSpelling.{Table}
use Rattle.bad144_table.specs.Faults.{IsReadUpTo}
use Rattle.bad144_tool.specs.Adding.{Adds}
use Rattle.bad144_tool.specs.declared.edit.AddWay.{AddWay}
use Rattle.mba_autoconf.specs.Attach.{Answers}
use Rattle.mba_autoconf.specs.Probe.{nine_bits, type_code}
use Rattle.mba_autoconf.specs.declared.attaching.Attached.{Attached}
use Rattle.mba_autoconf.specs.declared.attaching.AttachFault.TheVariants.{TooLong}

-- a pair is taken for an entry that stands behind one of all ones
abbrev pub EntryAfterTheEnd : Type 0
EntryAfterTheEnd = (kind : DriveKind) (bytes : List ℕ) (places : List Place) (place : Place) (i : ℕ) → IsReadUpTo kind bytes places i → length places < i
    → ¬ IsReadUpTo kind bytes (places ++ place ∷ []) (i + 1)

-- a block was added, and a replacement behind its own has not what the one before that had
abbrev pub ReplacementsLeftBehind : Type 0
ReplacementsLeftBehind = (kind : DriveKind) (unit block i j : ℕ) (way : AddWay) (old new : ℕ → Pack) → block < block_count kind
    → (adds : Adds kind unit block way old new i) → i ≤ j → j < length adds.table.places
    → ¬ (block_at (new unit).image (replacement_at kind (j + 1)) ≢ block_at (old unit).image (replacement_at kind j))

-- a drive is attached with the table that the last copy tells, and the first copy tells another one
abbrev pub LastCopyTaken : Type 0
LastCopyTaken = (kind : DriveKind) (pack : Pack) (first last : Table) (found : Attached) → Tells kind pack 0 first → Tells kind pack 4 last → last ≢ first
    → found.table ≡ Some last → ¬ Answers kind pack (Ok found)

-- it is attached with a table, and each copy is marked
abbrev pub MarkedCopyTaken : Type 0
MarkedCopyTaken = (kind : DriveKind) (pack : Pack) (table : Table) (found : Attached) → ((k : ℕ) → k < 5 → is_marked pack (copy_at kind k) ≡ true)
    → found.table ≡ Some table → ¬ Answers kind pack (Ok found)

-- an image is too long that ends with the last byte of its pack
abbrev pub TooLongAtTheLastByte : Type 0
TooLongAtTheLastByte = (kind : DriveKind) (pack : Pack) → length pack.image ≡ 512 * block_count kind
    → ¬ Answers kind pack (Err (TooLong (length pack.image)))

-- the type word of an RP06 is of no kind where a bit above the nine is on
abbrev pub WiderMask : Type 0
WiderMask = ¬ ((kind : DriveKind) → nine_bits 0o4022 ≢ type_code kind)
