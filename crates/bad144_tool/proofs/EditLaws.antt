-- The writes of an edit leave what later ones read.
use Rattle.std.proofs.Common.{◌≡◌, ◌≢◌, ℕ, zero, suc, ◌+◌, ◌-◌, ◌<◌, Bool, true, false, List, [], ◌∷◌, ◌++◌, length, replicate, refl, subst, sym, ap, ◌∙◌, arith, Result, Ok}
use Rattle.std.proofs.lemmas.Bool.Decides.{nat_tests}
use Rattle.pack_geometry.specs.declared.DriveKind.{DriveKind}
use Rattle.pack_geometry.specs.declared.DriveKind.TheVariants.{Rp06}
use Rattle.pack_geometry.specs.Geometry.{replacement_at, limit_of}
use Rattle.pack_geometry.specs.Pack.{Pack, block_at, with_block, with_written}
use Rattle.pack_geometry.proofs.PackLaws.{length-block_at, block_at-with_block_other}
use Rattle.pack_geometry.specs.TableSpelling.{Table, table_text}
use Rattle.bad144_tool.specs.Changes.{Change, Block, Mark, with_changes, DoesAll, IsCutShort}
use Rattle.bad144_tool.specs.Edit.{copies, marking, moves, first_content}
use Rattle.bad144_tool.proofs.ChangeLaws.{does_then, does_same}

-- different replacements are different blocks, and none holds data
pub different_replacements : (kind : DriveKind) (i j : ℕ) → i < j → j < 126 → replacement_at kind i ≢ replacement_at kind j
different_replacements Rp06 i j lt small = omega arith
different_replacements other i j lt small = omega arith

pub no_replacement : (kind : DriveKind) (block i : ℕ) → block < limit_of kind → i < 126 → block ≢ replacement_at kind i
no_replacement Rp06 block i low small = omega arith
no_replacement other block i low small = omega arith

pub image_written : (packs : ℕ → Pack) (unit block : ℕ) (bytes : List ℕ)
    → (with_written packs unit block bytes unit).image ≡ with_block (packs unit).image block bytes
image_written packs unit block bytes = grind (arith, nat_tests)

-- a block that was not written stays
pub stays : (packs : ℕ → Pack) (unit block other : ℕ) (bytes : List ℕ) → length bytes ≡ 512 → other ≢ block
    → block_at (with_written packs unit block bytes unit).image other ≡ block_at (packs unit).image other
stays packs unit block other bytes long ne =
    ap (λ (image : List ℕ). block_at image other) (image_written packs unit block bytes) ∙ block_at-with_block_other (packs unit).image bytes block other long ne

-- moves read just the replacements that move
pub moves_same : (kind : DriveKind) (image image' : List ℕ) (i count : ℕ)
    → ((j : ℕ) → j < count → block_at image' (replacement_at kind (i + j)) ≡ block_at image (replacement_at kind (i + j)))
    → moves kind image' i count ≡ moves kind image i count
moves_same kind image image' i zero same = refl
moves_same kind image image' i (suc count) same =
    ap (λ (bytes : List ℕ). Block (replacement_at kind (i + count + 1)) bytes ∷ moves kind image' i count) (same count (omega arith))
    ∙ ap (λ (cs : List Change). Block (replacement_at kind (i + count + 1)) (block_at image (replacement_at kind (i + count))) ∷ cs)
    (moves_same kind image image' i count (λ j lt. same j (omega arith)))

-- the last replacement moves first
pub moves_from_last : (kind : DriveKind) (image : List ℕ) (i end : ℕ) → i < end
    → Block (replacement_at kind (end - 1 + 1)) (block_at image (replacement_at kind (end - 1))) ∷ moves kind image i (end - 1 - i) ≡ moves kind image i (end - i)
moves_from_last kind image i end lt =
    let count : end - i ≡ suc (end - 1 - i) = omega arith in
    let last : end - 1 ≡ i + (end - 1 - i) = omega arith in
    ap (λ (n : ℕ). Block (replacement_at kind (n + 1)) (block_at image (replacement_at kind n)) ∷ moves kind image i (end - 1 - i)) last
    ∙ sym (ap (λ (n : ℕ). moves kind image i n) count)

-- after the last replacement has moved, the others are as they were
pub moves_after_last : (kind : DriveKind) (packs : ℕ → Pack) (unit i end : ℕ) → i < end → end < 126
    → moves kind (with_written packs unit (replacement_at kind (end - 1 + 1)) (block_at (packs unit).image (replacement_at kind (end - 1))) unit).image i (end - 1 - i)
    ≡ moves kind (packs unit).image i (end - 1 - i)
moves_after_last kind packs unit i end lt small =
    moves_same kind (packs unit).image _ i (end - 1 - i) (λ j inside.
    stays packs unit (replacement_at kind (end - 1 + 1)) (replacement_at kind (i + j)) _ (length-block_at (packs unit).image (replacement_at kind (end - 1)))
    (different_replacements kind (i + j) (end - 1 + 1) (omega arith) (omega arith)))

-- moves leave every data block
pub moves_leave : (kind : DriveKind) (packs : ℕ → Pack) (unit i count block : ℕ) (image : List ℕ) → block < limit_of kind → i + count < 126
    → block_at (with_changes packs unit (moves kind image i count) unit).image block ≡ block_at (packs unit).image block
moves_leave kind packs unit i zero block image low small = refl
moves_leave kind packs unit i (suc count) block image low small =
    moves_leave kind (with_written packs unit (replacement_at kind (i + count + 1)) (block_at image (replacement_at kind (i + count)))) unit i count block image low (omega arith)
    ∙ stays packs unit (replacement_at kind (i + count + 1)) block _ (length-block_at image (replacement_at kind (i + count)))
    (no_replacement kind block (i + count + 1) low (omega arith))

pub same_content : (copy : Bool) (image image' : List ℕ) (block : ℕ) → block_at image' block ≡ block_at image block
    → first_content copy image' block ≡ first_content copy image block
same_content true image image' block same = same
same_content false image image' block same = refl

-- one replacement was moved, and then the others
pub moves_then : {P T U E : Type 0} {tells : P → Bool} {held : P → ℕ → Pack} {faults : P → ℕ} {old mid new : P} {value : U} {result : Result T E}
    (kind : DriveKind) (unit i end : ℕ) → i < end → end < 126
    → DoesAll {P = P} {T = U} {E = E} tells held faults unit old mid (Ok value)
    (Block (replacement_at kind (end - 1 + 1)) (block_at (held old unit).image (replacement_at kind (end - 1))) ∷ [])
    → DoesAll {P = P} {T = T} {E = E} tells held faults unit mid new result (moves kind (held mid unit).image i (end - 1 - i))
    → DoesAll {P = P} {T = T} {E = E} tells held faults unit old new result (moves kind (held old unit).image i (end - i))
moves_then {held = held} {old = old} {mid = mid} kind unit i end lt small first second =
    does_same (λ t. moves_from_last kind (held old unit).image i end lt)
    (does_then first (does_same (λ t. ap (λ (packs : ℕ → Pack). moves kind (packs unit).image i (end - 1 - i)) (first.done (second.never_again t))
    ∙ moves_after_last kind (held old) unit i end lt small) second))

-- behind the moves, what a replacement gets first is what the block held
pub first_after_moves : (kind : DriveKind) (packs : ℕ → Pack) (unit i count block : ℕ) (copy : Bool) → block < limit_of kind → i + count < 126
    → first_content copy (with_changes packs unit (moves kind (packs unit).image i count) unit).image block ≡ first_content copy (packs unit).image block
first_after_moves kind packs unit i count block copy low small =
    same_content copy (packs unit).image _ block (moves_leave kind packs unit i count block (packs unit).image low small)

-- the moves were done, and then the replacement's first content
pub first_then : {P T U E : Type 0} {tells : P → Bool} {held : P → ℕ → Pack} {faults : P → ℕ} {old mid new : P} {value : U} {result : Result T E}
    (kind : DriveKind) (unit i count block : ℕ) (copy : Bool) → block < limit_of kind → i + count < 126
    → DoesAll {P = P} {T = U} {E = E} tells held faults unit old mid (Ok value) (moves kind (held old unit).image i count)
    → DoesAll {P = P} {T = T} {E = E} tells held faults unit mid new result (Block (replacement_at kind i) (first_content copy (held mid unit).image block) ∷ [])
    → DoesAll {P = P} {T = T} {E = E} tells held faults unit old new result
    (moves kind (held old unit).image i count ++ Block (replacement_at kind i) (first_content copy (held old unit).image block) ∷ [])
first_then {held = held} {old = old} kind unit i count block copy low small first second =
    does_then first (does_same (λ t. ap (λ (bytes : List ℕ). Block (replacement_at kind i) bytes ∷ [])
    (ap (λ (packs : ℕ → Pack). first_content copy (packs unit).image block) (first.done (second.never_again t))
    ∙ first_after_moves kind (held old) unit i count block copy low small)) second)

-- what a replacement gets first, by whether it is copied
pub first_copied : {P T E : Type 0} {tells : P → Bool} {held : P → ℕ → Pack} {faults : P → ℕ} {old new : P} {result : Result T E} (unit to place block : ℕ) (copy : Bool) → to ≡ place → copy ≡ true
    → DoesAll {P = P} {T = T} {E = E} tells held faults unit old new result (Block to (block_at (held old unit).image block) ∷ [])
    → DoesAll {P = P} {T = T} {E = E} tells held faults unit old new result (Block place (first_content copy (held old unit).image block) ∷ [])
first_copied {tells = tells} {held = held} {faults = faults} {old = old} {new = new} {result = result} unit to place block true at is does =
    subst (λ (n : ℕ). DoesAll tells held faults unit old new result (Block n (first_content true (held old unit).image block) ∷ [])) at does
first_copied unit to place block false at is does = absurd (other is)
  where
    other : false ≡ true → ⊥
    other is = cc

pub first_zeros : {P T E : Type 0} {tells : P → Bool} {held : P → ℕ → Pack} {faults : P → ℕ} {old new : P} {result : Result T E} (unit to place block : ℕ) (copy : Bool) → to ≡ place → copy ≡ false
    → DoesAll {P = P} {T = T} {E = E} tells held faults unit old new result (Block to (replicate 512 0) ∷ [])
    → DoesAll {P = P} {T = T} {E = E} tells held faults unit old new result (Block place (first_content copy (held old unit).image block) ∷ [])
first_zeros {tells = tells} {held = held} {faults = faults} {old = old} {new = new} {result = result} unit to place block false at is does =
    subst (λ (n : ℕ). DoesAll tells held faults unit old new result (Block n (first_content false (held old unit).image block) ∷ [])) at does
first_zeros unit to place block true at is does = absurd (other is)
  where
    other : true ≡ false → ⊥
    other is = cc

-- the copies of an empty table, as they were written to packs that were as before
pub fresh_done : (kind : DriveKind) (unit serial : ℕ) (old mid new : ℕ → Pack) (table : Table) → mid ≡ old → table ≡ record { kind = kind; serial = serial; places = [] }
    → new ≡ with_changes mid unit (copies kind (table_text table.serial table.places)) → new ≡ with_changes old unit (copies kind (table_text serial []))
fresh_done kind unit serial old mid new table same is done =
    subst (λ (t : Table). new ≡ with_changes old unit (copies kind (table_text t.serial t.places))) is
    (subst (λ (p : ℕ → Pack). new ≡ with_changes p unit (copies kind (table_text table.serial table.places))) same done)

pub fresh_cut : (kind : DriveKind) (unit serial : ℕ) (old mid new : ℕ → Pack) (table : Table) → mid ≡ old → table ≡ record { kind = kind; serial = serial; places = [] }
    → IsCutShort mid new unit (copies kind (table_text table.serial table.places)) → IsCutShort old new unit (copies kind (table_text serial []))
fresh_cut kind unit serial old mid new table same is cut =
    subst (λ (t : Table). IsCutShort old new unit (copies kind (table_text t.serial t.places))) is
    (subst (λ (p : ℕ → Pack). IsCutShort p new unit (copies kind (table_text table.serial table.places))) same cut)

pub marking_on : (mark : Bool) (block : ℕ) → mark ≡ true → Mark block ∷ [] ≡ marking mark block
marking_on true block is = refl
marking_on false block is = absurd (other is)
  where
    other : false ≡ true → ⊥
    other is = cc
