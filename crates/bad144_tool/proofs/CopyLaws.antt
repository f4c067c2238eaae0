-- What copying a block, and writing the copies of a table, come to.
use Rattle.std.proofs.Common.{◌≡◌, ℕ, zero, suc, ◌+◌, ◌<◌, ◌≤◌, Bool, IsTrue, List, [], ◌∷◌, ◌++◌, take, drop, length, Result, Ok, Err, refl, sym, ap, ◌∙◌, subst, arith}
use Rattle.std.proofs.lemmas.List.{take-append-drop}
use Rattle.std.proofs.lemmas.List.Edits.{length-insert}
use Rattle.std.proofs.lemmas.Option.{get_or_from_slice_get, slice_get_within}
use Rattle.std.specs.Prelude.{Some, slice_get}
use Rattle.pack_geometry.specs.declared.DriveKind.{DriveKind}
use Rattle.pack_geometry.specs.declared.Place.{Place}
use Rattle.pack_geometry.specs.Geometry.{IsInside, block_number, copy_at, limit_of, place_at}
use Rattle.pack_geometry.specs.Pack.{Pack, block_at}
use Rattle.pack_geometry.specs.TableSpelling.{Table, IsTable}
use Rattle.bad144_table.specs.Inserts.{Inserts}
use Rattle.bad144_tool.specs.Changes.{Block, DoesAll}
use Rattle.bad144_tool.specs.Edit.{copies}
use Rattle.bad144_tool.proofs.ChangeLaws.{does_cut, does_same, does_then}

-- a block was read, and then written elsewhere
pub copied_then : {P T E : Type 0} {tells : P → Bool} {held : P → ℕ → Pack} {faults : P → ℕ} {old mid new : P} {result : Result T E}
    (unit from to : ℕ) (bytes : List ℕ) → (IsTrue (tells mid) → IsTrue (tells old)) → (IsTrue (tells mid) → held mid ≡ held old) → faults old ≤ faults mid
    → (IsTrue (tells mid) → bytes ≡ block_at (held old unit).image from)
    → DoesAll {P = P} {T = T} {E = E} tells held faults unit mid new result (Block to bytes ∷ [])
    → DoesAll {P = P} {T = T} {E = E} tells held faults unit old new result (Block to (block_at (held old unit).image from) ∷ [])
copied_then {T = T} {E = E} {tells = tells} {held = held} {faults = faults} {old = old} {mid = mid} unit from to bytes again same later read does =
    let looked : DoesAll {T = ℕ} {E = E} tells held faults unit old mid (Ok 0) [] =
    record { never_again = again; done = same; cut_short = tt; cause = record { later = later; failed = tt } } in
    does_same (λ t. ap (λ (text : List ℕ). Block to text ∷ []) (read (does.never_again t))) (does_then looked does)

-- the same copy, of a block and to a block that are named otherwise
pub copied_as : {P T E : Type 0} {tells : P → Bool} {held : P → ℕ → Pack} {faults : P → ℕ} {old new : P} {result : Result T E}
    (unit from from' to to' : ℕ) (image : List ℕ) → from ≡ from' → to ≡ to'
    → DoesAll {P = P} {T = T} {E = E} tells held faults unit old new result (Block to (block_at image from) ∷ [])
    → DoesAll {P = P} {T = T} {E = E} tells held faults unit old new result (Block to' (block_at image from') ∷ [])
copied_as unit from from' to to' image source target does =
    does_same (λ _. ap (λ (n : ℕ). Block n (block_at image from) ∷ []) target ∙ ap (λ (n : ℕ). Block to' (block_at image n) ∷ []) source) does

copies_next : (kind : DriveKind) (text : List ℕ) (k : ℕ) → k < 5 → take k (copies kind text) ++ Block (copy_at kind k) text ∷ [] ≡ take (k + 1) (copies kind text)
copies_next kind text zero small = refl
copies_next kind text (suc zero) small = refl
copies_next kind text (suc (suc zero)) small = refl
copies_next kind text (suc (suc (suc zero))) small = refl
copies_next kind text (suc (suc (suc (suc zero)))) small = refl
copies_next kind text (suc (suc (suc (suc (suc k))))) small = absurd (omega (arith, small))

-- one copy more was written
pub copy_then : {P T U E : Type 0} {tells : P → Bool} {held : P → ℕ → Pack} {faults : P → ℕ} {unit : ℕ} {old mid new : P} {value : U} {result : Result T E}
    (kind : DriveKind) (text : List ℕ) (k block : ℕ) → k < 5 → block ≡ copy_at kind k
    → DoesAll {P = P} {T = U} {E = E} tells held faults unit old mid (Ok value) (take k (copies kind text))
    → DoesAll {P = P} {T = T} {E = E} tells held faults unit mid new result (Block block text ∷ [])
    → DoesAll {P = P} {T = T} {E = E} tells held faults unit old new result (take (k + 1) (copies kind text))
copy_then kind text k block small at first second =
    does_same (λ _. ap (λ (n : ℕ). take k (copies kind text) ++ Block n text ∷ []) at ∙ copies_next kind text k small) (does_then first second)

-- a front of the copies is a front of all
pub copies_front : {P T E : Type 0} {tells : P → Bool} {held : P → ℕ → Pack} {faults : P → ℕ} {unit : ℕ} {old new : P} {e : E} (kind : DriveKind) (text : List ℕ) (n : ℕ)
    → DoesAll {P = P} {T = T} {E = E} tells held faults unit old new (Err e) (take n (copies kind text))
    → DoesAll {P = P} {T = T} {E = E} tells held faults unit old new (Err e) (copies kind text)
copies_front kind text n does = does_same (λ _. take-append-drop n (copies kind text)) (does_cut (drop n (copies kind text)) does)

-- ---- where a place goes

pub index_inside : (old new : Table) (place : Place) (i : ℕ) → Inserts old new place i → i < length new.places
index_inside old new place i inserted =
    subst (λ (t : Table). i < length t.places) (sym inserted.changed) (omega (arith, length-insert old.places i place inserted.position, inserted.position))

pub inserted_low : (kind : DriveKind) (block i : ℕ) (old new : Table) (place : Place) → old.kind ≡ kind → place ≡ place_at kind block → block_number kind (place_at kind block) ≡ block
    → Inserts old new place i → block < limit_of kind
inserted_low kind block i old new place drive at number inserted =
    subst (λ (n : ℕ). n < limit_of kind) number
    (subst (λ (p : Place). block_number kind p < limit_of kind) at (subst (λ (k : DriveKind). block_number k place < limit_of k) drive inserted.fresh.below))

-- a listed place is one of the drive
pub listed_inside : (kind : DriveKind) (table : Table) (i : ℕ) (place : Place) → table.kind ≡ kind → IsTable table → slice_get table.places i ≡ Some place → IsInside kind place
listed_inside kind table i place drive valid is =
    subst (λ (k : DriveKind). IsInside k place) drive
    (subst (IsInside table.kind) (get_or_from_slice_get table.places i place place is) (valid.inside i place (slice_get_within table.places i place is)))
