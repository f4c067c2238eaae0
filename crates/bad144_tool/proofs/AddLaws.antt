-- What adding a block comes to, from what its steps come to.
use Rattle.std.proofs.Common.{◌≡◌, ℕ, ◌<◌, ◌≤◌, length, Some, Result, Ok, Err, refl, sym, ap, ◌∙◌, subst}
use Rattle.std.specs.Prelude.{IfErr, IsErrAnd}
use Rattle.pack_geometry.specs.declared.DriveKind.{DriveKind}
use Rattle.pack_geometry.specs.declared.Place.{Place}
use Rattle.pack_geometry.specs.Geometry.{block_number, limit_of, place_at}
use Rattle.pack_geometry.specs.Pack.{Pack}
use Rattle.pack_geometry.specs.TableSpelling.{Table}
use Rattle.bad144_table.specs.declared.table.InsertFault.{InsertFault}
use Rattle.bad144_table.specs.declared.table.InsertFault.TheVariants as insert_fault
use Rattle.bad144_table.specs.Inserts.{Inserts, IsNew, IsRefused}
use Rattle.bad144_tool.specs.Adding.{Adds, AreFree, GoesTo, HasTable, IsFirstMarked, IsStopped, MayList, Within}
use Rattle.bad144_tool.specs.Changes.{IsCutShort, with_changes}
use Rattle.bad144_tool.specs.Edit.{edit_writes}
use Rattle.bad144_tool.specs.Faults.{IsSpareFault, IsWhy, from_insert}
use Rattle.bad144_tool.specs.declared.edit.AddWay.{AddWay}
use Rattle.bad144_tool.specs.declared.fault.ToolFault.{ToolFault}
use Rattle.bad144_tool.specs.declared.fault.ToolFault.TheVariants.{Reserved, Listed, Full, Spare, Store}

-- what holds of an error holds of a result that is it
pub at_error : {T E : Type 0} (result : Result T E) {e : E} (P : E → Type 0) → IsErrAnd result (λ x. x ≡ e) → P e → IfErr result P
at_error (Ok v) P is p = tt
at_error (Err x) P is p = subst P (sym is) p

-- why a place is refused, as it is said of the block
pub why_refused : (kind : DriveKind) (pack : Pack) (block : ℕ) (table : Table) (place : Place) (f : InsertFault)
    → HasTable kind pack table → table.kind ≡ kind → place ≡ place_at kind block → block_number kind (place_at kind block) ≡ block
    → IsRefused table place f → IsWhy kind pack block (from_insert f)
why_refused kind pack block table place insert_fault.Reserved on drive at number refused =
    record {
      table = table;
      on = on;
      reserved = subst (λ (n : ℕ). limit_of kind ≤ n) number
          (subst (λ (p : Place). limit_of kind ≤ block_number kind p) at (subst (λ (k : DriveKind). limit_of k ≤ block_number k place) drive refused));
    }
why_refused kind pack block table place (insert_fault.Listed i) on drive at number refused =
    record {
      table = table;
      on = on;
      below = subst (λ (n : ℕ). n < limit_of kind) number
          (subst (λ (p : Place). block_number kind p < limit_of kind) at (subst (λ (k : DriveKind). block_number k place < limit_of k) drive refused.0));
      listed = refused.1 ∙ ap (λ (p : Place). Some p) at;
    }
why_refused kind pack block table place insert_fault.Full on drive at number refused =
    record { table = table; on = on; fresh = subst (λ (p : Place). IsNew table p) at refused.0; full = refused.1 }

-- why a replacement is not written
pub why_spare : (kind : DriveKind) (pack : Pack) (block i end : ℕ) (table new_table : Table) (e : ToolFault) → IsSpareFault e
    → ((j : ℕ) → e ≡ Spare j → IsFirstMarked kind pack i end j) → GoesTo kind pack block i table new_table → end ≡ length new_table.places
    → IsWhy kind pack block e
why_spare kind pack block i end table new_table (Spare j) is first goes all =
    record { i = i; table = table; new_table = new_table; goes = goes; first = subst (λ (n : ℕ). IsFirstMarked kind pack i n j) all (first j refl) }
why_spare kind pack block i end table new_table Store is first goes all = tt
why_spare kind pack block i end table new_table other is first goes all = absurd is

-- a place of the block went to index `i`
pub goes_to : (kind : DriveKind) (pack : Pack) (block i : ℕ) (table new_table : Table) (place : Place) → HasTable kind pack table
    → place ≡ place_at kind block → Inserts table new_table place i → GoesTo kind pack block i table new_table
goes_to kind pack block i table new_table place on at inserted =
    record { on = on; inserted = subst (λ (p : Place). Inserts table new_table p i) at inserted }

pub may_list : (kind : DriveKind) (pack : Pack) (block i end : ℕ) (table new_table : Table) → GoesTo kind pack block i table new_table
    → end ≡ length new_table.places → AreFree kind pack i end → MayList kind pack block i table new_table
may_list kind pack block i end table new_table goes all free =
    record { goes = goes; free = subst (λ (n : ℕ). AreFree kind pack i n) all free }

-- the packs failed within the writes
pub within : (kind : DriveKind) (unit block i : ℕ) (way : AddWay) (old mid new : ℕ → Pack) (table new_table : Table)
    → MayList kind (old unit) block i table new_table → mid ≡ old → IsCutShort mid new unit (edit_writes kind (mid unit).image new_table i block way)
    → IsStopped kind unit block way old new
within kind unit block i way old mid new table new_table may same cut =
    Within i table new_table may (subst (λ (p : ℕ → Pack). IsCutShort p new unit (edit_writes kind (p unit).image new_table i block way)) same cut)

pub adds : (kind : DriveKind) (unit block i : ℕ) (way : AddWay) (old mid new : ℕ → Pack) (table new_table : Table)
    → MayList kind (old unit) block i table new_table → mid ≡ old → new ≡ with_changes mid unit (edit_writes kind (mid unit).image new_table i block way)
    → Adds kind unit block way old new i
adds kind unit block i way old mid new table new_table may same done =
    record {
      table = table;
      new_table = new_table;
      may = may;
      done = subst (λ (p : ℕ → Pack). new ≡ with_changes p unit (edit_writes kind (p unit).image new_table i block way)) same done;
    }
