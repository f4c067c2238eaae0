-- Setups of the drives that the lines of a script declare, with the tables of their packs: a fold over the lines.
use Rattle.std.proofs.Common.{◌≡◌, ℕ, ◌<◌, List, [], ◌∷◌, ◌++◌, refl, sym, subst, Option, Some, None, append-nil, append_assoc}
use Rattle.std.proofs.lemmas.Option.{none-some}
use Rattle.pack_geometry.specs.declared.DriveKind.{DriveKind}
use Rattle.pack_geometry.specs.Pack.{Pack}
use Rattle.pack_geometry.specs.TableSpelling.{Table}
use Rattle.pack_geometry.specs.PackTable.{IsTableOf, AreTablesOf}
use Rattle.pack_geometry.proofs.TableExists.{table_exists}
use Rattle.trace_replay.specs.Script.{Statement, Declares, Plays, Line, drives_in, IsPlayed, AreUnitsFirst, Script}
use Rattle.driver_machine.specs.World.{Setup}
use Rattle.driver_machine.specs.Sound.{IsTableFor}
use Rattle.script_runs.specs.Steps.{tables_in, HasSetups}
use Rattle.script_runs.proofs.Attached.{IsSetupOf, AreAttached, attached_none, attached_more, attached_still, told_more, told_still, is_first, set_for_script}
use Rattle.trace_replay.specs.Script as says

-- EACH PACK has a table or none, so each line that declares a drive has a setup.
table_for : (kind : DriveKind) (pack : Pack) (t : Option Table) → IsTableOf kind pack t → (table : Table) → t ≡ Some table → IsTableFor kind table
table_for kind pack None is table e = absurd (none-some table e)
table_for kind pack (Some t) told table e =
    subst (IsTableFor kind) (same_table t table e) (record { is = told.told.spelled.valid; for_drive = told.told.for_drive })
  where
    same_table : (a b : Table) → ◌≡◌ {A = Option Table} (Some a) (Some b) → a ≡ b
    same_table a b f = cc

setup_for : (packs : ℕ → Pack) (u : ℕ) (kind : DriveKind) → (s : Setup) × IsSetupOf u kind s × IsTableOf kind (packs u) s.table
setup_for packs u kind =
    let t : (table : Option Table) × IsTableOf kind (packs u) table = table_exists kind (packs u) in (
      record { unit = u; kind = kind; table = t.0 },
      record { unit_is = refl; kind_is = refl; good = table_for kind (packs u) t.0 t.1 },
      t.1,
    )

record Folded (packs : ℕ → Pack) (lines : List Line) : Type 0 where
  setups : List Setup
  attached : AreAttached lines setups
  told : AreTablesOf (drives_in lines) packs (tables_in setups)

one_line : (packs : ℕ → Pack) (front rest : List Line) (line : Line) → AreUnitsFirst (front ++ line ∷ rest) → Folded packs front → (st : Statement) → line.statement ≡ st
    → Folded packs (front ++ line ∷ [])
one_line packs front rest line first f (Declares u kind) is =
    let s : (s : Setup) × IsSetupOf u kind s × IsTableOf kind (packs u) s.table = setup_for packs u kind in
    let there : (u < 32) × (drives_in front u ≡ None) = is_first front rest line u kind first is in
    record {
      setups = f.setups ++ s.0 ∷ [];
      attached = attached_more line f.attached (record { small = there.0; none = there.1 }) is s.1;
      told = told_more packs s.0 line f.attached is s.1.unit_is s.2 f.told;
    }
one_line packs front rest line first f (Plays input) is = record {
  setups = f.setups;
  attached = attached_still line (subst IsPlayed (sym is) tt) f.attached;
  told = told_still packs front f.setups line (subst IsPlayed (sym is) tt) f.told;
}

fold : (packs : ℕ → Pack) (front rest : List Line) → AreUnitsFirst (front ++ rest) → Folded packs front → Folded packs (front ++ rest)
fold packs front [] first f = subst (Folded packs) (sym (append-nil front)) f
fold packs front (line ∷ rest) first f =
    let e : (front ++ line ∷ []) ++ rest ≡ front ++ line ∷ rest = append_assoc front (line ∷ []) rest in
    subst (Folded packs) e
    (fold packs (front ++ line ∷ []) rest (subst AreUnitsFirst (sym e) first) (one_line packs front rest line first f line.statement refl))

pub setups_exist : (script : Script) (old : ℕ → Pack) → says.AreUnitsFirst script.lines → HasSetups script old
setups_exist script old first =
    let f : Folded old script.lines = fold old [] script.lines first (record { setups = []; attached = attached_none; told = λ unit. refl }) in
    record { tables = tables_in f.setups; setups = f.setups; read = f.told; set = set_for_script script f.setups f.attached }
