-- Laws of the table of a pack.
use Rattle.std.proofs.Common.{◌≡◌, inl, inr, ℕ, ◌<◌, ◌≤◌, length, Option, None, Some, refl, sym, ap, ◌∙◌, subst, arith}
use Rattle.std.proofs.Math.Path.{fun_ext}
use Rattle.std.proofs.lemmas.Bool.{cases_lt}
use Rattle.pack_geometry.specs.declared.DriveKind.{DriveKind}
use Rattle.pack_geometry.specs.Geometry.{copy_at}
use Rattle.pack_geometry.specs.Pack.{Pack, block_at, is_marked}
use Rattle.pack_geometry.specs.TableSpelling.{Table, Spells}
use Rattle.pack_geometry.specs.PackTable.{Tells, IsFirstTold, IsTableOf, IsTableAt, AreTablesOf, places_of, HaveSameCopies}
use Rattle.pack_geometry.proofs.TableLaws.{spells_once}

one_copy : (kind : DriveKind) (pack : Pack) (k l : ℕ) (t u : Table) → k ≡ l → Tells kind pack k t → Tells kind pack l u → t ≡ u
one_copy kind pack k l t u e p q =
    let here : Tells kind pack k u = subst (λ n. Tells kind pack n u) (sym e) q in
    spells_once (block_at pack.image (copy_at kind k)) t u p.spelled here.spelled (p.for_drive ∙ sym q.for_drive)

one_told : (kind : DriveKind) (pack : Pack) (t u : Table) → IsFirstTold kind pack t → IsFirstTold kind pack u → t ≡ u
one_told kind pack t u p q =
    elim (cases_lt p.copy q.copy) [
      | inl before ↦ absurd (q.first p.copy t before p.told)
      | inr behind ↦
          elim (cases_lt q.copy p.copy) [
            | inl before ↦ absurd (p.first q.copy u before q.told)
            | inr same ↦ one_copy kind pack p.copy q.copy t u (omega arith) p.told q.told
          ]
    ]

pub table_once : (kind : DriveKind) (pack : Pack) (table other : Option Table) → IsTableOf kind pack table → IsTableOf kind pack other → table ≡ other
table_once kind pack None None p q = refl
table_once kind pack None (Some u) p q = absurd (p q.copy u q.is_copy q.told)
table_once kind pack (Some t) None p q = absurd (q p.copy t p.is_copy p.told)
table_once kind pack (Some t) (Some u) p q = ap Some (one_told kind pack t u p q)

once_at : (drive : Option DriveKind) (pack : Pack) (table other : Option Table) → IsTableAt drive pack table → IsTableAt drive pack other → table ≡ other
once_at None pack table other p q = p ∙ sym q
once_at (Some kind) pack table other p q = table_once kind pack table other p q

pub tables_once : (drives : ℕ → Option DriveKind) (packs : ℕ → Pack) (tables others : ℕ → Option Table)
    → AreTablesOf drives packs tables → AreTablesOf drives packs others → tables ≡ others
tables_once drives packs tables others p q = fun_ext (λ u. once_at (drives u) (packs u) (tables u) (others u) (p u) (q u))

pub table_room : (kind : DriveKind) (pack : Pack) (table : Option Table) → IsTableOf kind pack table → length (places_of table) ≤ 126
table_room kind pack None is = omega arith
table_room kind pack (Some t) is = is.told.spelled.valid.room

-- what a copy tells goes by its bytes and its mark
tells_same : (kind : DriveKind) (pack other : Pack) (k : ℕ) (t : Table) → is_marked pack (copy_at kind k) ≡ is_marked other (copy_at kind k)
    → block_at pack.image (copy_at kind k) ≡ block_at other.image (copy_at kind k) → Tells kind pack k t → Tells kind other k t
tells_same kind pack other k t marks bytes told = record {
  for_drive = told.for_drive;
  unmarked = sym marks ∙ told.unmarked;
  spelled = subst (λ b. Spells b t) bytes told.spelled;
}

tells_forth : (kind : DriveKind) (pack other : Pack) (k : ℕ) (t : Table) → HaveSameCopies kind pack other → k < 5 → Tells kind pack k t → Tells kind other k t
tells_forth kind pack other k t same lt told = tells_same kind pack other k t (same.marks k lt) (same.bytes k lt) told

tells_back : (kind : DriveKind) (pack other : Pack) (k : ℕ) (t : Table) → HaveSameCopies kind pack other → k < 5 → Tells kind other k t → Tells kind pack k t
tells_back kind pack other k t same lt told = tells_same kind other pack k t (sym (same.marks k lt)) (sym (same.bytes k lt)) told

pub table_same : (kind : DriveKind) (pack other : Pack) (table : Option Table) → HaveSameCopies kind pack other → IsTableOf kind pack table → IsTableOf kind other table
table_same kind pack other None same none = λ k t lt told. none k t lt (tells_back kind pack other k t same lt told)
table_same kind pack other (Some t) same is = record {
  copy = is.copy;
  is_copy = is.is_copy;
  told = tells_forth kind pack other is.copy t same is.is_copy is.told;
  first = λ k u before told. is.first k u before (tells_back kind pack other k u same (omega (arith, before, is.is_copy)) told);
}
