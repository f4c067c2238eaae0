use Rattle.std.proofs.Common.{ℕ, ap, sym, subst, ◌∙◌}
use Rattle.pack_geometry.specs.Pack.{Pack}
use Rattle.pack_geometry.specs.TableEdit.{IsEdited}
use Rattle.bad144_tool.specs.Adding.{edit_of}
use Rattle.bad144_tool.specs.Edit.{edit_writes}
use Rattle.bad144_tool.proofs.TableEdits.{adds_as, adds_edits, changes_elsewhere}
use Rattle.bad144_tool.proofs.laws.add_law.Goals as goal

pub returns-clause-may : goal.returns-clause-may
returns-clause-may c = adds_edits

pub returns-clause-edits : goal.returns-clause-edits
returns-clause-edits c = λ kind unit block i way old new small a.
    subst (λ (pack : Pack). IsEdited kind (old unit) pack a.table (edit_of block way) i) (sym (adds_as kind unit block i way old new small a))
    (c.table_edit_law.ensures.made kind (old unit) a.table (edit_of block way) i (adds_edits kind unit block i way old new small a))

pub returns-clause-elsewhere : goal.returns-clause-elsewhere
returns-clause-elsewhere c = λ kind unit block i other way old new a ne.
    ap (λ (packs : ℕ → Pack). packs other) a.done ∙ changes_elsewhere old unit other (edit_writes kind (old unit).image a.new_table i block way) ne
