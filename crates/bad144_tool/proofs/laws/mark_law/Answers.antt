use Rattle.bad144_tool.proofs.MarkLaws.{marked_up, nothing_again}
use Rattle.bad144_tool.proofs.TableEdits.{changes_elsewhere}
use Rattle.std.proofs.Common.{ℕ, ap, ◌∙◌}
use Rattle.pack_geometry.specs.Pack.{Pack}
use Rattle.bad144_tool.specs.Marking.{markings}
use Rattle.bad144_tool.proofs.laws.mark_law.Goals as goal

pub returns-clause-up : goal.returns-clause-up
returns-clause-up c = marked_up

pub returns-clause-elsewhere : goal.returns-clause-elsewhere
returns-clause-elsewhere c = λ kind unit count other old new m ne.
    ap (λ (packs : ℕ → Pack). packs other) m.done ∙ changes_elsewhere old unit other (markings kind (old unit) m.table.places) ne

pub returns-clause-again : goal.returns-clause-again
returns-clause-again c = nothing_again
