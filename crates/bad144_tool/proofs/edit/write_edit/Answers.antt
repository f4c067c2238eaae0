use Rattle.std.proofs.Common.{◌≡◌, ℕ, List, ◌-◌, length, ap, ◌∙◌, arith}
use Rattle.pack_geometry.specs.declared.DriveKind.{DriveKind}
use Rattle.pack_geometry.specs.TableSpelling.{Table}
use Rattle.bad144_tool.specs.declared.edit.AddWay.{AddWay}
use Rattle.bad144_tool.specs.Edit.{edit_writes, writes_with}
use Rattle.bad144_tool.proofs.ChangeLaws.{does_then, does_fail, does_cut, does_same}
use Rattle.bad144_tool.proofs.EditLaws.{first_then}
use Rattle.bad144_tool.proofs.edit.write_edit.Goals as goal

-- as many replacements move up as are listed behind the block
counted : (kind : DriveKind) (image : List ℕ) (table : Table) (i j n block : ℕ) (way : AddWay) → j ≡ i → n ≡ length table.places
    → writes_with kind image table j (n - 1 - j) block way ≡ edit_writes kind image table i block way
counted kind image table i j n block way at is =
    ap (λ (m : ℕ). writes_with kind image table j (m - 1 - j) block way) is
    ∙ ap (λ (k : ℕ). writes_with kind image table k (length table.places - 1 - k) block way) at

pub returns-in_err-move_all : goal.returns-in_err-move_all
returns-in_err-move_all g c =
    does_same (λ _. counted c.args.kind (g.P.Packs.held c.args.packs.now c.args.unit).image c.args.table.now c.args.i c.from-i.result c.from-last.result c.args.block c.args.way
    c.from-i.ensures (c.from-last.ensures ∙ c.entries.ensures.count))
    (does_fail _ c.from_residual.ensures.0 (does_cut _ (does_cut _ c.in_err-move_all.ensures)))

pub returns-in_err-write_first : goal.returns-in_err-write_first
returns-in_err-write_first g c =
    does_same (λ _. counted c.args.kind (g.P.Packs.held c.args.packs.now c.args.unit).image c.args.table.now c.args.i c.from-i.result c.from-last.result c.args.block c.args.way
    c.from-i.ensures (c.from-last.ensures ∙ c.entries.ensures.count))
    (does_fail _ c.from_residual-in_err-write_first.ensures.0 (does_cut _
    (first_then c.args.kind c.args.unit c.from-i.result (c.from-last.result - 1 - c.from-i.result) c.args.block c.args.way.copy c.requires.block
    (omega (arith, c.requires.index, c.from-i.ensures, c.from-last.ensures, c.entries.ensures.count, c.entries.ensures.valid.room))
    c.in_ok-move_all.ensures c.in_err-write_first.ensures)))

pub returns-in_err-write_copies : goal.returns-in_err-write_copies
returns-in_err-write_copies g c =
    does_same (λ _. counted c.args.kind (g.P.Packs.held c.args.packs.now c.args.unit).image c.args.table.now c.args.i c.from-i.result c.from-last.result c.args.block c.args.way
    c.from-i.ensures (c.from-last.ensures ∙ c.entries.ensures.count))
    (does_fail _ c.from_residual-in_err-write_copies.ensures.0 (does_then
    (first_then c.args.kind c.args.unit c.from-i.result (c.from-last.result - 1 - c.from-i.result) c.args.block c.args.way.copy c.requires.block
    (omega (arith, c.requires.index, c.from-i.ensures, c.from-last.ensures, c.entries.ensures.count, c.entries.ensures.valid.room))
    c.in_ok-move_all.ensures c.in_ok-write_first.ensures) c.in_err-write_copies.ensures))

pub returns : goal.returns
returns g c =
    does_same (λ _. counted c.args.kind (g.P.Packs.held c.args.packs.now c.args.unit).image c.args.table.now c.args.i c.from-i.result c.from-last.result c.args.block c.args.way
    c.from-i.ensures (c.from-last.ensures ∙ c.entries.ensures.count))
    (does_then (does_then
    (first_then c.args.kind c.args.unit c.from-i.result (c.from-last.result - 1 - c.from-i.result) c.args.block c.args.way.copy c.requires.block
    (omega (arith, c.requires.index, c.from-i.ensures, c.from-last.ensures, c.entries.ensures.count, c.entries.ensures.valid.room))
    c.in_ok-move_all.ensures c.in_ok-write_first.ensures) c.in_ok-write_copies.ensures) c.write_mark.ensures)
