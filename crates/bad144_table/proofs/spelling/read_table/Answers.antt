use Rattle.std.proofs.Common.{◌≡◌, Ok, Err, arith, rules}
use Rattle.std.specs.Prelude.{IfErr, IfOk}
use Rattle.pack_geometry.specs.TableSpelling.{Spells, Table}
use Rattle.bad144_table.specs.Faults.{IsFirstFault}
use Rattle.bad144_table.specs.declared.spelling.TableFault.TheVariants.{Zero, Flag}
use Rattle.bad144_table.proofs.SpellingLemmas.{read_is, spells_done}
use Rattle.bad144_table.proofs.spelling.read_table.Goals as goal

pub returns-then-word-ne0-clause-spelled : goal.returns-then-word-ne0-clause-spelled
returns-then-word-ne0-clause-spelled c =
    let fault : IsFirstFault c.args.kind c.args.bytes.now Zero = search rules in
    read_is c.args.kind c.args.bytes.now (Err Zero) tt fault

pub returns-then-word-ne0-2-clause-spelled : goal.returns-then-word-ne0-2-clause-spelled
returns-then-word-ne0-2-clause-spelled c =
    let fault : IsFirstFault c.args.kind c.args.bytes.now Flag = search rules in
    read_is c.args.kind c.args.bytes.now (Err Flag) tt fault

pub returns-in_err-take_pair-clause-spelled : goal.returns-in_err-take_pair-clause-spelled
returns-in_err-take_pair-clause-spelled c =
    let ok : IfOk c.from_residual.result (λ (t : Table). (t.kind ≡ c.args.kind) × Spells c.args.bytes.now t) = search rules in
    let err : IfErr c.from_residual.result (IsFirstFault c.args.kind c.args.bytes.now) = search rules in
    read_is c.args.kind c.args.bytes.now c.from_residual.result ok err

pub returns-clause-ok : goal.returns-clause-ok
returns-clause-ok c =
    let done : c.loop-i.i ≡ 126 = omega arith in
    spells_done c.args.kind c.args.bytes.now c.loop-i.table c.loop-i.i c.told-bytes c.fits-bytes c.loop-i.invariant.kind
    c.loop-i.invariant.serial c.loop-i.invariant.read done

pub returns-clause-spelled : goal.returns-clause-spelled
returns-clause-spelled c = read_is c.args.kind c.args.bytes.now (Ok c.loop-i.table) (returns-clause-ok c) tt
