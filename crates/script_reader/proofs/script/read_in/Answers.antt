use Rattle.std.proofs.Common.{◌≡◌, ◌-◌, ℕ, List, [], map, subst, arith, Ok}
use Rattle.std.proofs.lemmas.Result.{err_from_is_err_and}
use Rattle.script_reader.specs.Lines.{lines_of}
use Rattle.script_reader.specs.Reading.{reading, Finds}
use Rattle.script_reader.specs.Stored.{seen}
use Rattle.script_reader.proofs.ReadingLaws.{spelled, refused}
use Rattle.script_reader.proofs.script.read_in.Goals as goal

pub returns-clause-ok : goal.returns-clause-ok
returns-clause-ok c =
    let lines = c.read_into.new.lines.items in
    let next = c.in_ok-next.next in
    spelled c.args.dialect c.args.bytes.items (map (seen c.args.bytes.items) lines) next (next - 1)
    (omega (arith, c.len.ensures, c.if-len-gt-LONGEST.false, c.as_slice.ensures.len, c.args.bytes.ok.0))
    (subst (λ (bs : List ℕ). reading c.args.dialect [] 1 (lines_of bs) ≡ Ok (record { lines = map (seen bs) lines; next = next })) c.as_slice.ensures.value c.in_ok-next.ensures.ok)
    (omega (arith, c.in_ok-next.ensures.some))

pub returns-in_err-next-clause-err : goal.returns-in_err-next-clause-err
returns-in_err-next-clause-err c =
    let p = err_from_is_err_and c.from_residual.result c.from_residual.ensures.1 in
    rw (p.1, p.2) (refused c.args.dialect c.args.bytes.items c.in_err-next.field-0.0 (omega (arith, c.len.ensures, c.if-len-gt-LONGEST.false, c.as_slice.ensures.len, c.args.bytes.ok.0))
    (subst (λ (bs : List ℕ). Finds c.in_err-next.field-0.0 (reading c.args.dialect [] 1 (lines_of bs))) c.as_slice.ensures.value c.in_err-next.ensures.err))
