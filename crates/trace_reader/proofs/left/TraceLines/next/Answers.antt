use Rattle.std.proofs.Common.{◌≡◌, length, arith, sym}
use Rattle.std.proofs.lemmas.Bool.Decides.{nat_tests}
use Rattle.trace_reader.proofs.SoFarLaws.{ends_left, goes_left, stops_left}
use Rattle.trace_reader.proofs.left.TraceLines.next.Goals as goal

pub returns-then-is_empty-clause-ok : goal.returns-then-is_empty-clause-ok
returns-then-is_empty-clause-ok c =
    let none : length c.self.inside.rest.now ≡ 0 = grind (arith, nat_tests) in
    rw (← c.self.view_is) (ends_left c.self.inside.script.now c.self.inside.bytes.now c.self.inside.rest.now c.self.inside.before c.self.inside.ended c.self.inside.number none)

pub returns-in_ok-learn-in-Ok-clause-ok : goal.returns-in_ok-learn-in-Ok-clause-ok
returns-in_ok-learn-in-Ok-clause-ok c =
    rw (← c.self.view_is) (
    goes_left c.self.inside.script.now c.self.inside.bytes.now c.self.inside.rest.now c.first_piece.result.0.now c.first_piece.result.1.now c.self.inside.before c.self.inside.ended _ c.self.inside.number
    c.line-self-inside.result c.in-Ok.line c.first_piece.ensures.line (sym c.in-Ok.ensures) c.line-self-inside.ensures c.in_ok-learn-in-Ok.ensures.keeps
    )

pub returns-in-Err-clause-err : goal.returns-in-Err-clause-err
returns-in-Err-clause-err c =
    rw (← c.self.view_is) (
    stops_left c.self.inside.script.now c.self.inside.bytes.now c.self.inside.rest.now c.first_piece.result.0.now c.first_piece.result.1.now c.self.inside.before c.self.inside.ended c.self.inside.number
    c.in-Err.kind c.first_piece.ensures.line (sym c.in-Err.ensures)
    )
