use Rattle.std.proofs.Common.{inr, refl, ap, length, Some, Err, subst, sym, arith}
use Rattle.raw_command.specs.Endings.{Stays}
use Rattle.raw_command.specs.Faults.{code_of, done_by}
use Rattle.raw_command.specs.declared.fault.TransferFault.{TransferFault}
use Rattle.raw_command.proofs.RunLaws.{gives_all, gives_cut, gives_front, inside_range, stays_by, stays_fault}
use Rattle.raw_command.proofs.run.read_to.Goals as goal

pub returns-in-Ok-write_all-clause-ends : goal.returns-in-Ok-write_all-clause-ends
returns-in-Ok-write_all-clause-ends g c = λ tells left count.
    gives_all c.read_unit.new.into c.read_unit.auto.into (inside_range _ _ _ _ c.requires.inside) (c.in-Ok.ensures.reads _ refl) c.in-Ok-write_all.ensures.bytes

pub returns-in-Err-write_all-clause-ends : goal.returns-in-Err-write_all-clause-ends
returns-in-Err-write_all-clause-ends g c = λ tells left count.
    inr (gives_cut c.read_unit.new.into c.read_unit.auto.into (inside_range _ _ _ _ c.requires.inside) (c.in-Ok.ensures.reads _ refl) c.in-Err-write_all.ensures.cause.failed c.in-Err-write_all.ensures.front)

pub returns-in-Err-Unusable-clause-ends : goal.returns-in-Err-Unusable-clause-ends
returns-in-Err-Unusable-clause-ends g c = λ tells left count.
    let h = c.in-Err-Unusable.ensures in
    let w = c.write_all-in-Err-Unusable in
    gives_front c.read_unit.new.into c.read_unit.auto.into (inside_range _ _ _ _ c.requires.inside) c.in-Err-Unusable.done _ w.result refl
    (h.unusable c.in-Err-Unusable.done (ap (λ (f : TransferFault). Some f) c.in-Err-Unusable.field-0-is))
    (h.reads c.in-Err-Unusable.done (ap (λ (f : TransferFault). done_by (length c.args.bytes.now) (Some f)) c.in-Err-Unusable.field-0-is))
    w.ensures.bytes w.ensures.front w.ensures.cause

pub returns-in-Ok-write_all-clause-stays : goal.returns-in-Ok-write_all-clause-stays
returns-in-Ok-write_all-clause-stays g c = stays_by 0 (λ e. omega (arith, e)) (λ e. omega (arith, e)) (λ e. omega (arith, e))

pub returns-in-Err-write_all-clause-stays : goal.returns-in-Err-write_all-clause-stays
returns-in-Err-write_all-clause-stays g c = stays_by 5 (λ e. omega (arith, e)) (λ e. omega (arith, e)) (λ e. omega (arith, e))

pub returns-in-Err-Unusable-clause-stays : goal.returns-in-Err-Unusable-clause-stays
returns-in-Err-Unusable-clause-stays g c = stays_by 10 (λ e. omega (arith, e)) (λ e. omega (arith, e)) (λ e. omega (arith, e))

pub returns-in-Err-clause-stays : goal.returns-in-Err-clause-stays
returns-in-Err-clause-stays g c =
    let keeps = c.in-Err.ensures.keeps in
    let told = c.refuse.ensures in
    subst (λ (why : TransferFault). Stays (code_of (Err why)) c.args.packs.now c.read_unit.new.packs c.args.out.now c.refuse.new.out c.args.trace.now c.read_unit.new.trace) (sym told.same)
    (stays_fault c.in-Err.fault keeps.only keeps.untraced told.silent)
