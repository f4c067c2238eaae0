use Rattle.std.proofs.Common.{Err, ap, length}
use Rattle.raw_command.specs.declared.fault.TransferFault.{TransferFault}
use Rattle.raw_command.proofs.UnitLaws.{may, not_outside, writes_by, writes_none}
use Rattle.raw_command.proofs.units.write_unit.Goals as goal

pub raw_write-answer-requires-clause-may : goal.raw_write-answer-requires-clause-may
raw_write-answer-requires-clause-may g c = may c.requires.target.unit_is c.in_ok-subsystem.ensures.attached

pub returns-in_err-subsystem : goal.returns-in_err-subsystem
returns-in_err-subsystem g c =
    let h = c.in_err-subsystem.ensures in
    writes_none _ _ _ _ _ _ _ _ _ _ _ _ _ h.later h.never_again h.same _ _ c.in_err-subsystem.field-0.0 c.from_residual.ensures.1 h.only
    (λ e. h.store (ap (λ (f : TransferFault). Err f) e)) (λ e. h.at (ap (λ (f : TransferFault). Err f) e)) h.long

pub returns : goal.returns
returns g c =
    let h = c.in_ok-subsystem.ensures in
    let k = c.raw_write-answer.ensures in
    writes_by _ _ _ _ _ _ _ _ _ _ _ _ _ h.later h.never_again h.same c.in_ok-subsystem.subsystem c.raw_write-answer.new.subsystem c.raw_write-answer.new.packs c.raw_write-answer.new.trace
    c.requires.target.unit_is h.attached c.raw_write-answer.result _ c.handed_on.ensures
    (λ e. not_outside c.args.target.part c.args.target.at (length c.args.from.now) c.requires.target.unit_is h.attached c.requires.inside (k.outside.0 e))
    c.args.from.now k.comes
