use Rattle.std.proofs.Common.{[], refl}
use Rattle.hp_driver.specs.Subsystem.{asked}
use Rattle.hp_driver.proofs.Asking.{may_refuse, asks_refused}
use Rattle.hp_driver.proofs.admission.submit.Goals as goal

pub refuse-requires-clause-may : goal.refuse-requires-clause-may
refuse-requires-clause-may g c =
    may_refuse c.args.core.now.world c.args.line (asked c.args.request []) c.in-Err.kind c.requires.may.unit c.requires.may.fresh c.in-Err.ensures.refused

pub returns-in-Err : goal.returns-in-Err
returns-in-Err g c =
    asks_refused _ _ _ _ _ _ _ _ _ (asked c.args.request c.args.bytes.now) c.requires.stands c.requires.may.unit c.requires.may.fresh c.in-Err.kind c.in-Err.ensures.refused
    (c.refuse.ensures (asked c.args.request c.args.bytes.now) refl refl (c.requires.may.unit, c.requires.may.fresh, c.in-Err.ensures.refused))

pub admitted-requires-clause-shape : goal.admitted-requires-clause-shape
admitted-requires-clause-shape g c =
    let is = c.requires.may.request in
    record { some = is.some; few = is.few; inside = is.in_frame; last_some = is.ends; last_few = is.in_block }
