use Rattle.std.proofs.Common.{sym, subst}
use Rattle.hp_driver.specs.Asked.{Asked}
use Rattle.hp_driver.specs.Requests.{IsHeldFor}
use Rattle.hp_driver.specs.Subsystem.{asked}
use Rattle.hp_driver.specs.Passes.{MayJoin}
use Rattle.hp_driver.proofs.Room.{may_join}
use Rattle.hp_driver.proofs.Asking.{held_there, asks_joined}
use Rattle.hp_driver.proofs.admission.join.Goals as goal

pub join-requires-clause-may : goal.join-requires-clause-may
join-requires-clause-may g c =
    subst (λ (a : Asked). MayJoin c.args.core.now.world a c.args.bytes.now) (sym c.asked_from-asked.ensures)
    (may_join c.args.core.now.world c.args.request c.args.first c.args.bytes.now c.requires.stands.sound c.requires.none_waits c.requires.may c.requires.admitted.inside c.requires.admitted.room)

pub returns : goal.returns
returns g c =
    asks_joined _ _ _ _ _ _ _ _ _ (asked c.args.request c.args.bytes.now) c.requires.stands c.requires.may.unit c.requires.may.fresh
    c.join.ensures.slot c.join.ensures.held c.requires.admitted.joins c.join.ensures.may
    (held_there c.args.core.now.world c.args.request c.args.bytes.now c.args.first c.join.ensures.held c.requires.admitted.first
    (subst (λ (a : Asked). IsHeldFor a c.args.bytes.now c.join.ensures.held) c.asked_from-asked.ensures c.join.ensures.is))
    c.join.ensures.does
