use Rattle.std.proofs.Common.{false, sym, subst}
use Rattle.hp_driver.specs.Passes.{State, setups_of}
use Rattle.hp_driver.specs.Subsystem.{IsKept}
use Rattle.hp_driver.proofs.Kept.{kept_new}
use Rattle.hp_driver.proofs.subsystem.Subsystem.new.Goals as goal

pub invariant_of-result : goal.invariant_of-result
invariant_of-result c =
    subst (λ (s : State). IsKept (record { world = s.world; outstanding = c.args.outstanding; failed = false; kept = s.kept })) (sym c.in_ok-core.ensures)
    (kept_new (setups_of c.args.units.now) c.args.outstanding c.args.noises c.requires.units c.requires.few)
