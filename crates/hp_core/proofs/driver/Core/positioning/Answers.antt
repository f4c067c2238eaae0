use Rattle.hp_units.proofs.Rows.{lowest_in}
use Rattle.hp_core.proofs.driver.Core.positioning.Goals as goal

pub returns : goal.returns
returns c =
    rw (← c.self.view_is)
    (lowest_in c.self.inside.row c.self.inside.units.items c.lowest.result c.self.invariant.positions c.lowest.ensures.on c.lowest.ensures.below c.lowest.ensures.none)
