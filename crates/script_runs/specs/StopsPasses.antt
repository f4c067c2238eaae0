-- What is passed on of the crates below, so that those above stand on this one.
pub use Rattle.driver_laws.specs.shown.Lengths.{AreAsLong}
pub use Rattle.driver_laws.specs.shown.Reach.{AskBelow, AsksBelow, IsWithinReach, StayFrom, TablesBelow}
pub use Rattle.driver_laws.specs.shown.NextBlock.{IsTorn}
pub use Rattle.driver_laws.specs.shown.RunsRuns.{AreDeclared, IsKept}
pub use Rattle.driver_laws.specs.shown.Calls.{IsReadOf}
pub use Rattle.driver_laws.specs.shown.Noises.{AllFlip}
pub use Rattle.driver_laws.specs.shown.Runs.{IsDraining, IsOfUnits, IsSoFar, with_call}
pub use Rattle.driver_laws.specs.shown.Within.{Rests, ShowsAll}
