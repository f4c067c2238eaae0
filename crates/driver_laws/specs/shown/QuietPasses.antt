-- What this crate passes on from the crates below, so that the crates above depend on this one only.
pub use Rattle.driver_laws.specs.answers.Counts.{in_use}
pub use Rattle.driver_laws.specs.answers.Outcome.{Does, IsFront, Outcome, Site, StopsAtTrace, StopsBefore, Told, stop_in}
pub use Rattle.driver_laws.specs.answers.Packs.{ReadAll, packs_after_all}
pub use Rattle.driver_laws.specs.declared.answers.outcome.Stop.{Stop}
pub use Rattle.driver_laws.specs.declared.answers.outcome.Stop.TheVariants.{Sink, Store}
pub use Rattle.driver_laws.specs.shown.Calls.{IsReadFrom, IsReadOf}
pub use Rattle.driver_laws.specs.shown.Drains.{AreAsked, CanStart, DrainsFallFrom, Falls}
pub use Rattle.driver_laws.specs.shown.Noises.{AllFlip}
pub use Rattle.driver_laws.specs.shown.Runs.{IsDraining}
