-- What is passed on of the crates below, so that those above stand on this one.
pub use Rattle.driver_laws.specs.answers.Outcome.{Acts, Does, Outcome, Site, StopsBefore, stop_in}
pub use Rattle.driver_laws.specs.declared.answers.outcome.Stop.{Stop}
pub use Rattle.driver_laws.specs.declared.answers.outcome.Stop.TheVariants.{Sink, Store}
