-- What is passed on of the crates below, so that those above stand on this one.
pub use Rattle.driver_laws.specs.shown.RunsRuns.{Stay}
pub use Rattle.hp_driver.specs.Passes.{HasCauses, IsQuiet, StandsQuiet, kind_if, rested, setup_of, table_if}
pub use Rattle.hp_driver.specs.Subsystem.{State, asked}
pub use Rattle.driver_laws.specs.rules.Beginnings.{IsNextSector, with_next}
