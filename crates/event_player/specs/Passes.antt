-- What is passed on of the crates below, so that those above stand on this one.
pub use Rattle.hp_driver.specs.Setups.{setup_of, setups_of}
pub use Rattle.hp_driver.specs.UnitSetup.{UnitSetup}
pub use Rattle.script_runs.specs.OneRun.{HasOneRun, IsTheRun}
pub use Rattle.script_runs.specs.Steps.{AreSetFor, AreUnits, tables_in}
pub use Rattle.script_runs.specs.Ahead.{AreBehind, SaysOneSector, WritesAhead}
pub use Rattle.script_runs.specs.StopsPasses.{AskBelow, IsTorn}
pub use Rattle.script_runs.specs.Stops.{Came, Reached, StopsAtSink, Took, took}
