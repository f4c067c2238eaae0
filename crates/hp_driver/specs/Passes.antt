-- What is passed on of the crates below, so that those above stand on this one.
pub use Rattle.hp_core.specs.Done.{DoesSilently, HasCauses}
pub use Rattle.hp_core.specs.Joins.{MayJoin}
pub use Rattle.hp_core.specs.Setups.{setups_of}
pub use Rattle.hp_core.specs.State.{State, site}
pub use Rattle.hp_core.specs.State
pub use Rattle.driver_laws.specs.shown.QuietCalls.{DrainsFrom, GoesTo, IsOpen}
pub use Rattle.driver_laws.specs.shown.Quiet.{IsQuiet, StandsQuiet, kind_if, rested, setup_of, table_if}
