-- What is passed on of the crates below, so that those above stand on this one.
pub use Rattle.blocking_io.specs.Fronts.{OthersStay}
pub use Rattle.blocking_io.specs.FrontsPasses.{GoesOn, HasCauses, IsReady, SessionsJoin, Stage, StandsQuiet, State, StillTell, kind_if, moments_in, setup_at, setup_of, table_if}
pub use Rattle.blocking_io.specs.Stopping.{LongAt, StopsIn, begun, Took}
pub use Rattle.blocking_io.specs.Sites.{IsUntouched, MayTransfer, kind_at, left_map, map_at}
pub use Rattle.blocking_io.specs.Spots.{Keeps, Spot, TurnsOut, seen, spot}
