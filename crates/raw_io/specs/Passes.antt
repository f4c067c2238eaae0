-- What is passed on of the crates below, so that those above stand on this one.
pub use Rattle.blocking_io.specs.declared.reached.Reached.TheVariants.{Before}
pub use Rattle.blocking_io.specs.FrontsPasses.{Answers, AnswersReach, GoesOn, ImagesStay, IsReady, MayAsk, MoveFails, moments_in, SessionsJoin, StillTell, Stops, asked, setup_at, stage, Stage, Reaches, HasCauses, State, StandsQuiet, kind_if, setup_of, table_if}
pub use Rattle.driver_laws.specs.shown.RunsRuns.{Stay}
pub use Rattle.driver_laws.specs.shown.Runs.{IsSoFar}
pub use Rattle.blocking_io.specs.Fronts.{OthersStay}
pub use Rattle.blocking_io.specs.Sites.{IsUntouched, MayTransfer, kind_at, left_map, map_at}
pub use Rattle.blocking_io.specs.Spots.{Keeps, Spot, seen, spot}
pub use Rattle.blocking_io.specs.Stopping.{IsCut, LeftAt, LongAt, Took}
