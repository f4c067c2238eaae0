-- What is passed on of the crates below, so that those above stand on this one.
pub use Rattle.blocking_io.specs.Asking.{Answers, ImagesStay, IsMapped, IsReady, MayAsk, moments_in, setup_at}
pub use Rattle.blocking_io.specs.Calls.{MoveFails, Stage, stage}
pub use Rattle.blocking_io.specs.Given.{bytes_by, reached_by}
pub use Rattle.blocking_io.specs.Passes.{HasCauses, IsQuiet, StandsQuiet, State, asked, kind_if, setup_of, table_if}
pub use Rattle.blocking_io.specs.Sessions.{AnswersReach, GoesOn, Reaches, SessionsJoin, StillTell}
pub use Rattle.blocking_io.specs.Stopping.{Stops}
pub use Rattle.blocking_io.specs.declared.reached.Reached.{Reached}
pub use Rattle.blocking_io.specs.declared.reached.Reached.TheVariants.{All, AtEnd, Before, Outside}
