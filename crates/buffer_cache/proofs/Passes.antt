-- What is passed on of the crates below, so that those above stand on this one.
pub use Rattle.blocking_io.proofs.FrontsBlocks.{first_is, none_unusable}
pub use Rattle.blocking_io.proofs.FrontsPasses.{new_is_quiet}
pub use Rattle.blocking_io.proofs.Joined.{sessions_join, stops_join}
pub use Rattle.blocking_io.proofs.Sites.{kind_stays, left_over, map_long, others_none, others_over}
pub use Rattle.blocking_io.proofs.Spots.{keeps_join, keeps_none, still}
pub use Rattle.driver_laws.proofs.shown.Start.{starts}
