-- What is passed on of the crates below, so that those above stand on this one.
pub use Rattle.driver_laws.proofs.shown.Start.{starts}
pub use Rattle.blocking_io.proofs.FrontsPasses.{new_is_quiet}
