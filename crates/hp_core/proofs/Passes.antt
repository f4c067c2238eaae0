-- What is passed on of the crates below, so that those above stand on this one.
pub use Rattle.driver_laws.proofs.answers.Joined.{does_then, nothing_done, stopped_before}
