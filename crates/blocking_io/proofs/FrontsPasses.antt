-- What is passed on of the crates below, so that those above stand on this one.
pub use Rattle.blocking_io.proofs.Passes.{new_is_quiet}
