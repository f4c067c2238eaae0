-- What is passed on of the crates below, so that those above stand on this one.
pub use Rattle.hp_driver.proofs.Passes.{played_consistent, new_is_quiet, quiet_rests}
pub use Rattle.driver_laws.proofs.rules.Few.{done_few}
