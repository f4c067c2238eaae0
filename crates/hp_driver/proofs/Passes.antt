-- What is passed on of the crates below, so that those above stand on this one.
pub use Rattle.driver_laws.proofs.shown.QuietPasses.{event_fronts}
pub use Rattle.driver_laws.proofs.shown.Again.{quiet_again}
pub use Rattle.driver_laws.proofs.shown.Counting.{Drains, Fewer, Waits, drains_taken, first_fewer, later_fewer, waits_taken}
pub use Rattle.driver_laws.proofs.shown.New.{new_is_quiet}
pub use Rattle.driver_laws.proofs.shown.QuietQuietCalls.{drains_are_over, drains_begin, drains_continue, drains_find_nothing, played_consistent, quiet_opens, quiet_submits, takings_drain, takings_open}
pub use Rattle.driver_laws.proofs.shown.QuietRests.{quiet_rests}
pub use Rattle.driver_laws.proofs.shown.Setups.{setup_stays}
pub use Rattle.driver_laws.proofs.shown.QuietStarting.{submitted_waits}
pub use Rattle.driver_laws.proofs.invariant.Sound.{sound_after}
pub use Rattle.hp_core.proofs.Deeds.{pigeons}
