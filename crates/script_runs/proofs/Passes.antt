-- What is passed on of the crates below, so that those above stand on this one.
pub use Rattle.driver_laws.proofs.shown.Asked.{calls_ask, lines_ask_nothing}
pub use Rattle.driver_laws.proofs.shown.Falls.{drains_fall, first_events_fall, scripts_can_start}
pub use Rattle.driver_laws.proofs.shown.TraceFronts.{event_fronts}
