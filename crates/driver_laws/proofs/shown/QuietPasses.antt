-- What is passed on of the crates below, so that those above stand on this one.
pub use Rattle.driver_laws.proofs.answers.Slots.{all_lent_are_needed, free_where_room}
pub use Rattle.driver_laws.proofs.shown.TraceFronts.{event_fronts}
pub use Rattle.driver_laws.proofs.shown.LiveNoises.{acts_keep_noise, none_at_start, strikes_flip}
