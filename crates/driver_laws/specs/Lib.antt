pub mod rules
pub mod invariant
pub mod answers
pub mod shown
pub use Rattle.request_slots.specs.Requests
