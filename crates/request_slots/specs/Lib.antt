pub mod Lending
pub mod Requests
pub mod Steps
pub mod Stored
pub mod Queues
pub use Rattle.mba_adapter.specs.Move
pub use Rattle.mba_adapter.specs.Loaded
pub use Rattle.mba_adapter.specs.declared.adapter.Ended
