pub mod Loaded
pub mod State
pub mod Steps
pub use Rattle.drive_model.specs.Move
