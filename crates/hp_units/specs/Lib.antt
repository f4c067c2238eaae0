pub mod Setups
pub mod Row
pub use Rattle.drive_model.specs.Move
