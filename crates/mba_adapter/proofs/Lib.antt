pub mod AttentionLaws
pub mod MapLaws
pub mod RoomLaws
pub mod WindowLaws
pub mod WorkLaws
pub use Rattle.drive_model.proofs.FailLaws
