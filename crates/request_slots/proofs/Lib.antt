pub mod FillLaws
pub mod HolderLaws
pub mod RoomLaws
pub mod SlotLaws
pub mod StepLaws
pub mod StoreLaws
pub mod Leaves
pub use Rattle.mba_adapter.proofs.WorkLaws
