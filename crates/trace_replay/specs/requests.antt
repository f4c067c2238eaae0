pub mod Answers
pub mod Requests
pub mod ServiceOrder
pub use Rattle.partitions.specs.declared.Part
pub use Rattle.partitions.specs.declared.Admission
pub use Rattle.partitions.specs.Partitions
