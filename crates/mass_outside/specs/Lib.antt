pub mod Images
pub mod Memory
pub mod Slots
pub mod Sparse
pub mod Streams
pub mod Sure
