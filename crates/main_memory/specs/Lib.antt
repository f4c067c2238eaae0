pub mod Blocks
pub mod Bytes
pub mod Frames
pub mod Memory
pub mod Windows
