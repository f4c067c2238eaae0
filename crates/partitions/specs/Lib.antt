pub mod Partitions
pub mod Passes
