pub mod Faults
pub mod Inserts
pub mod Copies
