pub mod Faults
pub mod Formatted
pub mod Steps
pub mod Surveys
pub mod Tasks
pub mod testing
