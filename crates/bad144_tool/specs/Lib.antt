pub mod Adding
pub mod Changes
pub mod Edit
pub mod Faults
pub mod Marking
pub mod Texts
