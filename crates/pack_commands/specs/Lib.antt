pub mod Commands
pub mod Words
pub mod Leaves
pub mod Formats
pub mod Tools
