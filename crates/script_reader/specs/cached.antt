pub mod Kinds
pub mod Scripts
pub mod Formed
pub mod Meaning
