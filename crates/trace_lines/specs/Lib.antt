pub mod Deeds
pub mod answers
