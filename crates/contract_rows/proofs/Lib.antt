pub mod Written
pub mod Bytes
mod OneRead
