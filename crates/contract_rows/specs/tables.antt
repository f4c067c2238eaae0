pub mod Places
pub mod Registers
