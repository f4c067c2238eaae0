pub mod Setups
pub mod InvariantKept
