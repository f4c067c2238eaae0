pub mod Setups
pub mod Stages
pub mod UnitLaws
pub mod RunLaws
pub mod Writings
pub mod TransferLaws
