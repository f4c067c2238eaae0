pub mod Faults
pub mod Units
pub mod Transfers
pub mod Endings
