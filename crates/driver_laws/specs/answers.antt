pub mod Packs
pub mod Outcome
pub mod Counts
pub mod Laws
pub mod Ids
pub mod Waiting
